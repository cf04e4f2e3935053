-- Demand 3 about what the set question hands out. `shown`: on each scheme and each set of its participants the call hands out the vector
-- that gives the code back from every dealing, or the witness that pairs all random lists for one code with all for another, one to one,
-- with the same cards in each pair. `only_one`: no set has both. `no_row`: a set without rows is closed with the target as witness.
-- Assumes nothing.
use Rattle.std.specs.Prelude.{Result, Ok, Err}
use mathlib.Core.Path.{◌≡◌, refl, sym, ap, ap₂, ◌∙◌, subst}
use mathlib.Core.Bool.{Bool, false}
use mathlib.Core.List.{List, ◌∷◌}
use mathlib.Core.Logic.{◌⊎◌, inl, inr}
use Prim.Native.Nat.{ℕ, suc, ◌^◌, ◌<◌, ◌-◌, ◌*◌, ◌%◌}
use native.Mathlib.Nat.{zero-div}
use native.Mathlib.Omega.{arith}
use lib.Dec.{eqb}
use lib.ListN.{length}
use lib.Seq.{ext_get_or}
use Rattle.linear.specs.Combination.{total}
use Rattle.linear.specs.Flat.{place, entry, list_of}
use Rattle.linear.specs.Rows as Rows
use Rattle.linear.specs.Rows.{target}
use Rattle.linear.proofs.Flat.{list_at, list_length}
use Rattle.linear.proofs.Rows.{witness_closed, witness_unique, none_chosen}
use Rattle.scheme.specs.declared.Shape.{Shape}
use Rattle.scheme.specs.declared.Refusal.{Refusal}
use Rattle.scheme.specs.Dealing.{share_of, shares_of, joined}
use Rattle.scheme.specs.Open as Set
use Rattle.scheme.specs.Refusal.{ask_refusal_lem, IsScheme}
use Rattle.scheme.specs.Sets.{of_set}
use Rattle.scheme.proofs.Refusals.{Valid}
use Rattle.ask.specs.declared.Verdict.{Verdict}
use Rattle.ask.specs.declared.Verdict.TheVariants.{Open, Closed}
use Rattle.ask.specs.Says.{AskSays}
use Rattle.ask.proofs.Says.{ask_valid, ask_answers, says_is_open}
use Rattle.secrecy.specs.Pairing.{RandomList, partner}
use Rattle.secrecy.specs.Shown.{GivesBack, Pairs}
use Rattle.secrecy.proofs.Recover.{code_back}
use Rattle.secrecy.proofs.Pairing.{partner_random, partner_back, same_shares}

module _ (s : Shape) (labels entries : List ℕ) (set : ℕ) where
  abbrev E : ℕ → ℕ → ℕ
  E = entry s.e entries

  abbrev chosen : ℕ → Bool
  chosen = of_set set labels

  pub columns : Valid s labels entries → s.e ≡ suc (s.e - 1)
  columns v = omega (arith, v.e_low)

  pub share_at : (secret : ℕ) (xs : List ℕ) (k : ℕ) → k < s.d
      → place (shares_of s entries secret xs) k ≡ share_of s entries (place (secret ∷ xs)) k
  unfolding shares_of
  share_at secret xs k l = list_at s.d (share_of s entries (place (secret ∷ xs))) k l

  -- The vector of an open set gives the code back.
  pub opening_gives_back : Valid s labels entries → (r : ℕ → ℕ) → Set.OpeningVector s labels entries set r
      → GivesBack s labels entries set r
  opening_gives_back v r o = record {
    back = λ secret xs shares l w same.
        code_back s.p v.prime s.d (s.e - 1) E chosen r (place (secret ∷ xs)) (place shares)
        (subst (λ (e : ℕ). Rows.OpeningVector s.p s.d e E chosen r) (columns v) o)
        (λ k lk q. sym (ap (λ (e : ℕ). total e (λ j. E k j * place (secret ∷ xs) j) % s.p) (columns v)) ∙ sym (share_at secret xs k lk)
        ∙ sym (same k lk q)) l;
  }

  -- The witness of a closed set pairs the random lists.
  pub witness_pairs : Valid s labels entries → (z : ℕ → ℕ) → Set.Witness s labels entries set z → Pairs s labels entries set z
  witness_pairs v z c = record {
    random = λ first second lf ls xs w. partner_random s.p v.prime s.e z first second xs w;
    inverse = λ first second lf ls xs w. partner_back s.p v.prime s.e z first second xs lf ls w;
    cards = λ first second lf ls xs w k l q.
        let ys : List ℕ = partner s.p z first second xs in
        share_at second ys k l
        ∙ ap (λ (e : ℕ). total e (λ j. E k j * place (second ∷ ys) j) % s.p) (columns v)
        ∙ same_shares s.p v.prime s.d (s.e - 1) E chosen z
        (subst (λ (e : ℕ). Rows.Witness s.p s.d e E chosen z) (columns v) c) first second xs lf ls
        (subst (λ (e : ℕ). RandomList s.p e xs) (columns v) w) k l q
        ∙ sym (ap (λ (e : ℕ). total e (λ j. E k j * place (first ∷ xs) j) % s.p) (columns v)) ∙ sym (share_at first xs k l);
  }

  -- A list of e - 1 zeros is a random list.
  zeros_random : Valid s labels entries → RandomList s.p s.e (list_of (s.e - 1) (λ j. 0))
  zeros_random v = record {
    len = ap suc (list_length (s.e - 1) (λ j. 0)) ∙ sym (columns v);
    below = λ j l. let n = list_length (s.e - 1) (λ j. 0) in rw (list_at (s.e - 1) (λ j. 0) j (omega arith)) (omega (arith, v.p_low));
  }

  -- No set has both: cards that fit code 0 and code 1 alike give neither back.
  pub not_both : Valid s labels entries → (r z : ℕ → ℕ) → GivesBack s labels entries set r → Pairs s labels entries set z → ⊥
  not_both v r z g w =
      let xs : List ℕ = list_of (s.e - 1) (λ j. 0) in
      let one : 1 < s.p = v.p_low in
      let none : 0 < s.p = omega (arith, v.p_low) in
      let rx = zeros_random v in
      let ys : List ℕ = partner s.p z 0 1 xs in
      let a : joined s (shares_of s entries 1 ys) r ≡ 1 = g.back 1 ys (shares_of s entries 1 ys) one (w.random 0 1 none one xs rx)
      (λ k l q. refl) in
      let b : joined s (shares_of s entries 1 ys) r ≡ 0 = g.back 0 xs (shares_of s entries 1 ys) none rx (w.cards 0 1 none one xs rx) in
      omega arith

  -- A set that owns no row is closed.
  pub no_row_closed : Valid s labels entries → ((k : ℕ) → k < s.d → of_set set labels k ≡ false) → Set.Closed s labels entries set
  no_row_closed v none = subst (λ (e : ℕ). Rows.Closed s.p s.d e E chosen) (sym (columns v))
      (witness_closed s.p v.prime s.d (s.e - 1) E chosen target
      (none_chosen s.p v.prime s.d (s.e - 1) E chosen none).0)

-- Demand 3: for each scheme and each set of its participants the set question is not refused and hands out exactly one of the two, the
-- vector that gives the code back or the witness that pairs the random lists.
module _ (s : Shape) (labels entries : List ℕ) (set : ℕ) (h : IsScheme s labels entries) (l : set < 2 ^ s.n) (r z : List ℕ)
    (nr : length r ≡ s.d) (nz : length z ≡ s.e) where
  not_refused : ask_refusal_lem s labels entries set (length r) (length z) ≡ Ok tt
  not_refused = ap₂ (λ m n. ask_refusal_lem s labels entries set m n) nr nz ∙ ask_answers s labels entries set h l

  sound : Valid s labels entries
  sound = ask_valid s labels entries set (length r) (length z) not_refused

  -- What the call hands out.
  abbrev pub Shown : Result Verdict Refusal → List ℕ → List ℕ → Type 0
  Shown a r' z' = ((a ≡ Ok Open) × GivesBack s labels entries set (place r')) ⊎ ((a ≡ Ok Closed) × Pairs s labels entries set (place z'))

  pub shown : (a : Result Verdict Refusal) (r' z' : List ℕ) → AskSays s labels entries set r z a r' z' → Shown a r' z'
  unfolding AskSays
  shown (Ok Open) r' z' x = inl (refl, opening_gives_back s labels entries set sound (place r') x.1.0)
  shown (Ok Closed) r' z' x = inr (refl, witness_pairs s labels entries set sound (place z') x.1.0)
  shown (Err k) r' z' x = absurd (cc not_refused)

  pub only_one : (v w : ℕ → ℕ) → GivesBack s labels entries set v → Pairs s labels entries set w → ⊥
  only_one = not_both s labels entries set sound

  -- "The empty set, and a set that owns no row, are closed with z = the target."
  pub no_row : ((k : ℕ) → k < s.d → of_set set labels k ≡ false) → (a : Result Verdict Refusal) (r' z' : List ℕ) → AskSays s labels entries set r z a r' z'
      → (a ≡ Ok Closed) × (z' ≡ list_of s.e target)
  unfolding AskSays
  no_row none (Ok Open) r' z' x = absurd (no_row_closed s labels entries set sound none (says_is_open s labels entries set r z r' z' x))
  no_row none (Ok Closed) r' z' x = (
    refl,
    ext_get_or 0 z' (list_of s.e target) (x.1.1 ∙ sym (list_length s.e target)) (λ j lj.
        witness_unique s.p sound.prime s.d (s.e - 1) (E s labels entries set) (chosen s labels entries set) (place z') target
        (subst (λ (e : ℕ). Rows.Witness s.p s.d e (E s labels entries set) (chosen s labels entries set) (place z'))
        (columns s labels entries set sound) x.1.0)
        (none_chosen s.p sound.prime s.d (s.e - 1) (E s labels entries set) (chosen s labels entries set) none).0 j
        (omega (arith, x.1.1, columns s labels entries set sound))
        ∙ sym (list_at s.e target j (omega (arith, x.1.1)))),
  )
  no_row none (Err k) r' z' x = absurd (cc not_refused)

-- The empty set names nobody, so it owns no row.
pub empty_set : (labels : List ℕ) (k : ℕ) → of_set 0 labels k ≡ false
empty_set labels k = ap (λ (x : ℕ). eqb (x % 2) 1) (zero-div (2 ^ (place labels k - 1)))
