-- What `ask` answers, from what the question of the chosen rows answers; and that it settles the outcome.
-- Assumes nothing.
use Rattle.std.specs.Prelude.{Result, Ok, Err}
use mathlib.Core.Path.{◌≡◌, refl, sym, ap, ap₂, ◌∙◌}
use mathlib.Core.Bool.{Bool, true, false, ◌&&◌, true≢false, false≢true}
use mathlib.Core.List.{List}
use Prim.Native.Nat.{ℕ, ◌<◌, ◌^◌}
use native.Mathlib.Omega.{arith}
use lib.ListN.{length}
use borrow.Author.Tests.{eq-eqb, lt-ltb}
use Rattle.linear.specs.Flat.{place, entry}
use Rattle.linear.proofs.Handed.{handed_settled, opening_opens, witness_closes}
use Rattle.rows.specs.declared.Answer.{Answer}
use Rattle.rows.specs.Answered.{Answered}
use Rattle.linear.specs.Bits.{bit}
use Rattle.sets.proofs.Asked.{set_handed}
use Rattle.scheme.specs.declared.Shape.{Shape}
use Rattle.scheme.specs.declared.Checked.{Checked}
use Rattle.scheme.specs.declared.Refusal.{Refusal}
use Rattle.scheme.specs.Checked.{IsOf}
use Rattle.scheme.specs.declared.Refusal.TheVariants as R
use Rattle.scheme.specs.Open as Set
use Rattle.scheme.specs.Sets.{of_set}
use Rattle.scheme.specs.Tests.{unless}
use Rattle.scheme.specs.Refusal.{refusal_of, set_refusal_lem, ask_refusal_lem, IsScheme}
use Rattle.scheme.proofs.Refusals.{refusal_more, or_else_ok, Valid, valid, of_checked}
use Rattle.ask.specs.declared.Verdict.{Verdict}
use Rattle.ask.specs.declared.Verdict.TheVariants.{Open, Closed}
use Rattle.ask.specs.Says.{AskSays}

-- A call that is not refused is on a valid scheme.
pub ask_valid : (s : Shape) (labels entries : List ℕ) (set m n : ℕ) → ask_refusal_lem s labels entries set m n ≡ Ok tt → Valid s labels entries
ask_valid s labels entries set m n h = valid s labels entries _
    (or_else_ok _ _ (sym (refusal_more s labels entries _ (set_refusal_lem s.n set)) ∙ h)).0

pub says_refused : (s : Shape) (labels entries : List ℕ) (set : ℕ) (r z : List ℕ) (a : Result Verdict Refusal) (k : Refusal)
    → ask_refusal_lem s labels entries set (length r) (length z) ≡ Err k → a ≡ Err k → AskSays s labels entries set r z a r z
unfolding AskSays
says_refused s labels entries set r z a k e h = rw h (e, refl, refl)

-- What the question of the chosen rows of the checked scheme answers.
module _ (s : Shape) (labels entries : List ℕ) (set : ℕ) (r z : List ℕ) (c : Checked) (is : IsOf s labels entries c)
    (h : ask_refusal_lem s labels entries set (length r) (length z) ≡ Ok tt) (chosen : ℕ)
    (bits : (k : ℕ) → k < length c.labels.now → bit chosen k ≡ of_set set c.labels.now k) (a : Answer) (r' z' : List ℕ)
    (an : Answered c.shape.p c.shape.d c.shape.e chosen c.entries.now r z a r' z') where
  handed : (o : Bool) → a.opens ≡ o → Set.Handed s labels entries set r z o r' z'
  handed o q = of_checked (λ s labels entries. Set.Handed s labels entries set r z o r' z') c is
      (set_handed c.shape c.labels.now c.entries.now set r z r' z' a chosen (λ k l. bits k (omega (arith, c.valid.labels_length))) an o q)

  pub says_open : a.opens ≡ true → AskSays s labels entries set r z (Ok Open) r' z'
  unfolding AskSays
  says_open q = (h, handed true q)

  pub says_closed : a.opens ≡ false → AskSays s labels entries set r z (Ok Closed) r' z'
  unfolding AskSays
  says_closed q = (h, handed false q)

-- On a scheme, with a set of its participants and lists of their lengths, the call is not refused.
pub ask_answers : (s : Shape) (labels entries : List ℕ) (set : ℕ) → IsScheme s labels entries → set < 2 ^ s.n
    → ask_refusal_lem s labels entries set s.d s.e ≡ Ok tt
ask_answers s labels entries set h l =
    ap₂ (λ b k. refusal_of s labels entries b k) (ap₂ ◌&&◌ (eq-eqb s.d s.d refl) (eq-eqb s.e s.e refl))
    (ap (λ b. unless b R.Outsider) (lt-ltb set (2 ^ s.n) l)) ∙ h

-- Two outcomes that the contract permits are equal: "One r only meets this", "One z only meets this".
module _ (s : Shape) (labels entries : List ℕ) (set : ℕ) (r z : List ℕ) where
  abbrev E : ℕ → ℕ → ℕ
  E = entry s.e entries

  abbrev chosen : ℕ → Bool
  chosen = of_set set labels

  -- A call that is not refused.
  abbrev Free : Type 0
  Free = ask_refusal_lem s labels entries set (length r) (length z) ≡ Ok tt

  same : Free → (a b : Bool) (r₁ z₁ r₂ z₂ : List ℕ) → Set.Handed s labels entries set r z a r₁ z₁
      → Set.Handed s labels entries set r z b r₂ z₂ → (a ≡ b) × (r₁ ≡ r₂) × (z₁ ≡ z₂)
  same h = let v = ask_valid s labels entries set (length r) (length z) h in
      handed_settled s.p v.prime s.d s.e v.e_low E chosen r z

  pub settled : (a b : Result Verdict Refusal) (r₁ z₁ r₂ z₂ : List ℕ) → AskSays s labels entries set r z a r₁ z₁
      → AskSays s labels entries set r z b r₂ z₂ → (a ≡ b) × (r₁ ≡ r₂) × (z₁ ≡ z₂)
  unfolding AskSays
  settled (Ok Open) (Ok Open) r₁ z₁ r₂ z₂ x y = let w = same x.0 true true r₁ z₁ r₂ z₂ x.1 y.1 in (refl, w.1, w.2)
  settled (Ok Open) (Ok Closed) r₁ z₁ r₂ z₂ x y = absurd (true≢false (same x.0 true false r₁ z₁ r₂ z₂ x.1 y.1).0)
  settled (Ok Open) (Err k) r₁ z₁ r₂ z₂ x y = absurd (cc)
  settled (Ok Closed) (Ok Open) r₁ z₁ r₂ z₂ x y = absurd (false≢true (same x.0 false true r₁ z₁ r₂ z₂ x.1 y.1).0)
  settled (Ok Closed) (Ok Closed) r₁ z₁ r₂ z₂ x y = let w = same x.0 false false r₁ z₁ r₂ z₂ x.1 y.1 in (refl, w.1, w.2)
  settled (Ok Closed) (Err k) r₁ z₁ r₂ z₂ x y = absurd (cc)
  settled (Err j) (Ok Open) r₁ z₁ r₂ z₂ x y = absurd (cc)
  settled (Err j) (Ok Closed) r₁ z₁ r₂ z₂ x y = absurd (cc)
  settled (Err j) (Err k) r₁ z₁ r₂ z₂ x y = (cc, x.1 ∙ sym y.1, x.2 ∙ sym y.2)

  -- The verdict is the document's: open where the target is a combination of the set's rows, closed where it is not.
  pub says_is_open : (r₁ z₁ : List ℕ) → AskSays s labels entries set r z (Ok Open) r₁ z₁ → Set.Open s labels entries set
  unfolding AskSays
  says_is_open r₁ z₁ x = let v = ask_valid s labels entries set (length r) (length z) x.0 in
      opening_opens s.p v.prime s.d s.e v.e_low E chosen (place r₁) x.1.0

  pub says_is_closed : (r₁ z₁ : List ℕ) → AskSays s labels entries set r z (Ok Closed) r₁ z₁ → Set.Closed s labels entries set
  unfolding AskSays
  says_is_closed r₁ z₁ x = let v = ask_valid s labels entries set (length r) (length z) x.0 in
      witness_closes s.p v.prime s.d s.e v.e_low E chosen (place z₁) x.1.0
