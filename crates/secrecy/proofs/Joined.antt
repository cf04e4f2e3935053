-- Across the calls: the cards of a dealing join to its secret where the set is open; and joining looks at no share outside the set's rows.
-- Assumes nothing.
use Rattle.std.specs.Prelude.{Result, Ok, Err}
use mathlib.Core.Path.{◌≡◌, refl, sym, ap, ap₂, ◌∙◌, subst}
use mathlib.Core.Bool.{Bool, true, false, not, ◌&&◌, ◌||◌}
use mathlib.Core.List.{List, [], ◌∷◌}
use mathlib.Core.Logic.{inl, inr}
use Prim.Native.Nat.{ℕ, zero, suc, ◌<◌, ◌-◌, ◌%◌}
use native.Mathlib.Omega.{arith}
use lib.Dec.{eqb, ltb}
use lib.ListN.{length, get_or}
use Rattle.linear.specs.Flat.{place, entry}
use Rattle.linear.specs.Rows as Rows
use Rattle.scheme.specs.declared.Shape.{Shape}
use Rattle.scheme.specs.declared.Refusal.{Refusal}
use Rattle.scheme.specs.declared.Refusal.TheVariants as R
use Rattle.scheme.specs.Dealing.{shares_of, Fits, joined}
use Rattle.scheme.specs.Open as Set
use Rattle.scheme.specs.Refusal.{refusal_of, set_refusal_lem, read_below_lem, join_refusal_lem, IsScheme}
use Rattle.scheme.specs.Sets.{in_set, of_set}
use Rattle.scheme.specs.Tests.{unless, or_else}
use Rattle.scheme.proofs.Refusals.{Valid, valid}
use Rattle.join.specs.Says.{JoinSays}
use Rattle.secrecy.specs.Pairing.{RandomList}
use Rattle.secrecy.specs.Shown.{SameCards}
use Rattle.secrecy.proofs.Handed.{opening_gives_back, share_at, columns}
use Rattle.secrecy.proofs.Recover.{joined_same}

-- What is read is the same where the set's cards are.
read_same : (p set : ℕ) (labels x y : List ℕ) → length x ≡ length y
    → ((k : ℕ) → k < length labels → in_set set (get_or labels k 0) ≡ true → get_or x k 0 ≡ get_or y k 0)
    → read_below_lem p set labels x ≡ read_below_lem p set labels y
unfolding read_below_lem
read_same p set [] x y n h = refl
read_same p set (l ∷ labels) [] [] n h = refl
read_same p set (l ∷ labels) [] (b ∷ y) n h = absurd (omega arith)
read_same p set (l ∷ labels) (a ∷ x) [] n h = absurd (omega arith)
read_same p set (l ∷ labels) (a ∷ x) (b ∷ y) n h = ap₂ ◌&&◌ (first (in_set set l) refl)
    (read_same p set labels x y (omega arith) (λ k lk q. h (suc k) (omega arith) q))
  where
    first : (c : Bool) → in_set set l ≡ c → (not (in_set set l) || ltb a p) ≡ (not (in_set set l) || ltb b p)
    first true q = ap (λ (w : ℕ). not (in_set set l) || ltb w p) (h zero (omega arith) q)
    first false q = ap (λ c. not c || ltb a p) q ∙ sym (ap (λ c. not c || ltb b p) q)

module _ (s : Shape) (labels entries : List ℕ) (set : ℕ) (h : IsScheme s labels entries) where
  sound : Valid s labels entries
  sound = valid s labels entries true h

  refusal_same : (x y : List ℕ) → length x ≡ length y → SameCards s labels entries set x y
      → join_refusal_lem s labels entries set x ≡ join_refusal_lem s labels entries set y
  refusal_same x y n c = ap₂ (λ (m : ℕ) b. refusal_of s labels entries (eqb m s.d) (or_else (set_refusal_lem s.n set) (unless b R.NotBelowP))) n
      (read_same s.p set labels x y n (λ k l q. c k (omega (arith, sound.labels_length)) q))

  fits_same : (x y : List ℕ) → SameCards s labels entries set x y → Fits s labels entries set x → Fits s labels entries set y
  fits_same x y c f = (f.0, λ k l q. f.1 k l q ∙ c k l q)

  back : (x y : List ℕ) → SameCards s labels entries set x y → SameCards s labels entries set y x
  back x y c k l q = sym (c k l q)

  code_same : (x y : List ℕ) (r : ℕ → ℕ) → SameCards s labels entries set x y → Set.OpeningVector s labels entries set r
      → joined s x r ≡ joined s y r
  code_same x y r c o = ap (λ (w : ℕ). w % s.p)
      (joined_same s.p sound.prime s.d (s.e - 1) (entry s.e entries) (of_set set labels) r (place x) (place y)
      (subst (λ (e : ℕ). Rows.OpeningVector s.p s.d e (entry s.e entries) (of_set set labels) r)
      (columns s labels entries set sound) o) c)

  -- "places outside the set's rows are not read": two lists with the same cards have the same answers.
  pub join_reads_cards : (x y : List ℕ) (a : Result ℕ Refusal) → length x ≡ length y → SameCards s labels entries set x y
      → JoinSays s labels entries set x a → JoinSays s labels entries set y a
  unfolding JoinSays
  join_reads_cards x y (Ok c) n m w =
      (sym (refusal_same x y n m) ∙ w.0, fits_same x y m w.1, (w.2.0, w.2.1, w.2.2 ∙ code_same x y w.2.0 m w.2.1))
  join_reads_cards x y (Err k) n m (inl w) = inl (sym (refusal_same x y n m) ∙ w)
  join_reads_cards x y (Err k) n m (inr (inl w)) = inr (inl (sym (refusal_same x y n m) ∙ w.0, w.1, w.2))
  join_reads_cards x y (Err k) n m (inr (inr w)) =
      inr (inr (sym (refusal_same x y n m) ∙ w.0, w.1, w.2, λ f. w.3 (fits_same y x (back x y m) f)))

  -- A dealing's cards fit.
  dealing_fits : (secret : ℕ) (xs x : List ℕ) → SameCards s labels entries set x (shares_of s entries secret xs)
      → Fits s labels entries set x
  dealing_fits secret xs x c = (place (secret ∷ xs), λ k l q. sym (share_at s labels entries set secret xs k l) ∙ sym (c k l q))

  -- Joining the cards of a dealing gives its secret: the call, not refused by 1 to 9, answers nothing else for an open set.
  pub dealing_joins : (secret : ℕ) (xs x : List ℕ) (a : Result ℕ Refusal) → secret < s.p → RandomList s.p s.e xs
      → SameCards s labels entries set x (shares_of s entries secret xs) → Set.Open s labels entries set
      → join_refusal_lem s labels entries set x ≡ Ok tt → JoinSays s labels entries set x a → a ≡ Ok secret
  unfolding JoinSays
  dealing_joins secret xs x (Ok c) l rx m o z w = ap Ok
      (w.2.2 ∙ (opening_gives_back s labels entries set sound w.2.0 w.2.1).back secret xs x l rx m)
  dealing_joins secret xs x (Err k) l rx m o z (inl w) = absurd (cc)
  dealing_joins secret xs x (Err k) l rx m o z (inr (inl w)) = absurd (w.2 o)
  dealing_joins secret xs x (Err k) l rx m o z (inr (inr w)) = absurd (w.3 (dealing_fits secret xs x m))
