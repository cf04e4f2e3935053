-- All rows of a table: what the one question for its columns says, and what it says for its rows.
-- Assumes nothing.
use mathlib.Core.Path.{◌≡◌, refl, ap, subst, ◌∙◌}
use mathlib.Core.Bool.{Bool}
use mathlib.Core.List.{List, ◌∷◌}
use mathlib.Core.Logic.{⊎_elim}
use Prim.Native.Nat.{ℕ, zero, suc, ◌+◌, ◌-◌, ◌*◌, ◌%◌, ◌<◌, ◌≤◌}
use native.Mathlib.Nat.{not-suc-le-zero}
use native.Mathlib.Omega.{arith}
use Rattle.residue.specs.Prime.{Prime}
use Rattle.linear.specs.Flat.{place, entry}
use Rattle.linear.specs.Question.{Coefficients, NoCombination}
use Rattle.linear.specs.Rows.{columns_of, Open}
use Rattle.linear.specs.Product.{every}
use Rattle.linear.proofs.Numbers.{never_both, coefficients_same, none_same}
use Rattle.linear.proofs.Rows.{minus_first, coefficients_witness, witness_coefficients, opening_open, open_or_closed}
use Rattle.tables.specs.Turned.{Turned}
use Rattle.tables.specs.Steps.{Negated, OthersGive, Closing}

-- The columns, the first of them negated, are those of the question whose answer is the witness. f is their number after the first.
module _ (p d f : ℕ) (table turned columns : List ℕ) (t : Turned d (suc f) table turned) (n : Negated p d turned columns) where
  abbrev E : ℕ → ℕ → ℕ
  E = entry (suc f) table

  column_at : (j k : ℕ) → j < f → k < d → entry d columns (suc j) k ≡ columns_of E every j k
  column_at j k lj lk = n.after (suc j * d + k) (omega arith) ∙ t.at (suc j) k (omega arith) lk

  first_at : (k : ℕ) → k < d → place columns k ≡ minus_first p E every k
  first_at k l = let e : k ≡ 0 * d + k = omega arith in
      n.at k l ∙ ap (λ (x : ℕ). p - x % p) (ap (place turned) e ∙ t.at 0 k (omega arith) l)

  one_less : suc f - 1 ≡ f
  one_less = omega arith

  column_coefficients : (c : ℕ → ℕ) → Coefficients p d (λ j. entry d columns (suc j)) (suc f - 1) (place columns) c
      → Coefficients p d (columns_of E every) f (minus_first p E every) c
  column_coefficients c o = coefficients_same p d f (λ j. entry d columns (suc j)) (columns_of E every) column_at (place columns)
      (minus_first p E every) c c first_at (λ k l. refl)
      (subst (λ (m : ℕ). Coefficients p d (λ j. entry d columns (suc j)) m (place columns) c) one_less o)

  column_none : NoCombination p d (λ j. entry d columns (suc j)) (suc f - 1) (place columns)
      → NoCombination p d (columns_of E every) f (minus_first p E every)
  column_none o = none_same p d f (λ j. entry d columns (suc j)) (columns_of E every) column_at (place columns) (minus_first p E every)
      first_at (subst (λ (m : ℕ). NoCombination p d (λ j. entry d columns (suc j)) m (place columns)) one_less o)

  -- Rows without a witness are open.
  unwitnessed : Prime p → NoCombination p d (columns_of E every) f (minus_first p E every) → Open p d (suc f) E every
  unwitnessed H o = ⊎_elim
      (λ r. opening_open p H d f E every r.0 r.1)
      (λ z. absurd (never_both p H d (columns_of E every) f (minus_first p E every) (λ j. z.0 (suc j))
      (witness_coefficients p H d f E every z.0 z.1) o))
      (open_or_closed p H d f E every)

pub closing : (p : ℕ) → Prime p → (d e : ℕ) → 1 ≤ e → (table turned columns : List ℕ) (r : Bool) (c : List ℕ) → Turned d e table turned
    → Negated p d turned columns → OthersGive p d e columns r c → Closing p d e table r c
closing p H d zero l table turned columns r c t n o = absurd (not-suc-le-zero l)
closing p H d (suc f) l table turned columns r c t n o = record {
  yes = λ q. coefficients_witness p H d f (entry (suc f) table) every (place (1 ∷ c)) refl
      (column_coefficients p d f table turned columns t n (place c) (o.yes q));
  no = λ q. unwitnessed p d f table turned columns t n H (column_none p d f table turned columns t n (o.no q));
}
