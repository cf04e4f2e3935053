-- What is handed out settles the question: with at least one column, two answers that `Handed` permits are equal, in the verdict and in both
-- lists; the verdict is the definition's; and only what is read counts.
-- Assumes nothing.
use mathlib.Core.Path.{◌≡◌, refl, sym, ◌∙◌}
use mathlib.Core.Bool.{Bool, true, false}
use mathlib.Core.List.{List}
use Prim.Native.Nat.{ℕ, zero, suc, ◌<◌, ◌≤◌}
use native.Mathlib.Omega.{arith}
use lib.Seq.{ext_get_or}
use Rattle.residue.specs.Prime.{Prime}
use Rattle.linear.specs.Flat.{place}
use Rattle.linear.specs.Rows.{Open, Closed, OpeningVector, Witness, Handed}
use Rattle.linear.proofs.Rows.{open_not_closed, opening_open, witness_closed, opening_unique, witness_unique, opening_same, witness_same}

pub opening_opens : (p : ℕ) → Prime p → (d e : ℕ) → 1 ≤ e → (E : ℕ → ℕ → ℕ) (chosen : ℕ → Bool) (r : ℕ → ℕ)
    → OpeningVector p d e E chosen r → Open p d e E chosen
opening_opens p H d zero l = absurd (omega arith)
opening_opens p H d (suc f) l = opening_open p H d f

pub witness_closes : (p : ℕ) → Prime p → (d e : ℕ) → 1 ≤ e → (E : ℕ → ℕ → ℕ) (chosen : ℕ → Bool) (z : ℕ → ℕ) → Witness p d e E chosen z
    → Closed p d e E chosen
witness_closes p H d zero l = absurd (omega arith)
witness_closes p H d (suc f) l = witness_closed p H d f

pub handed_settled : (p : ℕ) → Prime p → (d e : ℕ) → 1 ≤ e → (E : ℕ → ℕ → ℕ) (chosen : ℕ → Bool) (r z : List ℕ) (a b : Bool)
    (r₁ z₁ r₂ z₂ : List ℕ) → Handed p d e E chosen r z a r₁ z₁ → Handed p d e E chosen r z b r₂ z₂ → (a ≡ b) × (r₁ ≡ r₂) × (z₁ ≡ z₂)
handed_settled p H d zero l E chosen r z a b r₁ z₁ r₂ z₂ x y = absurd (omega arith)
handed_settled p H d (suc f) l E chosen r z true true r₁ z₁ r₂ z₂ x y = (
  refl,
  ext_get_or 0 r₁ r₂ (x.1 ∙ sym y.1)
      (λ k lk. opening_unique p H d f E chosen (place r₁) (place r₂) x.0 y.0 k (omega (arith, x.1))),
  x.2 ∙ sym y.2,
)
handed_settled p H d (suc f) l E chosen r z true false r₁ z₁ r₂ z₂ x y = absurd
    (open_not_closed p H d f E chosen (place r₁) (place z₂) x.0 y.0)
handed_settled p H d (suc f) l E chosen r z false true r₁ z₁ r₂ z₂ x y = absurd
    (open_not_closed p H d f E chosen (place r₂) (place z₁) y.0 x.0)
handed_settled p H d (suc f) l E chosen r z false false r₁ z₁ r₂ z₂ x y = (
  refl,
  x.2 ∙ sym y.2,
  ext_get_or 0 z₁ z₂ (x.1 ∙ sym y.1)
      (λ k lk. witness_unique p H d f E chosen (place z₁) (place z₂) x.0 y.0 k (omega (arith, x.1))),
)

-- The marks of the chosen rows count only below d, the entries only inside the table.
pub handed_same : (p d e : ℕ) (E F : ℕ → ℕ → ℕ) (b c : ℕ → Bool) → ((k j : ℕ) → k < d → j < e → E k j ≡ F k j)
    → ((k : ℕ) → k < d → b k ≡ c k) → (r z : List ℕ) (o : Bool) (r' z' : List ℕ)
    → Handed p d e E b r z o r' z' → Handed p d e F c r z o r' z'
handed_same p d e E F b c entries marks r z true r' z' h = (opening_same p d e E F b c entries marks (place r') h.0, h.1, h.2)
handed_same p d e E F b c entries marks r z false r' z' h = (witness_same p d e E F b c entries marks (place z') h.0, h.1, h.2)
