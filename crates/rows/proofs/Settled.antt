-- Two outcomes that the contract of `ask` permits are equal: the answer and both lists.
-- Assumes nothing.
use mathlib.Core.Path.{◌≡◌, ap, ◌∙◌}
use mathlib.Core.Bool.{Bool}
use mathlib.Core.List.{List}
use Prim.Native.Nat.{ℕ, suc}
use native.Mathlib.Omega.{arith}
use Rattle.residue.specs.Prime.{Prime}
use Rattle.linear.specs.Bits.{bit}
use Rattle.linear.specs.Flat.{entry}
use Rattle.linear.proofs.Handed.{handed_settled}
use Rattle.linear.proofs.Rows.{rank_unique}
use Rattle.rows.specs.declared.Answer.{Answer}
use Rattle.rows.specs.Answered.{Answered}

module _ (p d f chosen : ℕ) (entries r z : List ℕ) (H : Prime p) where
  -- The answer is its two parts.
  answer : Bool → ℕ → Answer
  answer o s = record { opens = o; rank = s }

  pub settled : (a b : Answer) (r₁ z₁ r₂ z₂ : List ℕ) → Answered p d (suc f) chosen entries r z a r₁ z₁
      → Answered p d (suc f) chosen entries r z b r₂ z₂ → (a ≡ b) × (r₁ ≡ r₂) × (z₁ ≡ z₂)
  unfolding answer
  settled a b r₁ z₁ r₂ z₂ x y =
      let l = handed_settled p H d (suc f) (omega arith) (entry (suc f) entries) (bit chosen) r z a.opens b.opens r₁ z₁ r₂ z₂
      x.handed y.handed in (
        ap (λ o. answer o a.rank) l.0
            ∙ ap (answer b.opens)
            (rank_unique p H d f (entry (suc f) entries) (bit chosen) a.rank b.rank x.rank y.rank),
        l.1,
        l.2,
      )
