-- The contract of `deal` settles what it answers and what it leaves in the lent list: any two outcomes that it permits are equal.
-- Assumes nothing.
use mathlib.Core.Path.{◌≡◌, sym, ◌∙◌}
use mathlib.Core.List.{List}
use Prim.Native.Nat.{ℕ}
use Rattle.scheme.specs.declared.Shape.{Shape}
use Rattle.scheme.specs.declared.Refusal.{Refusal}
use Rattle.std.specs.Prelude.{Result}
use Rattle.deal.specs.Says.{DealSays}

pub settled : (s : Shape) (labels entries : List ℕ) (secret : ℕ) (randoms shares : List ℕ) (a a' : Result Unit Refusal) (left left' : List ℕ)
    → DealSays s labels entries secret randoms shares a left → DealSays s labels entries secret randoms shares a' left'
    → (a ≡ a') × (left ≡ left')
settled s labels entries secret randoms shares a a' left left' x y = (x.answer ∙ sym y.answer, x.left ∙ sym y.left)
