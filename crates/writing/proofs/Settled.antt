-- The contract of `write` settles what it answers and what it leaves in the lent list: any two outcomes that it permits are equal.
-- Assumes nothing.
use Rattle.std.specs.Prelude.{Result}
use mathlib.Core.Path.{◌≡◌, sym, ◌∙◌}
use mathlib.Core.List.{List}
use Prim.Native.Nat.{ℕ}
use Rattle.scheme.specs.declared.Shape.{Shape}
use Rattle.scheme.specs.declared.Refusal.{Refusal}
use Rattle.writing.specs.Says.{WriteSays}

pub settled : (s : Shape) (labels entries file : List ℕ) (a a' : Result Unit Refusal) (left left' : List ℕ)
    → WriteSays s labels entries file a left → WriteSays s labels entries file a' left' → (a ≡ a') × (left ≡ left')
settled s labels entries file a a' left left' x y = (x.answer ∙ sym y.answer, x.left ∙ sym y.left)
