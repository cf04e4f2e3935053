-- The contract of `check` settles its answer: any two that it permits are equal.
-- Assumes nothing.
use Rattle.std.proofs.Common.{◌≡◌, sym, ◌∙◌, List, ℕ}
use Rattle.std.specs.Prelude.{Result}
use Rattle.scheme.specs.declared.Shape.{Shape}
use Rattle.scheme.specs.declared.Refusal.{Refusal}
use Rattle.scheme.specs.Refusal.{check_refusal}

pub settled : (s : Shape) (labels entries : List ℕ) (r r' : Result Unit Refusal) → r ≡ check_refusal s labels entries
    → r' ≡ check_refusal s labels entries → r ≡ r'
settled s labels entries r r' x y = x ∙ sym y
