-- The search for the first set number that breaks a threshold. No public contract cites this file.
-- Assumes nothing.
use Rattle.std.specs.Prelude.{List, ℕ, Option, Some, None}
use Rattle.scheme.specs.declared.Shape.{Shape}
use Rattle.scheme.specs.Threshold.{IsThreshold, FirstBreaking}

-- The first set number that breaks the threshold t, where one does.
unfoldable pub FirstOrNone : Shape → List ℕ → List ℕ → ℕ → Option ℕ → Type 0
FirstOrNone s labels entries t None = IsThreshold s labels entries t
FirstOrNone s labels entries t (Some set) = FirstBreaking s labels entries t set
