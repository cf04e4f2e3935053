-- Bytes of a text.
-- Assumes nothing.
use Rattle.std.specs.Prelude.{cond, List, [], ◌∷◌, ℕ, ◌+◌, eqb}

-- How often a byte stands in a text.
unfoldable pub occurs : ℕ → List ℕ → ℕ
occurs byte [] = 0
occurs byte (b ∷ text) = cond (eqb b byte) 1 0 + occurs byte text
