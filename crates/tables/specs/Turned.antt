-- What turning a table leaves.
-- Assumes nothing.
use Rattle.std.specs.Prelude.{◌≡◌, List, ℕ, ◌<◌}
use Rattle.linear.specs.Flat.{entry}

-- The e rows of a, of d numbers each, are the columns of a table of d rows of e numbers.
pub record Turned (d e : ℕ) (table a : List ℕ) : Type 0 where
  pub at : (j k : ℕ) → j < e → k < d → entry d a j k ≡ entry e table k j
