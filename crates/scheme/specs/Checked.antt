-- A checked scheme is the one that was handed over.
-- Assumes nothing.
use Rattle.std.specs.Prelude.{◌≡◌, List, ℕ}
use Rattle.scheme.specs.declared.Shape.{Shape}
use Rattle.scheme.specs.declared.Checked.{Checked}

abbrev pub IsOf : Shape → List ℕ → List ℕ → Checked → Type 0
IsOf s labels entries c = (c.shape ≡ s) × (c.labels.now ≡ labels) × (c.entries.now ≡ entries)
