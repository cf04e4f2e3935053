-- Document 01, "Open or closed": for a scheme and a set, by the definitions of linear/specs/Rows for the set's rows.
-- Assumes nothing.
use Rattle.std.specs.Prelude.{Bool, List, ℕ}
use Rattle.linear.specs.Flat.{entry}
use Rattle.linear.specs.Rows as Rows
use Rattle.scheme.specs.declared.Shape.{Shape}
use Rattle.scheme.specs.Sets.{of_set}

module _ (s : Shape) (labels entries : List ℕ) (set : ℕ) where
  -- "A set is open when the target is a combination of its rows, and closed otherwise".
  abbrev pub Open : Type 0
  Open = Rows.Open s.p s.d s.e (entry s.e entries) (of_set set labels)

  abbrev pub Closed : Type 0
  Closed = Rows.Closed s.p s.d s.e (entry s.e entries) (of_set set labels)

  -- "Open: the vector r, of length d."
  abbrev pub OpeningVector : (ℕ → ℕ) → Type 0
  OpeningVector r = Rows.OpeningVector s.p s.d s.e (entry s.e entries) (of_set set labels) r

  -- "Closed: the witness z, of length e."
  abbrev pub Witness : (ℕ → ℕ) → Type 0
  Witness z = Rows.Witness s.p s.d s.e (entry s.e entries) (of_set set labels) z

  -- r' and the old z for an open set, z' and the old r for a closed one.
  abbrev pub Handed : List ℕ → List ℕ → Bool → List ℕ → List ℕ → Type 0
  Handed r z opens r' z' = Rows.Handed s.p s.d s.e (entry s.e entries) (of_set set labels) r z opens r' z'
