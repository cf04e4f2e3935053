-- Answers of many sets, kept in places: what a place says. No public contract cites this file.
-- Assumes nothing.
use Rattle.std.specs.Prelude.{◌≡◌, List, ℕ, ◌<◌, ◌≤◌, ◌+◌, length, get_or, take, Option, Some, None}
use Rattle.linear.specs.Flat.{place}
use Rattle.scheme.specs.declared.Shape.{Shape}
use Rattle.scheme.specs.Open as Set
use Rattle.walk.specs.declared.Answer.{Answer}
use Rattle.walk.specs.declared.Answer.TheVariants.{Open, Closed}
use Rattle.walk.specs.Going.{Kills}

-- What the walk answers: r where it stopped at the row `at`, a witness of the table's lines where it went through all d rows.
abbrev pub Told : (p d e at lines : ℕ) → List (List ℕ) → List ℕ → Answer → Type 0
Told p d e at lines t r (Open row) = (at < d) × (row ≡ r)
Told p d e at lines t r (Closed row) = (d ≤ at) × Kills p e lines t row

module _ (s : Shape) (labels entries : List ℕ) where
  -- Open: the first d numbers of the row are the set's r. Closed: its first e numbers are the set's z.
  abbrev pub Says : ℕ → Option Answer → Type 0
  Says set None = Unit
  Says set (Some (Open row)) = (length row ≡ 32) × Set.OpeningVector s labels entries set (place (take s.d row))
  Says set (Some (Closed row)) = (length row ≡ 32) × Set.Witness s labels entries set (place (take s.e row))

  -- Place x is for the set base + x.
  abbrev pub Kept : ℕ → List (Option Answer) → Type 0
  Kept base slots = (length slots ≡ 4096) × ((x : ℕ) → x < 4096 → Says (base + x) (get_or slots x None))
