-- What reading answers and leaves, for every input.
-- Assumes nothing.
use Rattle.std.specs.Prelude.{◌≡◌, List, ℕ, length, Result, Ok, Err}
use Rattle.scheme.specs.declared.Shape.{Shape}
use Rattle.scheme.specs.declared.Refusal.{Refusal}
use Rattle.scheme.specs.Outcome.{over}
use Rattle.format.specs.Reading.{shape_at, labels_at, entries_at, read_refusal1}

-- labels and entries are the lent lists before the call, labels' and entries' after it. A file that is not refused: it "writes the first d
-- and d times e, leaves the other places unchanged and returns n, d, e and p". One that is refused: both lists as they were.
unfoldable pub ReadSays : List ℕ → List ℕ → List ℕ → Result Shape Refusal → List ℕ → List ℕ → Type 0
ReadSays file labels entries (Ok s) labels' entries' =
    (read_refusal1 file (length labels) (length entries) ≡ Ok tt)
    × (s ≡ shape_at 1 file)
    × (labels' ≡ over (labels_at 1 file s.d) labels)
    × (entries' ≡ over (entries_at 1 file s.d s.e) entries)
ReadSays file labels entries (Err k) labels' entries' =
    (read_refusal1 file (length labels) (length entries) ≡ Err k) × (labels' ≡ labels) × (entries' ≡ entries)
