-- Document 01, "The sheet": the sheet of a file, and its parts.
-- Assumes nothing.
use Rattle.std.specs.Prelude.{◌≡◌, List, [], ◌++◌, ℕ, zero, suc, Result, Ok, Err, ◌*◌, ◌-◌, ◌^◌, min}
use Rattle.scheme.specs.declared.Shape.{Shape}
use Rattle.scheme.specs.declared.Refusal.{Refusal}
use Rattle.scheme.specs.Numbers.{number_lem}
use Rattle.format.specs.Reading.{shape_at, labels_at, entries_at, read_refusal1}
use Rattle.sheet_lines.specs.Texts.{heading_text, refused_text}
use Rattle.sheet_lines.specs.Lines.{IsLines}

-- Why a file is refused. The lists that it is read into have their lengths.
abbrev pub file_refusal : List ℕ → Result Unit Refusal
file_refusal file = read_refusal1 file 32 384

-- The scheme that the file says: its numbers, labels and entries.
abbrev pub shape_of : List ℕ → Shape
shape_of file = shape_at 1 file

abbrev pub labels_of : List ℕ → List ℕ
labels_of file = labels_at 1 file (shape_of file).d

abbrev pub entries_of : List ℕ → List ℕ
entries_of file = entries_at 1 file (shape_of file).d (shape_of file).e

-- The heading, "then a line for each set number from 0".
abbrev pub SchemeSheet : Shape → List ℕ → List ℕ → List ℕ → Type 0
SchemeSheet s labels entries text =
    (lines : List ℕ) × IsLines s labels entries 0 (2 ^ s.n) lines × (text ≡ heading_text s ++ lines)

-- "A refused file gives only a line that begins with the word REFUSED".
abbrev pub SheetAt : Result Unit Refusal → List ℕ → List ℕ → Type 0
SheetAt (Ok u) file text = SchemeSheet (shape_of file) (labels_of file) (entries_of file) text
SheetAt (Err k) file text = text ≡ refused_text (number_lem k)

-- The sheet of a file.
unfoldable pub IsSheet : List ℕ → List ℕ → Type 0
IsSheet file text = SheetAt (file_refusal file) file text

-- The sheet in parts. Part 0 is the heading; each later part has m lines, or those that are left, or none.
abbrev pub SchemePart : ℕ → Shape → List ℕ → List ℕ → ℕ → List ℕ → Type 0
SchemePart m s labels entries zero text = text ≡ heading_text s
SchemePart m s labels entries (suc k) text = IsLines s labels entries (m * k) (min m (2 ^ s.n - m * k)) text

-- Of a refused file part 0 is its line, and later parts are empty.
abbrev pub RefusedPart : ℕ → ℕ → List ℕ → Type 0
RefusedPart r zero text = text ≡ refused_text r
RefusedPart r (suc k) text = text ≡ []

abbrev pub PartAt : Result Unit Refusal → ℕ → List ℕ → ℕ → List ℕ → Type 0
PartAt (Ok u) m file k text = SchemePart m (shape_of file) (labels_of file) (entries_of file) k text
PartAt (Err r) m file k text = RefusedPart (number_lem r) k text

unfoldable pub IsPart : ℕ → List ℕ → ℕ → List ℕ → Type 0
IsPart m file k text = PartAt (file_refusal file) m file k text

-- The first k parts, one after another.
abbrev pub together : (ℕ → List ℕ) → ℕ → List ℕ
together parts zero = []
together parts (suc k) = together parts k ++ parts k
