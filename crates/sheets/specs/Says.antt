-- What the calls that print answer and leave, for every input.
-- Assumes nothing.
use Rattle.std.specs.Prelude.{◌≡◌, List, ℕ, ◌≤◌, ◌/◌, eqb, leb, length, Result, Ok, Err}
use Rattle.scheme.specs.declared.Shape.{Shape}
use Rattle.scheme.specs.declared.Refusal.{Refusal}
use Rattle.scheme.specs.declared.Refusal.TheVariants as R
use Rattle.scheme.specs.Tests.{unless}
use Rattle.scheme.specs.Refusal.{refusal_of, set_refusal_lem}
use Rattle.scheme.specs.Outcome.{over}
use Rattle.sheet_lines.specs.Texts.{refused_text}
use Rattle.sheet_lines.specs.Lines.{IsLine}
use Rattle.sheets.specs.Sheet.{IsPart}

-- A call that prints a text that `Is` holds of over the first places of a lent list: out before the call, out' after it. It answers how many
-- bytes the text has, no more than there are places; the places after them stay. Refused: the list stays.
unfoldable pub PrintSays : Result Unit Refusal → (List ℕ → Type 0) → List ℕ → Result ℕ Refusal → List ℕ → Type 0
PrintSays refusal Is out (Ok m) out' =
    (refusal ≡ Ok tt) × ((text : List ℕ) × Is text × (m ≡ length text) × (m ≤ length out) × (out' ≡ over text out))
PrintSays refusal Is out (Err k) out' = (refusal ≡ Err k) × (out' ≡ out)

-- The line of a set: 256 places for it.
abbrev pub line_refusal_lem : Shape → List ℕ → List ℕ → ℕ → ℕ → Result Unit Refusal
line_refusal_lem s labels entries set places = refusal_of s labels entries (eqb places 256) (set_refusal_lem s.n set)

abbrev pub LineSays : Shape → List ℕ → List ℕ → ℕ → List ℕ → Result ℕ Refusal → List ℕ → Type 0
LineSays s labels entries set out = PrintSays (line_refusal_lem s labels entries set (length out)) (IsLine s labels entries set) out

-- The line of a refusal: 256 places for it.
abbrev pub RefusedSays : ℕ → List ℕ → Result ℕ Refusal → List ℕ → Type 0
RefusedSays k out = PrintSays (unless (eqb (length out) 256) R.Length) (λ text. text ≡ refused_text k) out

-- A part of the sheet of a file: at least 256 places, and a line for each 256 of them.
abbrev pub PartSays : List ℕ → ℕ → List ℕ → Result ℕ Refusal → List ℕ → Type 0
PartSays file k out = PrintSays (unless (leb 256 (length out)) R.Length) (IsPart (length out / 256) file k) out
