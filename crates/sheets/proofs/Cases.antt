-- The definitions tried: document 01's sheet of rule `1&2`, p = 17, n = 2, byte by byte, and the line of a refusal.
-- Assumes nothing.
use mathlib.Core.Path.{◌≡◌, refl, sym, ap₂}
use mathlib.Core.Bool.{true}
use mathlib.Core.List.{List, [], ◌∷◌, ◌++◌}
use Prim.Native.Nat.{ℕ}
use Rattle.scheme.specs.declared.Shape.{Shape}
use Rattle.scheme.specs.Refusal.{IsScheme, refusal_of, numbers_refusal_lem, content_refusal_lem}
use Rattle.scheme.proofs.Refusals.{Valid, valid}
use Rattle.format.specs.Format.{file_of}
use Rattle.digits.specs.Digits.{decimal, digits_in, whole_text}
use Rattle.sheet_lines.specs.Texts.{heading_text, set_text, vector_text, refused_text}
use Rattle.sheet_lines.proofs.Computed.{lines_of, lines_are}
use Rattle.sheets.specs.Sheet.{IsSheet}
use Rattle.sheets.proofs.Files.{written_sheet}
use Rattle.sheets.proofs.Parts.{sheet_settled}

-- Rule `1&2`: rows (0, 1) and (1, 16).
abbrev pub shape : Shape
shape = record { p = 17; n = 2; d = 2; e = 2 }

abbrev pub labels : List ℕ
labels = 1 ∷ 2 ∷ []

abbrev pub entries : List ℕ
entries = 0 ∷ 1 ∷ 1 ∷ 16 ∷ []

scheme : IsScheme shape labels entries
unfolding refusal_of numbers_refusal_lem content_refusal_lem Rattle.residue.specs.Moduli.is_in
scheme = refl

given : Valid shape labels entries
given = valid shape labels entries true scheme

-- `SCHEME 17 2 2 2`, `0 CLOSED 1 0`, `1 CLOSED 1 0`, `2 CLOSED 1 1`, `3 OPEN 1 1`
abbrev pub heading : List ℕ
heading = 83 ∷ 67 ∷ 72 ∷ 69 ∷ 77 ∷ 69 ∷ 32 ∷ 49 ∷ 55 ∷ 32 ∷ 50 ∷ 32 ∷ 50 ∷ 32 ∷ 50 ∷ 10 ∷ []

abbrev pub lines : List ℕ
lines =
    (48 ∷ 32 ∷ 67 ∷ 76 ∷ 79 ∷ 83 ∷ 69 ∷ 68 ∷ 32 ∷ 49 ∷ 32 ∷ 48 ∷ 10 ∷ [])
    ++ (49 ∷ 32 ∷ 67 ∷ 76 ∷ 79 ∷ 83 ∷ 69 ∷ 68 ∷ 32 ∷ 49 ∷ 32 ∷ 48 ∷ 10 ∷ [])
    ++ (50 ∷ 32 ∷ 67 ∷ 76 ∷ 79 ∷ 83 ∷ 69 ∷ 68 ∷ 32 ∷ 49 ∷ 32 ∷ 49 ∷ 10 ∷ [])
    ++ (51 ∷ 32 ∷ 79 ∷ 80 ∷ 69 ∷ 78 ∷ 32 ∷ 49 ∷ 32 ∷ 49 ∷ 10 ∷ [])

heading_is : heading_text shape ≡ heading
unfolding heading_text decimal digits_in
heading_is = refl

lines_computed : lines_of shape labels entries given 0 4 ≡ lines
unfolding set_text vector_text decimal digits_in whole_text
lines_computed = refl

pub the_sheet : IsSheet (file_of 1 shape labels entries) (heading ++ lines)
the_sheet = written_sheet shape labels entries (heading ++ lines) scheme (
  lines_of shape labels entries given 0 4,
  lines_are shape labels entries given 0 4,
  ap₂ ◌++◌ (sym heading_is) (sym lines_computed),
)

-- And that file has no other.
pub only_sheet : (text : List ℕ) → IsSheet (file_of 1 shape labels entries) text → text ≡ heading ++ lines
only_sheet text h = sheet_settled (file_of 1 shape labels entries) text (heading ++ lines) h the_sheet

-- Example B "on the sheet": `21 OPEN 4 0 3 0 -6`
marked_line : set_text 17 21 true (4 ∷ 0 ∷ 3 ∷ 0 ∷ 11 ∷ []) ≡
    50 ∷ 49 ∷ 32 ∷ 79 ∷ 80 ∷ 69 ∷ 78 ∷ 32 ∷ 52 ∷ 32 ∷ 48 ∷ 32 ∷ 51 ∷ 32 ∷ 48 ∷ 32 ∷ 45 ∷ 54 ∷ 10 ∷ []
unfolding set_text vector_text decimal digits_in whole_text
marked_line = refl

-- `REFUSED 17`
refused_is : refused_text 17 ≡ 82 ∷ 69 ∷ 70 ∷ 85 ∷ 83 ∷ 69 ∷ 68 ∷ 32 ∷ 49 ∷ 55 ∷ 10 ∷ []
unfolding refused_text decimal digits_in
refused_is = refl
