-- A file that is not refused says a scheme; the sheet of a scheme is the sheet of the file that it is written as.
-- Assumes nothing.
use Rattle.std.specs.Prelude.{Result, Ok}
use mathlib.Core.Path.{◌≡◌, subst⁻¹}
use mathlib.Core.Bool.{◌||◌, true}
use mathlib.Core.List.{List}
use Prim.Native.Nat.{ℕ}
use lib.Dec.{eqb}
use lib.ListN.{length}
use Rattle.scheme.specs.declared.Shape.{Shape}
use Rattle.scheme.specs.declared.Refusal.{Refusal}
use Rattle.scheme.specs.Refusal.{check_refusal, IsScheme}
use Rattle.scheme.proofs.Refusals.{Valid, valid}
use Rattle.format.specs.Format.{file_of}
use Rattle.format.specs.Reading.{labels_at, entries_at}
use Rattle.format.proofs.Again.{read, says_scheme}
use Rattle.format.proofs.ReadBack.{read_back}
use Rattle.sheets.specs.Sheet.{file_refusal, shape_of, labels_of, entries_of, SchemeSheet, SheetAt, IsSheet}

pub file_scheme : (file : List ℕ) → file_refusal file ≡ Ok tt → check_refusal (shape_of file) (labels_of file) (entries_of file) ≡ Ok tt
file_scheme file h = says_scheme 1 file (eqb (length file) 1024 || eqb (length file) 1536)
    (read 1 file (eqb (length file) 1024 || eqb (length file) 1536) 32 384 h)

pub file_valid : (file : List ℕ) → file_refusal file ≡ Ok tt → Valid (shape_of file) (labels_of file) (entries_of file)
file_valid file h = valid (shape_of file) (labels_of file) (entries_of file) true (file_scheme file h)

pub written_sheet : (s : Shape) (labels entries text : List ℕ) → IsScheme s labels entries → SchemeSheet s labels entries text
    → IsSheet (file_of 1 s labels entries) text
unfolding IsSheet
written_sheet s labels entries text h x =
    let file = file_of 1 s labels entries in
    let b = read_back s labels entries h in
    subst⁻¹ (λ (r : Result Unit Refusal). SheetAt r file text) b.0
    (subst⁻¹ (λ (u : Shape). SchemeSheet u (labels_at 1 file u.d) (entries_at 1 file u.d u.e) text) b.1
    (subst⁻¹ (λ l. SchemeSheet s l (entries_at 1 file s.d s.e) text) b.2
    (subst⁻¹ (λ m. SchemeSheet s labels m text) b.3 x)))
