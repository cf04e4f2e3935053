-- What was read of a file, and its first places taken, is the scheme that the file says: the parts of its sheet are those of the file's.
-- Assumes nothing.
use Rattle.std.specs.Prelude.{Result, Ok, Err}
use mathlib.Core.Path.{◌≡◌, sym, ap, ap₂, ◌∙◌, subst, subst⁻¹}
use mathlib.Core.Bool.{true}
use mathlib.Core.List.{List}
use Prim.Native.Nat.{ℕ, ◌*◌, ◌≤◌}
use lib.ListN.{length, take}
use Rattle.linear.proofs.Flat.{list_length}
use Rattle.scheme.specs.declared.Shape.{Shape}
use Rattle.scheme.specs.declared.Refusal.{Refusal}
use Rattle.scheme.specs.Numbers.{number_lem}
use Rattle.scheme.specs.Refusal.{check_refusal}
use Rattle.scheme.proofs.Refusals.{valid, parts, rows_few}
use Rattle.scheme.proofs.Over.{take_over}
use Rattle.format.specs.Reading.{read_refusal1, labels_at, entries_at}
use Rattle.reading.specs.Says.{ReadSays}
use Rattle.sheets.specs.Sheet.{file_refusal, shape_of, labels_of, entries_of, SchemePart, RefusedPart, PartAt, IsPart}
use Rattle.sheets.proofs.Files.{file_scheme}

-- The first places are not more than there are.
pub taken_small : (s : Shape) (labels entries : List ℕ) → check_refusal s (take s.d labels) (take (s.d * s.e) entries) ≡ Ok tt
    → (s.d ≤ 32) × (s.d * s.e ≤ 384)
taken_small s labels entries h = (
  (valid s (take s.d labels) (take (s.d * s.e) entries) true h).d_high,
  rows_few s (parts s (take s.d labels) (take (s.d * s.e) entries) true (Ok tt) h).first,
)

-- labels and entries are the places that the file is read into, labels' and entries' after it.
module _ (file labels entries : List ℕ) (a : Result Shape Refusal) (labels' entries' : List ℕ) (ll : length labels ≡ 32) (le : length entries ≡ 384)
    (x : ReadSays file labels entries a labels' entries') where
  places : read_refusal1 file (length labels) (length entries) ≡ file_refusal file
  places = ap₂ (λ (i j : ℕ). read_refusal1 file i j) ll le

  -- A refused file.
  module _ (bad : Refusal) (q : a ≡ Err bad) where
    pub refused_part_lem : (n : ℕ) → n ≡ number_lem bad → (m k : ℕ) (text : List ℕ) → RefusedPart n k text → IsPart m file k text
    unfolding ReadSays IsPart
    refused_part_lem n e m k text t =
        let y = subst (λ b. ReadSays file labels entries b labels' entries') q x in
        subst⁻¹ (λ (i : Result Unit Refusal). PartAt i m file k text) (sym places ∙ y.0) (subst (λ (n : ℕ). RefusedPart n k text) e t)

  -- A file that is not refused.
  module _ (s : Shape) (q : a ≡ Ok s) where
    free : file_refusal file ≡ Ok tt
    unfolding ReadSays
    free = sym places ∙ (subst (λ b. ReadSays file labels entries b labels' entries') q x).0

    same : ◌≡◌ {A = Shape × List ℕ × List ℕ} (s, take s.d labels', take (s.d * s.e) entries')
        (shape_of file, labels_of file, entries_of file)
    unfolding ReadSays
    same =
        let y = subst (λ b. ReadSays file labels entries b labels' entries') q x in
        let its_labels : take s.d labels' ≡ labels_at 1 file s.d =
        ap (take s.d) y.2 ∙ take_over s.d (labels_at 1 file s.d) labels (list_length s.d _) in
        let its_entries : take (s.d * s.e) entries' ≡ entries_at 1 file s.d s.e =
        ap (take (s.d * s.e)) y.3 ∙ take_over (s.d * s.e) (entries_at 1 file s.d s.e) entries (list_length (s.d * s.e) _) in
        ap₂ (λ l e. (s, l, e)) its_labels its_entries
        ∙ ap (λ (u : Shape). (u, labels_at 1 file u.d, entries_at 1 file u.d u.e)) y.1

    pub read_scheme : check_refusal s (take s.d labels') (take (s.d * s.e) entries') ≡ Ok tt
    read_scheme = subst⁻¹ (λ (t : Shape × List ℕ × List ℕ). check_refusal t.0 t.1 t.2 ≡ Ok tt) same (file_scheme file free)

    pub read_part_lem : (m k : ℕ) (text : List ℕ) → SchemePart m s (take s.d labels') (take (s.d * s.e) entries') k text
        → IsPart m file k text
    unfolding IsPart
    read_part_lem m k text t =
        subst⁻¹ (λ (i : Result Unit Refusal). PartAt i m file k text) free
        (subst (λ (u : Shape × List ℕ × List ℕ). SchemePart m u.0 u.1 u.2 k text) same t)
