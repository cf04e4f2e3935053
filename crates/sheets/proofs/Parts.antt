-- A file has one sheet, and its parts, printed one after another until the first empty one, are its sheet.
-- Assumes nothing.
use Rattle.std.specs.Prelude.{Result, Ok, Err}
use mathlib.Core.Path.{◌≡◌, refl, sym, ap, ap₂, ◌∙◌, subst, subst⁻¹}
use mathlib.Core.List.{List, [], ◌++◌, append_assoc, append-nil}
use mathlib.Core.Logic.{⊎_elim}
use Prim.Native.Nat.{ℕ, zero, suc, ◌+◌, ◌*◌, ◌-◌, ◌/◌, ◌^◌, ◌<◌, ◌≤◌, min}
use native.Mathlib.Omega.{arith}
use lib.ListN.{length, take, drop}
use lib.Seq.{take-append_seam}
use lib.Pow.{pow_mono}
use Rattle.algebra.proofs.Cases.{lt_or_ge}
use Rattle.scheme.specs.declared.Shape.{Shape}
use Rattle.scheme.specs.declared.Refusal.{Refusal}
use Rattle.scheme.specs.Numbers.{number_lem}
use Rattle.sheet_lines.specs.Texts.{heading_text, refused_text}
use Rattle.sheet_lines.specs.Lines.{IsLines}
use Rattle.sheet_lines.proofs.Settled.{lines_settled, lines_join, lines_not_empty, heading_not_empty, refused_not_empty}
use Rattle.sheet_lines.proofs.Computed.{lines_of, lines_are}
use Rattle.sheets.specs.Sheet.{file_refusal, shape_of, labels_of, entries_of, SchemeSheet, SheetAt, IsSheet}
use Rattle.sheets.specs.Sheet.{SchemePart, RefusedPart, PartAt, IsPart, together}
use Rattle.sheets.specs.Says.{PrintSays, PartSays}
use Rattle.sheets.proofs.Files.{file_valid}

pub sheet_settled : (file t u : List ℕ) → IsSheet file t → IsSheet file u → t ≡ u
unfolding IsSheet
sheet_settled file t u = go (file_refusal file) refl
  where
    go : (r : Result Unit Refusal) → file_refusal file ≡ r → SheetAt r file t → SheetAt r file u → t ≡ u
    go (Ok o) q x y =
        x.2 ∙ ap (λ l. heading_text (shape_of file) ++ l)
        (lines_settled (shape_of file) (labels_of file) (entries_of file) (file_valid file q) 0 (2 ^ (shape_of file).n) x.0 y.0
        x.1 y.1)
        ∙ sym y.2
    go (Err r) q x y = x ∙ sym y

pub sheet_exists : (file : List ℕ) → (text : List ℕ) × IsSheet file text
unfolding IsSheet
sheet_exists file = go (file_refusal file) refl
  where
    go : (r : Result Unit Refusal) → file_refusal file ≡ r → (text : List ℕ) × SheetAt r file text
    go (Ok o) q =
        let v = file_valid file q in
        let lines = lines_of (shape_of file) (labels_of file) (entries_of file) v 0 (2 ^ (shape_of file).n) in (
          heading_text (shape_of file) ++ lines,
          (lines, lines_are (shape_of file) (labels_of file) (entries_of file) v 0 (2 ^ (shape_of file).n), refl),
        )
    go (Err r) q = (refused_text (number_lem r), refl)

-- The sheet of a refused file is the line of its refusal.
pub starts_with_refused : (file t : List ℕ) → IsSheet file t → (k : Refusal) → file_refusal file ≡ Err k → t ≡ refused_text (number_lem k)
unfolding IsSheet
starts_with_refused file t x k e = subst (λ (r : Result Unit Refusal). SheetAt r file t) e x

module _ (s : Shape) (labels entries : List ℕ) where
  -- Lines up to place a of N, and then m lines, or those that are left, or none.
  lines_more : (a m N : ℕ) (before after : List ℕ) → IsLines s labels entries 0 (min a N) before
      → IsLines s labels entries a (min m (N - a)) after → IsLines s labels entries 0 (min (a + m) N) (before ++ after)
  lines_more a m N before after x y =
      let q : min a N + min m (N - a) ≡ min (a + m) N = omega arith in
      subst (λ (i : ℕ). IsLines s labels entries 0 i (before ++ after)) q
      (lines_join s labels entries 0 (min a N) (min m (N - a)) before after x (⊎_elim past within (lt_or_ge N a)))
    where
      past : N < a → IsLines s labels entries (0 + min a N) (min m (N - a)) after
      past l =
          let q : min m (N - a) ≡ 0 = omega arith in
          subst⁻¹ (λ (i : ℕ). IsLines s labels entries (0 + min a N) i after) q
          (subst (λ (i : ℕ). IsLines s labels entries a i after) q y)

      within : a ≤ N → IsLines s labels entries (0 + min a N) (min m (N - a)) after
      within l =
          let q : 0 + min a N ≡ a = omega arith in
          subst⁻¹ (λ (i : ℕ). IsLines s labels entries i (min m (N - a)) after) q y

  -- The heading and j parts after it.
  scheme_parts : (m : ℕ) (parts : ℕ → List ℕ) (j : ℕ) → ((i : ℕ) → i ≤ j → SchemePart m s labels entries i (parts i))
      → (lines : List ℕ) × IsLines s labels entries 0 (min (m * j) (2 ^ s.n)) lines × (together parts (suc j) ≡ heading_text s ++ lines)
  scheme_parts m parts zero h =
      let q : min (m * 0) (2 ^ s.n) ≡ 0 = omega arith in (
        [],
        subst⁻¹ (λ (i : ℕ). IsLines s labels entries 0 i []) q refl,
        h 0 (omega arith) ∙ sym (append-nil (heading_text s)),
      )
  scheme_parts m parts (suc j) h =
      let w = scheme_parts m parts j (λ i l. h i (omega arith)) in
      let q : m * suc j ≡ m * j + m = omega arith in (
        w.0 ++ parts (suc j),
        subst⁻¹ (λ (i : ℕ). IsLines s labels entries 0 (min i (2 ^ s.n)) (w.0 ++ parts (suc j))) q
            (lines_more (m * j) m (2 ^ s.n) w.0 (parts (suc j)) w.1 (h (suc j) (omega arith))),
        ap (λ l. l ++ parts (suc j)) w.2 ∙ append_assoc (heading_text s) w.0 (parts (suc j)),
      )

  -- An empty part after the heading: no line is left.
  lines_end : (m a N : ℕ) → 0 < m → IsLines s labels entries a (min m (N - a)) [] → N ≤ a
  lines_end m a N l x = ⊎_elim (λ u. absurd (none u)) (λ u. u) (lt_or_ge a N)
    where
      none : a < N → ⊥
      none u = omega (arith, lines_not_empty s labels entries a (min m (N - a)) [] (omega arith) x)

  parts_sheet : (m : ℕ) → 0 < m → (parts : ℕ → List ℕ) (k : ℕ) → ((i : ℕ) → i ≤ k → SchemePart m s labels entries i (parts i))
      → parts k ≡ [] → SchemeSheet s labels entries (together parts k)
  parts_sheet m l parts zero h e = absurd (omega (arith, heading_not_empty s, ap length (h 0 (omega arith)), ap length e))
  parts_sheet m l parts (suc j) h e =
      let w = scheme_parts m parts j (λ i u. h i (omega arith)) in
      let past = lines_end m (m * j) (2 ^ s.n) l
      (subst (λ t. IsLines s labels entries (m * j) (min m (2 ^ s.n - m * j)) t) e (h (suc j) (omega arith))) in
      let q : min (m * j) (2 ^ s.n) ≡ 2 ^ s.n = omega arith in
      (w.0, subst (λ (i : ℕ). IsLines s labels entries 0 i w.0) q w.1, w.2)

-- Of a refused file the parts after the first add nothing to its line.
refused_parts : (r : ℕ) (parts : ℕ → List ℕ) (j : ℕ) → ((i : ℕ) → i ≤ j → RefusedPart r i (parts i))
    → together parts (suc j) ≡ refused_text r
refused_parts r parts zero h = h 0 (omega arith)
refused_parts r parts (suc j) h = ap₂ ◌++◌ (refused_parts r parts j (λ i l. h i (omega arith))) (h (suc j) (omega arith))
    ∙ append-nil (refused_text r)

-- Who prints parts 0, 1, 2, .. until the first empty one has printed the sheet.
module _ (m : ℕ) (l : 0 < m) (file : List ℕ) (parts : ℕ → List ℕ) where
  sheet_at : (r : Result Unit Refusal) (k : ℕ) → ((i : ℕ) → i ≤ k → PartAt r m file i (parts i)) → parts k ≡ [] → SheetAt r file (together parts k)
  sheet_at (Ok o) k h e = parts_sheet (shape_of file) (labels_of file) (entries_of file) m l parts k h e
  sheet_at (Err r) zero h e = absurd (omega (arith, refused_not_empty (number_lem r), ap length (h 0 (omega arith)), ap length e))
  sheet_at (Err r) (suc j) h e = refused_parts (number_lem r) parts j (λ i u. h i (omega arith))

  pub first_parts_make_sheet : (k : ℕ) → ((i : ℕ) → i ≤ k → IsPart m file i (parts i)) → parts k ≡ [] → IsSheet file (together parts k)
  unfolding IsPart IsSheet
  first_parts_make_sheet = sheet_at (file_refusal file)

pub parts_make_sheet : (m : ℕ) → 0 < m → (file : List ℕ) (parts : ℕ → List ℕ) → ((k : ℕ) → IsPart m file k (parts k)) → (k : ℕ)
    → parts k ≡ [] → IsSheet file (together parts k)
parts_make_sheet m l file parts h k = first_parts_make_sheet m l file parts k (λ i u. h i)

-- And an empty part comes: n is at most 16, so no part has a line from set 65,536 on.
pub parts_end : (m : ℕ) (file : List ℕ) (k : ℕ) (text : List ℕ) → 65536 ≤ m * k → IsPart m file (suc k) text → text ≡ []
unfolding IsPart
parts_end m file k text l = go (file_refusal file) refl
  where
    go : (r : Result Unit Refusal) → file_refusal file ≡ r → PartAt r m file (suc k) text → text ≡ []
    go (Ok o) q x =
        let few : 2 ^ (shape_of file).n ≤ 65536 = pow_mono {i = (shape_of file).n} {j = 16} (file_valid file q).n_high in
        let none : min m (2 ^ (shape_of file).n - m * k) ≡ 0 = omega arith in
        subst (λ (i : ℕ). IsLines (shape_of file) (labels_of file) (entries_of file) (m * k) i text) none x
    go (Err r) q x = x

-- Part 65,537 is empty, however few lines a part has.
pub last_part_empty : (m : ℕ) → 0 < m → (file text : List ℕ) → IsPart m file 65537 text → text ≡ []
last_part_empty m l file text = parts_end m file 65536 text (omega arith)

-- What a call says that it wrote is the part.
pub part_taken : (file : List ℕ) (k : ℕ) (out : List ℕ) (size : ℕ) (out' : List ℕ) → PartSays file k out (Ok size) out'
    → IsPart (length out / 256) file k (take size out')
unfolding PrintSays
part_taken file k out size out' x =
    let text = x.1.0 in
    subst (IsPart (length out / 256) file k)
    (sym (ap₂ take x.1.2 x.1.4 ∙ take-append_seam text (drop (length text) out))) x.1.1

-- From the calls to the sheet: who calls `part` for 0, 1, .. with lists of so many places until a call writes nothing, and keeps what each
-- call says that it wrote, one after another, has the sheet.
pub printed_sheet : (file : List ℕ) (places : ℕ) → 256 ≤ places → (out out' : ℕ → List ℕ) (size : ℕ → ℕ) (k : ℕ)
    → ((j : ℕ) → j ≤ k → (length (out j) ≡ places) × PartSays file j (out j) (Ok (size j)) (out' j))
    → size k ≡ 0 → IsSheet file (together (λ j. take (size j) (out' j)) k)
printed_sheet file places l out out' size k calls e =
    first_parts_make_sheet (places / 256) (omega arith) file (λ j. take (size j) (out' j)) k
    (λ j u. subst (λ (n : ℕ). IsPart (n / 256) file j (take (size j) (out' j))) (calls j u).0
    (part_taken file j (out j) (size j) (out' j) (calls j u).1))
    (ap (λ (n : ℕ). take n (out' k)) e)
