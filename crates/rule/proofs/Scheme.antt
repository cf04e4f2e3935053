-- What `build` writes is the scheme of the text's rule.
-- Assumes nothing.
use Rattle.std.specs.Prelude.{Ok}
use mathlib.Core.Path.{◌≡◌, refl, sym, ap, ap₂, ◌∙◌}
use mathlib.Core.Bool.{true}
use mathlib.Core.List.{List, []}
use mathlib.Core.Logic.{inl, inr}
use Prim.Native.Nat.{ℕ, ◌+◌, ◌*◌, ◌/◌, ◌%◌, ◌<◌, ◌≤◌}
use native.Mathlib.Nat.{mul-le-mul, div-add-mod', div-lt_iff_lt-mul, mod-lt}
use native.Mathlib.Omega.{arith}
use lib.Dec.{leb}
use lib.ListN.{length, get_or}
use lib.Seq.{get_or-take}
use borrow.Author.Tests.{leb-true}
use Rattle.lists.proofs.Fill.{Filled, filled_front}
use Rattle.linear.specs.Flat.{place}
use Rattle.scheme.specs.declared.Refusal.TheVariants as R
use Rattle.scheme.specs.Tests.{each}
use Rattle.scheme.specs.Outcome.{over}
use Rattle.scheme.proofs.Outcomes.{not_both}
use Rattle.scheme.proofs.Over.{over_is}
use Rattle.scheme.proofs.Refusals.{or_else_ok, unless_ok}
use Rattle.rules.specs.Tree.{Rule, rule_names}
use Rattle.rules.specs.Text.{IsRule}
use Rattle.rules.specs.Construction.{columns, rows, labels_of, entries_of}
use Rattle.rules.proofs.Counting.{labels_are, rows_count, rows_below, entries_length, entries_at}
use Rattle.rules.proofs.Numbers.{row_entry}
use Rattle.reader.specs.Refusal.{rule_refusal, TextRefusal}
use Rattle.std.specs.Prelude.{Option, Some, IsSome}
use Rattle.builder.specs.declared.Place.{Place}
use Rattle.builder.specs.Left.{Held, Left}
use Rattle.rule.specs.Says.{shape_of}
use Rattle.rule.specs.Copied.{Copied, Written}

-- A text of which nothing is refused is a rule.
rule_of : (n : ℕ) (t : List ℕ) → TextRefusal n t (Ok tt) → (r : Rule) × IsRule t r × (rule_refusal n r ≡ Ok tt)
rule_of n t (inl a) = absurd (not_both R.NoRule refl a.0)
rule_of n t (inr a) = a

-- What holds of a rule of which nothing is refused.
pub record Fits (n : ℕ) (r : Rule) : Type 0 where
  pub named : each (λ i. leb i n) (rule_names r) ≡ true
  pub few_rows : length (rule_names r) ≤ 32
  pub few_columns : columns r ≤ 12

pub rule_fits : (n : ℕ) (r : Rule) → rule_refusal n r ≡ Ok tt → Fits n r
rule_fits n r h =
    let a = or_else_ok _ _ h in
    let b = or_else_ok _ _ a.1 in
    record {
      named = unless_ok _ _ a.0;
      few_rows = leb-true _ _ (unless_ok _ _ b.0);
      few_columns = leb-true _ _ (unless_ok _ _ b.1);
    }

-- Place i of a table of d rows of e numbers: its row and its column.
record RowPlace (d e i : ℕ) : Type 0 where
  row : i / e < d
  column : i % e < e
  sum : i / e * e + i % e ≡ i

row_place : (d e i : ℕ) → 0 < e → i < d * e → RowPlace d e i
row_place d e i h l = record {
  row = (div-lt_iff_lt-mul {k = e} {x = i} {y = d} h).1 l;
  column = mod-lt i h;
  sum = div-add-mod' i e;
}

-- The entry at a place of the rule's entries, row by row.
entry_place : (p : ℕ) (r : Rule) (i : ℕ) → i < length (rule_names r) * columns r
    → get_or (entries_of (rows p r)) i 0 ≡ row_entry (rows p r) (i / columns r) (i % columns r)
entry_place p r i l =
    let q = row_place (length (rule_names r)) (columns r) i (omega arith) l in
    ap (λ (m : ℕ). get_or (entries_of (rows p r)) m 0) (sym q.sum)
    ∙ entries_at p r (i / columns r) (i % columns r) (omega (arith, rows_count p r, q.row)) q.column

pub entries_size : (p : ℕ) (r : Rule) → length (entries_of (rows p r)) ≡ length (rule_names r) * columns r
entries_size p r = entries_length p r ∙ ap (λ (d : ℕ). d * columns r) (rows_count p r)

-- Each entry is below p.
pub entries_below : (p : ℕ) (r : Rule) → 1 < p → (i : ℕ) → i < length (rule_names r) * columns r → get_or (entries_of (rows p r)) i 0 < p
entries_below p r l i li =
    let q = row_place (length (rule_names r)) (columns r) i (omega arith) li in
    let b = rows_below p r l (i / columns r) (i % columns r) (omega (arith, rows_count p r, q.row)) in
    omega (arith, entry_place p r i li)

-- The rows and labels that the builder has left, copied.
module _ (p : ℕ) (r : Rule) (made : Place) (es : List (List ℕ)) (ls : List ℕ) (held : Held p r made es ls) where
  labels_written : (labels labels' : List ℕ) → length (rule_names r) ≤ length labels
      → Filled 0 made.row (place ls) labels labels' made.row → labels' ≡ over (labels_of (rows p r)) labels
  labels_written labels labels' l f =
      let size = ap length (labels_are p r) in
      let d = held.row in
      over_is (labels_of (rows p r)) labels labels' f.size (omega arith)
      (λ i li. filled_front made.row (place ls) labels labels' made.row f i (omega arith) ∙ held.labels i (omega arith))
      (λ i li. f.after i (omega arith))

  entries_written : (entries entries' : List ℕ) → length (rule_names r) * columns r ≤ length entries
      → Copied (length (rule_names r)) (columns r) es entries entries' → entries' ≡ over (entries_of (rows p r)) entries
  entries_written entries entries' l h =
      let size = entries_size p r in
      over_is (entries_of (rows p r)) entries entries' h.size (omega arith)
      (λ i li. at_row i (omega arith)) (λ i li. h.after i (omega arith))
    where
      at_row : (i : ℕ) → i < length (rule_names r) * columns r → get_or entries' i 0 ≡ get_or (entries_of (rows p r)) i 0
      at_row i l =
          let q = row_place (length (rule_names r)) (columns r) i (omega arith) l in
          let k = i / columns r in
          let j = i % columns r in
          ap (λ (m : ℕ). get_or entries' m 0) (sym q.sum) ∙ h.done k j q.row q.column
          ∙ sym (get_or-take (columns r) (get_or es k []) j 0 q.column) ∙ ap (λ x. get_or x j 0) (held.entries k q.row)
          ∙ sym (entry_place p r i l)

module _ (p n : ℕ) (t : List ℕ) (es : List (List ℕ)) (ls : List ℕ) (result : Option Place) (es' : List (List ℕ)) (ls' : List ℕ)
    (h : TextRefusal n t (Ok tt)) (m : Left p t es ls result es' ls') (a : 32 ≤ length es) (b : 32 ≤ length ls) where
  abbrev r : Rule
  r = (rule_of n t h).0

  small : Fits n r
  small = rule_fits n r (rule_of n t h).2

  built : (place : Place) × (result ≡ Some place) × Held p r place es' ls'
  built = m.is r (rule_of n t h).1 small.few_rows small.few_columns a b

  pub made_some : IsSome result
  made_some = rw built.1

  -- The place that is left.
  module _ (made : Place) (e : result ≡ Some made) where
    held : Held p r made es' ls'
    held = let f : built.0 ≡ made = cc (built.1) in rw f at built.2

    pub made_small : (made.row ≤ 32) × (made.col ≤ 12) × (made.row * made.col ≤ 384)
    made_small =
        let d : made.row ≤ 32 = omega (arith, held.row, small.few_rows) in
        let e : made.col ≤ 12 = omega (arith, held.col, small.few_columns) in
        (d, e, mul-le-mul {n₁ = made.row} {m₁ = made.col} {n₂ = 32} {m₂ = 12} d e)

    shape_is : record { p = p; n = n; d = made.row; e = made.col } ≡ shape_of p n r
    shape_is = ap₂ (λ (d e : ℕ). record { p = p; n = n; d = d; e = e }) held.row held.col

    pub written : (labels labels' entries entries' : List ℕ) → length labels ≡ 32 → length entries ≡ 384
        → Filled 0 made.row (place ls') labels labels' made.row → Copied made.row made.col es' entries entries'
        → Written p n t labels entries (record { p = p; n = n; d = made.row; e = made.col }) labels' entries'
    written labels labels' entries entries' l k f c =
        let c' : Copied (length (rule_names r)) (columns r) es' entries entries' = rw (held.row, held.col) at c in
        let area = mul-le-mul {n₁ = length (rule_names r)} {m₁ = columns r} {n₂ = 32} {m₂ = 12} small.few_rows small.few_columns in (
          r,
          (rule_of n t h).1,
          (rule_of n t h).2,
          shape_is,
          labels_written p r made es' ls' held labels labels' (omega (arith, small.few_rows)) f,
          entries_written p r made es' ls' held entries entries' (omega arith) c',
        )
