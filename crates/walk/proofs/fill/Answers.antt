-- `walk::fill` meets its contract. The loop keeps `Walked` of the set before (specs/Going.antt) and `Kept` (specs/Answers.antt).
-- Assumes nothing.
use Rattle.std.proofs.Common.{◌≡◌, ℕ, ◌-◌, ◌++◌, drop, take, arith, refl, replicate, length, subst, ◌∙◌}
use Rattle.linear.specs.Flat.{entry, place}
use Rattle.linear.specs.Bits.{bit}
use Rattle.rows.proofs.Lists.{none_rows}
use Rattle.rows.proofs.Verdict.{unmet_start}
use Rattle.walk.specs.Going.{Walked}
use Rattle.walk.specs.Answers.{Told}
use Rattle.walk.proofs.Kept.{kept_turn, walked_back, walked_lows}
use Rattle.walk.proofs.Marks.{part_length, part_whole, marks_start}
use Rattle.walk.proofs.fill.Goals as goal

pub go_on-row-requires-clause-marks : goal.go_on-row-requires-clause-marks
go_on-row-requires-clause-marks c =
    let a = c.args.scheme in
    let p = c.new-f.result.m.p in
    let e = a.shape.e in
    marks_start p (e - 1) (entry e a.entries.now) (bit 0) (replicate 33 0) (replicate 12 (replicate 27 0)) refl refl
    (unmet_start p e (e - 1) a.shape.d a.entries.now (bit 0) (omega arith) (replicate 12 (replicate 27 0)) refl
    (λ lp j i. rw (none_rows 12 j i) (omega arith)))

pub answer_of-requires-clause-lows : goal.answer_of-requires-clause-lows
answer_of-requires-clause-lows c =
    let a = c.args.scheme in
    let g = c.step-row in
    walked_lows c.new-f.result.m.p a.shape.d a.shape.e (entry a.shape.e a.entries.now) (bit c.chosen_rows-chosen.result) g.result g.new.counts g.new.t g.ensures

pub loop-i-preserved : goal.loop-i-preserved
loop-i-preserved c =
    let a = c.args.scheme in
    let s = a.shape in
    let v = a.valid in
    let l = c.loop-i in
    let g = c.step-row in
    let x = c.turned-x in
    let rows = c.chosen_rows-chosen in
    let t = g.new.t in
    let counts = g.new.counts in
    let z = g.new.r in
    let rest = drop s.d l.r in
    let n : length z ≡ s.d = g.auto.r ∙ part_length s.d l.r l.invariant.0 v.d_high in
    let whole = part_whole s.d l.r z l.invariant.0 v.d_high n in
    let w = walked_back c.new-f.result.m.p s.d s.e (entry s.e a.entries.now) (bit rows.result) g.result counts t z rest n g.ensures in (
      whole,
      w,
      kept_turn s a.labels.now a.entries.now c.args.base x.result rows.result g.result counts t (z ++ rest) c.answer_of.result l.slots
          v.labels_length rows.ensures.bits whole
          (subst (λ (p : ℕ). Walked p s.d s.e (entry s.e a.entries.now) (bit rows.result) g.result counts t (take s.d (z ++ rest))) c.new-f.ensures.0 w)
          (subst (λ (p : ℕ). Told p s.d s.e g.result (place counts s.d) t (z ++ rest) c.answer_of.result) c.new-f.ensures.0 c.answer_of.ensures)
          (omega (arith, x.ensures, c.requires.count_bound.1)) l.invariant.2,
    )
