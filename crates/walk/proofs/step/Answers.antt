-- `walk::step` meets its contract: the rows that are alike stay gone through.
-- Assumes nothing.
use Rattle.std.proofs.Common.{◌-◌}
use Rattle.linear.specs.Flat.{entry}
use Rattle.linear.specs.Bits.{bit}
use Rattle.walk.proofs.Marks.{marks_agree, walked_again}
use Rattle.walk.proofs.step.Goals as goal

pub returns-then-row-k : goal.returns-then-row-k
returns-then-row-k c =
    let a = c.args in
    let k = c.alike-k in
    walked_again a.f.m.p a.d a.e (entry a.e a.entries.now) (bit a.last) (bit a.chosen) a.row k.result a.counts.now a.t.now a.r.now c.if-row-k.true
    k.ensures.1 c.requires.walked

pub go_on-requires-clause-marks : goal.go_on-requires-clause-marks
go_on-requires-clause-marks c =
    let a = c.args in
    let k = c.alike-k in
    marks_agree a.f.m.p (a.e - 1) (entry a.e a.entries.now) (bit a.last) (bit a.chosen) a.row k.result a.counts.now a.t.now k.ensures.1
    c.if-row-k.false c.requires.walked.marks
