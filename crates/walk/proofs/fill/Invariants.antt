-- `walk::fill` meets its contract. The loop keeps `Walked` of the set before (specs/Going.antt) and `Kept` (specs/Answers.antt).
-- Assumes nothing.
use Rattle.std.proofs.Common.{◌≡◌, length, take}
use Rattle.linear.specs.Flat.{entry}
use Rattle.linear.specs.Bits.{bit}
use Rattle.walk.specs.Answers.{Kept}
use Rattle.walk.specs.Going.{Walked}
use Rattle.walk.proofs.fill.Given as goal

abbrev pub invariant-loop-i : goal.invariant-loop-i
invariant-loop-i l =
    let a = l.scheme in
    let s = a.shape in
    (length l.r ≡ 32) × Walked l.f.m.p s.d s.e (entry s.e a.entries.now) (bit l.last) l.row l.counts l.t (take s.d l.r)
    × Kept s a.labels.now a.entries.now l.base l.slots
