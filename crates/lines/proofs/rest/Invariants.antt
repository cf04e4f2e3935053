-- `lines::rest` meets its contract: the loop changes the first e places in their order, those that are pivots to 0.
-- Assumes nothing.
use Rattle.lines.proofs.Laws.{rested}
use Rattle.lists.proofs.Fill.{Filled}
use Rattle.lines.proofs.rest.Given as goal

abbrev pub invariant-loop-i : goal.invariant-loop-i
invariant-loop-i l = Filled 0 l.e (rested l.m.p l.s l.t l.v) l.v l.x l.i
