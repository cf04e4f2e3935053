-- `backward::opening` meets its contract: with each turn one line more is solved (`Openings` of proofs/Turns.antt).
-- Assumes nothing.
use Rattle.std.proofs.Common.{length}
use Rattle.backward.proofs.Turns.{Openings}
use Rattle.backward.proofs.opening.Given as goal

abbrev pub invariant-loop-j : goal.invariant-loop-j
invariant-loop-j l = Openings l.m.p l.k l.s l.t l.v (length l.initial.r) l.j l.a l.r
