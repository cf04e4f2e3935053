-- `backward::killing` meets its contract: with each turn one line more is killed (`Killings` of proofs/Turns.antt).
-- Assumes nothing.
use Rattle.std.proofs.Common.{◌-◌}
use Rattle.backward.proofs.Turns.{Killings}
use Rattle.backward.proofs.killing.Given as goal

abbrev pub invariant-loop-j : goal.invariant-loop-j
invariant-loop-j l = Killings l.m.p l.s l.t (l.e - 1) l.j l.y
