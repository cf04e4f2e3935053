-- `tables::turn` meets its contract. The loop's invariant: the first j columns are in their places (`Turning` of proofs/Columns.antt).
-- Assumes nothing.
use Rattle.tables.proofs.Columns.{Turning}
use Rattle.tables.proofs.turn.Given as goal

abbrev pub invariant-loop-j : goal.invariant-loop-j
invariant-loop-j l = Turning l.d l.e l.table l.initial.a l.a l.j
