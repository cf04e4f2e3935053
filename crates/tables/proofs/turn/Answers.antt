-- `tables::turn` meets its contract. The loop's invariant: the first j columns are in their places (`Turning` of proofs/Columns.antt).
-- Assumes nothing.
use Rattle.tables.proofs.Columns.{turning_turn}
use Rattle.tables.proofs.turn.Goals as goal

pub loop-j-preserved : goal.loop-j-preserved
loop-j-preserved c =
    turning_turn _ _ _ _ _ _ _ c.loop-j.invariant c.loop-j-test.true c.column.ensures.same c.column.ensures.here c.column.ensures.before
