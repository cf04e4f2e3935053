-- `combination::up` meets its contract. The loop's invariant is the contract for the first k vectors (`up_turn` of linear's
-- proofs/Dual.antt is its turn). Assumes nothing.
use Rattle.combination.proofs.Steps.{raised_turn}
use Rattle.combination.proofs.up.Goals as goal

pub loop-k-preserved : goal.loop-k-preserved
loop-k-preserved c =
    raised_turn _ _ _ _ _ _ _ _ _ _ c.requires.duals_of c.loop-k-test.true c.loop-k.invariant c.cancel.ensures
