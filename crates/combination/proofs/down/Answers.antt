-- `combination::down` meets its contract. The loop's invariant is the contract for the vectors from k on (`down_turn` of linear's
-- proofs/Dual.antt is its turn); k falls to 0. Assumes nothing.
use Rattle.std.proofs.Common.{arith}
use Rattle.combination.proofs.Steps.{downed_start, downed_turn}
use Rattle.combination.proofs.down.Goals as goal

pub loop-k-init : goal.loop-k-init
loop-k-init c = downed_start _ _ _ _ _ _ _ c.requires.n_in_bounds.2

pub loop-k-preserved : goal.loop-k-preserved
loop-k-preserved c =
    downed_turn _ _ _ _ _ _ _ _ _ _ _ _ c.requires.duals_of c.requires.n_in_bounds.3 (omega arith) c.loop-k.invariant c.cancel-f.ensures
