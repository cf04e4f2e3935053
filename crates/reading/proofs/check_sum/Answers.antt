-- `reading::check_sum` meets its contract. The loop's invariant: the first o bytes are added up, at most 129540 each.
-- Assumes nothing.
use native.Mathlib.Omega.{arith}
use Rattle.reading.proofs.Sums.{sum_go, sum_end}
use Rattle.reading.proofs.check_sum.Goals as goal

pub loop-o-preserved : goal.loop-o-preserved
loop-o-preserved c = (omega (arith, c.weighted-sum.ensures.1), sum_go _ _ _ _ c.loop-o.invariant.1 c.weighted-sum.ensures.0)

pub returns : goal.returns
returns c = let l = c.loop-o in sum_end _ _ l.sum l.o _ c.requires (omega arith) l.invariant.1 c.loop-o-test.false l.auto.o-end
