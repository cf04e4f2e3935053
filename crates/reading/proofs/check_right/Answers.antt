-- `reading::check_right` meets its contract.
-- Assumes nothing.
use Rattle.reading.proofs.Sums.{check_right_holds}
use Rattle.reading.proofs.check_right.Goals as goal

pub returns : goal.returns
returns c = check_right_holds _ _ _ _ c.four_bytes.ensures c.check_sum.ensures
