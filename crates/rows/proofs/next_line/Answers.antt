-- `rows::next_line` meets its contract: what `line` ensures of a wanted row, and `marked` of an empty line.
-- Assumes nothing.
use Rattle.std.proofs.Common.{arith}
use Rattle.lists.proofs.Store.{zeros_at}
use Rattle.rows.proofs.next_line.Goals as goal

pub marked-requires-clause-low : goal.marked-requires-clause-low
marked-requires-clause-low c = λ lp i. rw (zeros_at 27 i) (omega arith)
