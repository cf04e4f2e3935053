-- `reader::is_rule` meets its contract.
-- Assumes nothing.
use Rattle.reader.proofs.Whole.{recognised}
use Rattle.reader.proofs.is_rule.Goals as goal

pub returns-then-text-le256 : goal.returns-then-text-le256
returns-then-text-le256 c = rw c.eq.ensures (recognised _ c.if-text-le256.true.0 c.if-text-le256.true.1 _ c.rule.ensures.by_index)
