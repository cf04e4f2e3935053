-- `lines::col_dot` meets its contract. The loop keeps `Summed`: the sum modulo p, and room for each term; one reduction ends it.
-- Assumes nothing.
use Rattle.lines.proofs.Laws.{sum_turn}
use Rattle.lines.proofs.col_dot.Goals as goal

pub loop-l-preserved : goal.loop-l-preserved
loop-l-preserved c = sum_turn c.term-acc.result c.loop-l.invariant c.term-acc.ensures.0 c.term-acc.ensures.1
