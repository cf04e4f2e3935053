-- `lines::factors` meets its contract: what it ensures of s lines, the loop keeps of the first j.
-- Assumes nothing.
use Rattle.std.proofs.Common.{arith}
use Rattle.lines.proofs.Laws.{factored_turn}
use Rattle.lines.proofs.factors.Goals as goal

pub loop-j-preserved : goal.loop-j-preserved
loop-j-preserved c =
    let l = c.loop-j in
    factored_turn c.col_dot-x.result l.invariant (omega arith) (c.requires.pivots l.j (omega arith)) c.col_dot-x.ensures.0
