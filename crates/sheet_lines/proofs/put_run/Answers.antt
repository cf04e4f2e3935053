-- `sheet_lines::put_run` meets its contract: after i turns the lines of the first i sets stand there, of 256 bytes at most each.
-- Assumes nothing.
use Rattle.std.proofs.Common.{arith}
use Rattle.sheet_lines.proofs.Lines.{lines_more}
use Rattle.sheet_lines.proofs.put_run.Goals as goal

pub loop-i-preserved : goal.loop-i-preserved
loop-i-preserved c =
    let l = c.loop-i in
    let p = c.put_kept-end.ensures in
    (omega (arith, l.invariant.0, p.room), lines_more _ _ _ _ _ c.args.at l.i l.invariant.1 p.put)
