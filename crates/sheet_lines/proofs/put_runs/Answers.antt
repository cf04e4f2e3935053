-- `sheet_lines::put_runs` meets its contract: after each run the lines of the first i sets stand there, of 256 bytes at most each.
-- Assumes nothing.
use Rattle.std.proofs.Common.{arith}
use Rattle.sheet_lines.proofs.Lines.{lines_join}
use Rattle.sheet_lines.proofs.put_runs.Goals as goal

pub loop-i-preserved : goal.loop-i-preserved
loop-i-preserved c =
    let l = c.loop-i in
    let n = c.run_length-some in
    let p = c.put_run-end.ensures in (
      omega (arith, c.loop-i-test.true, n.ensures.1),
      omega (arith, l.invariant.1, p.room),
      lines_join _ _ _ _ _ 0 l.i n.result l.invariant.2 p.put,
    )
