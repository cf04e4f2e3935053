-- `lines::row_dot` meets its contract. The loop keeps `Summed`: the sum modulo p, and room for each term; one reduction ends it.
-- Assumes nothing.
use Rattle.std.proofs.Common.{◌*◌, get_or}
use Rattle.lines.specs.Line.{at}
use Rattle.lines.proofs.Laws.{Summed}
use Rattle.lines.proofs.row_dot.Given as goal

abbrev pub invariant-loop-i : goal.invariant-loop-i
invariant-loop-i l = Summed l.m.p 0 (λ k. get_or l.v k 0 * at l.t l.j k) l.i l.acc
