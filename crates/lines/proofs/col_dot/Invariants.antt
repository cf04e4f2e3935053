-- `lines::col_dot` meets its contract. The loop keeps `Summed`: the sum modulo p, and room for each term; one reduction ends it.
-- Assumes nothing.
use Rattle.std.proofs.Common.{◌*◌, ◌+◌, get_or}
use Rattle.lines.specs.Line.{at}
use Rattle.lines.proofs.Laws.{Summed}
use Rattle.lines.proofs.col_dot.Given as goal

abbrev pub invariant-loop-l : goal.invariant-loop-l
invariant-loop-l l = Summed l.m.p l.a (λ k. get_or l.v (12 + k) 0 * at l.t k l.i) l.l l.acc
