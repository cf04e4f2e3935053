-- `lines::factors` meets its contract: what it ensures of s lines, the loop keeps of the first j.
-- Assumes nothing.
use Rattle.lines.specs.Line.{Factored}
use Rattle.lines.proofs.factors.Given as goal

abbrev pub invariant-loop-j : goal.invariant-loop-j
invariant-loop-j l = Factored l.m.p l.t l.fn.v l.v l.j
