-- `walk::alike` meets its contract: the choices agree at each row passed.
-- Assumes nothing.
use Rattle.linear.specs.Bits.{bit}
use Rattle.walk.specs.Going.{Agree}
use Rattle.walk.proofs.alike.Given as goal

abbrev pub invariant-loop-k : goal.invariant-loop-k
invariant-loop-k l = Agree l.k (bit l.a) (bit l.b)
