-- `Modulus::inverse` meets its contract. The loop's invariant: acc times x is y modulo p, and y is a residue that is not 0.
-- y falls since p % y is below y, and does not reach 0 since p is prime. Assumes nothing.
use Rattle.residue.proofs.Arith.{Inverting}
use Rattle.residue.proofs.Modulus.inverse.Given as goal

abbrev pub invariant-loop-y : goal.invariant-loop-y
invariant-loop-y l = Inverting l.self.p l.x l.acc l.y

abbrev pub decreases-loop-y : goal.decreases-loop-y
decreases-loop-y l = l.y
