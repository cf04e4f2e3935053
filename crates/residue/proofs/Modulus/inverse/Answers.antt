-- `Modulus::inverse` meets its contract. The loop's invariant: acc times x is y modulo p, and y is a residue that is not 0.
-- y falls since p % y is below y, and does not reach 0 since p is prime. Assumes nothing.
use Rattle.residue.proofs.Arith.{invert_turn}
use Rattle.residue.proofs.Modulus.inverse.Goals as goal

pub loop-y-preserved : goal.loop-y-preserved
loop-y-preserved c =
    let r = c.reduce-acc.ensures in
    invert_turn _ _ _ _ _ c.requires.prime c.loop-y-test.true c.loop-y.invariant r.0 r.1
