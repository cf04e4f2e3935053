-- `digits::put_residue` meets its contract: the number nearest to zero is below 65536 on either side.
-- Assumes nothing.
use Rattle.digits.proofs.Digits.{residue_near, residue_length}
use Rattle.digits.proofs.Whole.{passed_on}
use native.Mathlib.Omega.{arith}
use Rattle.digits.proofs.put_residue.Goals as goal

pub put_whole-requires : goal.put_whole-requires
put_whole-requires c =
    let a = c.args in
    let n = residue_near a.p a.v (omega arith) (omega arith) in
    let l = residue_length a.p a.v (omega arith) (omega arith) in
    let e = passed_on a.p a.v c.near-z.result (omega arith) (omega arith) c.near-z.ensures in
    rw e (omega arith, omega arith)

pub returns : goal.returns
returns c =
    let a = c.args in
    let z = c.near-z in
    let e = passed_on a.p a.v z.result (omega arith) (omega arith) z.ensures in
    let r = rw e at c.put_whole.ensures in
    record {
      put = r;
      room = omega (arith, r.0, residue_length a.p a.v (omega arith) (omega arith));
    }
