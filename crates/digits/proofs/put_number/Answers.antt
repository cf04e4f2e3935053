-- `digits::put_number` meets its contract: below 10 ^ 10, so ten digits at most.
-- Assumes nothing.
use Rattle.digits.proofs.Digits.{decimal_length}
use native.Mathlib.Omega.{arith}
use Rattle.digits.proofs.put_number.Goals as goal

pub put_decimal-requires : goal.put_decimal-requires
put_decimal-requires c = omega (arith, decimal_length 10 c.args.n (omega arith) (omega arith))

pub returns : goal.returns
returns c =
    let r = c.put_decimal.ensures in
    record {
      put = r;
      room = omega (arith, r.0, decimal_length 10 c.args.n (omega arith) (omega arith));
    }
