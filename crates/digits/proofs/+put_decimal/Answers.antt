-- `digits::put_decimal` meets its contract: the last digit is stored behind the digits of n / 10, which are fewer.
-- Assumes nothing.
use Rattle.digits.proofs.Digits.{one_length, more_length, put_one, put_more}
use native.Mathlib.Omega.{arith}
use Rattle.digits.proofs.+put_decimal.Goals as goal

pub bounds-out-at : goal.bounds-out-at
bounds-out-at t c = omega (arith, one_length c.args.n c.if-n-lt10.true)

pub returns-then-n-lt10 : goal.returns-then-n-lt10
returns-then-n-lt10 t c = put_one c.args.out.now c.args.at c.args.n c.if-n-lt10.true

pub put_decimal-last-requires : goal.put_decimal-last-requires
put_decimal-last-requires t c = omega (arith, more_length c.args.n (omega arith))

pub bounds-out-last : goal.bounds-out-last
bounds-out-last t c = omega (arith, c.put_decimal-last.auto.out, more_length c.args.n (omega arith))

pub overflow_add-result-2 : goal.overflow_add-result-2
overflow_add-result-2 t c = omega (arith, c.put_decimal-last.auto.out, more_length c.args.n (omega arith))

pub returns : goal.returns
returns t c = put_more c.args.out.now c.args.at c.args.n (omega arith) c.put_decimal-last.ensures
