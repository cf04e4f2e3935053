-- `digits::near` meets its contract: v is at most p - v exactly where twice v is at most p.
-- Assumes nothing.
use Rattle.digits.proofs.Whole.{near_low, near_high, sub_fits}
use native.Mathlib.Omega.{arith}
use Rattle.digits.proofs.near.Goals as goal

pub returns-then-v-p : goal.returns-then-v-p
returns-then-v-p c = near_low c.args.p c.args.v (omega arith) (omega arith) (omega arith)

pub overflow_sub-result : goal.overflow_sub-result
overflow_sub-result c = sub_fits c.args.v c.args.p (omega arith) (omega arith)

pub returns : goal.returns
returns c = near_high c.args.p c.args.v (omega arith) (omega arith) (omega arith)
