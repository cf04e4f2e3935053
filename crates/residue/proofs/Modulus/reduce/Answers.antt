-- `Modulus::reduce` meets its contract. The guessed quotient times p is at most x, so what is left has x's remainder;
-- it is the remainder where it is below p, and else x is divided. Assumes nothing.
use native.Mathlib.Omega.{arith}
use Rattle.residue.proofs.Arith.{guess_low, guess_fits, rest_is}
use Rattle.residue.proofs.Modulus.reduce.Goals as goal

pub overflow_mul-q : goal.overflow_mul-q
overflow_mul-q c = let a = c.args in omega (arith, guess_fits a.self.p a.self.inv a.x c.args.self.ratio c.if-x-m.true)

pub overflow_mul-rest : goal.overflow_mul-rest
overflow_mul-rest c = let a = c.args in omega (arith, guess_low a.self.p a.self.inv a.x c.args.self.ratio)

pub overflow_sub-rest : goal.overflow_sub-rest
overflow_sub-rest c = guess_low _ _ _ c.args.self.ratio

pub returns-then-rest-m : goal.returns-then-rest-m
returns-then-rest-m c = (rest_is _ _ _ (guess_low _ _ _ c.args.self.ratio) c.if-rest-m.true, c.if-rest-m.true)
