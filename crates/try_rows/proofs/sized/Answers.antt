-- `try_rows::sized` calls `matrix` as it requires: every modulus of the table is prime.
use Rattle.std.proofs.Common.{rules}
use Rattle.residue.proofs.Moduli.{modulus_prime}
use Rattle.try_rows.proofs.sized.Goals as goal

pub matrix-requires-clause-prime : goal.matrix-requires-clause-prime
matrix-requires-clause-prime g c = modulus_prime c.args.p (search rules)
