-- `combination::dot` meets its contract. The loop's invariant: the products of the places so far are added up modulo p.
-- Assumes nothing.
use Rattle.std.proofs.Common.{◌*◌, length}
use Rattle.linear.specs.Flat.{place}
use Rattle.linear.proofs.Summing.{Summing}
use Rattle.combination.proofs.dot.Given as goal

abbrev pub invariant-loop-y : goal.invariant-loop-y
invariant-loop-y l = Summing l.modulus.p (length l.x) (λ j. place l.a j * place l.x j) l.sum (length l.yielded)
