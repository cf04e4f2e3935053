-- `combination::take_off` meets its contract. The loop fills x with its old places, each less f times the place of vector k: the place
-- is still the old one when it is read. Assumes nothing.
use Rattle.std.proofs.Common.{◌+◌, ◌*◌, ◌%◌}
use Rattle.linear.specs.Flat.{place, entry}
use Rattle.lists.proofs.Fill.{Filled}
use Rattle.combination.proofs.take_off.Given as goal

abbrev pub invariant-loop-i : goal.invariant-loop-i
invariant-loop-i l = Filled 0 l.n (λ j. (place l.initial.x j + l.g * entry l.n l.b l.k j) % l.modulus.p) l.initial.x l.x l.i
