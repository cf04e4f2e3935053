-- `combination::copy` meets its contract: the loop fills the list with the numbers of the other.
-- Assumes nothing.
use Rattle.std.proofs.Common.{length}
use Rattle.lists.proofs.Fill.{Filled}
use Rattle.linear.specs.Flat.{place}
use Rattle.combination.proofs.copy.Given as goal

abbrev pub invariant-loop-i : goal.invariant-loop-i
invariant-loop-i l = Filled 0 (length l.from) (λ j. place l.from j) l.initial.to l.to l.i
