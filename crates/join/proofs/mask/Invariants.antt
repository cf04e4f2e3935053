-- `join::mask` meets its contract: the loop fills x with the list's numbers at the chosen rows and 0 elsewhere.
-- Assumes nothing.
use Rattle.std.proofs.Common.{cond, length, ◌%◌}
use Rattle.lists.proofs.Fill.{Filled}
use Rattle.linear.specs.Bits.{bit}
use Rattle.linear.specs.Flat.{place}
use Rattle.join.proofs.mask.Given as goal

abbrev pub invariant-loop-i : goal.invariant-loop-i
invariant-loop-i l = Filled 0 (length l.list) (λ i. cond (bit l.chosen (i % l.d)) (place l.list i) 0) l.initial.x l.x l.i
