-- `tables::negate` meets its contract: the loop fills the first n places with what stood there, negated.
-- Assumes nothing.
use Rattle.std.proofs.Common.{◌-◌, ◌%◌}
use Rattle.lists.proofs.Fill.{Filled}
use Rattle.linear.specs.Flat.{place}
use Rattle.tables.proofs.negate.Given as goal

abbrev pub invariant-loop-y : goal.invariant-loop-y
invariant-loop-y l = Filled 0 l.n (λ i. l.p - place l.initial.y-items i % l.p) l.initial.y-items l.y-items l.y-index
