-- `tables::column` meets its contract: the loop fills the d places of row j.
-- Assumes nothing.
use Rattle.lists.proofs.Fill.{Filled}
use Rattle.linear.specs.Flat.{entry}
use Rattle.tables.proofs.column.Given as goal

abbrev pub invariant-loop-k : goal.invariant-loop-k
invariant-loop-k l = Filled 0 l.d (λ k. entry l.e l.table k l.j) l.initial.x-items l.x-items l.k
