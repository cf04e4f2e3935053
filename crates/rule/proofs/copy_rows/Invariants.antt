-- `rule::copy_rows` meets its contract. The loop's invariant: the first k rows are copied.
-- Assumes nothing.
use Rattle.rule.specs.Copied.{Copied}
use Rattle.rule.proofs.copy_rows.Given as goal

abbrev pub invariant-loop-k : goal.invariant-loop-k
invariant-loop-k l = Copied l.k l.e l.table l.initial.entries l.entries
