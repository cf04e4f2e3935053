-- `threshold::first_breaking` meets its contract. The outer loop keeps `KeptBelow` (proofs/Search.antt), the inner one `Unmet`
-- (rows/specs/State.antt): the target has not turned up.
-- Assumes nothing.
use Rattle.std.proofs.Common.{◌-◌}
use Rattle.linear.specs.Bits.{bit}
use Rattle.linear.specs.Flat.{entry}
use Rattle.rows.specs.State.{Unmet}
use Rattle.threshold.proofs.Search.{KeptBelow}
use Rattle.threshold.proofs.first_breaking.Given as goal

abbrev pub invariant-loop-k : goal.invariant-loop-k
invariant-loop-k l = Unmet l.f.m.p (l.s.e - 1) (entry l.s.e l.scheme.entries.now) (bit l.chosen) l.k l.lines l.table

abbrev pub invariant-loop-set : goal.invariant-loop-set
invariant-loop-set l = KeptBelow l.s l.scheme.labels.now l.scheme.entries.now l.t l.set
