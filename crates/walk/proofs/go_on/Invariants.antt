-- `walk::go_on` meets its contract. The loop keeps `Marks` (specs/Going.antt), and s is the count at row k.
-- Assumes nothing.
use Rattle.std.proofs.Common.{◌≡◌, ◌-◌}
use Rattle.linear.specs.Flat.{place, entry}
use Rattle.linear.specs.Bits.{bit}
use Rattle.walk.specs.Going.{Marks}
use Rattle.walk.proofs.go_on.Given as goal

abbrev pub invariant-loop-k : goal.invariant-loop-k
invariant-loop-k l =
    (l.s ≡ place l.counts l.k) × Marks l.f.m.p (l.e - 1) (entry l.e l.entries) (bit l.chosen) l.k l.counts l.t
