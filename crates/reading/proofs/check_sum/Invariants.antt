-- `reading::check_sum` meets its contract. The loop's invariant: the first o bytes are added up, at most 129540 each.
-- Assumes nothing.
use mathlib.Core.Path.{◌≡◌}
use Prim.Native.Nat.{◌+◌, ◌*◌, ◌≤◌}
use Rattle.linear.specs.Combination.{total}
use Rattle.linear.specs.Flat.{place}
use Rattle.reading.proofs.check_sum.Given as goal

abbrev pub invariant-loop-o : goal.invariant-loop-o
invariant-loop-o l = (l.sum ≤ l.o * 129540) × (l.sum ≡ total l.o (λ k. place l.x-items k * (k + 1)))
