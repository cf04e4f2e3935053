-- `walk::turned` meets its contract: x stays below the power of two that `end` is.
-- Assumes nothing.
use Prim.Native.Nat.{◌<◌, ◌≤◌, ◌-◌}
use Rattle.walk.proofs.turned.Given as goal

abbrev pub invariant-loop-end : goal.invariant-loop-end
invariant-loop-end l = (1 ≤ l.end) × (l.x < l.end) × (l.end ≤ 8192)

abbrev pub decreases-loop-end : goal.decreases-loop-end
decreases-loop-end l = l.count - l.end
