-- `panel::lay` meets its contract. The loop's invariant: laying the rest of the shares at the rest of the rows gives the whole.
-- Assumes nothing.
use Prim.Native.Nat.{◌+◌}
use mathlib.Core.Path.{◌≡◌}
use mathlib.Core.List.{◌++◌}
use lib.ListN.{length, take, drop}
use Rattle.panel.specs.Cards.{rows_of, laid}
use Rattle.panel.proofs.lay.Given as goal

abbrev pub invariant-loop-i : goal.invariant-loop-i
invariant-loop-i l =
    (length l.stored ≡ length l.initial.stored) × (l.k + rows_of l.who (drop l.i l.labels) ≡ length l.shares)
    × (take l.i l.stored ++ laid l.who (drop l.i l.labels) (drop l.k l.shares) (drop l.i l.stored) ≡ laid l.who l.labels l.shares l.initial.stored)
