-- `deal::fill` meets its contract. The loop's invariant: the first k places hold the shares of the first k rows.
-- Assumes nothing.
use Rattle.std.proofs.Common.{◌∷◌}
use Rattle.lists.proofs.Fill.{Filled}
use Rattle.linear.specs.Flat.{place}
use Rattle.scheme.specs.Dealing.{share_of}
use Rattle.deal.proofs.fill.Given as goal

abbrev pub invariant-loop-k : goal.invariant-loop-k
invariant-loop-k l = Filled 0 l.scheme.shape.d (share_of l.scheme.shape l.scheme.entries.now (place (l.secret ∷ l.randoms))) l.initial.shares l.shares l.k
