-- `product::multiples` meets its contract: the loop fills the places from `at` on.
-- Assumes nothing.
use Rattle.linear.specs.Flat.{entry}
use Rattle.lists.proofs.Fill.{Filled}
use Prim.Native.Nat.{◌+◌, ◌-◌, ◌*◌, ◌%◌}
use Rattle.product.proofs.multiples.Given as goal

abbrev pub invariant-loop-i : goal.invariant-loop-i
invariant-loop-i l = Filled l.at (l.scheme.shape.e - l.j) (λ i. entry l.scheme.shape.e l.scheme.entries.now l.k l.j * entry l.scheme.shape.e l.scheme.entries.now l.k (l.j + i) % l.m.p) l.initial.a l.a l.i
