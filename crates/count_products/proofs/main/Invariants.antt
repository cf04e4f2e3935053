-- `count_products::main`: each count is at most the number of matrices so far.
use Rattle.std.proofs.Common.{◌≤◌}
use Rattle.count_products.proofs.main.Given as goal

abbrev pub invariant-loop-m : goal.invariant-loop-m
invariant-loop-m l = (l.products ≤ l.m) × (l.both ≤ l.m)
