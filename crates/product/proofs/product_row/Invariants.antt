-- `product::product_row` meets its contract. The loop's invariant: the products that begin with the first j numbers are in their places
-- (`Rowing` of proofs/Filling.antt).
-- Assumes nothing.
use Rattle.product.proofs.Filling.{Rowing}
use Rattle.product.proofs.product_row.Given as goal

abbrev pub invariant-loop-j : goal.invariant-loop-j
invariant-loop-j l = Rowing l.scheme.shape.p l.scheme.shape.e l.k l.at l.scheme.entries.now l.initial.a l.a l.b l.j
