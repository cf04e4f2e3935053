-- `product::product_rows` meets its contract. The loop's invariant: the product rows of the first k rows are in their places (`Filling` of
-- proofs/Filling.antt).
-- Assumes nothing.
use Rattle.product.proofs.Filling.{Filling}
use Rattle.product.proofs.product_rows.Given as goal

abbrev pub invariant-loop-k : goal.invariant-loop-k
invariant-loop-k l = Filling l.scheme.shape.p l.scheme.shape.d l.scheme.shape.e l.scheme.entries.now l.initial.a l.a l.k
