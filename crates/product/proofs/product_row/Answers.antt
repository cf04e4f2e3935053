-- `product::product_row` meets its contract. The loop's invariant: the products that begin with the first j numbers are in their places
-- (`Rowing` of proofs/Filling.antt).
-- Assumes nothing.
use Rattle.product.proofs.Filling.{rowing_turn}
use Rattle.product.proofs.product_row.Goals as goal

pub loop-j-preserved : goal.loop-j-preserved
loop-j-preserved c = rowing_turn _ _ _ _ _ _ _ _ _ _ c.loop-j.invariant c.loop-j-test.true c.multiples.ensures
