-- `product::product_rows` meets its contract. The loop's invariant: the product rows of the first k rows are in their places (`Filling` of
-- proofs/Filling.antt).
-- Assumes nothing.
use Rattle.product.proofs.Filling.{filling_turn}
use Rattle.product.proofs.product_rows.Goals as goal

pub loop-k-preserved : goal.loop-k-preserved
loop-k-preserved c =
    filling_turn _ _ _ _ _ _ _ _ _ c.loop-k.invariant c.loop-k-test.true c.requires.0 c.product_row.ensures
