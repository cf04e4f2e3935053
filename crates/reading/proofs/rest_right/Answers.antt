-- `reading::rest_right` meets its contract by its two branches.
-- Assumes nothing.
use borrow.Author.Tests.{eq-eqb, ne_eqb}
use Rattle.reading.proofs.rest_right.Goals as goal

pub returns-then-count-s : goal.returns-then-count-s
returns-then-count-s c = simp (ne_eqb _ _ c.if-count-s.true)

pub returns : goal.returns
returns c = simp (eq-eqb _ _ c.if-count-s.false) c.zeros_right.ensures
