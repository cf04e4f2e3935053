-- `combination::cancel` meets its contract: by `cancelled` as residues, and where the factor is 0 what stays is what is asked for.
-- Assumes nothing.
use Rattle.combination.proofs.Steps.{row_times, cancelled, cancelled_none}
use Rattle.combination.proofs.cancel.Goals as goal

pub returns-then-f-eq0 : goal.returns-then-f-eq0
returns-then-f-eq0 c = cancelled_none _ _ _ _ _ _ _ (row_times _ _ _ _ _ _ c.requires.2 c.dot-f.ensures.0) c.dot-f.ensures.1 c.if-f-eq0.true c.requires.2

pub returns : goal.returns
returns c = cancelled _ _ _ _ _ _ _ (row_times _ _ _ _ _ _ c.requires.2 c.dot-f.ensures.0) c.dot-f.ensures.1 _ c.take_off.ensures
