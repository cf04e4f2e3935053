-- `tables::one_before` meets its contract (`one_before_lem` of proofs/Ones.antt).
-- Assumes nothing.
use Rattle.tables.proofs.Ones.{one_before_lem}
use Rattle.tables.proofs.one_before.Goals as goal

pub returns : goal.returns
returns c = one_before_lem _ _ _ c.requires c.copy_from_slice.ensures.after
