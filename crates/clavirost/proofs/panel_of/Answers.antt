-- `panel_of` meets its contract.
-- Assumes nothing.
use Rattle.clavirost.proofs.Handing.{panel_made}
use Rattle.clavirost.proofs.panel_of.Goals as goal

pub returns : goal.returns
returns c = panel_made _ _ _ _ _ _ _ _ c.array.ensures c.array-2.ensures c.array-3.ensures
