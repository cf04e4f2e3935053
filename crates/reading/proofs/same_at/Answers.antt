-- `reading::same_at` meets its contract.
-- Assumes nothing.
use Rattle.std.proofs.Common.{◌∙◌}
use Rattle.reading.proofs.Tests.{begins_at}
use Rattle.reading.proofs.same_at.Goals as goal

pub returns : goal.returns
returns c = c.starts_with.ensures.value ∙ begins_at _ _ _ c.requires
