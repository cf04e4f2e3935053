-- `hand_back` meets its contract.
-- Assumes nothing.
use mathlib.Core.Path.{refl}
use Rattle.clavirost.proofs.hand_back.Goals as goal

pub returns : goal.returns
returns c = record { is = c.outcome_number.ensures; cards = refl; stored = c.copy_from_slice.ensures.after }
