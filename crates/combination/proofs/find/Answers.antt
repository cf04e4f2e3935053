-- `combination::find` meets its contract: `answered` says what follows from the duals and from what `down` leaves of the target.
-- Assumes nothing.
use Rattle.combination.proofs.Steps.{answered}
use Rattle.combination.proofs.find.Goals as goal

pub returns-clause-answer : goal.returns-clause-answer
returns-clause-answer c =
    rw (← c.new-field.ensures.0)
    (answered _ _ _ _ _ _ _ _ _ _ _ _ c.new-field.result.prime c.make_duals.ensures.is c.copy.ensures c.down.ensures
    c.first_nonzero.ensures c.is_none.ensures)
