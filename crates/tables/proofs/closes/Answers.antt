-- `tables::closes` meets its contract: the first column, negated, against the other columns (`closing` of proofs/Verdict.antt).
-- Assumes nothing.
use Rattle.tables.proofs.Verdict.{closing}
use Rattle.tables.proofs.closes.Goals as goal

pub returns-clause-answer : goal.returns-clause-answer
returns-clause-answer c =
    closing _ c.requires.prime _ _ c.requires.le_e.0 _ _ _ _ _ c.turn.ensures.turned c.negate.ensures c.others_give.ensures.answer
