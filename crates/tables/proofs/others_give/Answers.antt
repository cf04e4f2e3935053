-- `tables::others_give` meets its contract: the one question, the first row as target, the rows after it as vectors (proofs/Parts.antt).
-- Assumes nothing.
use Rattle.std.proofs.Common.{◌∙◌, arith}
use Rattle.std.proofs.lemmas.List.{length-take-le}
use Rattle.tables.proofs.Parts.{others_give_lem}
use Rattle.tables.proofs.others_give.Goals as goal

pub returns-clause-answer : goal.returns-clause-answer
returns-clause-answer c =
    let q = c.requires.le_e in
    others_give_lem _ _ _ q.0 q.1 _ _ _ _ (c.find.ensures.sizes.3 ∙ length-take-le _ _ (omega arith)) c.find.ensures.answer
