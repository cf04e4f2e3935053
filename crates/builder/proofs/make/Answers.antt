-- `builder::make` meets its contract.
-- Assumes nothing.
use Rattle.builder.proofs.Whole.{made_by}
use Rattle.builder.proofs.make.Goals as goal

pub returns : goal.returns
returns c = let a = c.args in made_by a.p a.text.now a.ents.now a.labs.now c.unit.result _ _ _ (c.unit.ensures a.p) c.build_rule.ensures.by_index
