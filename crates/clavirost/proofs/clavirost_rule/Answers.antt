-- `clavirost_rule` meets its contract: of a scheme the two numbers are its d and e.
-- Assumes nothing.
use Rattle.clavirost.proofs.Telling.{rule_made}
use Rattle.clavirost.proofs.clavirost_rule.Goals as goal

pub returns-in-Ok : goal.returns-in-Ok
returns-in-Ok c = rule_made c.in-Ok.is _ _ _ _ _ _ _ _ _ c.build-a.ensures
