-- `reading::marks_right` meets its contract.
-- Assumes nothing.
use Rattle.std.proofs.Common.{refl, rules, tests}
use Rattle.reading.proofs.Tests.{all_counted}
use Rattle.reading.proofs.marks_right.Goals as goal

pub returns : goal.returns
returns c = all_counted _ _ c.all.ensures.ran refl (λ x b q k. search (rules, tests))
