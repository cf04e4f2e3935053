-- `product::admitted` meets its contract: where e is above 12 the lengths do not count.
-- Assumes nothing.
use Rattle.std.proofs.Common.{◌∙◌}
use Rattle.scheme.proofs.Refusals.{refusal_lengths}
use Rattle.product.proofs.admitted.Goals as goal

pub returns-clause-refusal : goal.returns-clause-refusal
returns-clause-refusal c = c.checked.ensures.refusal ∙ refusal_lengths _ _ _ _ _ _ (λ ld le. c.places_fit.ensures le)
