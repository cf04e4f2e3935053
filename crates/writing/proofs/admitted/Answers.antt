-- `writing::admitted` meets its contract: where d is above 32 the file's length does not count.
-- Assumes nothing.
use Rattle.std.proofs.Common.{◌∙◌}
use Rattle.scheme.proofs.Refusals.{refusal_lengths}
use Rattle.writing.proofs.admitted.Goals as goal

pub returns-clause-refusal : goal.returns-clause-refusal
returns-clause-refusal c = c.checked.ensures.refusal ∙ refusal_lengths _ _ _ _ _ _ (λ ld le. c.file_fits.ensures ld)
