-- `deal::admitted` meets its contract: what is refused after 7 comes last, and can be taken by itself.
-- Assumes nothing.
use Rattle.std.proofs.Common.{rules}
use Rattle.scheme.proofs.Refusals.{refusal_more}
use Rattle.deal.proofs.admitted.Goals as goal

pub returns-in_err-checked-clause-refusal : goal.returns-in_err-checked-clause-refusal
returns-in_err-checked-clause-refusal c = search (rules, refusal_more)
