-- `reading::refusal` meets its contract: a refusal of the first tests stands.
-- Assumes nothing.
use Rattle.std.proofs.Common.{sym, ◌∙◌, rules}
use Rattle.reading.proofs.Order.{blocks_wrong}
use Rattle.reading.proofs.refusal.Goals as goal

pub returns-in_err-blocks_refusal : goal.returns-in_err-blocks_refusal
returns-in_err-blocks_refusal c =
    rw (blocks_wrong _ _ _ _ (sym c.blocks_refusal.ensures ∙ c.in_err-blocks_refusal.was)) (search rules)
