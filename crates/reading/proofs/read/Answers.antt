-- `reading::read` meets its contract: a file that is not refused has what the two fillings require.
-- Assumes nothing.
use Rattle.std.proofs.Common.{sym, ◌∙◌}
use Rattle.reading.proofs.Order.{ready}
use Rattle.reading.proofs.read.Goals as goal

pub fill_labels-requires : goal.fill_labels-requires
fill_labels-requires c =
    let q = ready _ _ _ _ c.heading-s.ensures (sym c.refusal.ensures ∙ c.in_ok-refusal.was) in
    (q.labels_fit, q.blocks_there)

pub fill_entries-requires : goal.fill_entries-requires
fill_entries-requires c =
    let q = ready _ _ _ _ c.heading-s.ensures (sym c.refusal.ensures ∙ c.in_ok-refusal.was) in
    (q.e_low, q.e_high, q.entries_fit, q.blocks_there)
