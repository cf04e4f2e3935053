-- `rule::copy_rows` meets its contract. The loop's invariant: the first k rows are copied.
-- Assumes nothing.
use Rattle.std.proofs.Common.{◌<◌, ◌∙◌, ap, [], take, get_or, arith}
use Rattle.std.proofs.lemmas.List.{length-take-le, get_or-take}
use Rattle.lists.proofs.Store.{row_fits}
use Rattle.rule.proofs.Copies.{copied_turn, row_copied}
use Rattle.rule.proofs.copy_rows.Goals as goal

pub loop-k-preserved : goal.loop-k-preserved
loop-k-preserved c =
    let k = c.loop-k.k in
    let d = length-take-le c.args.d c.args.table.now c.requires.0 in
    let own : k < c.args.d = omega arith in
    let l = row_fits k c.args.d c.args.e own in
    let row = c.copy_from_slice.ensures.after ∙ ap (take c.args.e) (get_or-take c.args.d c.args.table.now k [] own) in
    copied_turn _ _ _ _ _ _ c.loop-k.invariant
    (row_copied _ _ _ (get_or c.args.table.now k []) _ _ row (omega (arith, c.told-table k (omega arith))) (omega arith) (omega (arith, c.loop-k.invariant.size)))
