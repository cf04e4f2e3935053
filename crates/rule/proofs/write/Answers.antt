-- `rule::write` meets its contract: the builder has left the rows of the text's rule, which are copied.
-- Assumes nothing.
use mathlib.Core.Path.{refl}
use native.Mathlib.Omega.{arith}
use Rattle.rule.proofs.Copies.{row_copied}
use Rattle.rule.proofs.Scheme.{made_some, made_small, written}
use Rattle.rule.proofs.write.Goals as goal

pub unwrap-made-requires : goal.unwrap-made-requires
unwrap-made-requires c =
    made_some _ _ _ _ _ _ _ _ c.requires.text_refusal c.make.ensures c.requires.le_p.1 c.requires.le_p.2

pub returns : goal.returns
returns c =
    let m = c.make in
    let made = c.unwrap-made in
    let small = made_small _ _ _ _ _ _ _ _ c.requires.text_refusal m.ensures c.requires.le_p.1 c.requires.le_p.2 _ made.ensures in
    written _ _ _ _ _ _ _ _ c.requires.text_refusal m.ensures c.requires.le_p.1 c.requires.le_p.2 _ made.ensures _ _ _ _ c.requires.le_p.3 c.requires.le_p.4
    (row_copied 0 _ made.result.row m.new.labs _ _ c.copy_from_slice.ensures.after (omega (arith, small.0, m.auto.labs)) refl (omega (arith, small.0, c.requires.le_p.3)))
    c.copy_rows.ensures
