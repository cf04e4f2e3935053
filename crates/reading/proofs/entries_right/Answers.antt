-- `reading::entries_right` meets its contract.
-- Assumes nothing.
use Rattle.std.proofs.Common.{◌*◌, refl, sym, ◌∙◌, ltb, rules, tests}
use Rattle.reading.specs.Parts.{entry_at}
use Rattle.reading.proofs.Tests.{each_list, all_counted}
use Rattle.reading.proofs.entries_right.Goals as goal

pub returns : goal.returns
returns c =
    all_counted (c.args.d * c.args.e) (λ i. ltb (entry_at c.args.file.now c.args.e i) c.args.p) c.all.ensures.ran refl (λ x b q k. search (rules, tests))
    ∙ sym (each_list (λ x. ltb x c.args.p) (c.args.d * c.args.e) (entry_at c.args.file.now c.args.e))
