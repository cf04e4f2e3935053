-- `reading::labels_right` meets its contract.
-- Assumes nothing.
use Rattle.std.proofs.Common.{refl, sym, ◌∙◌, rules, tests}
use Rattle.scheme.specs.Tests.{within}
use Rattle.format.specs.Reading.{record_at}
use Rattle.reading.proofs.Tests.{each_list, all_counted}
use Rattle.reading.proofs.labels_right.Goals as goal

pub returns : goal.returns
returns c =
    all_counted c.args.d (λ i. within 1 c.args.n (record_at 1 c.args.file.now i 0)) c.all.ensures.ran refl (λ x b q k. search (rules, tests))
    ∙ sym (each_list (within 1 c.args.n) c.args.d (λ i. record_at 1 c.args.file.now i 0))
