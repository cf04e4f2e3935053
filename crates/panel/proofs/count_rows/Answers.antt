-- `panel::count_rows` meets its contract.
-- Assumes nothing.
use Rattle.std.proofs.Common.{◌≡◌, sym, ◌∙◌, eqb, rules}
use Rattle.std.specs.List.{count_by}
use Rattle.panel.proofs.Laying.{rows_counted}
use Rattle.panel.proofs.count_rows.Goals as goal

pub returns : goal.returns
returns c =
    let counted : c.count.result ≡ count_by (λ x. eqb x c.args.who) c.args.labels.now = search rules in
    counted ∙ sym (rows_counted c.args.who c.args.labels.now)
