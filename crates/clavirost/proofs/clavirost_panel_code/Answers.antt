-- `clavirost_panel_code` meets its contract: a call that is refused for its places leaves no code.
-- Assumes nothing.
use Rattle.std.proofs.Common.{sym, ◌∙◌}
use Rattle.clavirost.proofs.Handing.{code_refused}
use Rattle.clavirost.proofs.clavirost_panel_code.Goals as goal

pub returns-in-Err : goal.returns-in-Err
returns-in-Err c =
    let a = c.args in
    code_refused _ a.labels.now a.entries.now a.cards a.stored.now _ (sym c.places_refusal.ensures ∙ c.in-Err.is) _ c.number.ensures a.code.now
