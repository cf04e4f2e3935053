-- `clavirost_panel_new` meets its contract: where a panel is made the lists lent for it have its places.
-- Assumes nothing.
use Rattle.clavirost.proofs.Handing.{fresh_lengths}
use Rattle.clavirost.proofs.clavirost_panel_new.Goals as goal

pub hand_over-requires : goal.hand_over-requires
hand_over-requires c =
    let a = c.args in
    fresh_lengths _ _ _ a.panel_labels.now a.panel_entries.now a.cards.now a.stored.now _ c.places_right-fits.ensures _ c.made.ensures
    c.in-Ok.a c.in-Ok.is
