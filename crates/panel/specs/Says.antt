-- What the panel's calls answer, for every input.
-- Assumes nothing.
use Rattle.std.specs.Prelude.{◌≡◌, List, ℕ}
use Rattle.scheme.specs.declared.Shape.{Shape}
use Rattle.scheme.specs.Refusal.{check_refusal}
use Rattle.join.specs.Says.{JoinSays}
use Rattle.panel.specs.declared.Panel.{Panel}
use Rattle.panel.specs.declared.Told.{Told}
use Rattle.panel.specs.declared.Coded.{Coded}
use Rattle.panel.specs.Cards.{shape_of, labels_of, entries_of, stored_of, told_at, fresh_panel, blank_panel}

-- A fresh panel; or refusals 1 to 7, with a panel of zeros beside them, which every call refuses.
abbrev pub FreshSays : Shape → List ℕ → List ℕ → Told → Type 0
FreshSays s labels entries told = told ≡ told_at (check_refusal s labels entries) blank_panel (fresh_panel s labels entries)

-- "Asked for the code, the panel answers as joining does for the cards now in it", and stays as it was.
pub record CodeSays (a : Panel) (told : Coded) : Type 0 where
  pub same : told.panel ≡ a
  pub code : JoinSays (shape_of a) (labels_of a) (entries_of a) a.cards (stored_of a) told.said
