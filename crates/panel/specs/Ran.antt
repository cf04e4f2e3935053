-- A panel after a run of calls, the first call first: each call is made on the panel that the one before it handed back. Asking for the code
-- hands the panel back as it was (`CodeSays`).
-- Assumes nothing.
use Rattle.std.specs.Prelude.{List, [], ◌∷◌}
use Rattle.panel.specs.declared.Panel.{Panel}
use Rattle.panel.specs.Cards.{put_in, taken_out}
use Rattle.panel.specs.History.{Call, put, out, ask}

unfoldable pub ran : Panel → List Call → Panel
ran a [] = a
ran a (put who shares ∷ calls) = ran (put_in a who shares).panel calls
ran a (out who ∷ calls) = ran (taken_out a who).panel calls
ran a (ask ∷ calls) = ran a calls
