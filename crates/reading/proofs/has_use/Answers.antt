-- `reading::has_use` meets its contract.
-- Assumes nothing.
use Rattle.reading.proofs.Uses.{use_heading, use_past, use_row}
use Rattle.reading.proofs.has_use.Goals as goal

pub returns-then-b-eq0 : goal.returns-then-b-eq0
returns-then-b-eq0 c = use_heading _ _ _ _ c.if-b-eq0.true

pub returns-then-b-j : goal.returns-then-b-j
returns-then-b-j c = use_past _ _ _ _ c.if-b-eq0.false c.requires.2 c.if-b-j.true

pub returns : goal.returns
returns c = use_row _ _ _ _ c.if-b-eq0.false c.requires.2 c.if-b-j.false
