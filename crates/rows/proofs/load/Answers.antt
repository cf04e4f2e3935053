-- `rows::load` meets its contract: columns 2 to e are copied, and column 1 is stored after them.
-- Assumes nothing.
use Rattle.rows.proofs.Lists.{loaded_low, loaded_row}
use Rattle.rows.proofs.load.Goals as goal

pub returns-clause-low : goal.returns-clause-low
returns-clause-low c =
    let a = c.args in
    let h = c.requires.le_e in
    loaded_low a.m.p a.e a.k a.entries.now c.copy_from_slice.new.self h.0 h.1 h.3 c.copy_from_slice.ensures.after c.requires.low_2

pub returns-clause-row : goal.returns-clause-row
returns-clause-row c =
    let a = c.args in
    let h = c.requires.le_e in
    loaded_row a.m.p a.e a.k a.entries.now c.copy_from_slice.new.self h.0 h.1 h.3 c.copy_from_slice.ensures.after
