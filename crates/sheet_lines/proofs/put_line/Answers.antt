-- `sheet_lines::put_line` meets its contract: number, verdict, vector and the line's end, one behind the other.
-- Assumes nothing.
use Rattle.sheet_lines.proofs.Texts.{put_set_text}
use Rattle.sheet_lines.proofs.put_line.Goals as goal

pub returns-clause-put : goal.returns-clause-put
returns-clause-put c =
    let a = c.args in
    put_set_text a.out.now a.at a.p a.set a.opens a.vector.now c.put_number-end.ensures.put c.put_verdict-end.ensures.put
    c.put_vector-end.ensures.put c.put_text.ensures
