-- `sheet_lines::put_heading` meets its contract: the word, four numbers and the line's end, one behind the other.
-- Assumes nothing.
use Rattle.sheet_lines.proofs.Texts.{put_head}
use Rattle.sheet_lines.proofs.put_heading.Goals as goal

pub returns-clause-put : goal.returns-clause-put
returns-clause-put c =
    put_head c.args.out.now c.args.scheme.shape c.put_text-at.ensures c.put_field-at.ensures.put c.put_field-at-2.ensures.put
    c.put_field-at-3.ensures.put c.put_field-at-4.ensures.put c.put_text.ensures
