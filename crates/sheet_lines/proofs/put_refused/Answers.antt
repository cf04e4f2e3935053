-- `sheet_lines::put_refused` meets its contract: the word, the number and the line's end, one behind the other.
-- Assumes nothing.
use Rattle.sheet_lines.proofs.Texts.{put_refusal_text}
use Rattle.sheet_lines.proofs.put_refused.Goals as goal

pub returns-clause-put : goal.returns-clause-put
returns-clause-put c = put_refusal_text c.args.out.now c.args.k c.put_text-at.ensures c.put_field-at.ensures.put c.put_text.ensures
