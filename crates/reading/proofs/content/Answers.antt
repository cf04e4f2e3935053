-- `reading::content` meets its contract: the part from start to end is 500 bytes long.
-- Assumes nothing.
use Rattle.std.proofs.Common.{refl, ap, ◌∙◌, length}
use Rattle.reading.proofs.Contents.{content_part, content_length}
use Rattle.reading.proofs.content.Goals as goal

pub returns : goal.returns
returns c =
    let part = content_part c.args.file.now c.args.b _ _ refl refl in
    (part, ap length part ∙ content_length c.args.file.now c.args.b c.requires)
