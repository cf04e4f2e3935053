-- `reading::heading` meets its contract: the numbers stand in the content of block 0.
-- Assumes nothing.
use Rattle.reading.proofs.Headings.{heading_shape}
use Rattle.reading.proofs.heading.Goals as goal

pub returns : goal.returns
returns c =
    heading_shape c.args.file.now _ c.content-c.ensures.0 _ _ _ _
    c.two_bytes.ensures.0 c.from.ensures c.from-2.ensures c.from-3.ensures
