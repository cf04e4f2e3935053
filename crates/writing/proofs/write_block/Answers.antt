-- `writing::write_block` meets its contract: bytes 0 to 507 and the check are the block.
-- Assumes nothing.
use Rattle.writing.proofs.Blocks.{block_whole}
use Rattle.writing.proofs.write_block.Goals as goal

pub returns : goal.returns
returns c =
    let a = c.args.scheme in
    block_whole a.shape a.labels.now a.entries.now c.args.b _ _ _ _ c.write_front-check.ensures.sum c.write_front-check.ensures.left c.write_check.ensures
