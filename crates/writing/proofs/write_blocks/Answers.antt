-- `writing::write_blocks` meets its contract. The loop's invariant: the first b blocks are written.
-- Assumes nothing.
use native.Mathlib.Omega.{arith}
use Rattle.writing.proofs.Blocks.{blocks_turn, blocks_all}
use Rattle.writing.proofs.write_blocks.Goals as goal

pub loop-b-preserved : goal.loop-b-preserved
loop-b-preserved c =
    let a = c.args.scheme in
    let i = c.loop-b.invariant in
    let n = c.blocks_of-count.ensures.0 in
    blocks_turn a.shape a.labels.now a.entries.now _ _ _ _ i (omega arith) c.write_block.ensures

pub returns : goal.returns
returns c =
    let n = c.blocks_of-count.ensures.0 in
    blocks_all c.args.scheme.shape c.args.scheme.labels.now c.args.scheme.entries.now _ _ _ c.loop-b.invariant c.requires (omega arith)
