-- `writing::write_blocks` meets its contract. The loop's invariant: the first b blocks are written.
-- Assumes nothing.
use Rattle.writing.proofs.Blocks.{BlocksWritten}
use Rattle.writing.proofs.write_blocks.Given as goal

abbrev pub invariant-loop-b : goal.invariant-loop-b
invariant-loop-b l = BlocksWritten l.scheme.shape l.scheme.labels.now l.scheme.entries.now l.initial.file l.file l.b
