-- `writing::write_front` meets its contract. The loop's invariant: the first o bytes are written, and their sum, each times its place
-- counted from 1, is added up.
-- Assumes nothing.
use mathlib.Core.Path.{◌≡◌}
use Rattle.lists.proofs.Fill.{Filled}
use Rattle.format.specs.Format.{front_byte_lem}
use Rattle.writing.specs.Steps.{weight_of}
use Rattle.writing.proofs.write_front.Given as goal

abbrev pub invariant-loop-o : goal.invariant-loop-o
invariant-loop-o l =
    Filled 0 508 (front_byte_lem 1 l.scheme.shape l.scheme.labels.now l.scheme.entries.now l.b) l.initial.x-items l.x-items l.o × (l.check ≡ weight_of l.o (front_byte_lem 1 l.scheme.shape l.scheme.labels.now l.scheme.entries.now l.b))
