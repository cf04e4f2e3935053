-- `sets::chosen_rows` meets its contract: the number is built from the last row to the first (`Built` of proofs/Mask.antt).
-- Assumes nothing.
use Rattle.std.proofs.Common.{◌≡◌, length, take}
use Rattle.std.specs.Iterator.Adapters.{rev_source}
use Rattle.std.specs.Slice.Iter.{iter_rest}
use Rattle.scheme.specs.Sets.{of_set}
use Rattle.sets.proofs.Mask.{Built}
use Rattle.sets.proofs.chosen_rows.Given as goal

abbrev pub invariant-loop-i : goal.invariant-loop-i
invariant-loop-i l =
    let rest = iter_rest (rev_source l.i-iterator) in
    (rest ≡ take (length rest) l.labels) × Built (of_set l.set l.labels) (length l.labels) (length rest) l.chosen
