-- `reading::fill_labels` meets its contract. The loop's invariant: the first k places hold the first k labels.
-- Assumes nothing.
use native.Mathlib.Omega.{arith}
use Rattle.std.proofs.lemmas.List.{length-take-le}
use Rattle.reading.proofs.Overs.{filled_over}
use Rattle.reading.proofs.fill_labels.Goals as goal

pub returns : goal.returns
returns c =
    let long = length-take-le c.args.d c.args.labels.now c.requires.0 in
    filled_over _ _ _ _ _ _ c.loop-k.invariant (omega arith) long
