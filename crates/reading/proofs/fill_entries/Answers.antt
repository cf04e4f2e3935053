-- `reading::fill_entries` meets its contract. The loop's invariant: the first i places hold the first i entries.
-- Assumes nothing.
use native.Mathlib.Omega.{arith}
use Prim.Native.Nat.{◌*◌}
use Rattle.std.proofs.lemmas.List.{length-take-le}
use Rattle.reading.proofs.Overs.{filled_over}
use Rattle.reading.proofs.fill_entries.Goals as goal

pub returns : goal.returns
returns c =
    let long = length-take-le (c.args.d * c.args.e) c.args.entries.now c.requires.2 in
    filled_over _ _ _ _ _ _ c.loop-i.invariant (omega arith) long
