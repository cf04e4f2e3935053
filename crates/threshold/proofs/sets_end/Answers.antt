-- `threshold::sets_end` meets its contract: 2 to the n has no more than 17 bits.
-- Assumes nothing.
use mathlib.Core.Path.{◌∙◌}
use Prim.Native.Nat.{◌≤◌, ◌*◌, ◌^◌}
use native.Mathlib.Nat.{mod-eq_of_lt}
use native.Mathlib.Omega.{arith}
use lib.Pow.{pow_mono}
use Rattle.threshold.proofs.sets_end.Goals as goal

pub overflow_shl-result : goal.overflow_shl-result
overflow_shl-result c = omega arith

pub returns : goal.returns
returns c =
    let n = c.args.n in
    let few : 2 ^ n ≤ 65536 = pow_mono {i = n} {j = 16} c.requires in
    mod-eq_of_lt {n = 1 * 2 ^ n} {m = 4294967296} (omega arith) ∙ omega arith
