-- `digits::put_whole` meets its contract: below zero a sign, byte 45, and the digits behind it.
-- Assumes nothing.
use mathlib.Core.Path.{ap, ◌∙◌}
use lib.ListN.{length, length-set}
use Rattle.digits.specs.Digits.{decimal}
use Rattle.digits.proofs.Puts.{put_after}
use Rattle.digits.proofs.Whole.{signed_text, plain_text}
use native.Mathlib.Omega.{arith}
use Rattle.digits.proofs.put_whole.Goals as goal

pub bounds-out-at : goal.bounds-out-at
bounds-out-at c =
    let d = c.distance-m in
    let e = signed_text c.args.z d.result c.ranges.z d.ensures c.if-z-lt0.true in
    omega (arith, ap length e)

pub put_decimal-requires : goal.put_decimal-requires
put_decimal-requires c =
    let d = c.distance-m in
    let e = signed_text c.args.z d.result c.ranges.z d.ensures c.if-z-lt0.true in
    simp length-set (omega (arith, ap length e))

pub shape_of-out-then-z-lt0 : goal.shape_of-out-then-z-lt0
shape_of-out-then-z-lt0 c = c.put_decimal.auto.out ∙ simp length-set

pub returns-then-z-lt0 : goal.returns-then-z-lt0
returns-then-z-lt0 c =
    let d = c.distance-m in
    let e = signed_text c.args.z d.result c.ranges.z d.ensures c.if-z-lt0.true in
    rw e (put_after c.args.out.now c.args.at 45 (decimal d.result) c.put_decimal.ensures)

pub put_decimal-requires-2 : goal.put_decimal-requires-2
put_decimal-requires-2 c =
    let d = c.distance-m in
    let e = plain_text c.args.z d.result c.ranges.z d.ensures c.if-z-lt0.false in
    omega (arith, ap length e)

pub returns : goal.returns
returns c =
    let d = c.distance-m in
    let e = plain_text c.args.z d.result c.ranges.z d.ensures c.if-z-lt0.false in
    rw e c.put_decimal-2.ensures
