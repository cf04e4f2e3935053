-- `writing::write_front` meets its contract. The loop's invariant: the first o bytes are written, and their sum, each times its place
-- counted from 1, is added up.
-- Assumes nothing.
use Rattle.std.proofs.Common.{◌≤◌, arith}
use Rattle.lists.proofs.Fill.{fill_start, fill_turn, filled_part, filled}
use Rattle.format.proofs.Below.{front_below}
use Rattle.writing.proofs.Checking.{weight_none, weight_turn, weight_room}
use Rattle.writing.proofs.write_front.Goals as goal

pub loop-o-init : goal.loop-o-init
loop-o-init c = (fill_start _ _ _ _, weight_none _)

pub overflow_add-check : goal.overflow_add-check
overflow_add-check c =
    let i = c.loop-o in
    let h = weight_room _ _ _ _ _ i.invariant.1 c.front_byte.ensures c.weighted-check.ensures.0 (omega arith)
    (front_below 1 c.args.scheme.shape c.args.scheme.labels.now c.args.scheme.entries.now (omega arith) c.args.scheme.valid c.args.b) in
    record { fits = omega arith }

pub loop-o-preserved : goal.loop-o-preserved
loop-o-preserved c =
    let i = c.loop-o in (
      fill_turn _ _ _ _ _ _ _ _ i.invariant.0 (omega arith) (omega arith) (omega arith) c.front_byte.ensures,
      weight_turn _ _ _ _ _ i.invariant.1 c.front_byte.ensures c.weighted-check.ensures.0,
    )

pub returns-clause-left : goal.returns-clause-left
returns-clause-left c =
    let h = c.loop-o.invariant.0 in
    let end : 508 ≤ c.loop-o.o = omega arith in
    filled_part _ _ _ _ _ _ (omega arith) (omega arith) (omega arith) (filled _ _ _ _ _ h end)
