-- `lines::scale` meets its contract: the loop changes the first e places in their order.
-- Assumes nothing.
use Rattle.std.proofs.Common.{◌*◌, ◌%◌, get_or, take}
use Rattle.lists.proofs.Fill.{Filled}
use Rattle.lines.proofs.scale.Given as goal

abbrev pub invariant-loop-x : goal.invariant-loop-x
invariant-loop-x l = Filled 0 l.e (λ k. l.q * get_or l.fn.v k 0 % l.m.p) (take l.e l.fn.v) l.x-items l.x-index
