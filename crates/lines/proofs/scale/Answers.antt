-- `lines::scale` meets its contract: the loop changes the first e places in their order.
-- Assumes nothing.
use Rattle.std.proofs.Common.{◌*◌, ◌%◌, get_or, arith, mod-lt}
use Rattle.lines.proofs.Fill.{changed_front}
use Rattle.lines.proofs.scale.Goals as goal

pub returns : goal.returns
returns c =
    let a = c.args in
    changed_front a.m.p a.e (λ k. a.q * get_or a.v.now k 0 % a.m.p) a.v.now c.loop-x.x-items _ c.loop-x.invariant (omega arith) (omega arith) (omega arith)
    c.requires.low (λ k. mod-lt _ a.m.positive)
