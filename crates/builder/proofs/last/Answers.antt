-- `builder::last` meets its contract.
-- Assumes nothing.
use mathlib.Core.Path.{sym, ◌∙◌}
use Prim.Native.Nat.{◌+◌, ◌-◌}
use native.Mathlib.Omega.{arith}
use Rattle.builder.proofs.Steps.{last_step, last_end}
use Rattle.builder.proofs.last.Goals as goal

pub loop-c-preserved : goal.loop-c-preserved
loop-c-preserved c =
    let a = c.args in
    let l = c.loop-c in
    rw c.less.ensures (last_step a.p l.c (a.base + a.m - l.c) (a.base + a.m - (l.c + 1)) l.v (omega arith) ∙ l.invariant)

pub returns : goal.returns
returns c =
    let l = c.loop-c in sym (last_end c.args.p l.c (c.args.base + c.args.m - l.c) l.v (omega arith)) ∙ l.invariant
