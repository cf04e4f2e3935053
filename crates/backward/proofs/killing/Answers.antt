-- `backward::killing` meets its contract: with each turn one line more is killed (`Killings` of proofs/Turns.antt).
-- Assumes nothing.
use Rattle.std.proofs.Common.{◌-◌, arith, refl, replicate}
use Rattle.lists.proofs.Store.{zeros_at}
use Rattle.backward.proofs.Turns.{killings_start, killings_turn}
use Rattle.backward.proofs.killing.Goals as goal

pub loop-j-init : goal.loop-j-init
loop-j-init c =
    let a = c.args in
    killings_start a.m.p a.s (a.e - 1) a.t.now (replicate 27 0) c.requires.lt_p.0 (omega arith) refl (zeros_at 27)

pub loop-j-preserved : goal.loop-j-preserved
loop-j-preserved c =
    let a = c.args in
    let l = c.loop-j in
    killings_turn a.m.p a.e a.s (a.e - 1) l.j c.row_dot-x.result c.minus.result a.t.now l.y (omega arith) c.requires.lt_p.2 (omega arith)
    (c.requires.by_index (l.j - 1) (omega arith)) c.row_dot-x.ensures c.minus.ensures l.invariant
