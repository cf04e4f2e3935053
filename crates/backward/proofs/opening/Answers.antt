-- `backward::opening` meets its contract: with each turn one line more is solved (`Openings` of proofs/Turns.antt).
-- Assumes nothing.
use Rattle.std.proofs.Common.{◌-◌, arith, refl, replicate, get_or}
use Rattle.lists.proofs.Store.{zeros_at}
use Rattle.backward.proofs.Turns.{openings_start, openings_turn}
use Rattle.backward.proofs.opening.Goals as goal

pub loop-j-init : goal.loop-j-init
loop-j-init c =
    let a = c.args in
    let b = c.begin in
    openings_start a.m.p a.k a.s _ (get_or a.v.now 24 0) a.t.now a.v.now (replicate 27 0) b.new.r (omega (arith, b.ensures.len)) refl
    c.requires.v_bound refl refl (zeros_at 27) b.ensures.here b.ensures.zero

pub loop-j-preserved : goal.loop-j-preserved
loop-j-preserved c =
    let a = c.args in
    let l = c.loop-j in
    let b = c.begin.ensures.len in
    openings_turn a.m.p a.k a.s _ l.j c.weight-x.result a.t.now a.v.now l.a l.r (omega arith) c.requires.lt_p.1 (omega arith)
    (c.requires.by_index (l.j - 1) (omega arith)) c.weight-x.ensures l.invariant
