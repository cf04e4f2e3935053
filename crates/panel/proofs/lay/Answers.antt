-- `panel::lay` meets its contract. The loop's invariant: laying the rest of the shares at the rest of the rows gives the whole.
-- Assumes nothing.
use mathlib.Core.Path.{sym, ◌∙◌}
use lib.ListN.{length-set}
use Rattle.panel.proofs.Laying.{own_here, own_not, lay_here, lay_not, lay_end}
use native.Mathlib.Omega.{arith}
use borrow.Author.Rules.{rules}
use Rattle.panel.proofs.lay.Goals as goal
use Rattle.panel.proofs.lay.Goals.{then-label-who, else-label-who}

pub bounds-shares-k : goal.bounds-shares-k
bounds-shares-k c =
    let a = c.args in
    omega (arith, own_here a.who a.labels.now c.loop-i.i (search rules) c.if-label-who.true)

pub loop-i-preserved : goal.loop-i-preserved
loop-i-preserved c =
    let l = c.loop-i in
    let a = c.args in
    elim c.if-label-who.branch [
      | then-label-who w ↦
          let e = own_here a.who a.labels.now l.i (search rules) w.if-label-who.true in (
            rw w.stored-is (simp length-set l.invariant.0),
            omega arith,
            rw (w.stored-is, w.k-is) (sym (lay_here a.who a.labels.now l.i (search rules) a.shares.now l.stored l.k (search rules)
                w.if-label-who.true (omega arith)) ∙ l.invariant.2),
          )
      | else-label-who w ↦
          let e = own_not a.who a.labels.now l.i (search rules) w.if-label-who.false in (
            rw w.stored-is l.invariant.0,
            omega arith,
            rw (w.stored-is, w.k-is) (sym (lay_not a.who a.labels.now l.i (search rules) a.shares.now l.stored l.k (search rules)
                w.if-label-who.false) ∙ l.invariant.2),
          )
    ]

pub returns : goal.returns
returns c =
    let a = c.args in
    let l = c.loop-i in
    sym (lay_end a.who a.labels.now a.shares.now l.stored l.i l.k c.loop-i-test.false) ∙ l.invariant.2
