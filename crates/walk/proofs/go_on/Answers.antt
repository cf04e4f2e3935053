-- `walk::go_on` meets its contract. The loop keeps `Marks` (specs/Going.antt), and s is the count at row k.
-- Assumes nothing.
use Rattle.std.proofs.Common.{◌+◌, ◌-◌, arith, sym}
use mathlib.Core.Path.{subst⁻¹}
use lib.Seq.{get_or-set_same}
use borrow.Author.Tests.{ne_eqb}
use Rattle.linear.specs.Bits.{bit}
use Rattle.lines.specs.Line.{Stepped}
use Rattle.rows.proofs.Ends.{sources, state_stepped}
use Rattle.walk.proofs.Marks.{it_is_here, it_is_not_here, unmet_here, marks_next, marks_skip, opens_here}
use Rattle.walk.proofs.go_on.Goals as goal
use Rattle.walk.proofs.go_on.Goals.{then-chosen-k-eq1+else-is_target, else-chosen-k-eq1}

pub next_line-v-requires-clause-stepped : goal.next_line-v-requires-clause-stepped
next_line-v-requires-clause-stepped c =
    let l = c.loop-k in
    let st = (l.invariant.1.unmet l.k (omega arith)).state in
    subst⁻¹ (Stepped c.args.f.m.p l.t) l.invariant.0 (state_stepped _ _ _ _ _ _ _ c.args.f.prime st)

pub opening-requires-clause-by_index : goal.opening-requires-clause-by_index
opening-requires-clause-by_index c =
    let a = c.args in
    let l = c.loop-k in
    let v = c.next_line-v in
    let u = unmet_here a.f.m.p a.e (a.e - 1) a.d a.entries.now (bit a.chosen) (omega arith) a.f.prime c.requires.d_bound.2
    l.k l.s l.counts l.t l.invariant.1 l.invariant.0 v.result v.ensures in
    sources _ _ _ _ _ _ _ a.f.prime u.state

pub returns-then-is_target : goal.returns-then-is_target
returns-then-is_target c =
    let a = c.args in
    let l = c.loop-k in
    let v = c.next_line-v in
    let o = c.opening in
    let here = it_is_here c.is_target.ensures c.if-is_target.true in record {
      within = omega arith;
      marks = l.invariant.1;
      opens = λ h. opens_here a.f.m.p a.e (a.e - 1) a.d a.entries.now (bit a.chosen) (omega arith) a.f.prime
          c.requires.d_bound.2 l.k l.s l.counts l.t l.invariant.1 l.invariant.0 v.result v.ensures here
          l.r o.new.r (omega arith) o.ensures;
    }

pub loop-k-preserved : goal.loop-k-preserved
loop-k-preserved c =
    let a = c.args in
    let l = c.loop-k in
    let j = c.if-chosen-k-eq1 in (
      sym (get_or-set_same l.counts (l.k + 1) j.s 0 (omega (arith, l.invariant.1.len))),
      elim c.if-chosen-k-eq1.branch [
        | then-chosen-k-eq1+else-is_target w ↦ rw (w.s-is, w.t-is)
            (marks_next a.f.m.p a.e (a.e - 1) a.d a.entries.now (bit a.chosen) (omega arith) a.f.prime c.requires.d_bound.2
            l.k l.s l.counts l.t l.invariant.1 l.invariant.0 w.next_line-v.result w.next_line-v.ensures w.store-s.result w.store-s.new.t
            (omega arith) (it_is_not_here w.is_target.ensures w.if-is_target.false) (w.store-s.ensures.kept, w.store-s.ensures.dropped))
        | else-chosen-k-eq1 w ↦ rw (w.s-is, w.t-is)
            (marks_skip a.f.m.p a.e (a.e - 1) a.d a.entries.now (bit a.chosen) (omega arith) a.f.prime c.requires.d_bound.2
            l.k l.s l.counts l.t l.invariant.1 l.invariant.0 (omega arith) (ne_eqb _ _ w.if-chosen-k-eq1.false))
      ],
    )
