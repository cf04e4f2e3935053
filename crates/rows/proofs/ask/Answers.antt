-- `rows::ask` meets its contract. The loop keeps `Going` (specs/State.antt): the table is that of the rows gone through, and r holds the
-- opening vector once the target has turned up.
-- Assumes nothing.
use Rattle.std.proofs.Common.{◌≡◌, ℕ, ◌-◌, arith, refl, replicate, ap, ◌∙◌, subst, length, get_or}
use Rattle.linear.specs.Bits.{bit}
use Rattle.rows.specs.Answered.{Answered}
use Rattle.rows.proofs.Lists.{none_rows}
use Rattle.rows.proofs.Ends.{going_length, sources, state_stepped, answered_open, answered_closed}
use Rattle.rows.proofs.Turns.{Settled, settled_target, settled_other, going_start, going_next}
use Rattle.rows.proofs.ask.Goals as goal
use Rattle.rows.proofs.ask.Goals.{then-is_target, else-is_target}

pub loop-k-init : goal.loop-k-init
loop-k-init c =
    let a = c.args in
    going_start c.new-f.result.m.p a.e (a.e - 1) a.d a.entries.now (bit a.chosen) (omega arith) (replicate 12 (replicate 27 0)) a.r.now refl
    (λ lp j i. rw (none_rows 12 j i) (omega arith))

pub next_line-v-requires-clause-stepped : goal.next_line-v-requires-clause-stepped
next_line-v-requires-clause-stepped c = state_stepped _ _ _ _ _ _ _ c.new-f.result.prime c.loop-k.invariant.state

pub opening-requires-clause-by_index : goal.opening-requires-clause-by_index
opening-requires-clause-by_index c = sources _ _ _ _ _ _ _ c.new-f.result.prime c.loop-k.invariant.state

pub loop-k-preserved : goal.loop-k-preserved
loop-k-preserved c =
    let a = c.args in
    let l = c.loop-k in
    let se : Settled c.new-f.result.m.p a.e l.k l.s l.t c.next_line-v.result l.opens l.r c.if-is_target.opens c.if-is_target.r =
    elim c.if-is_target.branch [
      | then-is_target w ↦ settled_target w.if-is_target.ensures w.opens-is (rw w.r-is w.opening.ensures)
      | else-is_target w ↦ settled_other w.if-is_target.ensures w.opens-is w.r-is
    ]
    in
    going_next c.new-f.result.m.p a.e (a.e - 1) a.d a.entries.now (bit a.chosen) (omega arith) l.k l.s l.t a.r.now l.opens l.r
    c.next_line-v.result c.if-is_target.opens c.if-is_target.r c.store-s.result c.store-s.new.t l.invariant c.new-f.result.prime
    c.requires.d_bound.2 c.requires.d_bound.4 (going_length _ _ _ _ _ _ _ _ _ _ _ l.invariant ∙ c.requires.d_bound.4)
    c.next_line-v.ensures se (c.store-s.ensures.kept, c.store-s.ensures.dropped)

pub returns-else-not-opens : goal.returns-else-not-opens
returns-else-not-opens c =
    let a = c.args in
    let l = c.loop-k in
    subst (λ (p : ℕ). Answered p a.d a.e a.chosen a.entries.now a.r.now a.z.now (record { opens = l.opens; rank = l.s }) l.r a.z.now)
    c.new-f.ensures.0
    (answered_open c.new-f.result.m.p a.e (a.e - 1) a.d a.chosen a.entries.now (omega arith) c.new-f.result.prime l.k l.s l.t a.r.now a.z.now
    l.r l.opens c.requires.d_bound.4 (omega arith) l.invariant c.if-not-opens.false)

pub returns-then-not-opens : goal.returns-then-not-opens
returns-then-not-opens c =
    let a = c.args in
    let l = c.loop-k in
    let y = c.killing-y in
    let u = c.unload in
    let n : length a.z.now ≡ a.e = c.requires.d_bound.5 in
    subst (λ (p : ℕ). Answered p a.d a.e a.chosen a.entries.now a.r.now a.z.now (record { opens = l.opens; rank = l.s }) l.r u.new.z)
    c.new-f.ensures.0
    (answered_closed c.new-f.result.m.p a.e (a.e - 1) a.d a.chosen a.entries.now (omega arith) c.new-f.result.prime l.k l.s l.t a.r.now a.z.now
    l.r l.opens c.requires.d_bound.4 (omega arith) l.invariant c.if-not-opens.true y.result u.new.z y.ensures.small.0 y.ensures.small.1
    y.ensures.kills (u.ensures.first.0 ∙ n) (u.ensures.first.1 ∙ ap (λ (n : ℕ). get_or y.result (n - 1) 0) n)
    (λ i li. u.ensures.others i (omega arith)))
