-- `threshold::first_breaking` meets its contract. The outer loop keeps `KeptBelow` (proofs/Search.antt), the inner one `Unmet`
-- (rows/specs/State.antt): the target has not turned up.
-- Assumes nothing.
use Rattle.std.proofs.Common.{◌≡◌, ℕ, suc, ◌-◌, ◌∙◌, arith, refl, sym, replicate, subst}
use mathlib.Core.Bool.{true≢false, false≢true}
use Rattle.linear.specs.Bits.{bit}
use Rattle.linear.specs.Flat.{entry}
use Rattle.rows.specs.State.{Unmet}
use Rattle.rows.proofs.Ends.{state_stepped}
use Rattle.rows.proofs.Lists.{none_rows}
use Rattle.rows.proofs.Verdict.{unmet_start, unmet_next, met_open, unmet_closed}
use Rattle.threshold.proofs.Search.{Told, told, is_here, not_here, Turn, turn, search_ended}
use Rattle.threshold.proofs.first_breaking.Goals as goal
use Rattle.threshold.proofs.first_breaking.Goals.{After-breaks, then-loop-k-test+then-is_target, else-loop-k-test}

pub loop-k-init : goal.loop-k-init
loop-k-init c =
    let s = c.args.scheme.shape in
    unmet_start c.new-f.result.m.p s.e (s.e - 1) s.d c.args.scheme.entries.now (bit c.chosen_rows-chosen.result)
    (omega (arith, c.args.scheme.valid.e_low)) (replicate 12 (replicate 27 0)) refl
    (λ lp j i. rw (none_rows 12 j i) (omega arith))

pub next_line-v-requires-clause-stepped : goal.next_line-v-requires-clause-stepped
next_line-v-requires-clause-stepped c = state_stepped _ _ _ _ _ _ _ c.new-f.result.prime c.loop-k.invariant.state

pub loop-k-preserved : goal.loop-k-preserved
loop-k-preserved c =
    let s = c.args.scheme.shape in
    let l = c.loop-k in
    unmet_next c.new-f.result.m.p s.e (s.e - 1) s.d c.args.scheme.entries.now (bit c.chosen_rows-chosen.result)
    (omega (arith, c.args.scheme.valid.e_low)) l.k l.lines l.table l.invariant c.next_line-v.result
    c.new-f.result.prime c.args.scheme.valid.e_high c.next_line-v.ensures c.store-lines.result c.store-lines.new.t
    (not_here c.is_target.ensures c.if-is_target.false) (c.store-lines.ensures.kept, c.store-lines.ensures.dropped)

-- What the inner loop found of the set, at whichever of its two ends.
of_rows : (c : After-breaks)
    → Told c.args.scheme.shape c.args.scheme.labels.now c.args.scheme.entries.now c.loop-set.set c.loop-k-test.opens
of_rows c =
    let a = c.args.scheme in
    let s = c.args.scheme.shape in
    let f = c.new-f.result in
    let l = c.loop-k in
    let chosen = bit c.chosen_rows-chosen.result in
    let q : s.e ≡ suc (s.e - 1) = omega (arith, a.valid.e_low) in
    told s a.labels.now a.entries.now c.loop-set.set c.chosen_rows-chosen.result a.valid.labels_length
    c.chosen_rows-chosen.ensures.bits c.loop-k-test.opens c.new-f.ensures.0
    (λ h. elim c.loop-k-test.branch [
      | then-loop-k-test+then-is_target w ↦ met_open f.m.p s.e (s.e - 1) s.d a.entries.now chosen q l.k l.lines l.table l.invariant
          w.next_line-v.result f.prime a.valid.e_high w.next_line-v.ensures (omega arith) (is_here w.is_target.ensures w.if-is_target.true)
      | else-loop-k-test w ↦ absurd (false≢true (sym w.opens-is ∙ h))
    ])
    (λ h. elim c.loop-k-test.branch [
      | then-loop-k-test+then-is_target w ↦ absurd (true≢false (sym w.opens-is ∙ h))
      | else-loop-k-test w ↦ unmet_closed f.m.p s.e (s.e - 1) s.d a.entries.now chosen q l.lines l.table
          (subst (λ (k : ℕ). Unmet f.m.p (s.e - 1) (entry s.e a.entries.now) chosen k l.lines l.table) (omega arith) l.invariant) f.prime
    ])

-- What the outer loop does with the set, at whichever end of its turn.
of_turn : (c : After-breaks)
    → Turn c.args.scheme.shape c.args.scheme.labels.now c.args.scheme.entries.now c.args.t c.loop-set.set c.breaks.result
of_turn c =
    let a = c.args.scheme in
    turn a.shape a.labels.now a.entries.now c.args.t c.loop-set.set (omega (arith, c.sets_end-set-end.ensures)) c.loop-set.invariant
    c.loop-k-test.opens c.breaks.result (of_rows c) c.breaks.ensures

pub loop-set-preserved : goal.loop-set-preserved
loop-set-preserved c = (of_turn (goal.at.loop-set-preserved c).After-breaks).on c.if-breaks.false

pub returns-then-breaks : goal.returns-then-breaks
returns-then-breaks c = (of_turn (goal.at.returns-then-breaks c).After-breaks).found c.if-breaks.true

pub returns-after-loop-set : goal.returns-after-loop-set
returns-after-loop-set c =
    let a = c.args.scheme in
    search_ended a.shape a.labels.now a.entries.now c.args.t c.loop-set.set (omega (arith, c.sets_end-set-end.ensures)) c.loop-set.invariant
