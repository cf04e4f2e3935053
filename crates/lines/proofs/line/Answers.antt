-- `lines::line` meets its contract: `lined_none` where nothing is left, `lined_some` with the pivot and its inverse else.
-- Assumes nothing.
use Rattle.std.proofs.Common.{sym, ◌∙◌}
use Rattle.lines.proofs.Laws.{rested_whole, lined_none, lined_some}
use Rattle.lines.proofs.Clear.{cleared}
use Rattle.lines.proofs.line.Goals as goal

pub rest-x-requires-clause-cleared : goal.rest-x-requires-clause-cleared
rest-x-requires-clause-cleared c = cleared c.args.f.m.positive c.requires.pivots c.requires.stepped c.factors-g.ensures

pub returns-in_default-clause-made : goal.returns-in_default-clause-made
returns-in_default-clause-made c = lined_none c.requires.e_bound.2 c.requires.e_bound.0 c.args.f.m.positive c.factors-g.ensures c.rest-x.ensures
    c.in_default.ensures (c.marked.ensures.marks, c.marked.ensures.same)

pub inverse-q-requires-clause-nonzero : goal.inverse-q-requires-clause-nonzero
inverse-q-requires-clause-nonzero c =
    let f = c.in-Some.ensures in
    λ z. f.2 (sym (rested_whole c.args.s c.args.t.now c.rest-x.ensures c.in-Some.c f.0) ∙ z)

pub returns-clause-made : goal.returns-clause-made
returns-clause-made c =
    let f = c.in-Some.ensures in
    let q = c.inverse-q in
    let h = c.requires.e_bound in
    lined_some c.in-Some.c q.result h.2 h.0 c.factors-g.ensures c.rest-x.ensures f.0 f.1 q.ensures c.scale.ensures
    (c.marked-2.ensures.marks, c.marked-2.ensures.same)
