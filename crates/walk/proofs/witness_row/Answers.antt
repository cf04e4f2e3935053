-- `walk::witness_row` meets its contract: what the lines' vector in the document's order is, for every choice that has these lines.
-- Assumes nothing.
use Rattle.std.proofs.Common.{ℕ, ◌-◌, arith, replicate, get_or, refl, ap, ◌∙◌}
use Rattle.walk.proofs.Marks.{part_length, part_whole, kills_row}
use Rattle.walk.proofs.witness_row.Goals as goal

pub returns : goal.returns
returns c =
    let a = c.args in
    let y = c.killing-y in
    let u = c.unload in
    let n = u.ensures.first.0 ∙ part_length a.e (replicate 32 0) refl (omega arith) in
    kills_row a.f.m.p a.e a.lines a.t.now y.result u.new.z _ a.f.prime (omega arith) y.ensures.small.0 y.ensures.small.1 y.ensures.kills n
    (part_whole a.e (replicate 32 0) u.new.z refl (omega arith) n)
    (u.ensures.first.1 ∙ ap (λ (n : ℕ). get_or y.result (n - 1) 0) (part_length a.e (replicate 32 0) refl (omega arith)))
    (λ i li. u.ensures.others i (omega arith))
