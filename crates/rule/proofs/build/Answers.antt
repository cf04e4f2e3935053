-- `rule::build` meets its contract: what `write` requires, from what is not refused.
-- Assumes nothing.
use Rattle.std.proofs.Common.{sym, ◌∙◌, length, arith}
use Rattle.rule.proofs.Says.{front_parts}
use Rattle.rule.proofs.build.Goals as goal

pub write-requires-clause-le_p : goal.write-requires-clause-le_p
write-requires-clause-le_p c =
    let a = c.args in
    let f = front_parts a.p a.n (length a.labels.now) (length a.entries.now) (sym c.front_refusal.ensures ∙ c.in_ok-front_refusal.was) in
    let l = f.prime.two in
    (omega arith, omega arith, omega arith, f.label_places, f.entry_places)
