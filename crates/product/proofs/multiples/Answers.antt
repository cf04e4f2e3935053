-- `product::multiples` meets its contract: the loop fills the places from `at` on.
-- Assumes nothing.
use Rattle.std.proofs.Common.{ℕ, arith, rules, subst, ◌∙◌}
use Rattle.std.proofs.lemmas.Grind.{common_steps}
use Rattle.lists.proofs.Fill.{fill_turn}
use Rattle.product.specs.Steps.{Multiples}
use Rattle.product.proofs.multiples.Goals as goal

pub returns : goal.returns
returns c =
    let a = c.args in
    let s = a.scheme.shape in
    subst (λ (p : ℕ). Multiples p s.e a.k a.j a.at a.scheme.entries.now a.a.now c.loop-i.a) c.new-m.ensures.0
    (record {
      size = c.loop-i.invariant.size;
      here = λ i l. c.loop-i.invariant.done i (omega arith);
      before = c.loop-i.invariant.before;
    })

pub loop-i-preserved : goal.loop-i-preserved
loop-i-preserved c =
    fill_turn _ _ _ _ _ _ _ _ c.loop-i.invariant (search rules) (search rules) (search rules) (c.mul.ensures.0 ∙ grind (arith, common_steps))
