-- `combination::seed` meets its contract: u is 0, or 0 but at the first place i where t is not 0, where it is the inverse of t.
-- Assumes nothing.
use Rattle.std.proofs.Common.{◌≡◌, ℕ, List, replicate, ap, ◌∙◌, rules}
use Rattle.linear.specs.Flat.{place}
use Rattle.lists.proofs.Store.{zeros_at}
use Rattle.combination.proofs.Steps.{seeded_no, seeded_yes}
use Rattle.combination.proofs.seed.Goals as goal

cleared : (u : List ℕ) (n i : ℕ) → u ≡ replicate n 0 → place u i ≡ 0
cleared u n i e = ap (λ l. place l i) e ∙ zeros_at n i

pub returns-in_default : goal.returns-in_default
returns-in_default c =
    seeded_no _ _ _ _ (search rules) (λ i. cleared _ _ i (c.fill.ensures.after (search rules))) c.in_default.ensures

pub returns : goal.returns
returns c =
    let f = c.in-Some.ensures in
    seeded_yes _ _ _ _ (search rules) (λ i. cleared _ _ i (c.fill.ensures.after (search rules))) _ _ f.0 c.inverse.ensures.0
