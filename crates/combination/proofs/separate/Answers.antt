-- `combination::separate` meets its contract: what `seed` makes is 1 at t, and `up` keeps that. Assumes nothing.
use Rattle.combination.proofs.Steps.{separated_no}
use Rattle.combination.proofs.separate.Goals as goal

pub returns-else-seed : goal.returns-else-seed
returns-else-seed c = separated_no _ _ _ _ _ _ _ _ c.seed.ensures c.if-seed.false
