-- `try_rows::fill` meets its contract: each entry is a remainder when it is stored.
-- Assumes nothing.
use Rattle.std.proofs.Common.{ℕ, ◌<◌, get_or}
use Rattle.try_rows.proofs.fill.Given as goal

abbrev pub invariant-loop-i : goal.invariant-loop-i
invariant-loop-i l = (k : ℕ) → k < l.i → get_or l.m k 0 < l.modulus.p
