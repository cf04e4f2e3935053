-- The product verdict asked of single pairs of columns, for d rows of e numbers modulo p: E k j is the number in row k and column j, both
-- counted from 0.
-- Assumes nothing.
use Rattle.std.specs.Prelude.{◌≡◌, ℕ, ◌<◌, ◌≤◌, ◌*◌, ◌%◌}
use Rattle.linear.specs.Combination.{total}
use Rattle.linear.specs.Rows.{target}

-- Weighted by r, the rows' products of columns j and l add up to 1 where both are the first column, and to 0 for any other pair.
abbrev pub Weighs : (p d e : ℕ) → (ℕ → ℕ → ℕ) → (ℕ → ℕ) → Type 0
Weighs p d e E r = (j l : ℕ) → j ≤ l → l < e → total d (λ k. r k * (E k j * E k l)) % p ≡ target j * target l % p
