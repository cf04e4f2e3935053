-- What the inner steps of writing leave. No public contract cites this file.
-- Assumes nothing.
use Rattle.std.specs.Prelude.{ℕ, ◌+◌, ◌*◌}
use Rattle.linear.specs.Combination.{total}

-- The first n of the bytes f, each times its place counted from 1, added up: at 508 a block's check.
unfoldable pub weight_of : ℕ → (ℕ → ℕ) → ℕ
weight_of n f = total n (λ o. f o * (o + 1))
