-- Finite sums over a ring. A vector is a function from places to elements; how many places count is said beside it.
-- Assumes nothing.
use Rattle.std.specs.Prelude.{ℕ, zero, suc}
use Rattle.algebra.specs.Ring.{Ring}

module _ {A : Type 0} (R : Ring A) where
  open R use {𝟘, ◌⊕◌, ◌⊗◌}

  infixl 65 ◌⊕◌
  infixl 70 ◌⊗◌
  -- f 0 + f 1 + .. + f (n - 1)
  abbrev pub sum : ℕ → (ℕ → A) → A
  sum zero f = 𝟘
  sum (suc n) f = sum n f ⊕ f n

  -- x times y: the products of the first n places, added up
  abbrev pub dot : ℕ → (ℕ → A) → (ℕ → A) → A
  dot n x y = sum n (λ i. x i ⊗ y i)
