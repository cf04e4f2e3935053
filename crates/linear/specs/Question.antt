-- The one question over numbers modulo p: is t a combination of the first m of the vectors N? For a prime p exactly one of Coefficients
-- and NoCombination holds, and the coefficients are unique: proofs/Numbers.antt.
-- Assumes nothing.
use Rattle.std.specs.Prelude.{◌≡◌, Bool, false, ℕ, ◌<◌, ◌*◌, ◌%◌}
use Rattle.linear.specs.Combination.{total, AddUpTo, Combination, KeptRule}

module _ (p n : ℕ) (N : ℕ → ℕ → ℕ) (m : ℕ) (t : ℕ → ℕ) where
  -- Yes, with the coefficients c: numbers below p, 0 at each vector that is not kept, and the vectors weighted by them add up to t.
  pub record Coefficients (c : ℕ → ℕ) : Type 0 where
    pub kept : ℕ → Bool
    pub rule : KeptRule p n N kept m
    pub below : (k : ℕ) → k < m → c k < p
    pub only : (k : ℕ) → k < m → kept k ≡ false → c k ≡ 0
    pub gives : AddUpTo p n N m c t

  -- No: no weights of the vectors give t.
  pub record NoCombination : Type 0 where
    pub none : Combination p n N m t → ⊥

  -- What shows that there are none: a functional that is 0 on each vector and 1 on t.
  pub record Functional (y : ℕ → ℕ) : Type 0 where
    pub kills : (k : ℕ) → k < m → total n (λ i. y i * N k i) % p ≡ 0
    pub one : total n (λ i. y i * t i) % p ≡ 1
