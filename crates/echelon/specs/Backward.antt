-- The two backward solutions over the lines of a table: the weights of a target, and the vector that each row kills. No public contract
-- cites this file.
-- Assumes nothing.
use Rattle.std.specs.Prelude.{◌≡◌, ℕ, ◌<◌, ◌≤◌}
use Rattle.algebra.specs.Ring.{Field}
use Rattle.algebra.specs.Sum.{sum, dot}
use Rattle.linear.proofs.Solve.{Canon}
use Rattle.echelon.specs.Basis.{Line}

module _ {A : Type 0} (K : Field A) (n : ℕ) (w : ℕ → ℕ → A) (s : ℕ) (S : ℕ → Line A) where
  open K use {R}
  open R use {𝟘, 𝟙, ◌⊕◌, ◌⊗◌}

  infixl 65 ◌⊕◌
  infixl 70 ◌⊗◌
  -- t as weights of the d rows, solved from the last line to line j: r are the weights so far, a the same by the lines' numbers, h is
  -- what t asks of each line.
  pub record Solving (d : ℕ) (t h : ℕ → A) (j : ℕ) (a r : ℕ → A) : Type 0 where
    pub sums : (i : ℕ) → i < n → t i ≡ sum R d (λ k. r k ⊗ w k i) ⊕ sum R j (λ l. (h l ⊕ sum R s (λ c. a c ⊗ (S c).fac l)) ⊗ (S l).vec i)
    pub canon : Canon K n w d r
    pub todo : (l : ℕ) → l < j → (r (S l).src ≡ 𝟘) × (a l ≡ 𝟘)

  -- The vector that each row kills, solved from the last line to line j: 1 at place `last`, 0 before it outside the pivots.
  pub record Killing (last j : ℕ) (z : ℕ → A) : Type 0 where
    pub kills : (l : ℕ) → j ≤ l → l < s → dot R n z (S l).vec ≡ 𝟘
    pub one : z last ≡ 𝟙
    pub rest : (i : ℕ) → i < last → ((l : ℕ) → j ≤ l → l < s → (S l).piv ≡ i → ⊥) → z i ≡ 𝟘
