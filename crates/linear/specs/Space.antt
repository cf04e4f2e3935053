-- Vectors over a field: combinations, the kept rule, and the two answers to the one question "is t a combination of these vectors?".
-- w k i is place i of vector k, each vector has n places. The same notions over plain numbers modulo p are in Combination and
-- Question: no contract cites this file, only proofs do.
-- Assumes nothing.
use Rattle.std.specs.Prelude.{◌≡◌, Bool, true, false, ◌↔◌, ℕ, ◌<◌}
use Rattle.algebra.specs.Ring.{Field}
use Rattle.algebra.specs.Sum.{sum, dot}

module _ {A : Type 0} (K : Field A) (n : ℕ) (w : ℕ → ℕ → A) where
  open K use {R}
  open R use {𝟘, 𝟙, ◌⊗◌}

  infixl 70 ◌⊗◌
  -- The first m vectors, weighted by c, add up to t.
  abbrev pub AddUp : ℕ → (ℕ → A) → (ℕ → A) → Type 0
  AddUp m c t = (i : ℕ) → i < n → sum R m (λ k. c k ⊗ w k i) ≡ t i

  -- t is a combination of the first m vectors.
  abbrev pub Comb : ℕ → (ℕ → A) → Type 0
  Comb m t = (c : ℕ → A) × AddUp m c t

  -- c is 0 at each of the first m vectors that is not kept.
  abbrev pub Only : (ℕ → Bool) → ℕ → (ℕ → A) → Type 0
  Only kept m c = (k : ℕ) → k < m → kept k ≡ false → c k ≡ 𝟘

  -- t is a combination of the kept ones of the first m vectors.
  abbrev pub CombOf : (ℕ → Bool) → ℕ → (ℕ → A) → Type 0
  CombOf kept m t = (c : ℕ → A) × Only kept m c × AddUp m c t

  -- Of the first m vectors those are kept that are not a combination of the ones kept before them.
  abbrev pub Keeps : (ℕ → Bool) → ℕ → Type 0
  Keeps kept m = (k : ℕ) → k < m → (kept k ≡ true) ↔ (CombOf kept k (w k) → ⊥)

  -- The coefficients of t: 0 at each vector that is not kept, and they give t.
  pub record Coeffs (m : ℕ) (t c : ℕ → A) : Type 0 where
    pub kept : ℕ → Bool
    pub keeps : Keeps kept m
    pub only : Only kept m c
    pub gives : AddUp m c t

  -- A functional that is 0 on each vector and 1 on t.
  pub record Separates (m : ℕ) (t y : ℕ → A) : Type 0 where
    pub kills : (k : ℕ) → k < m → dot R n y (w k) ≡ 𝟘
    pub one : dot R n y t ≡ 𝟙
