-- Elimination row by row, as the working table holds it: for each kept row a line with a vector that has 1 at its own pivot, 0 at the
-- pivots of the lines before it and 0 at every place before its pivot. No public contract cites this file.
-- Assumes nothing.
use Rattle.std.specs.Prelude.{◌≡◌, ℕ, ◌<◌}
use Rattle.algebra.specs.Ring.{Field}
use Rattle.algebra.specs.Sum.{sum}
use Rattle.linear.specs.Combination.{count}
use Rattle.linear.specs.Space.{Comb}
use Rattle.linear.proofs.Kept.{kept}

-- A line: the vector; the factors, negated, with which the lines before it were taken off; the inverse that scaled it; its pivot; the
-- number of the row of which it was made.
pub record Line (A : Type 0) : Type 0 where
  pub vec : ℕ → A
  pub fac : ℕ → A
  pub inv : A
  pub piv : ℕ
  pub src : ℕ

module _ {A : Type 0} (K : Field A) (n : ℕ) (w : ℕ → ℕ → A) where
  open K use {R}
  open R use {𝟘, 𝟙, ◌⊕◌, ◌⊗◌, neg}

  infixl 65 ◌⊕◌
  infixl 70 ◌⊗◌
  -- S 0 .. S (s - 1) are the lines of the first m rows, of which s are kept.
  pub record Basis (m s : ℕ) (S : ℕ → Line A) : Type 0 where
    pub inside : (j : ℕ) → j < s → (S j).piv < n
    pub one : (j : ℕ) → j < s → (S j).vec (S j).piv ≡ 𝟙
    pub low : (j : ℕ) → j < s → (l : ℕ) → l < j → (S j).vec (S l).piv ≡ 𝟘
    pub lead : (j : ℕ) → j < s → (i : ℕ) → i < (S j).piv → (S j).vec i ≡ 𝟘
    pub form : (j : ℕ) → j < s → (i : ℕ) → i < n → (S j).vec i ≡ (S j).inv ⊗ (w (S j).src i ⊕ sum R j (λ l. (S j).fac l ⊗ (S l).vec i))
    pub upto : (j : ℕ) → j < s → (S j).src < m
    pub rising : (j : ℕ) → j < s → (l : ℕ) → l < j → (S l).src < (S j).src
    pub fresh : (j : ℕ) → j < s → Comb K n w (S j).src (w (S j).src) → ⊥
    pub rows : (k : ℕ) → k < m → Comb K n (λ j. (S j).vec) s (w k)
    pub made : (j : ℕ) → j < s → Comb K n w m (S j).vec
    pub rank : count m (kept K n w) ≡ s

  -- t reduced by the s lines: g are the factors, x is what is left.
  pub record Reduced (s : ℕ) (S : ℕ → Line A) (t g x : ℕ → A) : Type 0 where
    pub facs : (j : ℕ) → j < s → g j ≡ neg (t (S j).piv ⊕ sum R j (λ l. g l ⊗ (S l).vec (S j).piv))
    pub left : (i : ℕ) → i < n → x i ≡ t i ⊕ sum R s (λ l. g l ⊗ (S l).vec i)
