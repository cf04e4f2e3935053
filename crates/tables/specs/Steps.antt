-- What the steps of the question of all rows leave. No public contract cites this file.
-- Assumes nothing.
use Rattle.std.specs.Prelude.{◌≡◌, Bool, true, false, List, ◌∷◌, ℕ, suc, ◌<◌, ◌≤◌, ◌-◌, ◌%◌, length}
use Rattle.linear.specs.Flat.{place, entry}
use Rattle.linear.specs.Question.{Coefficients, NoCombination}
use Rattle.linear.specs.Rows.{target, Open, Witness}
use Rattle.linear.specs.Product.{every}

-- The first n numbers are negated modulo p, the others stay.
pub record Negated (p n : ℕ) (x₀ x : List ℕ) : Type 0 where
  pub size : length x ≡ length x₀
  pub at : (i : ℕ) → i < n → place x i ≡ p - place x₀ i % p
  pub after : (i : ℕ) → n ≤ i → place x i ≡ place x₀ i

-- x is the target, n numbers long.
pub record Aimed (n : ℕ) (x : List ℕ) : Type 0 where
  pub len : length x ≡ n
  pub at : (j : ℕ) → j < n → place x j ≡ target j

-- Whether the first of e rows of d numbers is a combination of the others, and then with which coefficients.
pub record OthersGive (p d e : ℕ) (rows : List ℕ) (r : Bool) (c : List ℕ) : Type 0 where
  pub yes : r ≡ true → Coefficients p d (λ j. entry d rows (suc j)) (e - 1) (place rows) (place c)
  pub no : r ≡ false → NoCombination p d (λ j. entry d rows (suc j)) (e - 1) (place rows)

-- Whether the rows of a table of d rows of e numbers are closed, and then with which witness.
pub record Closing (p d e : ℕ) (table : List ℕ) (r : Bool) (c : List ℕ) : Type 0 where
  pub yes : r ≡ true → Witness p d e (entry e table) every (place (1 ∷ c))
  pub no : r ≡ false → Open p d e (entry e table) every
