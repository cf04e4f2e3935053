-- What the steps of the product verdict leave. No public contract cites this file.
-- Assumes nothing.
use Rattle.std.specs.Prelude.{◌≡◌, List, ℕ, ◌<◌, ◌+◌, ◌-◌, ◌*◌, ◌%◌, length}
use Rattle.linear.specs.Flat.{place, entry}
use Rattle.linear.specs.Product.{pairs, products, product_rows_lem}

-- From place `at` on a holds number j of row k times itself and times each number after it; the places before are those of a₀.
pub record Multiples (p e k j at : ℕ) (entries a₀ a : List ℕ) : Type 0 where
  pub size : length a ≡ length a₀
  pub here : (i : ℕ) → i < e - j → place a (at + i) ≡ entry e entries k j * entry e entries k (j + i) % p
  pub before : (i : ℕ) → i < at → place a i ≡ place a₀ i

-- From place `at` on a holds the product row of row k.
pub record RowOfProducts (p e k at : ℕ) (entries a₀ a : List ℕ) : Type 0 where
  pub size : length a ≡ length a₀
  pub here : (i : ℕ) → i < pairs e → place a (at + i) ≡ products e (entry e entries k) i % p
  pub before : (i : ℕ) → i < at → place a i ≡ place a₀ i

-- a holds the product rows, one after another.
pub record RowsOfProducts (p d e : ℕ) (entries a₀ a : List ℕ) : Type 0 where
  pub size : length a ≡ length a₀
  pub rows : (k i : ℕ) → k < d → i < pairs e → entry (pairs e) a k i ≡ product_rows_lem p e (entry e entries) k i
