-- Document 01, "Product verdict", for d rows of e numbers modulo p: E k j is the number in row k and column j, both counted from 0.
-- Assumes nothing.
use Rattle.std.specs.Prelude.{◌≡◌, Bool, true, cond, ℕ, zero, suc, ◌+◌, ◌-◌, ◌*◌, ◌/◌, ◌%◌, ltb}
use Rattle.linear.specs.Combination.{total}

module _ (p d e : ℕ) (E : ℕ → ℕ → ℕ) where
  -- "for any two lists b and c, the sum over rows of r times (row times b) times (row times c) equal to b's first number times c's first",
  -- modulo p. Of b and c only the first e numbers count, of r only the first d.
  abbrev pub Multiplies : (ℕ → ℕ) → Type 0
  Multiplies r = (b c : ℕ → ℕ) → total d (λ k. r k * (total e (λ j. E k j * b j) * total e (λ j. E k j * c j))) % p ≡ (b 0 * c 0) % p

  -- "Yes when some r of length d has" this. Its numbers need not be below p; those handed out are.
  abbrev pub HasProduct : Type 0
  HasProduct = (r : ℕ → ℕ) × Multiplies r

-- How many pairs j up to k there are, both from 1 to e: "e(e + 1)/2".
abbrev pub pairs : ℕ → ℕ
pairs e = (e * (e + 1)) / 2

-- "entry j times entry k for j up to k, in the order 1-1, 1-2, .., 1-e, 2-2, and so on", for a row x of e numbers, at place i counted from
-- 0: first the first number times each, then the products of the numbers after the first; past the last pair 0.
unfoldable pub products : ℕ → (ℕ → ℕ) → ℕ → ℕ
products zero x i = 0
products (suc f) x i = cond (ltb i (suc f)) (x 0 * x i) (products f (λ j. x (suc j)) (i - suc f))

-- "Make the product rows": that of row k, modulo p.
abbrev pub product_rows_lem : ℕ → ℕ → (ℕ → ℕ → ℕ) → ℕ → ℕ → ℕ
product_rows_lem p e E k i = products e (E k) i % p

-- "with all rows in the set"
abbrev pub every : ℕ → Bool
every k = true
