-- A line of the working table as a list of 27 numbers, and what the functions on lines say of numbers. Places 0 to 11 are the vector,
-- 12 to 23 the factors, negated, with which the lines before it were taken off, 24 the inverse that scaled it, 25 its pivot, 26 the number
-- of the row of which it was made. No public contract cites this file.
-- Assumes nothing.
use Rattle.std.specs.Prelude.{◌≡◌, Bool, false, true, List, [], ℕ, ◌<◌, ◌≤◌, ◌+◌, ◌-◌, ◌*◌, ◌%◌, length, get_or}
use Rattle.linear.specs.Combination.{total}

-- For a modulus of 16 bits every number of a line, and of a table, has 16 bits: then a sum of products is exact in 64 bits.
abbrev pub Low : ℕ → List ℕ → Type 0
Low p v = p < 65536 → (i : ℕ) → get_or v i 0 < 65536

abbrev pub Lows : ℕ → List (List ℕ) → Type 0
Lows p t = p < 65536 → (j i : ℕ) → get_or (get_or t j []) i 0 < 65536

-- Place i of line j.
abbrev pub at : List (List ℕ) → ℕ → ℕ → ℕ
at t j i = get_or (get_or t j []) i 0

-- The pivots of the first s lines are places of a vector.
abbrev pub Pivots : List (List ℕ) → ℕ → Type 0
Pivots t s = (j : ℕ) → j < s → at t j 25 < 12

-- Modulo p, each of the first s lines has 1 at its own pivot and 0 at the pivots of the lines before it.
abbrev pub Stepped : ℕ → List (List ℕ) → ℕ → Type 0
Stepped p t s = (j : ℕ) → j < s → (at t j (at t j 25) % p ≡ 1) × ((l : ℕ) → j < l → l < s → at t l (at t j 25) % p ≡ 0)

-- A place marked in m is the pivot of one of the first s lines.
abbrev pub PivotMarks : List (List ℕ) → ℕ → List Bool → Type 0
PivotMarks t s m = (i : ℕ) → get_or m i false ≡ true → (j : ℕ) × (j < s) × (at t j 25 ≡ i)

-- The first s factors of v times place i of the first s lines.
abbrev pub col_sum : List ℕ → List (List ℕ) → ℕ → ℕ → ℕ
col_sum v t s i = total s (λ l. get_or v (12 + l) 0 * at t l i)

-- The first e places of v times those of line j.
abbrev pub row_sum : List ℕ → List (List ℕ) → ℕ → ℕ → ℕ
row_sum v t j e = total e (λ i. get_or v i 0 * at t j i)

-- By the factors of v, the first s lines leave nothing at their pivots.
abbrev pub Cleared : ℕ → List (List ℕ) → List ℕ → ℕ → Type 0
Cleared p t v s = (j : ℕ) → j < s → (get_or v (at t j 25) 0 + col_sum v t s (at t j 25)) % p ≡ 0

-- g is v with the first j factors, those that clear the pivots of the first j lines.
pub record Factored (p : ℕ) (t : List (List ℕ)) (v g : List ℕ) (j : ℕ) : Type 0 where
  pub len : length g ≡ 27
  pub low : Low p g
  pub vec : (i : ℕ) → i < 12 → get_or g i 0 ≡ get_or v i 0
  pub facs : (k : ℕ) → k < j → get_or g (12 + k) 0 ≡ p - (get_or v (at t k 25) 0 + col_sum g t k (at t k 25)) % p

-- x is g with its first e places changed to f.
pub record Changed (p e : ℕ) (f : ℕ → ℕ) (g x : List ℕ) : Type 0 where
  pub len : length x ≡ 27
  pub low : Low p x
  pub done : (i : ℕ) → i < e → get_or x i 0 ≡ f i
  pub rest : (i : ℕ) → e ≤ i → get_or x i 0 ≡ get_or g i 0

-- What the first s lines leave of w at place i, where v has the factors.
abbrev pub left : ℕ → ℕ → List (List ℕ) → (ℕ → ℕ) → List ℕ → ℕ → ℕ
left p s t w v i = (w i + col_sum v t s i) % p

-- v is the line that the first s lines of t make of row k, which is w: with the pivot e where nothing is left.
pub record Lined (p e k s : ℕ) (t : List (List ℕ)) (w : ℕ → ℕ) (v : List ℕ) : Type 0 where
  pub facs : (j : ℕ) → j < s → get_or v (12 + j) 0 ≡ p - (w (at t j 25) + col_sum v t j (at t j 25)) % p
  pub none : get_or v 25 0 ≡ e → (i : ℕ) → i < e → left p s t w v i ≡ 0
  pub some : get_or v 25 0 < e → (get_or v 24 0 * left p s t w v (get_or v 25 0) % p ≡ 1) × ((i : ℕ) → i < get_or v 25 0 → left p s t w v i ≡ 0)
      × ((i : ℕ) → i < e → get_or v i 0 ≡ get_or v 24 0 * left p s t w v i % p)
  pub src : get_or v 26 0 ≡ k
  pub inv : get_or v 24 0 < p

-- A list that can be stored as a line, with its pivot below e or, where nothing is left, at e.
pub record Shaped (p e : ℕ) (v : List ℕ) : Type 0 where
  pub len : length v ≡ 27
  pub low : Low p v
  pub piv : get_or v 25 0 ≤ e
