-- Lists of numbers as vectors: one vector, and a table of vectors of n places each, one after another.
-- Assumes nothing.
use Rattle.std.specs.Prelude.{List, [], ◌∷◌, ℕ, zero, suc, ◌+◌, ◌*◌, get_or}

-- Place i of a list, counted from 0; past the end 0.
abbrev pub place : List ℕ → ℕ → ℕ
place l i = get_or l i 0

-- Place i of vector k, for i below n.
abbrev pub entry : ℕ → List ℕ → ℕ → ℕ → ℕ
entry n l k i = get_or l (k * n + i) 0

-- The list of the first n numbers of a vector.
abbrev pub list_of : ℕ → (ℕ → ℕ) → List ℕ
list_of zero f = []
list_of (suc n) f = f zero ∷ list_of n (λ i. f (suc i))
