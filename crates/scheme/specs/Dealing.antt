-- Document 01, "Dealing" and "Joining".
-- Assumes nothing.
use Rattle.std.specs.Prelude.{◌≡◌, true, List, ◌∷◌, ℕ, ◌<◌, ◌*◌, ◌%◌}
use Rattle.linear.specs.Combination.{total}
use Rattle.linear.specs.Flat.{place, entry, list_of}
use Rattle.scheme.specs.declared.Shape.{Shape}
use Rattle.scheme.specs.Sets.{of_set}

-- "Share i is row i times b, modulo p." Row k, counted from 0.
abbrev pub share_of : Shape → List ℕ → (ℕ → ℕ) → ℕ → ℕ
share_of s entries b k = total s.e (λ j. entry s.e entries k j * b j) % s.p

-- "From a secret s and e - 1 random numbers the list b is s followed by them."
abbrev pub list_b : ℕ → List ℕ → List ℕ
list_b secret randoms = secret ∷ randoms

-- The d shares of a dealing.
unfoldable pub shares_of : Shape → List ℕ → ℕ → List ℕ → List ℕ
shares_of s entries secret randoms = list_of s.d (share_of s entries (place (list_b secret randoms)))

-- Some list b gives these shares at the set's rows.
abbrev pub Fits : Shape → List ℕ → List ℕ → ℕ → List ℕ → Type 0
Fits s labels entries set shares = (b : ℕ → ℕ) × ((k : ℕ) → k < s.d → of_set set labels k ≡ true → share_of s entries b k ≡ place shares k)

-- "the sum of r times shares", modulo p.
abbrev pub joined : Shape → List ℕ → (ℕ → ℕ) → ℕ
joined s shares r = total s.d (λ k. r k * place shares k) % s.p
