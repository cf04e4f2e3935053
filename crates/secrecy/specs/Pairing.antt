-- The pairing of demand 3: "the witness handed out, without its first number, times (second code - first), added to the random list modulo
-- p".
-- Assumes nothing.
use Rattle.std.specs.Prelude.{◌≡◌, List, ℕ, suc, ◌<◌, ◌+◌, ◌-◌, ◌*◌, ◌%◌, length, get_or}
use Rattle.linear.specs.Flat.{place, list_of}

-- A random list for e columns: e - 1 numbers below p.
pub record RandomList (p e : ℕ) (xs : List ℕ) : Type 0 where
  pub len : suc (length xs) ≡ e
  pub below : (j : ℕ) → j < length xs → get_or xs j 0 < p

-- second - first, modulo p.
abbrev pub minus : ℕ → ℕ → ℕ → ℕ
minus p second first = (second + (p - first)) % p

-- Place j of the partner, for the second code, of the random list xs for the first: z without its first number, times (second - first),
-- added.
abbrev pub partner_at : ℕ → (ℕ → ℕ) → ℕ → ℕ → List ℕ → ℕ → ℕ
partner_at p z first second xs j = (place xs j + z (suc j) * minus p second first) % p

-- The partner of xs.
unfoldable pub partner : ℕ → (ℕ → ℕ) → ℕ → ℕ → List ℕ → List ℕ
partner p z first second xs = list_of (length xs) (partner_at p z first second xs)
