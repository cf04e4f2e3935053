-- Document 01, "The sheet": numbers as texts of bytes.
-- Assumes nothing.
use Rattle.std.specs.Prelude.{cond, List, [], ◌∷◌, ◌++◌, ℕ, zero, suc, ◌+◌, ◌*◌, ◌/◌, ◌%◌, leb, ltb, ℤ, pos, negsuc, ◌-ℤ◌}

-- The decimal digits of n, the most significant first, in so many steps; more steps than n are enough. Digit 0 is byte 48.
unfoldable pub digits_in : ℕ → ℕ → List ℕ
digits_in zero n = []
digits_in (suc steps) n = cond (ltb n 10) ((48 + n) ∷ []) (digits_in steps (n / 10) ++ ((48 + n % 10) ∷ []))

unfoldable pub decimal : ℕ → List ℕ
decimal n = digits_in (suc n) n

-- "the whole number nearest to zero (v when twice v is at most p, else v - p)"
abbrev pub nearest : ℕ → ℕ → ℤ
nearest p v = cond (leb (2 * v) p) (pos v) (pos v -ℤ pos p)

-- A whole number: below zero a minus sign, byte 45, before the digits.
unfoldable pub whole_text : ℤ → List ℕ
whole_text (pos n) = decimal n
whole_text (negsuc n) = 45 ∷ decimal (suc n)
