-- The definitions tried: digits, and whole numbers nearest to zero, half the modulus and modulus 2 among them.
-- Assumes nothing.
use mathlib.Core.Path.{◌≡◌, refl}
use mathlib.Core.List.{[], ◌∷◌}
use lib.IntN.{pos, negsuc}
use Rattle.digits.specs.Digits.{digits_in, decimal, nearest, whole_text}

-- `0`, `9`, `10` and `65521`
digits : (decimal 0 ≡ 48 ∷ []) × (decimal 9 ≡ 57 ∷ []) × (decimal 10 ≡ 49 ∷ 48 ∷ []) × (decimal 65521 ≡ 54 ∷ 53 ∷ 53 ∷ 50 ∷ 49 ∷ [])
unfolding decimal digits_in
digits = (refl, refl, refl, refl)

-- modulo 17: 8 and -8 (`negsuc 7`) stand beside each other
halves : (nearest 17 0 ≡ pos 0) × (nearest 17 8 ≡ pos 8) × (nearest 17 9 ≡ negsuc 7) × (nearest 17 16 ≡ negsuc 0)
halves = (refl, refl, refl, refl)

-- modulo 2: `1`, without a sign
at_two : whole_text (nearest 2 1) ≡ 49 ∷ []
unfolding whole_text decimal digits_in
at_two = refl

-- 11 modulo 17: `-6`
below_zero_lem : whole_text (nearest 17 11) ≡ 45 ∷ 54 ∷ []
unfolding whole_text decimal digits_in
below_zero_lem = refl
