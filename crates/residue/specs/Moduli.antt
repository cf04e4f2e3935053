-- Document 01, "A scheme": "The modulus is one of these sixteen primes". That each is prime is `modulus_prime` of proofs/Moduli.antt.
-- Assumes nothing.
use Rattle.std.specs.Prelude.{Bool, false, ◌||◌, List, [], ◌∷◌, ℕ, eqb}

abbrev pub moduli : List ℕ
moduli = 2 ∷ 3 ∷ 5 ∷ 7 ∷ 11 ∷ 13 ∷ 17 ∷ 19 ∷ 23 ∷ 29 ∷ 31 ∷ 127 ∷ 251 ∷ 257 ∷ 8191 ∷ 65521 ∷ []

-- x is one of the list.
unfoldable pub is_in : ℕ → List ℕ → Bool
is_in x [] = false
is_in x (y ∷ ys) = eqb y x || is_in x ys

-- p is a modulus.
abbrev pub is_modulus_lem : ℕ → Bool
is_modulus_lem p = is_in p moduli
