-- Every modulus is prime: one test, computed over the whole table, and its lift to each entry. And a step along a list.
-- Assumes nothing.
use native.Mathlib.Numerals.{add-one}
use lib.ListN.{length, drop, get_or}
use lib.Seq.{drop-cons}
use mathlib.Core.Path.{◌≡◌, refl, subst}
use mathlib.Core.Bool.{Bool, true, false, ◌||◌, ◌&&◌, false≢true}
use mathlib.Core.List.{List, [], ◌∷◌}
use Prim.Native.Nat.{ℕ, ◌+◌, ◌-◌, ◌<◌, min}
use lib.Dec.{T, eqb}
use borrow.Author.Tests.{eqb-true}
use Rattle.residue.specs.Prime.{Prime}
use Rattle.residue.specs.Moduli.{moduli, is_in, is_modulus_lem}
use Rattle.residue.proofs.Prime.{is_prime, is_prime_sound, and_l, and_r}

-- A test of each entry.
abbrev pub all : (ℕ → Bool) → List ℕ → Bool
all f [] = true
all f (x ∷ xs) = f x && all f xs

-- What the test says of each entry it says of a number that is in the list.
pub all_lift : (f : ℕ → Bool) (x : ℕ) (xs : List ℕ) → T (all f xs) → is_in x xs ≡ true → T (f x)
unfolding is_in
all_lift f x [] t h = absurd (false≢true h)
all_lift f x (y ∷ ys) t h = go (eqb y x) refl (and_l (f y) (all f ys) t) (λ q. all_lift f x ys (and_r (f y) (all f ys) t) q) h
  where
    go : (c : Bool) → eqb y x ≡ c → T (f y) → (is_in x ys ≡ true → T (f x)) → (c || is_in x ys) ≡ true → T (f x)
    go true q t rest h = subst (λ (z : ℕ). T (f z)) (eqb-true y x q) t
    go false q t rest h = rest h

-- Divisors up to 65,535 are enough for every number of 32 bits, so a wider modulus costs an entry of the table and nothing here.
abbrev pub passes : ℕ → Bool
passes p = is_prime p (min (p - 2) 65534)

table_passes : T (all passes moduli)
table_passes = tt

pub modulus_prime : (p : ℕ) → is_modulus_lem p ≡ true → Prime p
modulus_prime p h = is_prime_sound p (min (p - 2) 65534) (all_lift passes p moduli table_passes h)

-- The list from i on is its entry at i and the list from i + 1 on.
pub drop_next : (xs : List ℕ) (i : ℕ) → i < length xs → drop i xs ≡ get_or xs i 0 ∷ drop (i + 1) xs
drop_next xs i h = rw (add-one, drop-cons xs i 0)
