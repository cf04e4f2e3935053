-- Lists of a vector's numbers: a list that a loop has filled is one, and the places after the first.
-- Assumes nothing.
use mathlib.Core.Path.{◌≡◌, refl, sym, ap, ◌∙◌}
use mathlib.Core.List.{List, ◌∷◌}
use Prim.Native.Nat.{ℕ, zero, suc, ◌-◌, ◌<◌, ◌≤◌}
use native.Mathlib.Nat.{le_of_suc-le-suc, not-suc-le-zero}
use native.Mathlib.Omega.{arith}
use lib.ListN.{length, get_or}
use lib.Seq.{ext_get_or}
use Rattle.linear.specs.Flat.{place, list_of}
use Rattle.lists.proofs.Fill.{Filled, filled}

pub list_length : (n : ℕ) (f : ℕ → ℕ) → length (list_of n f) ≡ n
list_length zero f = refl
list_length (suc n) f = ap suc (list_length n (λ i. f (suc i)))

pub list_at : (n : ℕ) (f : ℕ → ℕ) (i : ℕ) → i < n → get_or (list_of n f) i 0 ≡ f i
list_at zero f i l = absurd (not-suc-le-zero l)
list_at (suc n) f zero l = refl
list_at (suc n) f (suc i) l = list_at n (λ i. f (suc i)) i (le_of_suc-le-suc l)

-- A list of n numbers that is filled with f is the list of f.
pub filled_list : (n : ℕ) (f : ℕ → ℕ) (x₀ x : List ℕ) (i : ℕ) → Filled 0 n f x₀ x i → n ≤ i → length x₀ ≡ n → x ≡ list_of n f
filled_list n f x₀ x i h l q = ext_get_or 0 x (list_of n f)
    (h.size ∙ q ∙ sym (list_length n f))
    (λ k lk. let lk' : k < n = omega (arith, h.size) in filled n f x₀ x i h l k lk' ∙ sym (list_at n f k lk'))

-- A place after the first is one of the rest.
pub place_rest : (x : ℕ) (xs : List ℕ) (j : ℕ) → 1 ≤ j → place (x ∷ xs) j ≡ place xs (j - 1)
place_rest x xs zero l = absurd (not-suc-le-zero l)
place_rest x xs (suc j) l = let e : j ≡ suc j - 1 = omega arith in ap (place xs) e
