-- One store, place by place; places past the end; a row of a table within it.
-- Assumes nothing.
use mathlib.Core.Path.{◌≡◌, refl, subst⁻¹}
use mathlib.Core.List.{List, [], ◌∷◌}
use mathlib.Core.Logic.{⊎_elim}
use Prim.Native.Nat.{ℕ, zero, suc, ◌+◌, ◌*◌, ◌<◌, ◌≤◌}
use native.Mathlib.Nat.{mul-le-mul, le_refl, le_of_suc-le-suc, not-suc-le-zero}
use native.Mathlib.Omega.{arith}
use lib.ListN.{length, get_or, set, replicate}
use lib.Seq.{get_or-set_same, get_or-set_other}
use Rattle.algebra.proofs.Cases.{same?}

-- What holds of the number stored and of each other place holds of every place.
pub set_at : (v : List ℕ) (i x k : ℕ) (P : ℕ → Type 0) → i < length v → P x → ((k ≡ i → ⊥) → P (get_or v k 0)) → P (get_or (set v i x) k 0)
set_at v i x k P l px pv = ⊎_elim
    (λ (q : k ≡ i). subst⁻¹ (λ (k : ℕ). P (get_or (set v i x) k 0)) q (subst⁻¹ P (get_or-set_same v i x 0 l) px))
    (λ ne. subst⁻¹ P (get_or-set_other v i k x 0 ne) (pv ne))
    (same? k i)

pub below_set : (b : ℕ) (v : List ℕ) (i x : ℕ) → i < length v → x < b → ((k : ℕ) → get_or v k 0 < b) → (k : ℕ) → get_or (set v i x) k 0 < b
below_set b v i x l h lo k = set_at v i x k (λ y. y < b) l h (λ ne. lo k)

pub past : (v : List ℕ) (i : ℕ) → length v ≤ i → get_or v i 0 ≡ 0
past [] i l = refl
past (x ∷ v) zero l = absurd (not-suc-le-zero l)
past (x ∷ v) (suc i) l = past v i (le_of_suc-le-suc l)

pub zeros_at : (n i : ℕ) → ◌≡◌ {A = ℕ} (get_or (replicate n 0) i 0) 0
zeros_at zero i = refl
zeros_at (suc n) zero = refl
zeros_at (suc n) (suc i) = zeros_at n i

-- Row k of m rows of n places lies within their table.
pub row_fits : (k m n : ℕ) → k < m → k * n + n ≤ m * n
row_fits k m n l = let h : (k + 1) * n ≤ m * n = mul-le-mul {n₁ = k + 1} {m₁ = n} {n₂ = m} {m₂ = n} (omega arith) (le_refl n) in omega arith
