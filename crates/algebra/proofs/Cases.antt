-- Case distinctions on numbers that proofs everywhere make.
-- Assumes nothing.
use mathlib.Core.Path.{◌≡◌, refl, subst⁻¹}
use mathlib.Core.Bool.{Bool, true, false}
use mathlib.Core.Logic.{◌⊎◌, inl, inr, ⊎_elim}
use Prim.Native.Nat.{ℕ, suc, ◌≤◌, ◌<◌}
use native.Mathlib.Nat.{eq-or-lt_of_le, le_of_suc-le-suc}
use native.Mathlib.Omega.{arith}
use lib.Dec.{ltb, eqb}
use borrow.Author.Tests.{ltb-true, ltb-false, eqb-true, eqb-false}

pub lt_or_ge : (a b : ℕ) → (a < b) ⊎ (b ≤ a)
lt_or_ge a b = go (ltb a b) refl
  where
    go : (x : Bool) → ltb a b ≡ x → (a < b) ⊎ (b ≤ a)
    go true q = inl (ltb-true a b q)
    go false q = inr (ltb-false a b q)

pub same? : (a b : ℕ) → (a ≡ b) ⊎ (a ≡ b → ⊥)
same? a b = go (eqb a b) refl
  where
    go : (x : Bool) → eqb a b ≡ x → (a ≡ b) ⊎ (a ≡ b → ⊥)
    go true q = inl (eqb-true a b q)
    go false q = inr (eqb-false a b q)

pub apart : (a b : ℕ) → (a ≡ b → ⊥) → (a < b) ⊎ (b < a)
apart a b h = ⊎_elim (λ l. inl l) (λ l. inr (omega arith)) (lt_or_ge a b)

-- What holds below m and at m holds below m + 1.
pub below_suc : (P : ℕ → Type 0) (m : ℕ) → ((k : ℕ) → k < m → P k) → P m → (k : ℕ) → k < suc m → P k
below_suc P m h e k l = ⊎_elim (λ q. subst⁻¹ P q e) (h k) (eq-or-lt_of_le (le_of_suc-le-suc l))
