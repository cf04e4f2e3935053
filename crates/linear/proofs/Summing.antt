-- A loop that adds n numbers up modulo p. It may start at any turn, with the sum of the numbers before it.
-- Assumes nothing.
use mathlib.Core.Path.{◌≡◌, sym, ap, ◌∙◌}
use Prim.Native.Nat.{ℕ, ◌+◌, ◌%◌, ◌<◌, ◌≤◌}
use native.Mathlib.Nat.{mod-add-mod, zero-mod}
use native.Mathlib.Numerals.{add-one}
use native.Mathlib.Omega.{arith}
use Rattle.linear.specs.Combination.{total}

-- The first i of n numbers f are added up.
pub record Summing (p n : ℕ) (f : ℕ → ℕ) (sum i : ℕ) : Type 0 where
  pub upto : i ≤ n
  pub below : sum < p
  pub is : sum ≡ total i f % p

module _ (p n : ℕ) (f : ℕ → ℕ) where
  pub sum_start : 0 < p → Summing p n f 0 0
  sum_start l = record { upto = omega arith; below = l; is = sym (zero-mod p) }

  pub sum_from : (sum i : ℕ) → i ≤ n → sum ≡ total i f % p → sum < p → Summing p n f sum i
  sum_from sum i l e b = record { upto = l; below = b; is = e }

  pub sum_turn : (sum i r : ℕ) → Summing p n f sum i → i < n → r ≡ (sum + f i) % p → r < p → Summing p n f r (i + 1)
  sum_turn sum i r h l e b = record {
    upto = omega arith;
    below = b;
    is = rw (add-one i) (e ∙ ap (λ (x : ℕ). (x + f i) % p) h.is ∙ mod-add-mod (total i f) p (f i));
  }

  pub sum_end : (sum i : ℕ) → Summing p n f sum i → n ≤ i → sum ≡ total n f % p
  sum_end sum i h l = let e : i ≡ n = omega (arith, h.upto) in h.is ∙ ap (λ (x : ℕ). total x f % p) e
