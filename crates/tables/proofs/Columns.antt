-- The columns of a table as the rows of another: what a loop over the columns has done.
-- Assumes nothing.
use mathlib.Core.Path.{◌≡◌, ◌∙◌}
use mathlib.Core.List.{List}
use Prim.Native.Nat.{ℕ, ◌+◌, ◌*◌, ◌<◌, ◌≤◌}
use native.Mathlib.Numerals.{add-one}
use native.Mathlib.Omega.{arith}
use lib.ListN.{length}
use Rattle.algebra.proofs.Cases.{below_suc}
use Rattle.lists.proofs.Store.{row_fits}
use Rattle.linear.specs.Flat.{place, entry}

-- The first j columns are in their places.
pub record Turning (d e : ℕ) (table a₀ a : List ℕ) (j : ℕ) : Type 0 where
  pub upto : j ≤ e
  pub size : length a ≡ length a₀
  pub done : (i : ℕ) → i < j → (k : ℕ) → k < d → entry d a i k ≡ entry e table k i

module _ (d e : ℕ) (table a₀ : List ℕ) where
  pub turning_turn : (a b : List ℕ) (j : ℕ) → Turning d e table a₀ a j → j < e → length b ≡ length a
      → ((k : ℕ) → k < d → entry d b j k ≡ entry e table k j) → ((i : ℕ) → i < j * d → place b i ≡ place a i)
      → Turning d e table a₀ b (j + 1)
  turning_turn a b j h l s here old = record {
    upto = omega arith;
    size = s ∙ h.size;
    done = rw (add-one j) (below_suc (λ i. (k : ℕ) → k < d → entry d b i k ≡ entry e table k i) j
        (λ i li k lk. old (i * d + k) (omega (arith, row_fits i j d li)) ∙ h.done i li k lk)
        here);
  }
