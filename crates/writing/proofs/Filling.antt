-- Places that are filled part by part: the front of a block and its check, the blocks of a file.
-- Assumes nothing.
use mathlib.Core.Path.{◌≡◌, sym, ap, ◌∙◌}
use mathlib.Core.List.{List}
use mathlib.Core.Logic.{⊎_elim}
use Prim.Native.Nat.{ℕ, ◌<◌, ◌≤◌, ◌+◌, ◌-◌}
use native.Mathlib.Omega.{arith}
use lib.ListN.{get_or}
use Rattle.algebra.proofs.Cases.{lt_or_ge}
use Rattle.lists.proofs.Fill.{Filled}

-- The first i places hold f; then the next m are filled, with f too.
pub fill_more : (at n : ℕ) (f : ℕ → ℕ) (a₀ a a' : List ℕ) (i j m : ℕ) (g : ℕ → ℕ)
    → Filled at n f a₀ a i → Filled j m g a a' m → j ≡ at + i → i + m ≤ n → ((k : ℕ) → k < m → g k ≡ f (i + k)) → Filled at n f a₀ a' (i + m)
fill_more at n f a₀ a a' i j m g h next q l same = record {
  upto = l;
  size = next.size ∙ h.size;
  done = λ k lk. ⊎_elim
      (λ (u : k < i). next.before (at + k) (omega arith) ∙ h.done k u)
      (λ (u : i ≤ k). there k (k - i) (omega arith) (omega arith))
      (lt_or_ge k i);
  before = λ k lk. next.before k (omega arith) ∙ h.before k lk;
  after = λ k lk. next.after k (omega arith) ∙ h.after k (omega arith);
}
  where
    there : (k t : ℕ) → k ≡ i + t → t < m → get_or a' (at + k) 0 ≡ f k
    there k t e lt =
        let p : at + k ≡ j + t = omega arith in
        ap (λ (x : ℕ). get_or a' x 0) p ∙ next.done t lt ∙ same t lt ∙ ap f (sym e)

-- The same places, of which more are to be filled.
pub fill_wider : (at n m : ℕ) (f g : ℕ → ℕ) (a₀ a : List ℕ) (i : ℕ) → Filled at n f a₀ a i → n ≤ m
    → ((k : ℕ) → k < n → f k ≡ g k) → Filled at m g a₀ a i
fill_wider at n m f g a₀ a i h l same = record {
  upto = omega (arith, h.upto);
  size = h.size;
  done = λ k lk. h.done k lk ∙ same k (omega (arith, h.upto));
  before = h.before;
  after = h.after;
}
