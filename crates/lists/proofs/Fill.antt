-- A loop that fills n places of a list with given numbers, from place `at` on: what is done, and what still stands.
-- Assumes nothing.
use mathlib.Core.Path.{◌≡◌, refl, sym, ap, subst, ◌∙◌}
use mathlib.Core.List.{List}
use Prim.Native.Nat.{ℕ, ◌+◌, ◌<◌, ◌≤◌}
use native.Mathlib.Nat.{zero-add, le_antisymm}
use native.Mathlib.Numerals.{add-one}
use native.Mathlib.Omega.{arith}
use lib.ListN.{length, get_or, set, length-set}
use lib.Seq.{get_or-set_same, get_or-set_other}
use borrow.Rule.Slice.PartMut.{put_mid}
use Rattle.std.proofs.lemmas.Grind.{common_steps}
use Rattle.algebra.proofs.Cases.{below_suc}

-- The first i of the n places from `at` on hold f, all other places what they held before.
pub record Filled (at n : ℕ) (f : ℕ → ℕ) (a₀ a : List ℕ) (i : ℕ) : Type 0 where
  pub upto : i ≤ n
  pub size : length a ≡ length a₀
  pub done : (k : ℕ) → k < i → get_or a (at + k) 0 ≡ f k
  pub before : (j : ℕ) → j < at → get_or a j 0 ≡ get_or a₀ j 0
  pub after : (j : ℕ) → at + i ≤ j → get_or a j 0 ≡ get_or a₀ j 0

module _ (at n : ℕ) (f : ℕ → ℕ) (a₀ : List ℕ) where
  pub fill_start : Filled at n f a₀ a₀ 0
  fill_start = record { upto = omega arith; size = refl; done = λ k l. absurd (omega arith); before = λ j l. refl; after = λ j l. refl }

  -- f i is stored at place j = at + i.
  pub fill_turn : (a : List ℕ) (i j x : ℕ) → Filled at n f a₀ a i → i < n → at + n ≤ length a₀ → j ≡ at + i → x ≡ f i
      → Filled at n f a₀ (set a j x) (i + 1)
  fill_turn a i j x h l fits q e = record {
    upto = omega arith;
    size = length-set a j x ∙ h.size;
    done = rw (add-one i) (below_suc (λ k. get_or (set a j x) (at + k) 0 ≡ f k) i
        (λ k lk. get_or-set_other a j (at + k) x 0 (λ r. omega arith) ∙ h.done k lk)
        (ap (λ (n : ℕ). get_or (set a j x) n 0) (sym q) ∙ get_or-set_same a j x 0 (omega (arith, h.size)) ∙ e));
    before = λ k lk. get_or-set_other a j k x 0 (λ r. omega arith) ∙ h.before k lk;
    after = λ k lk. get_or-set_other a j k x 0 (λ r. omega arith) ∙ h.after k (omega arith);
  }

-- A loop that has come to the end has filled all.
pub filled_all : (at n : ℕ) (f : ℕ → ℕ) (x₀ x : List ℕ) (i : ℕ) → Filled at n f x₀ x i → n ≤ i → Filled at n f x₀ x n
filled_all at n f x₀ x i h l = subst (Filled at n f x₀ x) (le_antisymm h.upto l) h

-- A list that is filled from its first place on, place by place.
pub filled_front : (n : ℕ) (f : ℕ → ℕ) (x₀ x : List ℕ) (i : ℕ) → Filled 0 n f x₀ x i → (k : ℕ) → k < i → get_or x k 0 ≡ f k
filled_front n f x₀ x i h k l = ap (λ (j : ℕ). get_or x j 0) (sym (zero-add k)) ∙ h.done k l

-- A whole list that is filled.
pub filled : (n : ℕ) (f : ℕ → ℕ) (x₀ x : List ℕ) (i : ℕ) → Filled 0 n f x₀ x i → n ≤ i → (k : ℕ) → k < n → get_or x k 0 ≡ f k
filled n f x₀ x i h l k lk = filled_front n f x₀ x i h k (omega arith)

-- A part of a list, the n places from `at` on, that is written over by ys.
pub filled_part : (at n w : ℕ) (f : ℕ → ℕ) (x₀ ys : List ℕ) → length ys ≡ n → w ≡ n → at + n ≤ length x₀ → ((k : ℕ) → k < n → get_or ys k 0 ≡ f k)
    → Filled at n f x₀ (put_mid at w x₀ ys) n
filled_part at n w f x₀ ys long e fits h = record {
  upto = omega arith;
  size = grind (arith, common_steps);
  done = λ k l. let q = h k l in grind (arith, common_steps);
  before = λ j l. grind (arith, common_steps);
  after = λ j l. grind (arith, common_steps);
}
