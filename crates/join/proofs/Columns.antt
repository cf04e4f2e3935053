-- What the one question for the columns over the chosen rows says of the shares.
-- Assumes nothing.
use mathlib.Core.Path.{◌≡◌, refl, sym, ap, ◌∙◌}
use mathlib.Core.Bool.{Bool, true, false, cond}
use mathlib.Core.List.{List}
use Prim.Native.Nat.{ℕ, ◌+◌, ◌*◌, ◌%◌, ◌<◌}
use native.Mathlib.Nat.{mul_comm, mul-add-mod_self_right, mod-eq_of_lt}
use native.Mathlib.Omega.{arith}
use lib.ListN.{length}
use Rattle.lists.proofs.Store.{row_fits}
use Rattle.linear.specs.Combination.{total}
use Rattle.linear.specs.Flat.{place, entry}
use Rattle.linear.proofs.Carry.{total_cong}
use Rattle.linear.proofs.Masked.{total_zero}
use Rattle.combination.specs.Found.{Found}
use Rattle.tables.specs.Turned.{Turned}
use Rattle.linear.specs.Bits.{bit}
use Rattle.join.specs.Steps.{MaskedTo, FitsSays}

-- What the one question for the columns answers is whether the shares fit: a row that is not chosen is 0 on both sides.
module _ (p d e chosen : ℕ) (entries shares all columns goal : List ℕ) (wide : length all ≡ e * d) (high : length shares ≡ d)
    (t : Turned d e entries all) (w : MaskedTo d (bit chosen) all columns) (m : MaskedTo d (bit chosen) shares goal) where
  column_at : (j k : ℕ) → j < e → k < d → entry d columns j k ≡ cond (bit chosen k) (entry e entries k j) 0
  column_at j k lj lk = w.at (j * d + k) (omega (arith, wide, row_fits j e d lj))
      ∙ ap (λ (i : ℕ). cond (bit chosen i) (entry d all j k) 0) (mul-add-mod_self_right j d k ∙ mod-eq_of_lt lk)
      ∙ ap (λ (x : ℕ). cond (bit chosen k) x 0) (t.at j k lj lk)

  goal_at : (k : ℕ) → k < d → place goal k ≡ cond (bit chosen k) (place shares k) 0
  goal_at k l = m.at k (omega arith) ∙ ap (λ (i : ℕ). cond (bit chosen i) (place shares k) 0) (mod-eq_of_lt l)

  -- A product's sum at row k, by the columns' places.
  at_row : (b : ℕ → ℕ) (k : ℕ) → k < d → bit chosen k ≡ true
      → total e (λ j. entry e entries k j * b j) ≡ total e (λ j. b j * entry d columns j k)
  at_row b k l q = total_cong e (λ j. entry e entries k j * b j) (λ j. b j * entry d columns j k)
      (λ j lj. mul_comm (entry e entries k j) (b j)
      ∙ ap (λ (x : ℕ). b j * x) (sym (column_at j k lj l ∙ ap (λ (c : Bool). cond c (entry e entries k j) 0) q)))

  goal_row : (k : ℕ) → k < d → bit chosen k ≡ true → place goal k ≡ place shares k
  goal_row k l q = goal_at k l ∙ ap (λ (c : Bool). cond c (place shares k) 0) q

  gives : (b : ℕ → ℕ) → ((k : ℕ) → k < d → bit chosen k ≡ true → total e (λ j. entry e entries k j * b j) % p ≡ place shares k % p)
      → (k : ℕ) → k < d → total e (λ j. b j * entry d columns j k) % p ≡ place goal k % p
  gives b h k l = go (bit chosen k) refl
    where
      go : (c : Bool) → bit chosen k ≡ c → total e (λ j. b j * entry d columns j k) % p ≡ place goal k % p
      go true q = ap (λ (x : ℕ). x % p) (sym (at_row b k l q)) ∙ h k l q ∙ ap (λ (x : ℕ). x % p) (sym (goal_row k l q))
      go false q = ap (λ (x : ℕ). x % p)
          (total_zero e (λ j. b j * entry d columns j k)
          (λ j lj. ap (λ (x : ℕ). b j * x) (column_at j k lj l ∙ ap (λ (c : Bool). cond c (entry e entries k j) 0) q) ∙ omega arith)
          ∙ sym (goal_at k l ∙ ap (λ (c : Bool). cond c (place shares k) 0) q))

  pub fits_says : (r : Bool) (c : List ℕ) → Found p e d columns goal r c → FitsSays p d e chosen entries shares r
  fits_says r c f = record {
    yes = λ q.
        (place c, λ k l w. ap (λ (x : ℕ). x % p) (at_row (place c) k l w) ∙ (f.yes q).gives k l ∙ ap (λ (x : ℕ). x % p) (goal_row k l w));
    no = λ q b. (f.no q).none (b.0, gives b.0 b.1);
  }
