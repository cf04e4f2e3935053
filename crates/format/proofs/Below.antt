-- Of a scheme that is not refused, each byte of its file is below 256 and each check has four bytes.
-- Assumes nothing.
use mathlib.Core.Path.{subst⁻¹}
use mathlib.Core.Bool.{Bool, true, false, cond}
use mathlib.Core.Logic.{⊎_elim}
use mathlib.Core.List.{List}
use Prim.Native.Nat.{ℕ, zero, suc, ◌<◌, ◌≤◌, ◌+◌, ◌-◌, ◌*◌, ◌/◌, ◌%◌, ◌^◌}
use native.Mathlib.Nat.{mul-le-mul}
use native.Mathlib.Omega.{arith}
use lib.Dec.{eqb, ltb}
use Rattle.algebra.proofs.Cases.{lt_or_ge}
use Rattle.lists.proofs.Store.{past}
use Rattle.linear.specs.Combination.{total}
use Rattle.linear.specs.Flat.{place, entry}
use Rattle.scheme.specs.declared.Shape.{Shape}
use Rattle.scheme.proofs.Refusals.{Valid}
use Rattle.format.specs.Format.{mark, kind_of, width, used, row_of, in_record}
use Rattle.format.specs.Format.{heading_byte_lem, record_byte_lem, content_byte_lem, front_byte_lem, check_of_lem, block_byte}
use Rattle.format.proofs.Bytes.{byte_below}

-- Where both are below m, so is the one that is chosen.
cond_below : (m : ℕ) (b : Bool) {x y : ℕ} → x < m → y < m → cond b x y < m
cond_below m true l u = l
cond_below m false l u = u

total_le : (n c : ℕ) (f : ℕ → ℕ) → ((i : ℕ) → i < n → f i ≤ c) → total n f ≤ n * c
total_le zero c f h = omega arith
total_le (suc n) c f h = omega (arith, total_le n c f (λ i l. h i (omega arith)), h n (omega arith))

-- Bytes times their places counted from 1: at most 508 bytes, each at most 255, each times at most 508.
pub weighted_below : (n : ℕ) (f : ℕ → ℕ) → n ≤ 508 → ((o : ℕ) → f o < 256) → total n (λ o. f o * (o + 1)) < 2 ^ 32
weighted_below n f u h =
    let q : total n (λ o. f o * (o + 1)) ≤ n * 129540 = total_le n 129540 (λ o. f o * (o + 1)) (λ o l.
    mul-le-mul {n₁ = f o} {m₁ = o + 1} {n₂ = 255} {m₂ = 508} (omega (arith, h o)) (omega arith)) in
    omega arith

mark_below : (o : ℕ) → place mark o < 256
mark_below zero = omega arith
mark_below (suc zero) = omega arith
mark_below (suc (suc zero)) = omega arith
mark_below (suc (suc (suc zero))) = omega arith
mark_below (suc (suc (suc (suc o)))) = omega arith

kind_below : (b : ℕ) → kind_of b < 256
kind_below zero = omega arith
kind_below (suc b) = omega arith

module _ (v : ℕ) (s : Shape) (labels entries : List ℕ) (lv : v < 256) (h : Valid s labels entries) where
  label_below : (k : ℕ) → place labels k < 256
  label_below k = ⊎_elim
      (λ l. omega (arith, h.label k l, h.n_high))
      (λ l. subst⁻¹ (λ (x : ℕ). x < 256) (past labels k (omega (arith, h.labels_length))) (omega arith))
      (lt_or_ge k s.d)

  heading_below : (j : ℕ) → heading_byte_lem v s labels entries j < 256
  heading_below j =
      cond_below 256 (ltb j (width v)) (byte_below s.p j)
      (cond_below 256 (eqb j (width v)) (omega (arith, h.n_high))
      (cond_below 256 (eqb j (width v + 1)) (omega (arith, h.d_high))
      (omega (arith, h.e_high))))

  record_below : (k m : ℕ) → record_byte_lem v s labels entries k m < 256
  record_below k zero = label_below k
  record_below k (suc m) = byte_below (entry s.e entries k (m / width v)) (m % width v)

  content_below : (b j : ℕ) → content_byte_lem v s labels entries b j < 256
  content_below zero j = cond_below 256 (used v s.d s.e zero j) (heading_below j) (omega arith)
  content_below (suc b) j = cond_below 256 (used v s.d s.e (suc b) j) (record_below (row_of v b j) (in_record v j)) (omega arith)

  pub front_below : (b o : ℕ) → front_byte_lem v s labels entries b o < 256
  front_below b o =
      cond_below 256 (ltb o 4) (mark_below o)
      (cond_below 256 (eqb o 4) (kind_below b)
      (cond_below 256 (eqb o 5) lv
      (cond_below 256 (ltb o 8) (byte_below b (o - 6))
      (content_below b (o - 8)))))

  pub block_below : (b o : ℕ) → block_byte v s labels entries b o < 256
  block_below b o = cond_below 256 (ltb o 508) (front_below b o) (byte_below (check_of_lem v s labels entries b) (o - 508))

  -- The check has four bytes: 2 ^ 32 is 256 ^ 4.
  pub check_below : (b : ℕ) → check_of_lem v s labels entries b < 2 ^ 32
  check_below b = weighted_below 508 (front_byte_lem v s labels entries b) (omega arith) (front_below b)
