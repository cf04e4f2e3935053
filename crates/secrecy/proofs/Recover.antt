-- The opening vector gives the code back from every dealing; the joined number looks at no share outside the set's rows.
-- Assumes nothing.
use mathlib.Core.Path.{◌≡◌, refl, sym, ap, ◌∙◌}
use mathlib.Core.Bool.{Bool, true, false}
use Prim.Native.Nat.{ℕ, suc, ◌<◌, ◌*◌, ◌%◌}
use native.Mathlib.Nat.{mod-eq_of_lt}
use native.Mathlib.Omega.{arith}
use Rattle.algebra.specs.Sum.{dot}
use Rattle.algebra.proofs.Sum.{sum_cong, dot_comm}
use Rattle.residue.specs.Prime.{Prime}
use Rattle.residue.specs.Residue.{res, ◌⊗◌}
use Rattle.residue.proofs.Field.{residue_ring, residues, res_mod}
use Rattle.linear.specs.Combination.{total}
use Rattle.linear.specs.Rows.{target, OpeningVector}
use Rattle.linear.proofs.Carry.{W, total_cong, res_dot, adds_up}
use Rattle.linear.proofs.Rows.{times_target, opening_outside}
use Rattle.linear.proofs.Solve.{recover}

module _ (p : ℕ) (H : Prime p) (d f : ℕ) (E : ℕ → ℕ → ℕ) (chosen : ℕ → Bool) where
  -- The share of row k for the list b.
  abbrev share : (ℕ → ℕ) → ℕ → ℕ
  share b k = total (suc f) (λ j. E k j * b j) % p

  -- The rows weighted by r add up to the target, so the shares weighted by r add up to the target times b.
  pub weighted_shares : (r b : ℕ → ℕ) → OpeningVector p d (suc f) E chosen r → total d (λ k. r k * share b k) % p ≡ b 0 % p
  weighted_shares r b o = ap (λ a. a.0) (res_dot p H d r (share b)
      ∙ sum_cong (residue_ring p H) d (λ k. ◌⊗◌ p H (res p H (r k)) (res p H (share b k)))
      (λ k. ◌⊗◌ p H (res p H (r k)) (dot (residue_ring p H) (suc f) (λ j. res p H (b j)) (W p H (suc f) E k)))
      (λ k l. ap (λ z. ◌⊗◌ p H (res p H (r k)) z) (as_dot k))
      ∙ recover (residues p H) (suc f) (W p H (suc f) E) d (λ j. res p H (target j)) (λ j. res p H (b j))
      ((λ k. res p H (r k)), adds_up p H (suc f) E d r target o.gives)
      ∙ sym (res_dot p H (suc f) b target) ∙ ap (res p H) (times_target f b))
    where
      as_dot : (k : ℕ) → res p H (share b k) ≡ dot (residue_ring p H) (suc f) (λ j. res p H (b j)) (W p H (suc f) E k)
      as_dot k = res_mod p H (total (suc f) (λ j. E k j * b j)) ∙ res_dot p H (suc f) (E k) b
          ∙ dot_comm (residue_ring p H) (suc f) (W p H (suc f) E k) (λ j. res p H (b j))

  -- Shares that agree at the chosen rows join to the same number.
  pub joined_same : (r x y : ℕ → ℕ) → OpeningVector p d (suc f) E chosen r → ((k : ℕ) → k < d → chosen k ≡ true → x k ≡ y k)
      → total d (λ k. r k * x k) ≡ total d (λ k. r k * y k)
  joined_same r x y o h = total_cong d (λ k. r k * x k) (λ k. r k * y k) (λ k l. go k l (chosen k) refl)
    where
      go : (k : ℕ) → k < d → (b : Bool) → chosen k ≡ b → r k * x k ≡ r k * y k
      go k l true q = ap (λ (z : ℕ). r k * z) (h k l q)
      go k l false q =
          let z = opening_outside p H d f E chosen r o k l q in
          ap (λ (w : ℕ). w * x k) z ∙ omega arith ∙ ap (λ (w : ℕ). w * y k) (sym z)

  -- So whatever shares a dealing gives at the chosen rows, the joined number is its code.
  pub code_back : (r b x : ℕ → ℕ) → OpeningVector p d (suc f) E chosen r → ((k : ℕ) → k < d → chosen k ≡ true → share b k ≡ x k) → b 0 < p
      → total d (λ k. r k * x k) % p ≡ b 0
  code_back r b x o h l = ap (λ (z : ℕ). z % p) (joined_same r x (share b) o (λ k lk q. sym (h k lk q))) ∙ weighted_shares r b o
      ∙ mod-eq_of_lt l
