-- From the working order of the columns to the document's: combinations, the opening vector, the witness.
-- Assumes nothing.
use mathlib.Core.Path.{◌≡◌, sym, ap, ap₂, ◌∙◌, subst, subst⁻¹}
use mathlib.Core.Bool.{Bool, false}
use mathlib.Core.Logic.{⊎_elim}
use Prim.Native.Nat.{ℕ, zero, suc, ◌<◌, ◌≤◌, ◌-◌}
use native.Mathlib.Nat.{le_of_suc-le-suc, mod-eq_of_lt, zero-mod}
use native.Mathlib.Omega.{arith}
use Rattle.algebra.specs.Ring.{Field}
use Rattle.algebra.specs.Sum.{sum, dot}
use Rattle.algebra.proofs.Cases.{lt_or_ge}
use Rattle.algebra.proofs.Sum.{sum_cong, sum_first, put_lt, put_at, sum_put, dot_comm}
use Rattle.residue.specs.Prime.{Prime}
use Rattle.residue.specs.Residue.{res}
use Rattle.residue.proofs.Field.{residues, res_zero}
use Rattle.linear.specs.Combination.{KeptRule}
use Rattle.linear.specs.Rows.{target, columns_of, OpeningVector, Witness}
use Rattle.linear.proofs.Masked.{rows_of, opening_unmask, kills_unmask}
use Rattle.linear.specs.Space.{AddUp, Comb}
use Rattle.linear.proofs.Carry.{dot_iff, coeffs_numbers, rule_down}
use Rattle.linear.proofs.Kept.{kept, keeps, canon_coeffs, canon_only}
use Rattle.linear.proofs.Solve.{Canon}
use Rattle.echelon.specs.Order.{work, goal, matrix}

module _ {A : Type 0} (K : Field A) (f : ℕ) (M : ℕ → ℕ → A) where
  open K use {R}
  open R use {𝟘, 𝟙, ◌⊕◌, ◌⊗◌, mcomm, comm}

  infixl 65 ◌⊕◌
  infixl 70 ◌⊗◌
  at_last : (k : ℕ) → work K f M k f ≡ M k zero
  at_last k = put_at R f (λ i. M k (suc i)) (M k zero)

  before_last : (k i : ℕ) → i < f → work K f M k i ≡ M k (suc i)
  before_last k i l = put_lt R f (λ i. M k (suc i)) (M k zero) i l

  -- What the rows add up to, read in the working order: t is u with its first place put last.
  pub to_order : (m : ℕ) (r u t : ℕ → A) → AddUp K (suc f) M m r u → t f ≡ u zero → ((j : ℕ) → j < f → t j ≡ u (suc j))
      → AddUp K (suc f) (work K f M) m r t
  to_order m r u t h last before i l = ⊎_elim
      (λ (b : i < f). sum_cong R m (λ k. r k ⊗ work K f M k i) (λ k. r k ⊗ M k (suc i)) (λ k lk. ap (λ z. r k ⊗ z) (before_last k i b))
      ∙ h (suc i) (omega arith) ∙ sym (before i b))
      (λ (b : f ≤ i). let e : f ≡ i = omega arith in subst (λ (i : ℕ). sum R m (λ k. r k ⊗ work K f M k i) ≡ t i) e
      (sum_cong R m (λ k. r k ⊗ work K f M k f) (λ k. r k ⊗ M k zero) (λ k lk. ap (λ z. r k ⊗ z) (at_last k))
      ∙ h zero (omega arith) ∙ sym last))
      (lt_or_ge i f)

  pub to_work : (m k : ℕ) → Comb K (suc f) M m (M k) → Comb K (suc f) (work K f M) m (work K f M k)
  to_work m k c = (c.0, to_order m c.0 (M k) (work K f M k) c.1 (at_last k) (before_last k))

  -- What the working rows add up to, read in the document's order; the target for t at the last place 1.
  pub from_order : (m : ℕ) (r t u : ℕ → A) → AddUp K (suc f) (work K f M) m r t → t f ≡ u zero → ((j : ℕ) → j < f → t j ≡ u (suc j))
      → AddUp K (suc f) M m r u
  from_order m r t u h last before zero l = sum_cong R m (λ k. r k ⊗ M k zero) (λ k. r k ⊗ work K f M k f)
      (λ k lk. ap (λ z. r k ⊗ z) (sym (at_last k)))
      ∙ h f (omega arith) ∙ last
  from_order m r t u h last before (suc j) l = let b : j < f = le_of_suc-le-suc l in
      sum_cong R m (λ k. r k ⊗ M k (suc j)) (λ k. r k ⊗ work K f M k j) (λ k lk. ap (λ z. r k ⊗ z) (sym (before_last k j b)))
      ∙ h j (omega arith) ∙ before j b

  pub from_work : (m k : ℕ) → Comb K (suc f) (work K f M) m (work K f M k) → Comb K (suc f) M m (M k)
  from_work m k c = (c.0, from_order m c.0 (work K f M k) (M k) c.1 (at_last k) (before_last k))

  pub canon_order : (d : ℕ) (r : ℕ → A) → Canon K (suc f) (work K f M) d r → Canon K (suc f) M d r
  canon_order d r c k l q = c k l (to_work k k q)

  -- A vector y that kills the working rows, with its last place put first.
  pub kills_order : (d : ℕ) (z y : ℕ → A) → z zero ≡ y f → ((i : ℕ) → i < f → z (suc i) ≡ y i)
      → ((k : ℕ) → k < d → dot R (suc f) y (work K f M k) ≡ 𝟘) → (k : ℕ) → k < d → dot R (suc f) z (M k) ≡ 𝟘
  kills_order d z y z0 zs h k l = sum_first R f (λ j. z j ⊗ M k j)
      ∙ ap₂ ◌⊕◌ (ap (λ x. x ⊗ M k zero) z0 ∙ mcomm (y f) (M k zero))
      (sum_cong R f (λ i. z (suc i) ⊗ M k (suc i)) (λ i. M k (suc i) ⊗ y i)
      (λ i li. ap (λ x. x ⊗ M k (suc i)) (zs i li) ∙ mcomm (y i) (M k (suc i))))
      ∙ comm (M k zero ⊗ y f) (sum R f (λ i. M k (suc i) ⊗ y i))
      ∙ sym (sum_put R f (λ i. M k (suc i)) (M k zero) y) ∙ dot_comm R (suc f) (work K f M k) y ∙ h k l

  pub columns_order : (d : ℕ) (z y : ℕ → A) → ((i : ℕ) → i < f → z (suc i) ≡ y i) → Canon K d (λ i k. work K f M k i) f y
      → Canon K d (λ j k. M k (suc j)) f (λ j. z (suc j))
  columns_order d z y zs c j l q = zs j l ∙ c j l (
    q.0,
    λ k lk.
        sum_cong R j (λ i. q.0 i ⊗ work K f M k i) (λ i. q.0 i ⊗ M k (suc i))
        (λ i li. ap (λ x. q.0 i ⊗ x) (before_last k i (omega arith)))
        ∙ q.1 k lk ∙ sym (before_last k j l),
  )

module _ (p : ℕ) (H : Prime p) (d f : ℕ) (E : ℕ → ℕ → ℕ) (chosen : ℕ → Bool) where
  pub opening_of : (r : ℕ → ℕ) → ((k : ℕ) → k < d → r k < p)
      → AddUp (residues p H) (suc f) (work (residues p H) f (matrix p H E chosen)) d (λ k. res p H (r k)) (goal (residues p H) f)
      → Canon (residues p H) (suc f) (work (residues p H) f (matrix p H E chosen)) d (λ k. res p H (r k))
      → OpeningVector p d (suc f) E chosen r
  opening_of r small adds canon = opening_unmask p (suc f) E chosen d r (coeffs_numbers p H (suc f) (rows_of E chosen) d target r small
      (canon_coeffs (residues p H) (suc f) (matrix p H E chosen) d (λ j. res p H (target j)) (
        (λ k. res p H (r k)),
        from_order (residues p H) f (matrix p H E chosen) d (λ k. res p H (r k)) (goal (residues p H) f) (λ j. res p H (target j)) adds
            (put_at (residues p H).R f (λ i. res p H 0) (res p H 1)) (λ j l. put_lt (residues p H).R f (λ i. res p H 0) (res p H 1) j l),
      )
      (canon_order (residues p H) f (matrix p H E chosen) d (λ k. res p H (r k)) canon)))

  pub witness_of : (z y : ℕ → ℕ) → ((j : ℕ) → j < suc f → z j < p) → z 0 ≡ 1 → y f ≡ 1 → ((i : ℕ) → i < f → z (suc i) ≡ y i)
      → ((k : ℕ) → k < d → dot (residues p H).R (suc f) (λ i. res p H (y i)) (work (residues p H) f (matrix p H E chosen) k) ≡ res p H 0)
      → Canon (residues p H) d (λ i k. work (residues p H) f (matrix p H E chosen) k i) f (λ i. res p H (y i))
      → Witness p d (suc f) E chosen z
  witness_of z y small z0 yf zs kills canon = record {
    kept = kept (residues p H) d columns;
    rule = subst⁻¹ (λ (m : ℕ). KeptRule p d (columns_of E chosen) (kept (residues p H) d columns) m) others
        (rule_down p H d (columns_of E chosen) (kept (residues p H) d columns) f (keeps (residues p H) d columns f));
    first = z0;
    below = small;
    only = subst⁻¹ (λ (m : ℕ). (j : ℕ) → j < m → kept (residues p H) d columns j ≡ false → z (suc j) ≡ 0) others
        (λ j l q. sym (mod-eq_of_lt (small (suc j) (omega arith))) ∙ res_zero p H (res p H (z (suc j)))
        (canon_only (residues p H) d columns f (λ j. res p H (z (suc j)))
        (columns_order (residues p H) f (matrix p H E chosen) d (λ j. res p H (z j)) (λ i. res p H (y i))
        (λ i l. ap (res p H) (zs i l)) canon) j l q));
    kills = λ k l. kills_unmask p (suc f) E chosen z k ((dot_iff p H (suc f) z (rows_of E chosen k) 0).1
        (kills_order (residues p H) f (matrix p H E chosen) d (λ j. res p H (z j)) (λ i. res p H (y i))
        (ap (res p H) (z0 ∙ sym yf)) (λ i l. ap (res p H) (zs i l)) kills k l) ∙ zero-mod p);
  }
    where
      columns : ℕ → ℕ → Rattle.residue.specs.Residue.F p
      columns j k = matrix p H E chosen k (suc j)

      others : suc f - 1 ≡ f
      others = omega arith
