-- From numbers modulo p to residues and back: totals, combinations, the kept rule, coefficients, functionals.
-- Assumes nothing.
use mathlib.Core.Path.{◌≡◌, refl, sym, ap, ap₂, ◌∙◌}
use mathlib.Core.Bool.{Bool}
use mathlib.Core.Logic.{◌↔◌}
use Prim.Native.Nat.{ℕ, zero, suc, ◌<◌, ◌+◌, ◌*◌, ◌%◌}
use native.Mathlib.Nat.{mod-eq_of_lt, zero-mod}
use native.Mathlib.Omega.{arith}
use Rattle.algebra.specs.Sum.{sum, dot}
use Rattle.algebra.proofs.Sum.{sum_cong}
use Rattle.residue.specs.Prime.{Prime}
use Rattle.residue.specs.Residue.{F, res, ◌⊕◌, ◌⊗◌}
use Rattle.residue.proofs.Field.{residue_ring, residues, res_val, res_same, res_add, res_mul, res_zero}
use Rattle.linear.specs.Combination.{total, AddUpTo, Combination, CombinationOf, KeptRule}
use Rattle.linear.specs.Question.{Coefficients, Functional}
use Rattle.linear.specs.Space.{AddUp, Comb, CombOf, Keeps, Coeffs, Separates}

pub total_cong : (n : ℕ) (f g : ℕ → ℕ) → ((i : ℕ) → i < n → f i ≡ g i) → total n f ≡ total n g
total_cong zero f g h = refl
total_cong (suc n) f g h = ap₂ ◌+◌ (total_cong n f g (λ i l. h i (omega arith))) (h n (omega arith))

pub total_first : (n : ℕ) (f : ℕ → ℕ) → total (suc n) f ≡ f zero + total n (λ i. f (suc i))
total_first zero f = omega arith
total_first (suc n) f = omega (arith, total_first n f)

module _ (p : ℕ) (H : Prime p) where
  pub res_total : (n : ℕ) (f : ℕ → ℕ) → res p H (total n f) ≡ sum (residue_ring p H) n (λ i. res p H (f i))
  res_total zero f = refl
  res_total (suc n) f = sym (res_add p H (total n f) (f n)) ∙ ap (λ z. ◌⊕◌ p H z (res p H (f n))) (res_total n f)

  pub res_dot : (n : ℕ) (f g : ℕ → ℕ)
      → res p H (total n (λ i. f i * g i)) ≡ dot (residue_ring p H) n (λ i. res p H (f i)) (λ i. res p H (g i))
  res_dot n f g = res_total n (λ i. f i * g i)
      ∙ sum_cong (residue_ring p H) n (λ i. res p H (f i * g i)) (λ i. ◌⊗◌ p H (res p H (f i)) (res p H (g i)))
      (λ i l. sym (res_mul p H (f i) (g i)))

  pub dot_iff : (n : ℕ) (f g : ℕ → ℕ) (t : ℕ)
      → (total n (λ i. f i * g i) % p ≡ t % p) ↔ (dot (residue_ring p H) n (λ i. res p H (f i)) (λ i. res p H (g i)) ≡ res p H t)
  dot_iff n f g t = ((λ e. sym (res_dot n f g) ∙ res_same p H (total n (λ i. f i * g i)) t e), λ e. ap (λ a. a.0) (res_dot n f g ∙ e))

  -- A residue is that of its number.
  pub dot_val : (n : ℕ) (c g : ℕ → F p) → dot (residue_ring p H) n (λ i. res p H (c i).0) g ≡ dot (residue_ring p H) n c g
  dot_val n c g = sum_cong (residue_ring p H) n (λ i. ◌⊗◌ p H (res p H (c i).0) (g i)) (λ i. ◌⊗◌ p H (c i) (g i))
      (λ i l. ap (λ z. ◌⊗◌ p H z (g i)) (res_val p H (c i)))

  module _ (n : ℕ) (N : ℕ → ℕ → ℕ) where
    -- The vectors as residues.
    abbrev pub W : ℕ → ℕ → F p
    W k i = res p H (N k i)

    pub adds_up : (m : ℕ) (c t : ℕ → ℕ) → AddUpTo p n N m c t → AddUp (residues p H) n W m (λ k. res p H (c k)) (λ i. res p H (t i))
    adds_up m c t h i l = (dot_iff m c (λ k. N k i) (t i)).0 (h i l)

    pub adds_down : (m : ℕ) (c : ℕ → F p) (t : ℕ → ℕ) → AddUp (residues p H) n W m c (λ i. res p H (t i)) → AddUpTo p n N m (λ k. (c k).0) t
    adds_down m c t h i l = (dot_iff m (λ k. (c k).0) (λ k. N k i) (t i)).1 (dot_val m c (λ k. W k i) ∙ h i l)

    pub comb_up : (m : ℕ) (t : ℕ → ℕ) → Combination p n N m t → Comb (residues p H) n W m (λ i. res p H (t i))
    comb_up m t c = ((λ k. res p H (c.0 k)), adds_up m c.0 t c.1)

    pub comb_down : (m : ℕ) (t : ℕ → ℕ) → Comb (residues p H) n W m (λ i. res p H (t i)) → Combination p n N m t
    comb_down m t c = ((λ k. (c.0 k).0), adds_down m c.0 t c.1)

    comb_of_up : (b : ℕ → Bool) (m : ℕ) (t : ℕ → ℕ) → CombinationOf p n N b m t → CombOf (residues p H) n W b m (λ i. res p H (t i))
    comb_of_up b m t c = ((λ k. res p H (c.0 k)), (λ k l q. ap (res p H) (c.1 k l q)), adds_up m c.0 t c.2)

    comb_of_down : (b : ℕ → Bool) (m : ℕ) (t : ℕ → ℕ) → CombOf (residues p H) n W b m (λ i. res p H (t i)) → CombinationOf p n N b m t
    comb_of_down b m t c = ((λ k. (c.0 k).0), (λ k l q. res_zero p H (c.0 k) (c.1 k l q)), adds_down m c.0 t c.2)

    pub rule_up : (b : ℕ → Bool) (m : ℕ) → KeptRule p n N b m → Keeps (residues p H) n W b m
    rule_up b m h k l = ((λ q c. (h k l).0 q (comb_of_down b k (N k) c)), λ f. (h k l).1 (λ c. f (comb_of_up b k (N k) c)))

    pub rule_down : (b : ℕ → Bool) (m : ℕ) → Keeps (residues p H) n W b m → KeptRule p n N b m
    rule_down b m h k l = ((λ q c. (h k l).0 q (comb_of_up b k (N k) c)), λ f. (h k l).1 (λ c. f (comb_of_down b k (N k) c)))

    pub coeffs_up : (m : ℕ) (t c : ℕ → ℕ) → Coefficients p n N m t c → Coeffs (residues p H) n W m (λ i. res p H (t i)) (λ k. res p H (c k))
    coeffs_up m t c o = record {
      kept = o.kept;
      keeps = rule_up o.kept m o.rule;
      only = λ k l q. ap (res p H) (o.only k l q);
      gives = adds_up m c t o.gives;
    }

    -- Numbers below p whose residues are the coefficients are the coefficients.
    pub coeffs_numbers : (m : ℕ) (t c : ℕ → ℕ) → ((k : ℕ) → k < m → c k < p)
        → Coeffs (residues p H) n W m (λ i. res p H (t i)) (λ k. res p H (c k)) → Coefficients p n N m t c
    coeffs_numbers m t c small o = record {
      kept = o.kept;
      rule = rule_down o.kept m o.keeps;
      below = small;
      only = λ k l q. sym (mod-eq_of_lt (small k l)) ∙ res_zero p H (res p H (c k)) (o.only k l q);
      gives = λ i l. (dot_iff m c (λ k. N k i) (t i)).1 (o.gives i l);
    }

    pub coeffs_down : (m : ℕ) (t : ℕ → ℕ) (c : ℕ → F p) → Coeffs (residues p H) n W m (λ i. res p H (t i)) c
        → Coefficients p n N m t (λ k. (c k).0)
    coeffs_down m t c o = record {
      kept = o.kept;
      rule = rule_down o.kept m o.keeps;
      below = λ k l. (c k).1;
      only = λ k l q. res_zero p H (c k) (o.only k l q);
      gives = adds_down m c t o.gives;
    }

    pub functional_up : (m : ℕ) (t y : ℕ → ℕ) → Functional p n N m t y
        → Separates (residues p H) n W m (λ i. res p H (t i)) (λ i. res p H (y i))
    functional_up m t y f = record {
      kills = λ k l. (dot_iff n y (N k) 0).0 (f.kills k l ∙ sym (zero-mod p));
      one = (dot_iff n y t 1).0 (f.one ∙ sym (mod-eq_of_lt H.two));
    }

    pub functional_down : (m : ℕ) (t : ℕ → ℕ) (y : ℕ → F p) → Separates (residues p H) n W m (λ i. res p H (t i)) y
        → Functional p n N m t (λ i. (y i).0)
    functional_down m t y s = record {
      kills = λ k l. (dot_iff n (λ i. (y i).0) (N k) 0).1 (dot_val n y (W k) ∙ s.kills k l) ∙ zero-mod p;
      one = (dot_iff n (λ i. (y i).0) t 1).1 (dot_val n y (λ i. res p H (t i)) ∙ s.one) ∙ mod-eq_of_lt H.two;
    }
