-- Combinations of combinations: sums, multiples, one vector more, other vectors that span the same.
-- Assumes nothing.
use mathlib.Core.Path.{◌≡◌, refl, ap, ap₂, ◌∙◌}
use mathlib.Core.List.{[], ◌∷◌}
use Prim.Native.Nat.{ℕ, zero, suc, ◌<◌}
use native.Mathlib.Omega.{arith}
use lib.ListN.{get_or}
use Rattle.algebra.specs.Ring.{Field}
use Rattle.algebra.specs.Sum.{sum}
use Rattle.algebra.proofs.Ring.{zero_mul}
use Rattle.algebra.proofs.Normal.{v, c0, ◌:+◌, ◌:*◌, ring}
use Rattle.algebra.proofs.Sum.{sum_cong, sum_zero, sum_mul, sum_lin, put, sum_put}
use Rattle.linear.specs.Space.{Comb}

module _ {A : Type 0} (K : Field A) (n : ℕ) where
  open K use {R}
  open R use {𝟘, 𝟙, ◌⊕◌, ◌⊗◌, neg, zero_l, one_l, mcomm, massoc}

  infixl 65 ◌⊕◌
  infixl 70 ◌⊗◌
  pub comb_lin : (w : ℕ → ℕ → A) (m : ℕ) (t u : ℕ → A) (a : A) → Comb K n w m t → Comb K n w m u → Comb K n w m (λ i. t i ⊕ a ⊗ u i)
  comb_lin w m t u a c d =
      ((λ k. c.0 k ⊕ a ⊗ d.0 k), λ i l. sum_lin R m a c.0 d.0 (λ k. w k i) ∙ ap₂ (λ x y. x ⊕ a ⊗ y) (c.1 i l) (d.1 i l))

  pub comb_sum : (w : ℕ → ℕ → A) (m s : ℕ) (B : ℕ → ℕ → A) (c : ℕ → A) → ((j : ℕ) → j < s → Comb K n w m (B j))
      → Comb K n w m (λ i. sum R s (λ j. c j ⊗ B j i))
  comb_sum w m zero B c h = ((λ k. 𝟘), λ i l. sum_zero R m (λ k. 𝟘 ⊗ w k i) (λ k lk. zero_mul R (w k i)))
  comb_sum w m (suc s) B c h = comb_lin w m (λ i. sum R s (λ j. c j ⊗ B j i)) (B s) (c s) (comb_sum w m s B c (λ j l. h j (omega arith)))
      (h s (omega arith))

  pub comb_resp : (w : ℕ → ℕ → A) (m : ℕ) (t u : ℕ → A) → ((i : ℕ) → i < n → t i ≡ u i) → Comb K n w m t → Comb K n w m u
  comb_resp w m t u e c = (c.0, λ i l. c.1 i l ∙ e i l)

  -- over the vectors B what is over w, where each w is over B
  pub comb_over : (w B : ℕ → ℕ → A) (m s : ℕ) (t : ℕ → A) → ((k : ℕ) → k < m → Comb K n B s (w k)) → Comb K n w m t → Comb K n B s t
  comb_over w B m s t h c = comb_resp B s (λ i. sum R m (λ k. c.0 k ⊗ w k i)) t c.1 (comb_sum B s m w c.0 h)

  -- one vector more, with the coefficient a
  pub comb_put : (w : ℕ → ℕ → A) (m : ℕ) (t : ℕ → A) (a : A) → Comb K n w m t → Comb K n w (suc m) (λ i. t i ⊕ a ⊗ w m i)
  comb_put w m t a c = (put R m c.0 a, λ i l. sum_put R m c.0 a (λ k. w k i) ∙ ap (λ z. z ⊕ a ⊗ w m i) (c.1 i l))

  pub comb_more : (w : ℕ → ℕ → A) (m : ℕ) (t : ℕ → A) → Comb K n w m t → Comb K n w (suc m) t
  comb_more w m t c = comb_resp w (suc m) (λ i. t i ⊕ 𝟘 ⊗ w m i) t
      (λ i l. ring R (v 0 :+ c0 :* v 1) (v 0) refl (λ j. get_or (t i ∷ w m i ∷ []) j 𝟘)) (comb_put w m t 𝟘 c)

  pub comb_scale : (w : ℕ → ℕ → A) (m : ℕ) (t : ℕ → A) (a : A) → Comb K n w m t → Comb K n w m (λ i. a ⊗ t i)
  comb_scale w m t a c = (
    (λ k. a ⊗ c.0 k),
    λ i l. sum_cong R m (λ k. a ⊗ c.0 k ⊗ w k i) (λ k. a ⊗ (c.0 k ⊗ w k i)) (λ k lk. massoc a (c.0 k) (w k i))
        ∙ sum_mul R m a (λ k. c.0 k ⊗ w k i) ∙ ap (λ z. a ⊗ z) (c.1 i l),
  )

  pub comb_same : (B B' : ℕ → ℕ → A) (s : ℕ) (t : ℕ → A) → ((j : ℕ) → j < s → B' j ≡ B j) → Comb K n B s t → Comb K n B' s t
  comb_same B B' s t e c =
      (c.0, λ i l. sum_cong R s (λ k. c.0 k ⊗ B' k i) (λ k. c.0 k ⊗ B k i) (λ k lk. ap (λ b. c.0 k ⊗ b i) (e k lk)) ∙ c.1 i l)
