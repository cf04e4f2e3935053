-- Laws of commutative rings that follow from those of `Ring`. Each is named by what it simplifies.
-- Assumes nothing.
use mathlib.Core.Path.{◌≡◌, sym, ap, ◌∙◌}
use Rattle.algebra.specs.Ring.{Ring}

module _ {A : Type 0} (R : Ring A) where
  open R use {𝟘, 𝟙, ◌⊕◌, ◌⊗◌, neg, comm, assoc, zero_l, neg_r, mcomm, massoc, one_l, dist_l}

  infixl 65 ◌⊕◌
  infixl 70 ◌⊗◌
  pub lcomm : (a b c : A) → a ⊕ (b ⊕ c) ≡ b ⊕ (a ⊕ c)
  lcomm a b c = sym (assoc a b c) ∙ ap (λ x. x ⊕ c) (comm a b) ∙ assoc b a c

  pub mlcomm : (a b c : A) → a ⊗ (b ⊗ c) ≡ b ⊗ (a ⊗ c)
  mlcomm a b c = sym (massoc a b c) ∙ ap (λ x. x ⊗ c) (mcomm a b) ∙ massoc b a c

  pub zero_r : (a : A) → a ⊕ 𝟘 ≡ a
  zero_r a = comm a 𝟘 ∙ zero_l a

  pub one_r : (a : A) → a ⊗ 𝟙 ≡ a
  one_r a = mcomm a 𝟙 ∙ one_l a

  pub neg_l : (a : A) → neg a ⊕ a ≡ 𝟘
  neg_l a = comm (neg a) a ∙ neg_r a

  pub dist_r : (a b c : A) → (a ⊕ b) ⊗ c ≡ (a ⊗ c) ⊕ (b ⊗ c)
  dist_r a b c = simp (mcomm (a ⊕ b) c, dist_l, mcomm c a, mcomm c b)

  -- a + neg a + b, and cancelling on the left
  pub neg_cancel : (a b : A) → neg a ⊕ (a ⊕ b) ≡ b
  neg_cancel a b = sym (assoc (neg a) a b) ∙ ap (λ x. x ⊕ b) (neg_l a) ∙ zero_l b

  pub cancel : (a b c : A) → a ⊕ b ≡ a ⊕ c → b ≡ c
  cancel a b c e = sym (neg_cancel a b) ∙ ap (λ x. neg a ⊕ x) e ∙ neg_cancel a c

  -- what added to a is 0 is neg a
  pub neg_uniq : (a b : A) → a ⊕ b ≡ 𝟘 → b ≡ neg a
  neg_uniq a b e = cancel a b (neg a) (e ∙ sym (neg_r a))

  pub mul-zero : (a : A) → a ⊗ 𝟘 ≡ 𝟘
  mul-zero a = cancel (a ⊗ 𝟘) (a ⊗ 𝟘) 𝟘 (sym (dist_l a 𝟘 𝟘) ∙ ap (λ x. a ⊗ x) (zero_l 𝟘) ∙ sym (zero_r (a ⊗ 𝟘)))

  pub zero_mul : (a : A) → 𝟘 ⊗ a ≡ 𝟘
  zero_mul a = mcomm 𝟘 a ∙ mul-zero a

  pub neg_mul : (a b : A) → neg a ⊗ b ≡ neg (a ⊗ b)
  neg_mul a b = neg_uniq (a ⊗ b) (neg a ⊗ b) (sym (dist_r a (neg a) b) ∙ ap (λ x. x ⊗ b) (neg_r a) ∙ zero_mul b)

  pub mul_neg : (a b : A) → a ⊗ neg b ≡ neg (a ⊗ b)
  mul_neg a b = mcomm a (neg b) ∙ neg_mul b a ∙ ap neg (mcomm b a)

  pub neg_add : (a b : A) → neg (a ⊕ b) ≡ neg a ⊕ neg b
  neg_add a b = sym (neg_uniq (a ⊕ b) (neg a ⊕ neg b) (simp (assoc, lcomm b (neg a) (neg b), neg_r, zero_r)))

  pub neg_neg : (a : A) → neg (neg a) ≡ a
  neg_neg a = sym (neg_uniq (neg a) a (neg_l a))

  pub neg_zero : neg 𝟘 ≡ 𝟘
  neg_zero = sym (neg_uniq 𝟘 𝟘 (zero_l 𝟘))
