-- Commutative rings and fields.
-- Assumes nothing.
use Rattle.std.specs.Prelude.{◌≡◌, ◌⊎◌}

-- A commutative ring on A: sum, product, negative, and the laws from which every other is derived.
pub record Ring (A : Type 0) : Type 0 where
  pub 𝟘 : A
  pub 𝟙 : A
  pub ◌⊕◌ : A → A → A
  pub ◌⊗◌ : A → A → A
  pub neg : A → A
  pub comm : (a b : A) → ◌⊕◌ a b ≡ ◌⊕◌ b a
  pub assoc : (a b c : A) → ◌⊕◌ (◌⊕◌ a b) c ≡ ◌⊕◌ a (◌⊕◌ b c)
  pub zero_l : (a : A) → ◌⊕◌ 𝟘 a ≡ a
  pub neg_r : (a : A) → ◌⊕◌ a (neg a) ≡ 𝟘
  pub mcomm : (a b : A) → ◌⊗◌ a b ≡ ◌⊗◌ b a
  pub massoc : (a b c : A) → ◌⊗◌ (◌⊗◌ a b) c ≡ ◌⊗◌ a (◌⊗◌ b c)
  pub one_l : (a : A) → ◌⊗◌ 𝟙 a ≡ a
  pub dist_l : (a b c : A) → ◌⊗◌ a (◌⊕◌ b c) ≡ ◌⊕◌ (◌⊗◌ a b) (◌⊗◌ a c)

-- A field: a ring in which 1 is not 0 and each element is 0 or has an inverse.
pub record Field (A : Type 0) : Type 0 where
  pub R : Ring A
  pub inverse? : (a : A) → (a ≡ R.𝟘) ⊎ ((b : A) × (R.◌⊗◌ b a ≡ R.𝟙))
  pub one≢zero : R.𝟙 ≡ R.𝟘 → ⊥
