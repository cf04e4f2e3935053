-- Polynomials over a field as lists of coefficients, the lowest first: one that is 0 at as many different points as it has coefficients is
-- 0 everywhere; and one that is 0 at a further point. Natural numbers in a field.
-- Assumes nothing.
use mathlib.Core.Path.{◌≡◌, refl, sym, ap, ap₂, ◌∙◌}
use mathlib.Core.Logic.{⊎_elim}
use mathlib.Core.List.{List, [], ◌∷◌}
use Prim.Native.Nat.{ℕ, zero, suc, ◌+◌, ◌*◌, ◌^◌, ◌≤◌}
use native.Mathlib.Nat.{add-suc, mul-suc, pow-suc, pow-zero, not-suc-le-zero, add-zero, mul-zero}
use native.Mathlib.Omega.{arith}
use lib.ListN.{get_or, length}
use Rattle.algebra.specs.Ring.{Field}
use Rattle.algebra.proofs.Ring as L
use Rattle.algebra.proofs.Normal.{v, c0, c1, ◌:+◌, ◌:-◌, ◌:*◌, ng, ring}

pub pow_one : (i : ℕ) → i ^ 1 ≡ i
pow_one i = pow-suc i zero ∙ ap (λ (x : ℕ). x * i) (pow-zero i) ∙ omega arith

module _ {A : Type 0} (K : Field A) where
  open K use {R}
  open R use {𝟘, 𝟙, ◌⊕◌, ◌⊗◌, neg, zero_l, one_l, massoc, assoc}

  infixl 65 ◌⊕◌
  infixl 70 ◌⊗◌
  -- A natural number in the field.
  unfoldable pub nat : ℕ → A
  nat zero = 𝟘
  nat (suc n) = nat n ⊕ 𝟙

  pub nat_add : (m n : ℕ) → nat (m + n) ≡ nat m ⊕ nat n
  unfolding nat
  nat_add m zero = ap nat (add-zero m) ∙ sym (L.zero_r R (nat m))
  nat_add m (suc n) = ap nat (add-suc m n) ∙ ap (λ z. z ⊕ 𝟙) (nat_add m n) ∙ assoc (nat m) (nat n) 𝟙

  pub nat_mul : (m n : ℕ) → nat (m * n) ≡ nat m ⊗ nat n
  unfolding nat
  nat_mul m zero = ap nat (mul-zero m) ∙ sym (L.mul-zero R (nat m))
  nat_mul m (suc n) = ap nat (mul-suc m n) ∙ nat_add (m * n) m ∙ ap (λ z. z ⊕ nat m) (nat_mul m n)
      ∙ ring R (v 0 :* v 1 :+ v 0) (v 0 :* (v 1 :+ c1)) refl (λ j. get_or (nat m ∷ nat n ∷ []) j 𝟘)

  pub nat_pow : (i j : ℕ) → nat (i ^ suc j) ≡ nat (i ^ j) ⊗ nat i
  nat_pow i j = ap nat (pow-suc i j) ∙ nat_mul (i ^ j) i

  -- A product that is 0, and its first factor is not.
  pub factor : (a b : A) → a ⊗ b ≡ 𝟘 → (a ≡ 𝟘 → ⊥) → b ≡ 𝟘
  factor a b e h = ⊎_elim (λ z. absurd (h z))
      (λ u. sym (one_l b) ∙ ap (λ z. z ⊗ b) (sym u.1) ∙ massoc u.0 a b ∙ ap (λ z. u.0 ⊗ z) e ∙ L.mul-zero R u.0)
      (K.inverse? a)

  unfoldable pub eval : List A → A → A
  eval [] x = 𝟘
  eval (a ∷ f) x = a ⊕ x ⊗ eval f x

  -- f(x) = f(b) + (x - b) q(x), where f is a and then g, and q = quotient b g is no longer than g.
  unfoldable quotient : A → List A → List A
  quotient b [] = []
  quotient b (a ∷ g) = eval (a ∷ g) b ∷ quotient b g

  division : (b x a : A) (g : List A) → eval (a ∷ g) x ≡ eval (a ∷ g) b ⊕ (x ⊕ neg b) ⊗ eval (quotient b g) x
  unfolding eval quotient
  division b x a [] =
      ring R (v 0 :+ v 1 :* c0) (v 0 :+ v 2 :* c0 :+ (v 1 :- v 2) :* c0) refl (λ j. get_or (a ∷ x ∷ b ∷ []) j 𝟘)
  division b x a (c ∷ g) = ap (λ z. a ⊕ x ⊗ z) (division b x c g)
      ∙ ring R (v 0 :+ v 1 :* (v 2 :+ (v 1 :- v 3) :* v 4)) (v 0 :+ v 3 :* v 2 :+ (v 1 :- v 3) :* (v 2 :+ v 1 :* v 4)) refl
      (λ j. get_or (a ∷ x ∷ eval (c ∷ g) b ∷ b ∷ eval (quotient b g) x ∷ []) j 𝟘)

  quotient_length : (b : A) (g : List A) → length (quotient b g) ≡ length g
  unfolding quotient
  quotient_length b [] = refl
  quotient_length b (a ∷ g) = ap suc (quotient_length b g)

  -- f is 0 at each of the points.
  abbrev pub Roots : List A → List A → Type 0
  Roots f [] = Unit {0}
  Roots f (x ∷ xs) = (eval f x ≡ 𝟘) × Roots f xs

  -- None of the points is b.
  abbrev pub Other : A → List A → Type 0
  Other b [] = Unit {0}
  Other b (x ∷ xs) = (x ⊕ neg b ≡ 𝟘 → ⊥) × Other b xs

  abbrev pub Distinct : List A → Type 0
  Distinct [] = Unit {0}
  Distinct (x ∷ xs) = Other x xs × Distinct xs

  -- Where f is 0 at b, its other roots are roots of the quotient.
  others : (b a : A) (g xs : List A) → eval (a ∷ g) b ≡ 𝟘 → Other b xs → Roots (a ∷ g) xs → Roots (quotient b g) xs
  others b a g [] e o r = tt
  others b a g (x ∷ xs) e o r = (
    factor (x ⊕ neg b) (eval (quotient b g) x)
        (sym (zero_l ((x ⊕ neg b) ⊗ eval (quotient b g) x)) ∙ ap (λ z. z ⊕ (x ⊕ neg b) ⊗ eval (quotient b g) x) (sym e)
        ∙ sym (division b x a g) ∙ r.0) o.0,
    others b a g xs e o.1 r.1,
  )

  pub vanish : (xs f : List A) → length f ≤ length xs → Distinct xs → Roots f xs → (x : A) → eval f x ≡ 𝟘
  unfolding eval
  vanish [] [] l d r x = refl
  vanish [] (a ∷ g) l d r x = absurd (not-suc-le-zero l)
  vanish (b ∷ xs) [] l d r x = refl
  vanish (b ∷ xs) (a ∷ g) l d r x = division b x a g
      ∙ ap₂ (λ p q. p ⊕ (x ⊕ neg b) ⊗ q) r.0
      (vanish xs (quotient b g) (omega (arith, quotient_length b g)) d.1 (others b a g xs r.0 d.0 r.1) x)
      ∙ ring R (c0 :+ v 0 :* c0) c0 refl (λ j. x ⊕ neg b)

  -- The polynomial a and then g, times 1 - w x, is a and then step w a g.
  unfoldable pub step : A → A → List A → List A
  step w a [] = neg (w ⊗ a) ∷ []
  step w a (b ∷ g) = (b ⊕ neg (w ⊗ a)) ∷ step w b g

  pub step_length : (w a : A) (g : List A) → length (step w a g) ≡ suc (length g)
  unfolding step
  step_length w a [] = refl
  step_length w a (b ∷ g) = ap suc (step_length w b g)

  step_at : (w a : A) (g : List A) (x : A) → eval (step w a g) x ≡ eval g x ⊕ neg (w ⊗ (a ⊕ x ⊗ eval g x))
  unfolding eval step
  step_at w a [] x =
      ring R (ng (v 0 :* v 1) :+ v 2 :* c0) (c0 :- v 0 :* (v 1 :+ v 2 :* c0)) refl (λ j. get_or (w ∷ a ∷ x ∷ []) j 𝟘)
  step_at w a (b ∷ g) x = ap (λ z. (b ⊕ neg (w ⊗ a)) ⊕ x ⊗ z) (step_at w b g x)
      ∙ ring R ((v 0 :- v 1 :* v 2) :+ v 3 :* (v 4 :- v 1 :* (v 0 :+ v 3 :* v 4)))
      ((v 0 :+ v 3 :* v 4) :- v 1 :* (v 2 :+ v 3 :* (v 0 :+ v 3 :* v 4))) refl
      (λ j. get_or (b ∷ w ∷ a ∷ x ∷ eval g x ∷ []) j 𝟘)

  times : (w a : A) (g : List A) (x : A) → eval (a ∷ step w a g) x ≡ (𝟙 ⊕ neg (w ⊗ x)) ⊗ eval (a ∷ g) x
  unfolding eval
  times w a g x = ap (λ z. a ⊕ x ⊗ z) (step_at w a g x)
      ∙ ring R (v 0 :+ v 1 :* (v 2 :- v 3 :* (v 0 :+ v 1 :* v 2))) ((c1 :- v 3 :* v 1) :* (v 0 :+ v 1 :* v 2)) refl
      (λ j. get_or (a ∷ x ∷ eval g x ∷ w ∷ []) j 𝟘)

  -- With w the inverse of b it is 0 at b, and where it was 0 it stays so.
  pub step_root : (w a : A) (g : List A) (b : A) → w ⊗ b ≡ 𝟙 → eval (a ∷ step w a g) b ≡ 𝟘
  step_root w a g b e = times w a g b ∙ ap (λ z. (𝟙 ⊕ neg z) ⊗ eval (a ∷ g) b) e
      ∙ ring R ((c1 :- c1) :* v 0) c0 refl (λ j. eval (a ∷ g) b)

  pub step_keep : (w a : A) (g : List A) (x : A) → eval (a ∷ g) x ≡ 𝟘 → eval (a ∷ step w a g) x ≡ 𝟘
  step_keep w a g x e = times w a g x ∙ ap (λ z. (𝟙 ⊕ neg (w ⊗ x)) ⊗ z) e ∙ L.mul-zero R (𝟙 ⊕ neg (w ⊗ x))
