-- Laws of finite sums and of the product of vectors; unit vectors, and a vector with one place more.
-- Assumes nothing.
use mathlib.Core.Path.{◌≡◌, refl, sym, ap, ap₂, ◌∙◌}
use mathlib.Core.Bool.{cond}
use mathlib.Core.List.{List, [], ◌∷◌}
use Prim.Native.Nat.{ℕ, zero, suc, ◌<◌, ◌≤◌}
use mathlib.Core.Logic.{⊎_elim}
use native.Mathlib.Nat.{eq-or-lt_of_le, le_of_suc-le-suc, not-suc-le-zero}
use native.Mathlib.Omega.{arith}
use lib.ListN.{get_or}
use lib.Dec.{eqb, ltb}
use borrow.Author.Tests.{eq-eqb, ne_eqb, lt-ltb, le-ltb}
use Rattle.algebra.specs.Ring.{Ring}
use Rattle.algebra.specs.Sum.{sum, dot}
use Rattle.algebra.proofs.Ring.{mul-zero, zero_r, zero_mul, mlcomm}
use Rattle.algebra.proofs.Normal.{v, c0, ◌:+◌, ◌:-◌, ◌:*◌, ring}

module _ {A : Type 0} (R : Ring A) where
  open R use {𝟘, 𝟙, ◌⊕◌, ◌⊗◌, neg, zero_l, one_l, mcomm, assoc}

  infixl 65 ◌⊕◌
  infixl 70 ◌⊗◌
  pub sum_cong : (n : ℕ) (f g : ℕ → A) → ((i : ℕ) → i < n → f i ≡ g i) → sum R n f ≡ sum R n g
  sum_cong zero f g h = refl
  sum_cong (suc n) f g h = ap₂ ◌⊕◌ (sum_cong n f g (λ i l. h i (omega arith))) (h n (omega arith))

  pub sum_zero : (n : ℕ) (f : ℕ → A) → ((i : ℕ) → i < n → f i ≡ 𝟘) → sum R n f ≡ 𝟘
  sum_zero zero f h = refl
  sum_zero (suc n) f h = ap₂ ◌⊕◌ (sum_zero n f (λ i l. h i (omega arith))) (h n (omega arith)) ∙ zero_l 𝟘

  pub sum_add : (n : ℕ) (f g : ℕ → A) → sum R n (λ i. f i ⊕ g i) ≡ sum R n f ⊕ sum R n g
  sum_add zero f g = sym (zero_l 𝟘)
  sum_add (suc n) f g = ap (λ z. z ⊕ (f n ⊕ g n)) (sum_add n f g)
      ∙ ring R ((v 0 :+ v 1) :+ (v 2 :+ v 3)) ((v 0 :+ v 2) :+ (v 1 :+ v 3)) refl (λ i. get_or (sum R n f ∷ sum R n g ∷ f n ∷ g n ∷ []) i 𝟘)

  pub sum_mul : (n : ℕ) (a : A) (f : ℕ → A) → sum R n (λ i. a ⊗ f i) ≡ a ⊗ sum R n f
  sum_mul zero a f = sym (mul-zero R a)
  sum_mul (suc n) a f = ap (λ z. z ⊕ a ⊗ f n) (sum_mul n a f)
      ∙ ring R (v 0 :* v 1 :+ v 0 :* v 2) (v 0 :* (v 1 :+ v 2)) refl (λ i. get_or (a ∷ sum R n f ∷ f n ∷ []) i 𝟘)

  pub sum_swap : (n m : ℕ) (f : ℕ → ℕ → A) → sum R n (λ i. sum R m (λ j. f i j)) ≡ sum R m (λ j. sum R n (λ i. f i j))
  sum_swap zero m f = sym (sum_zero m (λ j. 𝟘) (λ i l. refl))
  sum_swap (suc n) m f = ap (λ z. z ⊕ sum R m (λ j. f n j)) (sum_swap n m f) ∙ sym (sum_add m (λ j. sum R n (λ i. f i j)) (λ j. f n j))

  -- one coordinate
  abbrev pub unit : ℕ → ℕ → A
  unit c i = cond (eqb i c) 𝟙 𝟘

  pub unit_same : (c : ℕ) → unit c c ≡ 𝟙
  unit_same c = ap (λ b. cond b 𝟙 𝟘) (eq-eqb c c refl)

  pub unit_other : (c i : ℕ) → (i ≡ c → ⊥) → unit c i ≡ 𝟘
  unit_other c i h = ap (λ b. cond b 𝟙 𝟘) (ne_eqb i c h)

  pub sum_unit : (n c : ℕ) (f : ℕ → A) → c < n → sum R n (λ i. unit c i ⊗ f i) ≡ f c
  sum_unit zero c f h = absurd (not-suc-le-zero h)
  sum_unit (suc n) c f h = ⊎_elim
      (λ (e : c ≡ n). rw e
      (ap₂ ◌⊕◌ (sum_zero n (λ i. unit n i ⊗ f i) (λ i l. ap (λ z. z ⊗ f i) (unit_other n i (λ q. omega arith)) ∙ zero_mul R (f i)))
      (ap (λ z. z ⊗ f n) (unit_same n) ∙ one_l (f n)) ∙ zero_l (f n)))
      (λ (l : c < n). ap₂ ◌⊕◌ (sum_unit n c f l) (ap (λ z. z ⊗ f n) (unit_other c n (λ q. omega arith)) ∙ zero_mul R (f n))
      ∙ zero_r R (f c))
      (eq-or-lt_of_le (le_of_suc-le-suc h))

  -- the first m of c, and then a
  abbrev pub put : ℕ → (ℕ → A) → A → ℕ → A
  put m c a k = cond (ltb k m) (c k) a

  pub put_lt : (m : ℕ) (c : ℕ → A) (a : A) (k : ℕ) → k < m → put m c a k ≡ c k
  put_lt m c a k h = ap (λ b. cond b (c k) a) (lt-ltb k m h)

  pub put_at : (m : ℕ) (c : ℕ → A) (a : A) → put m c a m ≡ a
  put_at m c a = ap (λ b. cond b (c m) a) (le-ltb m m (omega arith))

  pub sum_put : (m : ℕ) (c : ℕ → A) (a : A) (w : ℕ → A) → sum R (suc m) (λ k. put m c a k ⊗ w k) ≡ sum R m (λ k. c k ⊗ w k) ⊕ a ⊗ w m
  sum_put m c a w = ap₂ ◌⊕◌ (sum_cong m (λ k. put m c a k ⊗ w k) (λ k. c k ⊗ w k) (λ k l. ap (λ z. z ⊗ w k) (put_lt m c a k l)))
      (ap (λ z. z ⊗ w m) (put_at m c a))

  -- the product is linear in each argument
  pub dot_sub : (n : ℕ) (y w t : ℕ → A) (b : A) → dot R n (λ i. y i ⊕ neg (b ⊗ w i)) t ≡ dot R n y t ⊕ neg (b ⊗ dot R n w t)
  dot_sub zero y w t b = ring R c0 (c0 :- v 0 :* c0) refl (λ i. b)
  dot_sub (suc n) y w t b = ap (λ z. z ⊕ (y n ⊕ neg (b ⊗ w n)) ⊗ t n) (dot_sub n y w t b)
      ∙ ring R ((v 0 :- v 2 :* v 1) :+ (v 3 :- v 2 :* v 4) :* v 5) ((v 0 :+ v 3 :* v 5) :- v 2 :* (v 1 :+ v 4 :* v 5)) refl
      (λ i. get_or (dot R n y t ∷ dot R n w t ∷ b ∷ y n ∷ w n ∷ t n ∷ []) i 𝟘)

  pub dot_comm : (n : ℕ) (x y : ℕ → A) → dot R n x y ≡ dot R n y x
  dot_comm n x y = sum_cong n (λ i. x i ⊗ y i) (λ i. y i ⊗ x i) (λ i l. mcomm (x i) (y i))

  pub dot_sub_r : (n : ℕ) (y t w : ℕ → A) (b : A) → dot R n y (λ i. t i ⊕ neg (b ⊗ w i)) ≡ dot R n y t ⊕ neg (b ⊗ dot R n y w)
  dot_sub_r n y t w b = dot_comm n y (λ i. t i ⊕ neg (b ⊗ w i)) ∙ dot_sub n t w y b
      ∙ ap₂ (λ p q. p ⊕ neg (b ⊗ q)) (dot_comm n t y) (dot_comm n w y)

  -- a functional of a combination
  pub dot_comb : (n m : ℕ) (y c : ℕ → A) (w : ℕ → ℕ → A)
      → dot R n y (λ i. sum R m (λ k. c k ⊗ w k i)) ≡ sum R m (λ k. c k ⊗ dot R n y (w k))
  dot_comb n m y c w =
      sum_cong n (λ i. y i ⊗ sum R m (λ k. c k ⊗ w k i)) (λ i. sum R m (λ k. y i ⊗ (c k ⊗ w k i)))
      (λ i l. sym (sum_mul m (y i) (λ k. c k ⊗ w k i)))
      ∙ sum_swap n m (λ i k. y i ⊗ (c k ⊗ w k i))
      ∙ sum_cong m (λ k. sum R n (λ i. y i ⊗ (c k ⊗ w k i))) (λ k. c k ⊗ dot R n y (w k))
      (λ k l. sum_cong n (λ i. y i ⊗ (c k ⊗ w k i)) (λ i. c k ⊗ (y i ⊗ w k i)) (λ i l. mlcomm R (y i) (c k) (w k i))
      ∙ sum_mul n (c k) (λ i. y i ⊗ w k i))

  abbrev pub tab : ℕ → (ℕ → A) → List A
  tab zero f = []
  tab (suc n) f = f zero ∷ tab n (λ i. f (suc i))

  pub get_d_tab : (n : ℕ) (f : ℕ → A) (i : ℕ) → i < n → get_or (tab n f) i 𝟘 ≡ f i
  get_d_tab zero f i l = absurd (not-suc-le-zero l)
  get_d_tab (suc n) f zero l = refl
  get_d_tab (suc n) f (suc i) l = get_d_tab n (λ i. f (suc i)) i (le_of_suc-le-suc l)

  -- the first term apart
  pub sum_first : (n : ℕ) (f : ℕ → A) → sum R (suc n) f ≡ f zero ⊕ sum R n (λ i. f (suc i))
  sum_first zero f = ring R (c0 :+ v 0) (v 0 :+ c0) refl (λ i. f zero)
  sum_first (suc n) f = ap (λ z. z ⊕ f (suc n)) (sum_first n f) ∙ assoc (f zero) (sum R n (λ i. f (suc i))) (f (suc n))

  -- one place changed that was 0
  pub sum_set : (n c : ℕ) (f g : ℕ → A) → c < n → f c ≡ 𝟘 → ((i : ℕ) → i < n → (i ≡ c → ⊥) → g i ≡ f i) → sum R n g ≡ sum R n f ⊕ g c
  sum_set zero c f g l z h = absurd (not-suc-le-zero l)
  sum_set (suc n) c f g l z h = ⊎_elim
      (λ (q : c ≡ n). ap (λ x. x ⊕ g n) (sum_cong n g f (λ i li. h i (omega arith) (λ r. omega arith)))
      ∙ ring R (v 0 :+ v 1) (v 0 :+ c0 :+ v 1) refl (λ j. get_or (sum R n f ∷ g n ∷ []) j 𝟘)
      ∙ ap₂ (λ x y. sum R n f ⊕ x ⊕ y) (sym z ∙ ap f q) (ap g (sym q)))
      (λ (q : c < n). ap₂ ◌⊕◌ (sum_set n c f g q z (λ i li. h i (omega arith))) (h n (omega arith) (λ r. omega arith))
      ∙ ring R (v 0 :+ v 1 :+ v 2) (v 0 :+ v 2 :+ v 1) refl (λ j. get_or (sum R n f ∷ g c ∷ f n ∷ []) j 𝟘))
      (eq-or-lt_of_le (le_of_suc-le-suc l))

  -- one place only
  pub sum_at : (n c : ℕ) (g : ℕ → A) → c < n → ((i : ℕ) → i < n → (i ≡ c → ⊥) → g i ≡ 𝟘) → sum R n g ≡ g c
  sum_at n c g l h = sum_set n c (λ i. 𝟘) g l refl h ∙ ap (λ x. x ⊕ g c) (sum_zero n (λ i. 𝟘) (λ i l. refl)) ∙ zero_l (g c)

  -- nothing from j on
  pub sum_cut : (n j : ℕ) (f : ℕ → A) → j ≤ n → ((i : ℕ) → j ≤ i → i < n → f i ≡ 𝟘) → sum R n f ≡ sum R j f
  sum_cut zero zero f l h = refl
  sum_cut zero (suc j) f l h = absurd (not-suc-le-zero l)
  sum_cut (suc n) j f l h = ⊎_elim
      (λ (q : j ≡ suc n). ap (λ (k : ℕ). sum R k f) (sym q))
      (λ (q : j < suc n). ap₂ ◌⊕◌ (sum_cut n j f (omega arith) (λ i a b. h i a (omega arith))) (h n (omega arith) (omega arith))
      ∙ zero_r R (sum R j f))
      (eq-or-lt_of_le l)

  pub sum_lin : (n : ℕ) (a : A) (c d x : ℕ → A)
      → sum R n (λ k. (c k ⊕ a ⊗ d k) ⊗ x k) ≡ sum R n (λ k. c k ⊗ x k) ⊕ a ⊗ sum R n (λ k. d k ⊗ x k)
  sum_lin zero a c d x = ring R c0 (c0 :+ v 0 :* c0) refl (λ j. a)
  sum_lin (suc n) a c d x = ap (λ z. z ⊕ (c n ⊕ a ⊗ d n) ⊗ x n) (sum_lin n a c d x)
      ∙ ring R ((v 0 :+ v 2 :* v 1) :+ (v 3 :+ v 2 :* v 4) :* v 5) ((v 0 :+ v 3 :* v 5) :+ v 2 :* (v 1 :+ v 4 :* v 5)) refl
      (λ i. get_or (sum R n (λ k. c k ⊗ x k) ∷ sum R n (λ k. d k ⊗ x k) ∷ a ∷ c n ∷ d n ∷ x n ∷ []) i 𝟘)
