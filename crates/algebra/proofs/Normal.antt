-- A normaliser for commutative rings: two expressions whose signed sums of sorted monomials agree are equal in every ring.
-- `ring e f refl ρ` proves an identity; e and f are its two sides as expressions, ρ gives the value of each variable.
-- Assumes nothing.
use mathlib.Core.Path.{◌≡◌, refl, sym, ap, ap₂, ◌∙◌}
use mathlib.Core.Bool.{Bool, true, false, not}
use mathlib.Core.List.{List, [], ◌∷◌}
use Prim.Native.Nat.{ℕ}
use lib.Dec.{leb, ltb}
use Rattle.algebra.specs.Ring.{Ring}
use Rattle.algebra.proofs.Ring.{lcomm, mlcomm, zero_r, one_r, dist_r, cancel, mul-zero, zero_mul, neg_mul, mul_neg, neg_add, neg_neg, neg_zero}

infixl 65 ◌:+◌
infixl 65 ◌:-◌
infixl 70 ◌:*◌
pub data Ex : Type 0 where
  v : ℕ → Ex
  c0 : Ex
  c1 : Ex
  ◌:+◌ : Ex → Ex → Ex
  ◌:-◌ : Ex → Ex → Ex
  ◌:*◌ : Ex → Ex → Ex
  ng : Ex → Ex

abbrev ins : ℕ → List ℕ → List ℕ
ins x [] = x ∷ []
ins x (y ∷ ys) = elim (leb x y) [ true ↦ x ∷ y ∷ ys | false ↦ y ∷ ins x ys ]

abbrev mul_m : List ℕ → List ℕ → List ℕ
mul_m [] b = b
mul_m (x ∷ a) b = ins x (mul_m a b)

abbrev le_m : List ℕ → List ℕ → Bool
le_m [] b = true
le_m (x ∷ a) [] = false
le_m (x ∷ a) (y ∷ b) = elim (ltb x y) [ true ↦ true | false ↦ elim (ltb y x) [ true ↦ false | false ↦ le_m a b ] ]

abbrev ins_p : List ℕ → List (List ℕ) → List (List ℕ)
ins_p m [] = m ∷ []
ins_p m (q ∷ p) = elim (le_m m q) [ true ↦ m ∷ q ∷ p | false ↦ q ∷ ins_p m p ]

abbrev add_p : List (List ℕ) → List (List ℕ) → List (List ℕ)
add_p [] q = q
add_p (m ∷ p) q = ins_p m (add_p p q)

abbrev mul_mP : List ℕ → List (List ℕ) → List (List ℕ)
mul_mP m [] = []
mul_mP m (q ∷ p) = ins_p (mul_m m q) (mul_mP m p)

abbrev mul_p : List (List ℕ) → List (List ℕ) → List (List ℕ)
mul_p [] q = []
mul_p (m ∷ p) q = add_p (mul_mP m q) (mul_p p q)

abbrev at : Bool → List (List ℕ) → List (List ℕ)
at true p = p
at false p = []

-- the monomials of a sign
abbrev pub nf : Ex → Bool → List (List ℕ)
nf (v i) s = at s ((i ∷ []) ∷ [])
nf c0 s = []
nf c1 s = at s ([] ∷ [])
nf (a :+ b) s = add_p (nf a s) (nf b s)
nf (a :- b) s = add_p (nf a s) (nf b (not s))
nf (a :* b) s = add_p (mul_p (nf a true) (nf b s)) (mul_p (nf a false) (nf b (not s)))
nf (ng a) s = nf a (not s)

module _ {A : Type 0} (R : Ring A) where
  open R use {𝟘, 𝟙, ◌⊕◌, ◌⊗◌, neg, comm, assoc, zero_l, neg_r, mcomm, massoc, one_l, dist_l}

  infixl 65 ◌⊕◌
  infixl 70 ◌⊗◌
  abbrev pub ⟦◌⟧ : Ex → (ℕ → A) → A
  ⟦ v i ⟧ ρ = ρ i
  ⟦ c0 ⟧ ρ = 𝟘
  ⟦ c1 ⟧ ρ = 𝟙
  ⟦ a :+ b ⟧ ρ = ⟦ a ⟧ ρ ⊕ ⟦ b ⟧ ρ
  ⟦ a :- b ⟧ ρ = ⟦ a ⟧ ρ ⊕ neg (⟦ b ⟧ ρ)
  ⟦ a :* b ⟧ ρ = ⟦ a ⟧ ρ ⊗ ⟦ b ⟧ ρ
  ⟦ ng a ⟧ ρ = neg (⟦ a ⟧ ρ)

  abbrev ev_m : (ℕ → A) → List ℕ → A
  ev_m ρ [] = 𝟙
  ev_m ρ (x ∷ m) = ρ x ⊗ ev_m ρ m

  abbrev ev_p : (ℕ → A) → List (List ℕ) → A
  ev_p ρ [] = 𝟘
  ev_p ρ (m ∷ p) = ev_m ρ m ⊕ ev_p ρ p

  ins_ok : (ρ : ℕ → A) (x : ℕ) (m : List ℕ) → ev_m ρ (ins x m) ≡ ρ x ⊗ ev_m ρ m
  ins_ok ρ x [] = refl
  ins_ok ρ x (y ∷ ys) = go (leb x y) (ins_ok ρ x ys)
    where
      go : (b : Bool) → ev_m ρ (ins x ys) ≡ ρ x ⊗ ev_m ρ ys
          → ev_m ρ (elim b [ true ↦ x ∷ y ∷ ys | false ↦ y ∷ ins x ys ]) ≡ ρ x ⊗ (ρ y ⊗ ev_m ρ ys)
      go true ih = refl
      go false ih = ap (λ z. ρ y ⊗ z) ih ∙ (mlcomm R (ρ y) (ρ x) (ev_m ρ ys))

  mul_m_ok : (ρ : ℕ → A) (a b : List ℕ) → ev_m ρ (mul_m a b) ≡ ev_m ρ a ⊗ ev_m ρ b
  mul_m_ok ρ [] b = sym (one_l (ev_m ρ b))
  mul_m_ok ρ (x ∷ a) b = ins_ok ρ x (mul_m a b) ∙ rw (mul_m_ok ρ a b, massoc)

  ins_p_ok : (ρ : ℕ → A) (m : List ℕ) (p : List (List ℕ)) → ev_p ρ (ins_p m p) ≡ ev_m ρ m ⊕ ev_p ρ p
  ins_p_ok ρ m [] = refl
  ins_p_ok ρ m (q ∷ p) = go (le_m m q) (ins_p_ok ρ m p)
    where
      go : (b : Bool) → ev_p ρ (ins_p m p) ≡ ev_m ρ m ⊕ ev_p ρ p
          → ev_p ρ (elim b [ true ↦ m ∷ q ∷ p | false ↦ q ∷ ins_p m p ]) ≡ ev_m ρ m ⊕ (ev_m ρ q ⊕ ev_p ρ p)
      go true ih = refl
      go false ih = ap (λ z. ev_m ρ q ⊕ z) ih ∙ (lcomm R (ev_m ρ q) (ev_m ρ m) (ev_p ρ p))

  add_p_ok : (ρ : ℕ → A) (p q : List (List ℕ)) → ev_p ρ (add_p p q) ≡ ev_p ρ p ⊕ ev_p ρ q
  add_p_ok ρ [] q = sym (zero_l (ev_p ρ q))
  add_p_ok ρ (m ∷ p) q = ins_p_ok ρ m (add_p p q) ∙ rw (add_p_ok ρ p q, assoc)

  mul_mP_ok : (ρ : ℕ → A) (m : List ℕ) (q : List (List ℕ)) → ev_p ρ (mul_mP m q) ≡ ev_m ρ m ⊗ ev_p ρ q
  mul_mP_ok ρ m [] = sym (mul-zero R (ev_m ρ m))
  mul_mP_ok ρ m (x ∷ q) = ins_p_ok ρ (mul_m m x) (mul_mP m q) ∙ rw (mul_m_ok ρ m x, mul_mP_ok ρ m q, dist_l)

  mul_p_ok : (ρ : ℕ → A) (p q : List (List ℕ)) → ev_p ρ (mul_p p q) ≡ ev_p ρ p ⊗ ev_p ρ q
  mul_p_ok ρ [] q = sym (zero_mul R (ev_p ρ q))
  mul_p_ok ρ (m ∷ p) q = add_p_ok ρ (mul_mP m q) (mul_p p q) ∙ rw (mul_mP_ok ρ m q, mul_p_ok ρ p q, dist_r R)

  plus : (a b c d : A) → (a ⊕ neg b) ⊕ (c ⊕ neg d) ≡ (a ⊕ c) ⊕ neg (b ⊕ d)
  plus a b c d = simp (neg_add R, assoc, lcomm R)

  minus : (a b c d : A) → (a ⊕ neg b) ⊕ neg (c ⊕ neg d) ≡ (a ⊕ d) ⊕ neg (b ⊕ c)
  minus a b c d = simp (neg_add R, neg_neg R, assoc, lcomm R, comm)

  times : (a b c d : A) → (a ⊕ neg b) ⊗ (c ⊕ neg d) ≡ ((a ⊗ c) ⊕ (b ⊗ d)) ⊕ neg ((a ⊗ d) ⊕ (b ⊗ c))
  times a b c d = simp (dist_l, dist_r R, neg_mul R, mul_neg R, neg_add R, neg_neg R, assoc, lcomm R, comm)

  -- the value is the difference of the two signs' sums; flipping the sign negates it
  nf_ok : (ρ : ℕ → A) (e : Ex) → ⟦ e ⟧ ρ ≡ ev_p ρ (nf e true) ⊕ neg (ev_p ρ (nf e false))
  nf_ok ρ (v i) = simp (one_r R, zero_r R, neg_zero R)
  nf_ok ρ c0 = simp (zero_r R, neg_zero R)
  nf_ok ρ c1 = simp (zero_r R, neg_zero R)
  nf_ok ρ (a :+ b) =
      ap₂ ◌⊕◌ (nf_ok ρ a) (nf_ok ρ b) ∙ plus (ev_p ρ (nf a true)) (ev_p ρ (nf a false)) (ev_p ρ (nf b true)) (ev_p ρ (nf b false))
      ∙ ap₂ (λ x y. x ⊕ neg y) (sym (add_p_ok ρ (nf a true) (nf b true))) (sym (add_p_ok ρ (nf a false) (nf b false)))
  nf_ok ρ (a :- b) =
      ap₂ (λ x y. x ⊕ neg y) (nf_ok ρ a) (nf_ok ρ b)
      ∙ minus (ev_p ρ (nf a true)) (ev_p ρ (nf a false)) (ev_p ρ (nf b true)) (ev_p ρ (nf b false))
      ∙ ap₂ (λ x y. x ⊕ neg y) (sym (add_p_ok ρ (nf a true) (nf b false))) (sym (add_p_ok ρ (nf a false) (nf b true)))
  nf_ok ρ (a :* b) =
      ap₂ ◌⊗◌ (nf_ok ρ a) (nf_ok ρ b) ∙ times (ev_p ρ (nf a true)) (ev_p ρ (nf a false)) (ev_p ρ (nf b true)) (ev_p ρ (nf b false))
      ∙ ap₂ (λ x y. x ⊕ neg y) (prods true) (prods false)
    where
      prods : (s : Bool) → (ev_p ρ (nf a true) ⊗ ev_p ρ (nf b s)) ⊕ (ev_p ρ (nf a false) ⊗ ev_p ρ (nf b (not s))) ≡ ev_p ρ (nf (a :* b) s)
      prods s = sym
          (add_p_ok ρ (mul_p (nf a true) (nf b s)) (mul_p (nf a false) (nf b (not s)))
          ∙ ap₂ ◌⊕◌ (mul_p_ok ρ (nf a true) (nf b s)) (mul_p_ok ρ (nf a false) (nf b (not s))))
  nf_ok ρ (ng a) = ap neg (nf_ok ρ a) ∙ simp (neg_add R, neg_neg R, comm)

  pub ring : (e f : Ex) → add_p (nf e true) (nf f false) ≡ add_p (nf f true) (nf e false) → (ρ : ℕ → A) → ⟦ e ⟧ ρ ≡ ⟦ f ⟧ ρ
  ring e f h ρ = nf_ok ρ e
      ∙ move (ev_p ρ (nf e true)) (ev_p ρ (nf e false)) (ev_p ρ (nf f true)) (ev_p ρ (nf f false))
      (sym (add_p_ok ρ (nf e true) (nf f false)) ∙ ap (ev_p ρ) h ∙ add_p_ok ρ (nf f true) (nf e false)) ∙ sym (nf_ok ρ f)
    where
      l : (a b d : A) → b ⊕ d ⊕ (a ⊕ neg b) ≡ a ⊕ d
      l a b d = ap₂ ◌⊕◌ (comm b d) (comm a (neg b)) ∙ assoc d b (neg b ⊕ a)
          ∙ ap (λ x. d ⊕ x) (sym (assoc b (neg b) a) ∙ simp (neg_r, zero_l)) ∙ comm d a

      r : (b c d : A) → b ⊕ d ⊕ (c ⊕ neg d) ≡ c ⊕ b
      r b c d = ap (λ x. b ⊕ d ⊕ x) (comm c (neg d)) ∙ assoc b d (neg d ⊕ c)
          ∙ ap (λ x. b ⊕ x) (sym (assoc d (neg d) c) ∙ simp (neg_r, zero_l)) ∙ comm b c

      move : (a b c d : A) → a ⊕ d ≡ c ⊕ b → a ⊕ neg b ≡ c ⊕ neg d
      move a b c d e = cancel R (b ⊕ d) (a ⊕ neg b) (c ⊕ neg d) (l a b d ∙ e ∙ sym (r b c d))
