-- The one question over a field: for vectors w 0 .. w (m - 1) and t there is either the combination that is 0 at each vector which
-- depends on those before it, or a functional that is 0 on each vector and 1 on t; never both; and that combination is unique.
-- The proof computes: it goes through the vectors in order and keeps for each that is kept a functional which is 1 on it and 0 on those
-- before it. `memo` tabulates a vector, so that a run costs what an elimination costs.
-- Assumes nothing.
use mathlib.Core.Path.{◌≡◌, refl, sym, ap, ap₂, ◌∙◌}
use mathlib.Core.Logic.{◌⊎◌, inl, inr, ⊎_elim}
use mathlib.Core.List.{[], ◌∷◌}
use Prim.Native.Nat.{ℕ, zero, suc, ◌<◌}
use native.Mathlib.Nat.{not-suc-le-zero}
use native.Mathlib.Omega.{arith}
use lib.ListN.{get_or}
use Rattle.algebra.specs.Ring.{Field}
use Rattle.algebra.specs.Sum.{sum, dot}
use Rattle.algebra.proofs.Cases.{below_suc}
use Rattle.algebra.proofs.Ring.{mul-zero, zero_r, zero_mul}
use Rattle.algebra.proofs.Normal.{v, c0, c1, ◌:+◌, ◌:-◌, ◌:*◌, ring}
use Rattle.algebra.proofs.Sum.{tab, get_d_tab, sum_cong, sum_zero, unit, sum_unit, put, put_lt, put_at, sum_put, dot_sub, dot_sub_r, dot_comb}
use Rattle.linear.specs.Space.{Comb}

module _ {A : Type 0} (K : Field A) (n : ℕ) (w : ℕ → ℕ → A) where
  open K use {R}
  open R use {𝟘, 𝟙, ◌⊕◌, ◌⊗◌, neg, zero_l, one_l, mcomm, massoc}

  infixl 65 ◌⊕◌
  infixl 70 ◌⊗◌
  -- 0 at each vector that is a combination of all those before it. For the marks of the kept rule this is 0 at each vector that is not
  -- kept (proofs/Kept.antt), and it needs no marks.
  abbrev pub Canon : ℕ → (ℕ → A) → Type 0
  Canon m c = (k : ℕ) → k < m → Comb K n w k (w k) → c k ≡ 𝟘

  -- A functional that is 0 on each of the first m vectors and 1 on t: `Separates` with its functional.
  abbrev pub Sep : ℕ → (ℕ → A) → Type 0
  Sep m t = (y : ℕ → A) × ((k : ℕ) → k < m → dot R n y (w k) ≡ 𝟘) × (dot R n y t ≡ 𝟙)

  -- a functional of a combination of the first m
  pub at_comb : (m : ℕ) (t y : ℕ → A) (c : Comb K n w m t) → dot R n y t ≡ sum R m (λ k. c.0 k ⊗ dot R n y (w k))
  at_comb m t y c =
      sum_cong R n (λ i. y i ⊗ t i) (λ i. y i ⊗ sum R m (λ k. c.0 k ⊗ w k i)) (λ i l. ap (λ z. y i ⊗ z) (sym (c.1 i l)))
      ∙ dot_comb R n m y c.0 w

  pub zeros : (m : ℕ) (c y : ℕ → A) → ((k : ℕ) → k < m → dot R n y (w k) ≡ 𝟘) → sum R m (λ k. c k ⊗ dot R n y (w k)) ≡ 𝟘
  zeros m c y h = sum_zero R m (λ k. c k ⊗ dot R n y (w k)) (λ k l. ap (λ z. c k ⊗ z) (h k l) ∙ mul-zero R (c k))

  pub never : (m : ℕ) (t : ℕ → A) → Comb K n w m t → Sep m t → ⊥
  never m t c y = K.one≢zero (sym y.2 ∙ at_comb m t y.0 c ∙ zeros m c.0 y.0 y.1)

  -- a vector is 0, or has a place with an inverse
  abbrev pub place : (m : ℕ) (t : ℕ → A) → ((i : ℕ) → i < m → t i ≡ 𝟘) ⊎ ((c : ℕ) × (c < m) × (b : A) × (b ⊗ t c ≡ 𝟙))
  place zero t = inl (λ i l. absurd (not-suc-le-zero l))
  place (suc m) t = ⊎_elim
      (λ h. ⊎_elim
      (λ e. inl (below_suc (λ i. t i ≡ 𝟘) m h e))
      (λ u. inr (m, omega arith, u.0, u.1))
      (K.inverse? (t m)))
      (λ u. inr (u.0, omega arith, u.2, u.3))
      (place m t)

  abbrev pub Answer : ℕ → (ℕ → A) → Type 0
  Answer m t = ((c : Comb K n w m t) × Canon m c.0) ⊎ Sep m t

  -- the same vector from a list, which is computed once
  abbrev pub memo : (ℕ → A) → ℕ → A
  memo f = let l = tab R n f in λ i. get_or l i 𝟘

  pub memo_at : (f : ℕ → A) (i : ℕ) → i < n → memo f i ≡ f i
  memo_at f i l = get_d_tab R n f i l

  -- an answer is one for every vector that is the same below n
  abbrev pub resp : (m : ℕ) (t u : ℕ → A) → ((i : ℕ) → i < n → t i ≡ u i) → Answer m t → Answer m u
  resp m t u e (inl (c, s)) = inl ((c.0, λ i l. c.1 i l ∙ e i l), s)
  resp m t u e (inr y) = inr
      (y.0, y.1, sum_cong R n (λ i. y.0 i ⊗ u i) (λ i. y.0 i ⊗ t i) (λ i l. ap (λ z. y.0 i ⊗ z) (sym (e i l))) ∙ y.2)

  abbrev pub memo_sep : (m : ℕ) (t : ℕ → A) → Sep m t → Sep m t
  memo_sep m t y = (
    memo y.0,
    (λ k l. sum_cong R n (λ i. memo y.0 i ⊗ w k i) (λ i. y.0 i ⊗ w k i) (λ i l. ap (λ z. z ⊗ w k i) (memo_at y.0 i l)) ∙ y.1 k l),
    sum_cong R n (λ i. memo y.0 i ⊗ t i) (λ i. y.0 i ⊗ t i) (λ i l. ap (λ z. z ⊗ t i) (memo_at y.0 i l)) ∙ y.2,
  )

  abbrev pub base : (t : ℕ → A) → Answer zero t
  base t = ⊎_elim
      (λ h. inl (((λ k. 𝟘), λ i l. sym (h i l)), λ k l. absurd (not-suc-le-zero l)))
      (λ u. inr (
        (λ i. unit R u.0 i ⊗ u.2),
        (λ k l. absurd (not-suc-le-zero l)),
        sum_cong R n (λ i. unit R u.0 i ⊗ u.2 ⊗ t i) (λ i. unit R u.0 i ⊗ (u.2 ⊗ t i))
            (λ i l. massoc (unit R u.0 i) u.2 (t i))
            ∙ sum_unit R n u.0 (λ i. u.2 ⊗ t i) u.1 ∙ u.3,
      ))
      (place n t)

  -- the last vector is dependent: it gets 0
  abbrev pub skip : (m : ℕ) (t : ℕ → A) → Comb K n w m (w m) → Answer m t → Answer (suc m) t
  skip m t d (inl (c, s)) = inl (
    (put R m c.0 𝟘, λ i l. sum_put R m c.0 𝟘 (λ k. w k i) ∙ ap₂ ◌⊕◌ (c.1 i l) (zero_mul R (w m i)) ∙ zero_r R (t i)),
    below_suc (λ k. Comb K n w k (w k) → put R m c.0 𝟘 k ≡ 𝟘) m (λ k l e. put_lt R m c.0 𝟘 k l ∙ s k l e) (λ e. put_at R m c.0 𝟘),
  )
  skip m t d (inr y) = inr
      (y.0, below_suc (λ k. dot R n y.0 (w k) ≡ 𝟘) m y.1 (at_comb m (w m) y.0 d ∙ zeros m d.0 y.0 y.1), y.2)

  -- the last vector is kept: y is 0 at those before it and 1 at it
  abbrev pub take : (m : ℕ) (t : ℕ → A) (y : Sep m (w m)) → Answer m (λ i. t i ⊕ neg (dot R n y.0 t ⊗ w m i)) → Answer (suc m) t
  take m t y (inl (c, s)) = inl (
    (
      put R m c.0 a,
      λ i l. sum_put R m c.0 a (λ k. w k i) ∙ ap (λ z. z ⊕ a ⊗ w m i) (c.1 i l)
          ∙ ring R (v 0 :- v 1 :* v 2 :+ v 1 :* v 2) (v 0) refl (λ j. get_or (t i ∷ a ∷ w m i ∷ []) j 𝟘),
    ),
    below_suc (λ k. Comb K n w k (w k) → put R m c.0 a k ≡ 𝟘) m (λ k l e. put_lt R m c.0 a k l ∙ s k l e)
        (λ e. absurd (never m (w m) e y)),
  )
    where
      a : A
      a = dot R n y.0 t
  take m t y (inr u) = inr (x, below_suc (λ k. dot R n x (w k) ≡ 𝟘) m old new, one)
    where
      b : A
      b = dot R n u.0 (w m)

      x : ℕ → A
      x i = u.0 i ⊕ neg (b ⊗ y.0 i)

      old : (k : ℕ) → k < m → dot R n x (w k) ≡ 𝟘
      old k l = dot_sub R n u.0 y.0 (w k) b ∙ ap₂ (λ z q. z ⊕ neg (b ⊗ q)) (u.1 k l) (y.1 k l)
          ∙ ring R (c0 :- v 0 :* c0) c0 refl (λ i. b)

      new : dot R n x (w m) ≡ 𝟘
      new = dot_sub R n u.0 y.0 (w m) b ∙ ap (λ q. b ⊕ neg (b ⊗ q)) y.2 ∙ ring R (v 0 :- v 0 :* c1) c0 refl (λ i. b)

      one : dot R n x t ≡ 𝟙
      one = dot_sub R n u.0 y.0 t b ∙ ap (λ z. dot R n u.0 t ⊕ neg z) (mcomm b (dot R n y.0 t))
          ∙ sym (dot_sub_r R n u.0 t (w m) (dot R n y.0 t)) ∙ u.2

  -- the answers for each vector over those before it
  abbrev pub St : ℕ → Type 0
  St zero = Unit {0}
  St (suc m) = St m × Answer m (w m)

  abbrev pub query : (m : ℕ) → St m → (t : ℕ → A) → Answer m t
  query zero s t = base t
  query (suc m) s t = ⊎_elim
      (λ d. skip m t d.0 (query m s.0 t))
      (λ y. let a = dot R n y.0 t in let u = memo (λ i. t i ⊕ neg (a ⊗ w m i)) in
      fix (take m t y (resp m u (λ i. t i ⊕ neg (a ⊗ w m i)) (memo_at (λ i. t i ⊕ neg (a ⊗ w m i))) (query m s.0 u))))
      s.1
    where
      fix : Answer (suc m) t → Answer (suc m) t
      fix (inl c) = inl c
      fix (inr y) = inr (memo_sep (suc m) t y)

  abbrev pub build : (m : ℕ) → St m
  build zero = tt
  build (suc m) = let s = build m in (s, query m s (w m))

  abbrev pub solve : (m : ℕ) (t : ℕ → A) → Answer m t
  solve m t = query m (build m) t

  -- a functional that separates the last vector reads its coefficient
  last : (m : ℕ) (t : ℕ → A) (y : Sep m (w m)) (c : Comb K n w (suc m) t) → dot R n y.0 t ≡ c.0 m
  last m t y c = at_comb (suc m) t y.0 c ∙ ap₂ (λ p q. p ⊕ c.0 m ⊗ q) (zeros m c.0 y.0 y.1) y.2
      ∙ ring R (c0 :+ v 0 :* c1) (v 0) refl (λ i. c.0 m)

  -- the rest, where the last coefficient is a
  rest : (m : ℕ) (t : ℕ → A) (a : A) (c : Comb K n w (suc m) t) → c.0 m ≡ a → Comb K n w m (λ i. t i ⊕ neg (a ⊗ w m i))
  rest m t a c e = (
    c.0,
    λ i l. ring R (v 0) (v 0 :+ v 1 :- v 1) refl (λ j. get_or (sum R m (λ k. c.0 k ⊗ w k i) ∷ c.0 m ⊗ w m i ∷ []) j 𝟘)
        ∙ ap₂ (λ p q. p ⊕ neg (q ⊗ w m i)) (c.1 i l) e,
  )

  pub unique : (m : ℕ) (t : ℕ → A) (c d : Comb K n w m t) → Canon m c.0 → Canon m d.0 → (k : ℕ) → k < m → c.0 k ≡ d.0 k
  unfolding rest
  unique zero t c d p q = λ k l. absurd (not-suc-le-zero l)
  unique (suc m) t c d p q = below_suc (λ k. c.0 k ≡ d.0 k) m
      (unique m (λ i. t i ⊕ neg (d.0 m ⊗ w m i)) (rest m t (d.0 m) c same) (rest m t (d.0 m) d refl) (λ k l. p k (omega arith))
      (λ k l. q k (omega arith)))
      same
    where
      same : c.0 m ≡ d.0 m
      same = ⊎_elim (λ e. p m (omega arith) e.0 ∙ sym (q m (omega arith) e.0)) (λ y. sym (last m t y c) ∙ last m t y d)
          (solve m (w m))

  -- what a combination of rows does to a dealing: the weighted shares give the target's product
  pub recover : (m : ℕ) (t b : ℕ → A) (c : Comb K n w m t) → sum R m (λ k. c.0 k ⊗ dot R n b (w k)) ≡ dot R n b t
  recover m t b c = sym (at_comb m t b c)

  -- a vector that each row kills may be added without a change
  pub shift : (m : ℕ) (b z : ℕ → A) (a : A) → ((k : ℕ) → k < m → dot R n z (w k) ≡ 𝟘) → (k : ℕ) → k < m
      → dot R n (λ i. b i ⊕ neg (a ⊗ z i)) (w k) ≡ dot R n b (w k)
  shift m b z a h k l = dot_sub R n b z (w k) a ∙ ap (λ q. dot R n b (w k) ⊕ neg (a ⊗ q)) (h k l)
      ∙ ring R (v 0 :- v 1 :* c0) (v 0) refl (λ j. get_or (dot R n b (w k) ∷ a ∷ []) j 𝟘)
