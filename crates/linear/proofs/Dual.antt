-- The plan of the general elimination, over a field: for each vector w k a functional y k that is 1 on it and 0 on those before it, or
-- y k = 0 where w k depends on those before it. `Down` takes the vectors off a target from the last to the first, as often as their
-- functionals say; `Up` makes of a place where something is left a functional that is 0 on each vector.
-- Assumes nothing.
use mathlib.Core.Path.{◌≡◌, refl, sym, ap, ap₂, ◌∙◌}
use mathlib.Core.Bool.{Bool, true, false, cond, true≢false, false≢true}
use mathlib.Core.Logic.{◌⊎◌, inl, inr, ⊎_elim}
use mathlib.Core.List.{[], ◌∷◌}
use Prim.Native.Nat.{ℕ, zero, suc, ◌<◌, ◌≤◌}
use native.Mathlib.Nat.{eq-or-lt_of_le, not-suc-le-zero}
use native.Mathlib.Omega.{arith}
use lib.ListN.{get_or}
use lib.Dec.{leb, eqb}
use borrow.Author.Tests.{eq-eqb, ne_eqb, le-leb, lt-leb}
use Rattle.algebra.specs.Ring.{Field}
use Rattle.algebra.specs.Sum.{sum, dot}
use Rattle.algebra.proofs.Cases.{same?, apart, below_suc}
use Rattle.algebra.proofs.Ring.{zero_r, zero_mul}
use Rattle.algebra.proofs.Normal.{v, c0, c1, ◌:+◌, ◌:-◌, ◌:*◌, ng, ring}
use Rattle.algebra.proofs.Sum.{sum_cong, sum_zero, sum_add, sum_mul, unit, sum_unit, dot_sub, dot_sub_r, dot_comm, dot_comb}
use Rattle.linear.specs.Space.{Comb}
use Rattle.linear.proofs.Solve.{at_comb, zeros, never}

module _ {A : Type 0} (K : Field A) (n : ℕ) (w y : ℕ → ℕ → A) where
  open K use {R}
  open R use {𝟘, 𝟙, ◌⊕◌, ◌⊗◌, neg, zero_l, one_l, mcomm, massoc}

  infixl 65 ◌⊕◌
  infixl 70 ◌⊗◌
  -- what y k is to w k
  abbrev pub Dual : ℕ → (ℕ → A) → Type 0
  Dual k x = (Comb K n w k (w k) × ((i : ℕ) → i < n → x i ≡ 𝟘)) ⊎ (((j : ℕ) → j < k → dot R n x (w j) ≡ 𝟘) × (dot R n x (w k) ≡ 𝟙))

  abbrev pub Duals : ℕ → Type 0
  Duals m = (k : ℕ) → k < m → Dual k (y k)

  null : (x u : ℕ → A) → ((i : ℕ) → i < n → x i ≡ 𝟘) → dot R n x u ≡ 𝟘
  null x u h = sum_zero R n (λ i. x i ⊗ u i) (λ i l. ap (λ z. z ⊗ u i) (h i l) ∙ zero_mul R (u i))

  -- y j at an earlier vector
  earlier : (k j : ℕ) → Dual k (y k) → j < k → dot R n (y k) (w j) ≡ 𝟘
  earlier k j (inl d) l = null (y k) (w j) d.1
  earlier k j (inr d) l = d.0 j l

  -- taking (y k . t) w k off makes y k . t 0
  own : (k : ℕ) (t : ℕ → A) → Dual k (y k) → dot R n (y k) t ⊕ neg (dot R n (y k) t ⊗ dot R n (y k) (w k)) ≡ 𝟘
  own k t (inl d) = ap₂ (λ p q. p ⊕ neg (p ⊗ q)) (null (y k) t d.1) (null (y k) (w k) d.1) ∙ ring R (c0 :- c0 :* c0) c0 refl (λ i. 𝟘)
  own k t (inr d) = ap (λ q. dot R n (y k) t ⊕ neg (dot R n (y k) t ⊗ q)) d.1 ∙ ring R (v 0 :- v 0 :* c1) c0 refl (λ i. dot R n (y k) t)

  -- the target t₀ after the vectors from k to m - 1 were taken off: t is left, c says how much
  pub record Down (m : ℕ) (t₀ t c : ℕ → A) (k : ℕ) : Type 0 where
    pub gone : (j : ℕ) → k ≤ j → j < m → dot R n (y j) t ≡ 𝟘
    pub sums : (i : ℕ) → i < n → t i ⊕ sum R m (λ j. cond (leb k j) (c j ⊗ w j i) 𝟘) ≡ t₀ i
    pub only : (j : ℕ) → k ≤ j → j < m → Comb K n w j (w j) → c j ≡ 𝟘

  pub down_start : (m : ℕ) (t c : ℕ → A) → Down m t t c m
  down_start m t c = record {
    gone = λ j a b. absurd (omega arith);
    sums = λ i l. ap (λ z. t i ⊕ z)
        (sum_zero R m (λ j. cond (leb m j) (c j ⊗ w j i) 𝟘) (λ j lj. ap (λ b. cond b (c j ⊗ w j i) 𝟘) (lt-leb m j lj))) ∙ zero_r R (t i);
    only = λ j a b. absurd (omega arith);
  }

  -- a sum from k on
  split : (m k : ℕ) (f g : ℕ → A) → k < m → ((j : ℕ) → k < j → j < m → f j ≡ g j)
      → sum R m (λ j. cond (leb k j) (f j) 𝟘) ≡ f k ⊕ sum R m (λ j. cond (leb (suc k) j) (g j) 𝟘)
  split m k f g l h =
      sum_cong R m (λ j. cond (leb k j) (f j) 𝟘) (λ j. unit R k j ⊗ f j ⊕ cond (leb (suc k) j) (g j) 𝟘) each
      ∙ sum_add R m (λ j. unit R k j ⊗ f j) (λ j. cond (leb (suc k) j) (g j) 𝟘)
      ∙ ap (λ z. z ⊕ sum R m (λ j. cond (leb (suc k) j) (g j) 𝟘)) (sum_unit R m k f l)
    where
      tests : (j : ℕ) (a b c : Bool) → leb k j ≡ a → eqb j k ≡ b → leb (suc k) j ≡ c → cond a (f j) 𝟘 ≡ cond b 𝟙 𝟘 ⊗ f j ⊕ cond c (g j) 𝟘
          → cond (leb k j) (f j) 𝟘 ≡ unit R k j ⊗ f j ⊕ cond (leb (suc k) j) (g j) 𝟘
      tests j a b c p q r e = ap (λ b. cond b (f j) 𝟘) p ∙ e ∙ sym (ap₂ (λ b c. cond b 𝟙 𝟘 ⊗ f j ⊕ cond c (g j) 𝟘) q r)

      each : (j : ℕ) → j < m → cond (leb k j) (f j) 𝟘 ≡ unit R k j ⊗ f j ⊕ cond (leb (suc k) j) (g j) 𝟘
      each j lj = ⊎_elim
          (λ (e : k ≡ j). tests j true true false (le-leb k j (omega arith)) (eq-eqb j k (sym e)) (lt-leb (suc k) j (omega arith))
          (ring R (v 0) (c1 :* v 0 :+ c0) refl (λ i. f j)))
          (λ c. ⊎_elim
          (λ (b : k < j). tests j true false true (le-leb k j (omega arith)) (ne_eqb j k (λ q. omega arith))
          (le-leb (suc k) j (omega arith))
          (h j b lj ∙ ring R (v 0) (c0 :* v 1 :+ v 0) refl (λ i. get_or (g j ∷ f j ∷ []) i 𝟘)))
          (λ (b : j < k). tests j false false false (lt-leb k j b) (ne_eqb j k (λ q. omega arith)) (lt-leb (suc k) j (omega arith))
          (ring R c0 (c0 :* v 0 :+ c0) refl (λ i. f j)))
          (apart k j c))
          (same? k j)

  pub down_turn : (m k : ℕ) (t₀ t u c d : ℕ → A) (a : A) → Duals m → k < m → Down m t₀ t c (suc k)
      → a ≡ dot R n (y k) t → ((i : ℕ) → i < n → u i ≡ t i ⊕ neg (a ⊗ w k i))
      → ((j : ℕ) → k < j → j < m → d j ≡ c j) → d k ≡ a → Down m t₀ u d k
  down_turn m k t₀ t u c d a D lk h e hu hd dk = record { gone = gone'; sums = sums'; only = only' }
    where
      at : (j : ℕ) → dot R n (y j) u ≡ dot R n (y j) t ⊕ neg (a ⊗ dot R n (y j) (w k))
      at j = sum_cong R n (λ i. y j i ⊗ u i) (λ i. y j i ⊗ (t i ⊕ neg (a ⊗ w k i))) (λ i l. ap (λ z. y j i ⊗ z) (hu i l))
          ∙ dot_sub_r R n (y j) t (w k) a

      gone' : (j : ℕ) → k ≤ j → j < m → dot R n (y j) u ≡ 𝟘
      gone' j lo hi = ⊎_elim
          (λ (q : k ≡ j). rw (← q) (at k ∙ ap (λ z. dot R n (y k) t ⊕ neg (z ⊗ dot R n (y k) (w k))) e ∙ own k t (D k lk)))
          (λ (q : k < j). at j ∙ ap₂ (λ p q. p ⊕ neg (a ⊗ q)) (h.gone j q hi) (earlier j k (D j hi) q)
          ∙ ring R (c0 :- v 0 :* c0) c0 refl (λ i. a))
          (eq-or-lt_of_le lo)

      sums' : (i : ℕ) → i < n → u i ⊕ sum R m (λ j. cond (leb k j) (d j ⊗ w j i) 𝟘) ≡ t₀ i
      sums' i l = ap₂ (λ p q. p ⊕ q) (hu i l)
          (split m k (λ j. d j ⊗ w j i) (λ j. c j ⊗ w j i) lk (λ j a b. ap (λ z. z ⊗ w j i) (hd j a b))
          ∙ ap (λ z. z ⊗ w k i ⊕ sum R m (λ j. cond (leb (suc k) j) (c j ⊗ w j i) 𝟘)) dk)
          ∙ ring R (v 0 :- v 1 :* v 2 :+ (v 1 :* v 2 :+ v 3)) (v 0 :+ v 3) refl
          (λ j. get_or (t i ∷ a ∷ w k i ∷ sum R m (λ j. cond (leb (suc k) j) (c j ⊗ w j i) 𝟘) ∷ []) j 𝟘)
          ∙ h.sums i l

      zero_own : Comb K n w k (w k) → Dual k (y k) → dot R n (y k) t ≡ 𝟘
      zero_own g (inl d) = null (y k) t d.1
      zero_own g (inr d) = absurd (never K n w k (w k) g (y k, d.0, d.1))

      only' : (j : ℕ) → k ≤ j → j < m → Comb K n w j (w j) → d j ≡ 𝟘
      only' j lo hi g = ⊎_elim
          (λ (q : k ≡ j). ap d (sym q) ∙ dk ∙ e ∙ zero_own (rw q g) (D k lk))
          (λ (q : k < j). hd j q hi ∙ h.only j q hi g)
          (eq-or-lt_of_le lo)

  -- all taken off
  pub down_sums : (m : ℕ) (t₀ t c : ℕ → A) → Down m t₀ t c zero → (i : ℕ) → i < n → t i ⊕ sum R m (λ j. c j ⊗ w j i) ≡ t₀ i
  down_sums m t₀ t c h i l = ap (λ z. t i ⊕ z)
      (sum_cong R m (λ j. c j ⊗ w j i) (λ j. cond (leb 0 j) (c j ⊗ w j i) 𝟘)
      (λ j lj. sym (ap (λ b. cond b (c j ⊗ w j i) 𝟘) (le-leb 0 j (omega arith))))) ∙ h.sums i l

  pub found : (m : ℕ) (t₀ t c : ℕ → A) → Down m t₀ t c zero → ((i : ℕ) → i < n → t i ≡ 𝟘) → (i : ℕ) → i < n
      → sum R m (λ j. c j ⊗ w j i) ≡ t₀ i
  found m t₀ t c h z i l = sym (zero_l (sum R m (λ j. c j ⊗ w j i))) ∙ ap (λ x. x ⊕ sum R m (λ j. c j ⊗ w j i)) (sym (z i l))
      ∙ down_sums m t₀ t c h i l

  -- up: u is 0 at the first k vectors and 1 at t
  pub record Up (t u : ℕ → A) (k : ℕ) : Type 0 where
    pub kills : (j : ℕ) → j < k → dot R n u (w j) ≡ 𝟘
    pub one : dot R n u t ≡ 𝟙

  pub up_turn : (m k : ℕ) (t u x : ℕ → A) (a : A) → Duals m → k < m → ((j : ℕ) → j < m → dot R n (y j) t ≡ 𝟘) → Up t u k
      → a ≡ dot R n (w k) u → ((i : ℕ) → i < n → x i ≡ u i ⊕ neg (a ⊗ y k i)) → Up t x (suc k)
  up_turn m k t u x a D lk g h e hx = record {
    kills = below_suc (λ j. dot R n x (w j) ≡ 𝟘) k
        (λ j l. at (w j) ∙ ap₂ (λ p q. p ⊕ neg (a ⊗ q)) (h.kills j l) (earlier k j (D k lk) l) ∙ ring R (c0 :- v 0 :* c0) c0 refl (λ i. a))
        (at (w k) ∙ new (D k lk));
    one = at t ∙ ap₂ (λ p q. p ⊕ neg (a ⊗ q)) h.one (g k lk) ∙ ring R (c1 :- v 0 :* c0) c1 refl (λ i. a);
  }
    where
      at : (s : ℕ → A) → dot R n x s ≡ dot R n u s ⊕ neg (a ⊗ dot R n (y k) s)
      at s = sum_cong R n (λ i. x i ⊗ s i) (λ i. (u i ⊕ neg (a ⊗ y k i)) ⊗ s i) (λ i l. ap (λ z. z ⊗ s i) (hx i l))
          ∙ dot_sub R n u (y k) s a

      new : Dual k (y k) → dot R n u (w k) ⊕ neg (a ⊗ dot R n (y k) (w k)) ≡ 𝟘
      new (inl d) = ap₂ (λ p q. p ⊕ neg (a ⊗ q)) (at_comb K n w k (w k) u d.0 ∙ zeros K n w k d.0.0 u h.kills)
          (null (y k) (w k) d.1)
          ∙ ring R (c0 :- v 0 :* c0) c0 refl (λ i. a)
      new (inr d) = ap₂ (λ p q. p ⊕ neg (a ⊗ q)) (dot_comm R n u (w k) ∙ sym e) d.1 ∙ ring R (v 0 :- v 0 :* c1) c0 refl (λ i. a)

  -- what is 1 at the rest is 1 at the target
  pub up_end : (m : ℕ) (t₀ t c u : ℕ → A) → Down m t₀ t c zero → Up t u m → dot R n u t₀ ≡ 𝟙
  up_end m t₀ t c u h g =
      sum_cong R n (λ i. u i ⊗ t₀ i) (λ i. u i ⊗ (t i ⊕ neg (neg 𝟙 ⊗ s i))) (λ i l. ap (λ z. u i ⊗ z)
      (sym (down_sums m t₀ t c h i l) ∙ ring R (v 0 :+ v 1) (v 0 :- ng c1 :* v 1) refl (λ j. get_or (t i ∷ s i ∷ []) j 𝟘)))
      ∙ dot_sub_r R n u t s (neg 𝟙)
      ∙ ap₂ (λ p q. p ⊕ neg (neg 𝟙 ⊗ q)) g.one (dot_comb R n m u c w ∙ zeros K n w m c u g.kills)
      ∙ ring R (c1 :- ng c1 :* c0) c1 refl (λ i. 𝟘)
    where
      s : ℕ → A
      s i = sum R m (λ j. c j ⊗ w j i)

  -- a functional of one place
  pub up_start : (t u : ℕ → A) (c : ℕ) (b : A) → c < n → u c ≡ b → ((i : ℕ) → i < n → (i ≡ c → ⊥) → u i ≡ 𝟘) → b ⊗ t c ≡ 𝟙 → Up t u zero
  up_start t u c b lc at off one = record {
    kills = λ j l. absurd (not-suc-le-zero l);
    one = sum_cong R n (λ i. u i ⊗ t i) (λ i. unit R c i ⊗ (b ⊗ t i)) each ∙ sum_unit R n c (λ i. b ⊗ t i) lc ∙ one;
  }
    where
      go : (i : ℕ) → i < n → (q : Bool) → eqb i c ≡ q → (q ≡ true → u i ≡ b) → (q ≡ false → u i ≡ 𝟘) → u i ⊗ t i ≡ unit R c i ⊗ (b ⊗ t i)
      go i l true q f g = ap (λ z. z ⊗ t i) (f refl) ∙ sym (one_l (b ⊗ t i)) ∙ ap (λ x. cond x 𝟙 𝟘 ⊗ (b ⊗ t i)) (sym q)
      go i l false q f g = ap (λ z. z ⊗ t i) (g refl) ∙ zero_mul R (t i) ∙ sym (zero_mul R (b ⊗ t i))
          ∙ ap (λ x. cond x 𝟙 𝟘 ⊗ (b ⊗ t i)) (sym q)

      each : (i : ℕ) → i < n → u i ⊗ t i ≡ unit R c i ⊗ (b ⊗ t i)
      each i l = ⊎_elim
          (λ (q : i ≡ c). go i l true (eq-eqb i c q) (λ z. ap u q ∙ at) (λ z. absurd (true≢false z)))
          (λ (q : i ≡ c → ⊥). go i l false (ne_eqb i c q) (λ z. absurd (false≢true z)) (λ z. off i l q))
          (same? i c)

  -- a combination at which every y is 0 is 0
  pub stuck : (m : ℕ) (t : ℕ → A) → Duals m → ((j : ℕ) → j < m → dot R n (y j) t ≡ 𝟘) → Comb K n w m t → (i : ℕ) → i < n → t i ≡ 𝟘
  stuck zero t D g c i l = sym (c.1 i l)
  stuck (suc m) t D g c i l = stuck m t (λ k lk. D k (omega arith)) (λ j lj. g j (omega arith)) (fewer (D m (omega arith))) i l
    where
      fewer : Dual m (y m) → Comb K n w m t
      fewer (inl d) = (
        (λ k. c.0 k ⊕ c.0 m ⊗ d.0.0 k),
        λ i l.
            sum_cong R m (λ k. (c.0 k ⊕ c.0 m ⊗ d.0.0 k) ⊗ w k i) (λ k. c.0 k ⊗ w k i ⊕ c.0 m ⊗ (d.0.0 k ⊗ w k i))
            (λ k lk. ring R ((v 0 :+ v 1 :* v 2) :* v 3) (v 0 :* v 3 :+ v 1 :* (v 2 :* v 3)) refl
            (λ j. get_or (c.0 k ∷ c.0 m ∷ d.0.0 k ∷ w k i ∷ []) j 𝟘))
            ∙ sum_add R m (λ k. c.0 k ⊗ w k i) (λ k. c.0 m ⊗ (d.0.0 k ⊗ w k i))
            ∙ ap (λ z. sum R m (λ k. c.0 k ⊗ w k i) ⊕ z)
            (sum_mul R m (c.0 m) (λ k. d.0.0 k ⊗ w k i) ∙ ap (λ z. c.0 m ⊗ z) (d.0.1 i l))
            ∙ c.1 i l,
      )
      fewer (inr d) = (
        c.0,
        λ i l.
            ring R (v 0) (v 0 :+ c0 :* v 1) refl (λ j. get_or (sum R m (λ k. c.0 k ⊗ w k i) ∷ w m i ∷ []) j 𝟘)
            ∙ ap (λ z. sum R m (λ k. c.0 k ⊗ w k i) ⊕ z ⊗ w m i) (sym top) ∙ c.1 i l,
      )
        where
          top : c.0 m ≡ 𝟘
          top = ring R (v 0) (c0 :+ v 0 :* c1) refl (λ i. c.0 m)
              ∙ sym (ap₂ (λ p q. p ⊕ c.0 m ⊗ q) (zeros K n w m c.0 (y m) d.0) d.1)
              ∙ sym (at_comb K n w (suc m) t (y m) c) ∙ g m (omega arith)

  -- so where the rest is not 0 the target is no combination
  pub refused : (m : ℕ) (t₀ t c : ℕ → A) → Duals m → Down m t₀ t c zero → Comb K n w m t₀ → (i : ℕ) → i < n → t i ≡ 𝟘
  refused m t₀ t c D h g = stuck m t D (λ j l. h.gone j (omega arith) l) (
    (λ k. g.0 k ⊕ neg (𝟙 ⊗ c k)),
    λ i l.
        sum_cong R m (λ k. (g.0 k ⊕ neg (𝟙 ⊗ c k)) ⊗ w k i) (λ k. (g.0 k ⊕ neg (𝟙 ⊗ c k)) ⊗ w k i) (λ k lk. refl)
        ∙ dot_sub R m g.0 c (λ k. w k i) 𝟙
        ∙ ap (λ z. z ⊕ neg (𝟙 ⊗ sum R m (λ k. c k ⊗ w k i))) (g.1 i l ∙ sym (down_sums m t₀ t c h i l))
        ∙ ring R ((v 0 :+ v 1) :- c1 :* v 1) (v 0) refl (λ j. get_or (t i ∷ sum R m (λ k. c k ⊗ w k i) ∷ []) j 𝟘),
  )

  -- the next functional: of a vector that is a combination, or of one that is not
  pub next_none : (k : ℕ) (t c x : ℕ → A) → Down k (w k) t c zero → ((i : ℕ) → i < n → t i ≡ 𝟘) → ((i : ℕ) → i < n → x i ≡ 𝟘) → Dual k x
  next_none k t c x h z e = inl ((c, found k (w k) t c h z), e)

  pub next_some : (k : ℕ) (t c x : ℕ → A) → Down k (w k) t c zero → Up t x k → Dual k x
  next_some k t c x h g = inr (g.kills, up_end k (w k) t c x h g)

  pub dual_cong : (k : ℕ) (x z : ℕ → A) → ((i : ℕ) → i < n → z i ≡ x i) → Dual k x → Dual k z
  dual_cong k x z e (inl d) = inl (d.0, λ i l. e i l ∙ d.1 i l)
  dual_cong k x z e (inr d) = inr ((λ j l. same (w j) ∙ d.0 j l), same (w k) ∙ d.1)
    where
      same : (s : ℕ → A) → dot R n z s ≡ dot R n x s
      same s = sum_cong R n (λ i. z i ⊗ s i) (λ i. x i ⊗ s i) (λ i l. ap (λ q. q ⊗ s i) (e i l))
