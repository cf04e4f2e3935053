-- A turn of the elimination: what a row leaves after the lines before it is 0, and the row is dropped, or gives the next line.
-- Assumes nothing.
use mathlib.Core.Path.{◌≡◌, refl, sym, ap, ap₂, ◌∙◌}
use mathlib.Core.Bool.{cond}
use mathlib.Core.Logic.{⊎_elim}
use mathlib.Core.List.{[], ◌∷◌}
use Prim.Native.Nat.{ℕ, zero, suc, ◌<◌, ◌≤◌, ◌+◌}
use native.Mathlib.Nat.{not-suc-le-zero}
use native.Mathlib.Omega.{arith}
use lib.ListN.{get_or}
use Rattle.algebra.specs.Ring.{Field}
use Rattle.algebra.specs.Sum.{sum}
use Rattle.algebra.proofs.Cases.{apart, below_suc}
use Rattle.algebra.proofs.Ring.{mul-zero, zero_mul, one_r}
use Rattle.algebra.proofs.Normal.{v, c0, c1, ◌:+◌, ◌:-◌, ◌:*◌, ng, ring}
use Rattle.algebra.proofs.Sum.{sum_cong, sum_zero, sum_at, sum_cut, sum_lin}
use Rattle.linear.specs.Space.{Comb}
use Rattle.linear.proofs.Comb.{comb_resp, comb_sum, comb_over, comb_put, comb_more, comb_scale, comb_same}
use Rattle.linear.proofs.Kept.{kept_true, kept_false}
use Rattle.echelon.specs.Basis.{Line, Basis, Reduced}

module _ {A : Type 0} (K : Field A) (n : ℕ) (w : ℕ → ℕ → A) where
  open K use {R}
  open R use {𝟘, 𝟙, ◌⊕◌, ◌⊗◌, neg, one_l}

  infixl 65 ◌⊕◌
  infixl 70 ◌⊗◌
  pub start : (S : ℕ → Line A) → Basis K n w zero zero S
  start S = record {
    inside = λ j l. absurd (not-suc-le-zero l);
    one = λ j l. absurd (not-suc-le-zero l);
    low = λ j l. absurd (not-suc-le-zero l);
    lead = λ j l. absurd (not-suc-le-zero l);
    form = λ j l. absurd (not-suc-le-zero l);
    upto = λ j l. absurd (not-suc-le-zero l);
    rising = λ j l. absurd (not-suc-le-zero l);
    fresh = λ j l. absurd (not-suc-le-zero l);
    rows = λ j l. absurd (not-suc-le-zero l);
    made = λ j l. absurd (not-suc-le-zero l);
    rank = refl;
  }

  module _ (m s : ℕ) (S : ℕ → Line A) (b : Basis K n w m s S) where
    pub cleared : (t g x : ℕ → A) → Reduced K n w s S t g x → (j : ℕ) → j < s → x (S j).piv ≡ 𝟘
    cleared t g x r j l = r.left (S j).piv (b.inside j l)
        ∙ ap (λ z. t (S j).piv ⊕ z)
        (sum_cut R s (suc j) (λ l. g l ⊗ (S l).vec (S j).piv) l (λ k a lk. ap (λ z. g k ⊗ z) (b.low k lk j a) ∙ mul-zero R (g k)))
        ∙ ap₂ (λ y z. t (S j).piv ⊕ (sum R j (λ l. g l ⊗ (S l).vec (S j).piv) ⊕ y ⊗ z)) (r.facs j l) (b.one j l)
        ∙ ring R (v 0 :+ (v 1 :+ ng (v 0 :+ v 1) :* c1)) c0 refl
        (λ k. get_or (t (S j).piv ∷ sum R j (λ l. g l ⊗ (S l).vec (S j).piv) ∷ []) k 𝟘)

    -- a combination of the vectors that is 0 at the pivots has only zeros
    pub pinned : (c : ℕ → A) → ((j : ℕ) → j < s → sum R s (λ l. c l ⊗ (S l).vec (S j).piv) ≡ 𝟘) → (k : ℕ) → k ≤ s → (j : ℕ) → j < k
        → c j ≡ 𝟘
    pinned c h zero lk = λ j l. absurd (not-suc-le-zero l)
    pinned c h (suc k) lk = let ih : (j : ℕ) → j < k → c j ≡ 𝟘 = pinned c h k (omega arith) in below_suc (λ j. c j ≡ 𝟘) k ih
        (sym (one_r R (c k)) ∙ ap (λ z. c k ⊗ z) (sym (b.one k lk))
        ∙ sym (sum_at R s k (λ l. c l ⊗ (S l).vec (S k).piv) lk (λ i li ne. ⊎_elim
        (λ a. ap (λ z. z ⊗ (S i).vec (S k).piv) (ih i a) ∙ zero_mul R ((S i).vec (S k).piv))
        (λ a. ap (λ z. c i ⊗ z) (b.low i li k a) ∙ mul-zero R (c i))
        (apart i k ne)))
        ∙ h k lk)

    -- what is left of a combination is 0
    pub gone : (t g x : ℕ → A) → Reduced K n w s S t g x → Comb K n w m t → (i : ℕ) → i < n → x i ≡ 𝟘
    gone t g x r c i l = sym (is i l)
        ∙ sum_zero R s (λ k. h k ⊗ (S k).vec i) (λ k lk. ap (λ z. z ⊗ (S k).vec i) (none k lk) ∙ zero_mul R ((S k).vec i))
      where
        d : Comb K n (λ j. (S j).vec) s t
        d = comb_over K n w (λ j. (S j).vec) m s t b.rows c

        h : ℕ → A
        h k = d.0 k ⊕ 𝟙 ⊗ g k

        is : (i : ℕ) → i < n → sum R s (λ k. h k ⊗ (S k).vec i) ≡ x i
        is i l = sum_lin R s 𝟙 d.0 g (λ k. (S k).vec i) ∙ ap₂ ◌⊕◌ (d.1 i l) (one_l (sum R s (λ k. g k ⊗ (S k).vec i))) ∙ sym (r.left i l)

        none : (k : ℕ) → k < s → h k ≡ 𝟘
        none = pinned h (λ j lj. is (S j).piv (b.inside j lj) ∙ cleared t g x r j lj) s (omega arith)

    pub new : (g x : ℕ → A) (c : ℕ) (q : A) → Reduced K n w s S (w m) g x → c < n → q ⊗ x c ≡ 𝟙 → Comb K n w m (w m) → ⊥
    new g x c q r l e d = K.one≢zero (sym e ∙ ap (λ z. q ⊗ z) (gone (w m) g x r d c l) ∙ mul-zero R q)

    -- the row less what is left, over the vectors
    back : (t g x : ℕ → A) → Reduced K n w s S t g x → Comb K n (λ j. (S j).vec) s (λ i. t i ⊕ neg (x i))
    back t g x r = comb_resp K n (λ j. (S j).vec) s (λ i. neg 𝟙 ⊗ sum R s (λ l. g l ⊗ (S l).vec i)) (λ i. t i ⊕ neg (x i))
        (λ i l. ring R (ng c1 :* v 1) (v 0 :- (v 0 :+ v 1)) refl (λ j. get_or (t i ∷ sum R s (λ l. g l ⊗ (S l).vec i) ∷ []) j 𝟘)
        ∙ ap (λ z. t i ⊕ neg z) (sym (r.left i l)))
        (comb_scale K n (λ j. (S j).vec) s (λ i. sum R s (λ l. g l ⊗ (S l).vec i)) (neg 𝟙) (g, λ i l. refl))

    -- a row that is over the vectors is not kept
    pub drop : Comb K n (λ j. (S j).vec) s (w m) → Basis K n w (suc m) s S
    drop row = record {
      inside = b.inside;
      one = b.one;
      low = b.low;
      lead = b.lead;
      form = b.form;
      rising = b.rising;
      fresh = b.fresh;
      upto = λ j l. let u = b.upto j l in omega arith;
      rows = below_suc (λ k. Comb K n (λ j. (S j).vec) s (w k)) m b.rows row;
      made = λ j l. comb_more K n w m (S j).vec (b.made j l);
      rank = ap₂ (λ (x : ℕ) y. x + cond y 1 0) b.rank (kept_false K n w m (comb_over K n (λ j. (S j).vec) w s m (w m) b.made row))
          ∙ omega arith;
    }

    pub drop_zero : ((i : ℕ) → i < n → w m i ≡ 𝟘) → Basis K n w (suc m) s S
    drop_zero z = drop ((λ k. 𝟘), λ i l. sum_zero R s (λ k. 𝟘 ⊗ (S k).vec i) (λ k lk. zero_mul R ((S k).vec i)) ∙ sym (z i l))

    pub skip : (g x : ℕ → A) → Reduced K n w s S (w m) g x → ((i : ℕ) → i < n → x i ≡ 𝟘) → Basis K n w (suc m) s S
    skip g x r z = drop (comb_resp K n (λ j. (S j).vec) s (λ i. w m i ⊕ neg (x i)) (w m)
        (λ i l. ap (λ y. w m i ⊕ neg y) (z i l) ∙ ring R (v 0 :- c0) (v 0) refl (λ j. w m i)) (back (w m) g x r))

    pub keep : (S' : ℕ → Line A) (g x y f : ℕ → A) (c : ℕ) (q : A) → Reduced K n w s S (w m) g x → c < n → ((i : ℕ) → i < c → x i ≡ 𝟘)
        → q ⊗ x c ≡ 𝟙
        → ((j : ℕ) → j < s → S' j ≡ S j) → S' s ≡ record { vec = y; fac = f; inv = q; piv = c; src = m }
        → ((i : ℕ) → i < n → y i ≡ q ⊗ x i) → ((l : ℕ) → l < s → f l ≡ g l) → Basis K n w (suc m) (suc s) S'
    keep S' g x y f c q r lc zs u old at ys fs = record {
      inside = below_suc (λ j. (S' j).piv < n) s (λ j l. rw (old j l) (b.inside j l)) (rw at lc);
      one = below_suc (λ j. (S' j).vec (S' j).piv ≡ 𝟙) s (λ j l. rw (old j l) (b.one j l)) (rw at (ys c lc ∙ u));
      low = below_suc (λ j. (l : ℕ) → l < j → (S' j).vec (S' l).piv ≡ 𝟘) s
          (λ j lj l ll. rw (old j lj, old l (omega arith)) (b.low j lj l ll))
          (λ l ll. rw (at, old l ll) (ys (S l).piv (b.inside l ll) ∙ ap (λ z. q ⊗ z) (cleared (w m) g x r l ll) ∙ mul-zero R q));
      lead = below_suc (λ j. (i : ℕ) → i < (S' j).piv → (S' j).vec i ≡ 𝟘) s
          (λ j lj. rw (old j lj) (b.lead j lj))
          (rw at (λ i li. ys i (omega arith) ∙ ap (λ z. q ⊗ z) (zs i li) ∙ mul-zero R q));
      form = below_suc (λ j. (i : ℕ) → i < n → (S' j).vec i ≡ (S' j).inv ⊗ (w (S' j).src i ⊕ sum R j (λ l. (S' j).fac l ⊗ (S' l).vec i))) s
          (λ j lj i li. ap (λ z. z.vec i) (old j lj) ∙ b.form j lj i li
          ∙ sym (ap₂ (λ z y. z.inv ⊗ (w z.src i ⊕ y)) (old j lj)
          (sum_cong R j (λ l. (S' j).fac l ⊗ (S' l).vec i) (λ l. (S j).fac l ⊗ (S l).vec i)
          (λ l ll. ap₂ (λ z y. z.fac l ⊗ y.vec i) (old j lj) (old l (omega arith))))))
          (λ i li. ap (λ z. z.vec i) at ∙ ys i li ∙ ap (λ z. q ⊗ z) (r.left i li)
          ∙ sym (ap₂ (λ z y. z.inv ⊗ (w z.src i ⊕ y)) at
          (sum_cong R s (λ l. (S' s).fac l ⊗ (S' l).vec i) (λ l. g l ⊗ (S l).vec i)
          (λ l ll. ap₂ (λ z y. z.fac l ⊗ y.vec i) at (old l ll) ∙ ap (λ z. z ⊗ (S l).vec i) (fs l ll)))));
      upto = below_suc (λ j. (S' j).src < suc m) s (λ j l. rw (old j l) (let z = b.upto j l in omega arith)) (rw at (omega arith));
      rising = below_suc (λ j. (l : ℕ) → l < j → (S' l).src < (S' j).src) s
          (λ j lj l ll. rw (old j lj, old l (omega arith)) (b.rising j lj l ll))
          (λ l ll. rw (at, old l ll) (b.upto l ll));
      fresh = below_suc (λ j. Comb K n w (S' j).src (w (S' j).src) → ⊥) s (λ j l. rw (old j l) (b.fresh j l))
          (rw at (new g x c q r lc u));
      rows = below_suc (λ k. Comb K n (λ j. (S' j).vec) (suc s) (w k)) m
          (λ k l. comb_more K n (λ j. (S' j).vec) s (w k)
          (comb_same K n (λ j. (S j).vec) (λ j. (S' j).vec) s (w k) (λ j lj. ap (λ z. z.vec) (old j lj)) (b.rows k l)))
          (comb_resp K n (λ j. (S' j).vec) (suc s) (λ i. w m i ⊕ neg (x i) ⊕ x c ⊗ (S' s).vec i) (w m)
          (λ i l. ap (λ z. w m i ⊕ neg (x i) ⊕ x c ⊗ z) (ap (λ z. z.vec i) at ∙ ys i l)
          ∙ ring R (v 0 :- v 1 :+ v 2 :* (v 3 :* v 1)) (v 0 :- v 1 :+ (v 3 :* v 2) :* v 1) refl (λ j. get_or (w m i ∷ x i ∷ x c ∷ q ∷ []) j 𝟘)
          ∙ ap (λ z. w m i ⊕ neg (x i) ⊕ z ⊗ x i) u ∙ ring R (v 0 :- v 1 :+ c1 :* v 1) (v 0) refl (λ j. get_or (w m i ∷ x i ∷ []) j 𝟘))
          (comb_put K n (λ j. (S' j).vec) s (λ i. w m i ⊕ neg (x i)) (x c)
          (comb_same K n (λ j. (S j).vec) (λ j. (S' j).vec) s (λ i. w m i ⊕ neg (x i)) (λ j lj. ap (λ z. z.vec) (old j lj))
          (back (w m) g x r))));
      made = below_suc (λ j. Comb K n w (suc m) (S' j).vec) s
          (λ j l. rw (old j l) (comb_more K n w m (S j).vec (b.made j l)))
          (rw at (comb_resp K n w (suc m) (λ i. q ⊗ sum R s (λ l. g l ⊗ (S l).vec i) ⊕ q ⊗ w m i) y
          (λ i l. ring R (v 0 :* v 1 :+ v 0 :* v 2) (v 0 :* (v 2 :+ v 1)) refl
          (λ j. get_or (q ∷ sum R s (λ l. g l ⊗ (S l).vec i) ∷ w m i ∷ []) j 𝟘)
          ∙ ap (λ z. q ⊗ z) (sym (r.left i l)) ∙ sym (ys i l))
          (comb_put K n w m (λ i. q ⊗ sum R s (λ l. g l ⊗ (S l).vec i)) q
          (comb_scale K n w m (λ i. sum R s (λ l. g l ⊗ (S l).vec i)) q (comb_sum K n w m s (λ j. (S j).vec) g b.made)))));
      rank = ap₂ (λ (x : ℕ) y. x + cond y 1 0) b.rank (kept_true K n w m (new g x c q r lc u)) ∙ omega arith;
    }
