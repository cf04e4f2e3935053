-- The backward solutions, a line at a time: a place that was 0 is set.
-- Assumes nothing.
use mathlib.Core.Path.{◌≡◌, refl, sym, ap, ap₂, ◌∙◌, subst, subst⁻¹}
use mathlib.Core.Logic.{⊎_elim}
use mathlib.Core.List.{[], ◌∷◌}
use Prim.Native.Nat.{ℕ, zero, suc, ◌<◌, ◌≤◌}
use native.Mathlib.Nat.{eq-or-lt_of_le}
use native.Mathlib.Omega.{arith}
use lib.ListN.{get_or}
use Rattle.algebra.specs.Ring.{Field}
use Rattle.algebra.specs.Sum.{sum, dot}
use Rattle.algebra.proofs.Cases.{same?}
use Rattle.algebra.proofs.Ring.{zero_r, zero_mul}
use Rattle.algebra.proofs.Normal.{v, c0, c1, ◌:+◌, ◌:*◌, ng, ring}
use Rattle.algebra.proofs.Sum.{sum_cong, sum_zero, sum_set, sum_at, sum_lin}
use Rattle.linear.specs.Space.{Comb}
use Rattle.linear.proofs.Solve.{Canon, never, at_comb, zeros}
use Rattle.echelon.specs.Basis.{Line, Basis, Reduced}
use Rattle.echelon.specs.Backward.{Solving, Killing}
use Rattle.echelon.proofs.Steps.{new}

module _ {A : Type 0} (K : Field A) (n : ℕ) (w : ℕ → ℕ → A) (m s : ℕ) (S : ℕ → Line A) (b : Basis K n w m s S) where
  open K use {R}
  open R use {𝟘, 𝟙, ◌⊕◌, ◌⊗◌, neg, zero_l, one_l, mcomm, massoc}

  infixl 65 ◌⊕◌
  infixl 70 ◌⊗◌
  pub solve_step : (d : ℕ) (t h : ℕ → A) (j : ℕ) (a r a' r' : ℕ → A) → m ≤ d → j < s → Solving K n w s S d t h (suc j) a r
      → a' j ≡ (S j).inv ⊗ (h j ⊕ sum R s (λ c. a c ⊗ (S c).fac j)) → ((l : ℕ) → (l ≡ j → ⊥) → a' l ≡ a l)
      → r' (S j).src ≡ a' j → ((k : ℕ) → (k ≡ (S j).src → ⊥) → r' k ≡ r k) → Solving K n w s S d t h j a' r'
  solve_step d t h j a r a' r' ld lj o ea oa er or = record {
    sums = λ i li. o.sums i li
        ∙ ap (λ z. sum R d (λ k. r k ⊗ w k i) ⊕ (sum R j (λ l. H l ⊗ (S l).vec i) ⊕ H j ⊗ z)) (b.form j lj i li)
        ∙ ring R (v 0 :+ (v 1 :+ v 2 :* (v 3 :* (v 4 :+ v 5)))) ((v 0 :+ (v 3 :* v 2) :* v 4) :+ (v 1 :+ (v 3 :* v 2) :* v 5)) refl
        (λ k. get_or
        (sum R d (λ k. r k ⊗ w k i) ∷ sum R j (λ l. H l ⊗ (S l).vec i) ∷ H j ∷ (S j).inv ∷ w (S j).src i ∷ sum R j
        (λ l. (S j).fac l ⊗ (S l).vec i) ∷ []) k 𝟘)
        ∙ ap₂ ◌⊕◌
        (ap (λ z. sum R d (λ k. r k ⊗ w k i) ⊕ z ⊗ w (S j).src i) (sym (er ∙ ea))
        ∙ sym (sum_set R d (S j).src (λ k. r k ⊗ w k i) (λ k. r' k ⊗ w k i) (let u = b.upto j lj in omega arith)
        (ap (λ z. z ⊗ w (S j).src i) (o.todo j (omega arith)).0 ∙ zero_mul R (w (S j).src i))
        (λ k lk ne. ap (λ z. z ⊗ w k i) (or k ne))))
        (ap (λ z. sum R j (λ l. H l ⊗ (S l).vec i) ⊕ z ⊗ sum R j (λ l. (S j).fac l ⊗ (S l).vec i)) (sym ea)
        ∙ sym (sum_lin R j (a' j) H (S j).fac (λ l. (S l).vec i))
        ∙ sum_cong R j (λ l. (H l ⊕ a' j ⊗ (S j).fac l) ⊗ (S l).vec i) (λ l. (h l ⊕ sum R s (λ c. a' c ⊗ (S c).fac l)) ⊗ (S l).vec i)
        (λ l ll. ap (λ z. z ⊗ (S l).vec i) (more l)));
    canon = λ k lk c. ⊎_elim
        (λ (q : k ≡ (S j).src). absurd (b.fresh j lj (subst (λ (k : ℕ). Comb K n w k (w k)) q c)))
        (λ ne. or k ne ∙ o.canon k lk c)
        (same? k (S j).src);
    todo = λ l ll. let u = b.rising j lj l ll in
        (or (S l).src (λ q. omega arith) ∙ (o.todo l (omega arith)).0, oa l (λ q. omega arith) ∙ (o.todo l (omega arith)).1);
  }
    where
      H : ℕ → A
      H l = h l ⊕ sum R s (λ c. a c ⊗ (S c).fac l)

      more : (l : ℕ) → H l ⊕ a' j ⊗ (S j).fac l ≡ h l ⊕ sum R s (λ c. a' c ⊗ (S c).fac l)
      more l = ring R (v 0 :+ v 1 :+ v 2) (v 0 :+ (v 1 :+ v 2)) refl
          (λ k. get_or (h l ∷ sum R s (λ c. a c ⊗ (S c).fac l) ∷ a' j ⊗ (S j).fac l ∷ []) k 𝟘)
          ∙ ap (λ z. h l ⊕ z) (sym (sum_set R s j (λ c. a c ⊗ (S c).fac l) (λ c. a' c ⊗ (S c).fac l) lj
          (ap (λ z. z ⊗ (S j).fac l) (o.todo j (omega arith)).1 ∙ zero_mul R ((S j).fac l))
          (λ c lc ne. ap (λ z. z ⊗ (S c).fac l) (oa c ne))))

  pub solve_end : (d : ℕ) (t h a r : ℕ → A) → Solving K n w s S d t h zero a r → (i : ℕ) → i < n → sum R d (λ k. r k ⊗ w k i) ≡ t i
  solve_end d t h a r o i l = sym (zero_r R (sum R d (λ k. r k ⊗ w k i))) ∙ sym (o.sums i l)

  -- nothing solved yet: t is q times what row m leaves
  pub solve_start : (d : ℕ) (t g x h a r : ℕ → A) (c : ℕ) (q : A) → m < d → Reduced K n w s S (w m) g x → c < n → q ⊗ x c ≡ 𝟙
      → ((i : ℕ) → i < n → t i ≡ q ⊗ x i) → ((l : ℕ) → l < s → h l ≡ q ⊗ g l) → ((l : ℕ) → a l ≡ 𝟘) → r m ≡ q
      → ((k : ℕ) → (k ≡ m → ⊥) → r k ≡ 𝟘)
      → Solving K n w s S d t h s a r
  solve_start d t g x h a r c q lm e lc u ts hs az rm ro = record {
    sums = λ i li. ts i li ∙ ap (λ z. q ⊗ z) (e.left i li)
        ∙ ring R (v 0 :* (v 1 :+ v 2)) (v 0 :* v 1 :+ (c0 :+ v 0 :* v 2)) refl
        (λ k. get_or (q ∷ w m i ∷ sum R s (λ l. g l ⊗ (S l).vec i) ∷ []) k 𝟘)
        ∙ ap₂ ◌⊕◌
        (ap (λ z. z ⊗ w m i) (sym rm)
        ∙ sym (sum_at R d m (λ k. r k ⊗ w k i) lm (λ k lk ne. ap (λ z. z ⊗ w k i) (ro k ne) ∙ zero_mul R (w k i))))
        (ap (λ z. z ⊕ q ⊗ sum R s (λ l. g l ⊗ (S l).vec i)) (sym (sum_zero R s (λ l. 𝟘 ⊗ (S l).vec i) (λ l ll. zero_mul R ((S l).vec i))))
        ∙ sym (sum_lin R s q (λ l. 𝟘) g (λ l. (S l).vec i))
        ∙ sum_cong R s (λ l. (𝟘 ⊕ q ⊗ g l) ⊗ (S l).vec i) (λ l. (h l ⊕ sum R s (λ c. a c ⊗ (S c).fac l)) ⊗ (S l).vec i)
        (λ l ll. ap (λ z. z ⊗ (S l).vec i) (ring R (c0 :+ v 0) (v 0 :+ c0) refl (λ k. q ⊗ g l)
        ∙ ap₂ ◌⊕◌ (sym (hs l ll))
        (sym (sum_zero R s (λ c. a c ⊗ (S c).fac l) (λ c lc. ap (λ z. z ⊗ (S c).fac l) (az c) ∙ zero_mul R ((S c).fac l)))))));
    canon = λ k lk z. ⊎_elim
        (λ (p : k ≡ m). absurd (new K n w m s S b g x c q e lc u (subst (λ (k : ℕ). Comb K n w k (w k)) p z)))
        (λ ne. ro k ne)
        (same? k m);
    todo = λ l ll. let u = b.upto l ll in (ro (S l).src (λ p. omega arith), az l);
  }

  pub kill_start : (last : ℕ) (z : ℕ → A) → z last ≡ 𝟙 → ((i : ℕ) → i < last → z i ≡ 𝟘) → Killing K n w s S last s z
  kill_start last z e h = record { kills = λ l a c. absurd (omega arith); one = e; rest = λ i l f. h i l }

  pub kill_step : (last j : ℕ) (z z' : ℕ → A) → j < s → (S j).piv < last → Killing K n w s S last (suc j) z
      → z' (S j).piv ≡ neg (dot R n z (S j).vec)
      → ((i : ℕ) → (i ≡ (S j).piv → ⊥) → z' i ≡ z i) → Killing K n w s S last j z'
  kill_step last j z z' lj lp o e h = record {
    kills = λ l jl ls. turn l ls ∙ ⊎_elim
        (λ (q : j ≡ l). subst (λ (l : ℕ). dot R n z (S l).vec ⊕ z' (S j).piv ⊗ (S l).vec (S j).piv ≡ 𝟘) q
        (ap₂ (λ x y. dot R n z (S j).vec ⊕ x ⊗ y) e (b.one j lj) ∙ ring R (v 0 :+ ng (v 0) :* c1) c0 refl (λ i. dot R n z (S j).vec)))
        (λ (q : j < l). ap₂ (λ x y. x ⊕ z' (S j).piv ⊗ y) (o.kills l q ls) (b.low l ls j q)
        ∙ ring R (c0 :+ v 0 :* c0) c0 refl (λ i. z' (S j).piv))
        (eq-or-lt_of_le jl);
    one = h last (λ q. omega arith) ∙ o.one;
    rest = λ i li f. h i (λ q. f j (omega arith) lj (sym q)) ∙ o.rest i li (λ l a ls. f l (omega arith) ls);
  }
    where
      was : z (S j).piv ≡ 𝟘
      was = o.rest (S j).piv lp (λ l a ls q. K.one≢zero (sym (b.one l ls) ∙ ap (S l).vec q ∙ b.low l ls j a))

      turn : (l : ℕ) → l < s → dot R n z' (S l).vec ≡ dot R n z (S l).vec ⊕ z' (S j).piv ⊗ (S l).vec (S j).piv
      turn l ls = sum_set R n (S j).piv (λ i. z i ⊗ (S l).vec i) (λ i. z' i ⊗ (S l).vec i) (b.inside j lj)
          (ap (λ x. x ⊗ (S l).vec (S j).piv) was ∙ zero_mul R ((S l).vec (S j).piv)) (λ i li ne. ap (λ x. x ⊗ (S l).vec i) (h i ne))

  abbrev pub column : ℕ → ℕ → A
  column i k = w k i

  -- a pivot's column is no combination of those before it
  pub pivot_new : (l : ℕ) → l < s → Comb K m column (S l).piv (column (S l).piv) → ⊥
  pivot_new l ls c = never K m column (S l).piv (column (S l).piv) c (
    (b.made l ls).0,
    (λ i li. (b.made l ls).1 i (let u = b.inside l ls in omega arith) ∙ b.lead l ls i li),
    (b.made l ls).1
        (S l).piv (b.inside l ls) ∙ b.one l ls,
  )

  pub kill_rows : (last : ℕ) (z : ℕ → A) → Killing K n w s S last zero z → (k : ℕ) → k < m → dot R n z (w k) ≡ 𝟘
  kill_rows last z o k l = at_comb K n (λ j. (S j).vec) s (w k) z (b.rows k l)
      ∙ zeros K n (λ j. (S j).vec) s (b.rows k l).0 z (λ j lj. o.kills j (omega arith) lj)

  pub kill_canon : (last : ℕ) (z : ℕ → A) → Killing K n w s S last zero z → Canon K m column last z
  kill_canon last z o i l c = o.rest i l (λ j a lj q. pivot_new j lj (subst⁻¹ (λ (i : ℕ). Comb K m column i (column i)) q c))
