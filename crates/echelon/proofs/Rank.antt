-- As many rows are kept as columns; so the table has a free line whenever a row is to be kept, and none is kept once every place is a
-- pivot.
-- Assumes nothing.
use mathlib.Core.Path.{◌≡◌, refl, sym, ap, ap₂, ◌∙◌, subst}
use mathlib.Core.Bool.{Bool, true, false, cond}
use mathlib.Core.Logic.{◌⊎◌, inl, inr, ⊎_elim}
use Prim.Native.Nat.{ℕ, zero, suc, ◌<◌, ◌≤◌, ◌+◌}
use native.Mathlib.Nat.{eq-or-lt_of_le, le_of_suc-le-suc, not-suc-le-zero}
use native.Mathlib.Omega.{arith}
use lib.Dec.{ltb, eqb}
use borrow.Author.Tests.{eq-eqb, ne_eqb, lt-ltb, le-ltb}
use Rattle.algebra.specs.Ring.{Field}
use Rattle.algebra.specs.Sum.{sum}
use Rattle.algebra.proofs.Cases.{same?, apart, below_suc}
use Rattle.algebra.proofs.Ring.{mul-zero, zero_mul, one_r}
use Rattle.algebra.proofs.Sum.{sum_cong, sum_zero, sum_at, put, put_lt, put_at}
use Rattle.linear.specs.Combination.{count}
use Rattle.linear.specs.Space.{Comb}
use Rattle.linear.proofs.Comb.{comb_over}
use Rattle.linear.proofs.Kept.{kept, kept_true, kept_false, count_cong, count_none}
use Rattle.linear.proofs.Solve.{Sep, never, solve}
use Rattle.echelon.specs.Basis.{Line, Basis, Reduced}
use Rattle.echelon.specs.Order.{work}
use Rattle.echelon.proofs.Steps.{start, skip, keep}
use Rattle.echelon.proofs.Backward.{pivot_new}
use Rattle.echelon.proofs.Order.{to_work, from_work}

count_le : (n : ℕ) (b : ℕ → Bool) → count n b ≤ n
count_le zero b = omega arith
count_le (suc n) b = let h = count_le n b in let k : cond (b n) 1 0 ≤ 1 = go (b n) in omega arith
  where
    go : (x : Bool) → cond x 1 0 ≤ 1
    go true = omega arith
    go false = omega arith

-- one more mark
count_set : (n c : ℕ) (f g : ℕ → Bool) → c < n → f c ≡ false → g c ≡ true → ((i : ℕ) → (i ≡ c → ⊥) → g i ≡ f i)
    → count n g ≡ suc (count n f)
count_set zero c f g l a b h = absurd (not-suc-le-zero l)
count_set (suc n) c f g l a b h = ⊎_elim
    (λ (q : c ≡ n). ap₂ (λ (x : ℕ) y. x + cond y 1 0) (count_cong n g f (λ i li. h i (λ r. omega arith))) (ap g (sym q) ∙ b)
    ∙ (let z : cond (f n) 1 0 ≡ 0 = ap {B = ℕ} (λ (x : Bool). cond x 1 0) (ap f (sym q) ∙ a) in omega arith))
    (λ (q : c < n). ap₂ (λ (x : ℕ) y. x + cond y 1 0) (count_set n c f g q a b h) (h n (λ r. omega arith)) ∙ omega arith)
    (eq-or-lt_of_le (le_of_suc-le-suc l))

module _ {A : Type 0} (K : Field A) (n : ℕ) (w : ℕ → ℕ → A) where
  open K use {R}
  open R use {𝟘, 𝟙, ◌⊕◌, ◌⊗◌, neg, zero_l, one_l, mcomm, massoc}

  infixl 65 ◌⊕◌
  infixl 70 ◌⊗◌
  module _ (m s : ℕ) (S : ℕ → Line A) (b : Basis K n w m s S) where
    abbrev is_piv : ℕ → ℕ → Bool
    is_piv zero i = false
    is_piv (suc j) i = cond (eqb i (S j).piv) true (is_piv j i)

    abbrev At : ℕ → ℕ → Type 0
    At j i = ((l : ℕ) × (l < j) × (i ≡ (S l).piv) × (is_piv j i ≡ true)) ⊎ (((l : ℕ) → l < j → i ≡ (S l).piv → ⊥) × (is_piv j i ≡ false))

    find : (j i : ℕ) → At j i
    find zero i = inr ((λ l ll. absurd (not-suc-le-zero ll)), refl)
    find (suc j) i = ⊎_elim
        (λ (q : i ≡ (S j).piv). inl (j, omega arith, q, ap (λ x. cond x true (is_piv j i)) (eq-eqb i (S j).piv q)))
        (λ ne. ⊎_elim
        (λ f. inl (f.0, omega arith, f.2, ap (λ x. cond x true (is_piv j i)) (ne_eqb i (S j).piv ne) ∙ f.3))
        (λ f. inr (below_suc (λ l. i ≡ (S l).piv → ⊥) j f.0 ne, ap (λ x. cond x true (is_piv j i)) (ne_eqb i (S j).piv ne) ∙ f.1))
        (find j i))
        (same? i (S j).piv)

    distinct : (j : ℕ) → j < s → (l : ℕ) → l < j → (S j).piv ≡ (S l).piv → ⊥
    distinct j lj l ll q = K.one≢zero (sym (b.one j lj) ∙ ap (S j).vec q ∙ b.low j lj l ll)

    pivots : (j : ℕ) → j ≤ s → count n (is_piv j) ≡ j
    pivots zero l = count_none n
    pivots (suc j) l = count_set n (S j).piv (is_piv j) (is_piv (suc j)) (b.inside j l)
        (⊎_elim (λ f. absurd (distinct j l f.0 f.1 f.2)) (λ f. f.1) (find j (S j).piv))
        (ap (λ x. cond x true (is_piv j (S j).piv)) (eq-eqb (S j).piv (S j).piv refl))
        (λ i ne. ap (λ x. cond x true (is_piv j i)) (ne_eqb i (S j).piv ne))
        ∙ ap suc (pivots j (omega arith))

    -- a combination of the vectors that is 0 before i takes no vector that is not 0 up to i, but those with their pivot at i
    lower : (i : ℕ) (c : ℕ → A) → i < n → ((k : ℕ) → k < i → sum R s (λ l. c l ⊗ (S l).vec k) ≡ 𝟘) → ((l : ℕ) → l < s → i ≡ (S l).piv → ⊥)
        → (j : ℕ) → j ≤ s → (l : ℕ) → l < j → (k : ℕ) → k ≤ i → c l ⊗ (S l).vec k ≡ 𝟘
    lower i c li h ne zero lj = λ l ll. absurd (not-suc-le-zero ll)
    lower i c li h ne (suc j) lj = let ih : (l : ℕ) → l < j → (k : ℕ) → k ≤ i → c l ⊗ (S l).vec k ≡ 𝟘 = lower i c li h ne j (omega arith) in
        below_suc (λ l. (k : ℕ) → k ≤ i → c l ⊗ (S l).vec k ≡ 𝟘) j ih
        (λ k lk. ⊎_elim
        (λ (a : i < (S j).piv). ap (λ z. c j ⊗ z) (b.lead j lj k (omega arith)) ∙ mul-zero R (c j))
        (λ (a : (S j).piv < i). ap (λ z. z ⊗ (S j).vec k)
        (sym (one_r R (c j)) ∙ ap (λ z. c j ⊗ z) (sym (b.one j lj))
        ∙ sym (sum_at R s j (λ l. c l ⊗ (S l).vec (S j).piv) lj (λ l ll nl. ⊎_elim
        (λ q. ih l q (S j).piv (omega arith))
        (λ q. ap (λ z. c l ⊗ z) (b.low l ll j q) ∙ mul-zero R (c l))
        (apart l j nl)))
        ∙ h (S j).piv a) ∙ zero_mul R ((S j).vec k))
        (apart i (S j).piv (ne j lj)))

    -- a column that is no pivot's is a combination of those before it
    pub others : (i : ℕ) → i < n → ((l : ℕ) → l < s → i ≡ (S l).piv → ⊥) → Comb K m (λ i k. w k i) i (λ k. w k i)
    others i li ne = ⊎_elim (λ a. a.0) (λ y. absurd (no y)) (solve K m (λ i k. w k i) i (λ k. w k i))
      where
        no : Sep K m (λ i k. w k i) i (λ k. w k i) → ⊥
        no y = K.one≢zero (sym y.2 ∙ sym (c.1 i li) ∙ sum_zero R s (λ l. c.0 l ⊗ (S l).vec i)
            (λ l ll. lower i c.0 li (λ k lk. c.1 k (omega arith) ∙ y.1 k lk) ne s (omega arith) l ll i (omega arith)))
          where
            c : Comb K n (λ j. (S j).vec) s (λ i. sum R m (λ k. y.0 k ⊗ w k i))
            c = comb_over K n w (λ j. (S j).vec) m s (λ i. sum R m (λ k. y.0 k ⊗ w k i)) b.rows (y.0, λ i l. refl)

    pub columns_kept : count n (kept K m (λ i k. w k i)) ≡ s
    columns_kept = count_cong n (kept K m (λ i k. w k i)) (is_piv s) (λ i l. ⊎_elim
        (λ f. kept_true K m (λ i k. w k i) i
        (λ c. pivot_new K n w m s S b f.0 f.1 (subst (λ (i : ℕ). Comb K m (λ i k. w k i) i (λ k. w k i)) f.2 c)) ∙ sym f.3)
        (λ f. kept_false K m (λ i k. w k i) i (others i l f.0) ∙ sym f.1)
        (find s i)) ∙ pivots s (omega arith)

  -- a place is free
  pub room : (m s : ℕ) (S : ℕ → Line A) (b : Basis K n w m s S) (g x : ℕ → A) (c : ℕ) (q : A) → Reduced K n w s S (w m) g x → c < n
      → ((i : ℕ) → i < c → x i ≡ 𝟘) → q ⊗ x c ≡ 𝟙 → s < n
  room m s S b g x c q r lc zs u = let y : Line A = record { vec = λ i. q ⊗ x i; fac = g; inv = q; piv = c; src = m } in
      let b' = keep K n w m s S b (λ j. cond (ltb j s) (S j) y) g x y.vec g c q r lc zs u
      (λ j l. ap (λ x. cond x (S j) y) (lt-ltb j s l)) (ap (λ x. cond x (S s) y) (le-ltb s s (omega arith))) (λ i l. refl)
      (λ l ll. refl) in
      omega (arith, columns_kept (suc m) (suc s) (λ j. cond (ltb j s) (S j) y) b', count_le n (kept K (suc m) (λ i k. w k i)))

  -- an elimination exists, whatever the code does
  factors : (S : ℕ → Line A) (t : ℕ → A) (s : ℕ)
      → (g : ℕ → A) × ((j : ℕ) → j < s → g j ≡ neg (t (S j).piv ⊕ sum R j (λ l. g l ⊗ (S l).vec (S j).piv)))
  factors S t zero = ((λ j. 𝟘), λ j l. absurd (not-suc-le-zero l))
  factors S t (suc s) = more (factors S t s)
    where
      more : (g : ℕ → A) × ((j : ℕ) → j < s → g j ≡ neg (t (S j).piv ⊕ sum R j (λ l. g l ⊗ (S l).vec (S j).piv)))
          → (g : ℕ → A) × ((j : ℕ) → j < suc s → g j ≡ neg (t (S j).piv ⊕ sum R j (λ l. g l ⊗ (S l).vec (S j).piv)))
      more (g, h) = (
        put R s g a,
        below_suc (λ j. put R s g a j ≡ neg (t (S j).piv ⊕ sum R j (λ l. put R s g a l ⊗ (S l).vec (S j).piv))) s
            (λ j l. put_lt R s g a j l ∙ h j l ∙ same j (omega arith)) (put_at R s g a ∙ same s (omega arith)),
      )
        where
          a : A
          a = neg (t (S s).piv ⊕ sum R s (λ l. g l ⊗ (S l).vec (S s).piv))

          same : (j : ℕ) → j ≤ s
              → neg (t (S j).piv ⊕ sum R j (λ l. g l ⊗ (S l).vec (S j).piv)) ≡ neg
              (t (S j).piv ⊕ sum R j (λ l. put R s g a l ⊗ (S l).vec (S j).piv))
          same j l = ap (λ z. neg (t (S j).piv ⊕ z))
              (sum_cong R j (λ l. g l ⊗ (S l).vec (S j).piv) (λ l. put R s g a l ⊗ (S l).vec (S j).piv)
              (λ i li. ap (λ z. z ⊗ (S i).vec (S j).piv) (sym (put_lt R s g a i (omega arith)))))

  first : (x : ℕ → A) (k : ℕ) → ((i : ℕ) → i < k → x i ≡ 𝟘) ⊎ ((c : ℕ) × (c < k) × ((i : ℕ) → i < c → x i ≡ 𝟘) × (q : A) × (q ⊗ x c ≡ 𝟙))
  first x zero = inl (λ i l. absurd (not-suc-le-zero l))
  first x (suc k) = ⊎_elim
      (λ h. ⊎_elim (λ z. inl (below_suc (λ i. x i ≡ 𝟘) k h z)) (λ u. inr (k, omega arith, h, u.0, u.1)) (K.inverse? (x k)))
      (λ u. inr (u.0, omega arith, u.2, u.3, u.4))
      (first x k)

  run : (m : ℕ) → (s : ℕ) × (S : ℕ → Line A) × Basis K n w m s S
  run zero = (
    0,
    (λ j. record { vec = λ i. 𝟘; fac = λ i. 𝟘; inv = 𝟘; piv = 0; src = 0 }),
    start K n w
        (λ j. record { vec = λ i. 𝟘; fac = λ i. 𝟘; inv = 𝟘; piv = 0; src = 0 }),
  )
  run (suc m) = turn (run m)
    where
      turn : (s : ℕ) × (S : ℕ → Line A) × Basis K n w m s S → (s : ℕ) × (S : ℕ → Line A) × Basis K n w (suc m) s S
      turn (s, S, b) = let f = factors S (w m) s in ⊎_elim
          (λ z. (
            s,
            S,
            skip K n w m s S b f.0 (λ i. w m i ⊕ sum R s (λ l. f.0 l ⊗ (S l).vec i))
                (record { facs = f.1; left = λ i l. refl }) z,
          ))
          (λ u. let y : Line A = record {
            vec = λ i. u.3 ⊗
                (w m i ⊕ sum R s (λ l. f.0 l ⊗ (S l).vec i));
            fac = f.0;
            inv = u.3;
            piv = u.0;
            src = m;
          } in (
            suc s,
            (λ j. cond (ltb j s) (S j) y),
            keep K n w m s S b (λ j. cond (ltb j s) (S j) y) f.0 (λ i. w m i ⊕ sum R s (λ l. f.0 l ⊗ (S l).vec i)) y.vec f.0
                u.0 u.3
                (record { facs = f.1; left = λ i l. refl }) u.1 u.2 u.4
                (λ j l. ap (λ x. cond x (S j) y) (lt-ltb j s l)) (ap (λ x. cond x (S s) y) (le-ltb s s (omega arith))) (λ i l. refl)
                (λ l ll. refl),
          ))
          (first (λ i. w m i ⊕ sum R s (λ l. f.0 l ⊗ (S l).vec i)) n)

  -- Once as many lines are kept as there are places, no row is kept any more.
  pub full : (m s : ℕ) (S : ℕ → Line A) → Basis K n w m s S → s ≡ n → Basis K n w (suc m) s S
  full m s S b e = let g = factors S (w m) s in ⊎_elim
      (λ z. skip K n w m s S b g.0 (λ i. w m i ⊕ sum R s (λ l. g.0 l ⊗ (S l).vec i)) (record { facs = g.1; left = λ i l. refl }) z)
      (λ u. absurd
      (let l = room m s S b g.0 (λ i. w m i ⊕ sum R s (λ l. g.0 l ⊗ (S l).vec i)) u.0 u.3
      (record { facs = g.1; left = λ i l. refl }) u.1 u.2 u.4 in omega arith))
      (first (λ i. w m i ⊕ sum R s (λ l. g.0 l ⊗ (S l).vec i)) n)

  pub rank_rank : (m : ℕ) → count m (kept K n w) ≡ count n (kept K m (λ i k. w k i))
  rank_rank m = let r = run m in r.2.rank ∙ sym (columns_kept m r.0 r.1 r.2)

-- The working order keeps the same rows.
module _ {A : Type 0} (K : Field A) (f : ℕ) (M : ℕ → ℕ → A) where
  same_kept : (k : ℕ) → kept K (suc f) (work K f M) k ≡ kept K (suc f) M k
  same_kept k = ⊎_elim
      (λ a. kept_false K (suc f) (work K f M) k (to_work K f M k k a.0) ∙ sym (kept_false K (suc f) M k a.0))
      (λ y. kept_true K (suc f) (work K f M) k (λ c. never K (suc f) M k (M k) (from_work K f M k k c) y)
      ∙ sym (kept_true K (suc f) M k (λ c. never K (suc f) M k (M k) c y)))
      (solve K (suc f) M k (M k))

  -- What the elimination counts is the number of kept rows, and the number of kept columns among all, both in the document's order.
  pub rank_rows : (m s : ℕ) (S : ℕ → Line A) → Basis K (suc f) (work K f M) m s S → count m (kept K (suc f) M) ≡ s
  rank_rows m s S b = count_cong m (kept K (suc f) M) (kept K (suc f) (work K f M)) (λ k l. sym (same_kept k)) ∙ b.rank

  pub rank_columns : (m s : ℕ) (S : ℕ → Line A) → Basis K (suc f) (work K f M) m s S → count (suc f) (kept K m (λ j k. M k j)) ≡ s
  rank_columns m s S b = sym (rank_rank K (suc f) M m) ∙ rank_rows m s S b
