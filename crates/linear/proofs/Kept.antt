-- The kept rule over a field, and the theorem of the one question in its words: coefficients or a functional, never both, the
-- coefficients unique. `kept` marks by what `solve` answers; any marks that follow the rule agree with it.
-- Assumes nothing.
use mathlib.Core.Path.{◌≡◌, refl, sym, ap₂, ◌∙◌}
use mathlib.Core.Bool.{Bool, true, false, cond, false≢true, true≢false}
use mathlib.Core.Logic.{◌⊎◌, inl, inr, ⊎_elim}
use Prim.Native.Nat.{ℕ, zero, suc, ◌<◌, ◌+◌}
use native.Mathlib.Omega.{arith}
use Rattle.algebra.specs.Ring.{Field}
use Rattle.algebra.proofs.Ring.{zero_mul}
use Rattle.algebra.proofs.Sum.{sum_zero}
use Rattle.linear.specs.Combination.{count}
use Rattle.linear.specs.Space.{Comb, CombOf, Only, Keeps, Coeffs, Separates}
use Rattle.linear.proofs.Solve.{Canon, Sep, Answer, solve, unique, never}

pub count_cong : (n : ℕ) (b c : ℕ → Bool) → ((i : ℕ) → i < n → b i ≡ c i) → count n b ≡ count n c
count_cong zero b c h = refl
count_cong (suc n) b c h = ap₂ (λ (x : ℕ) y. x + cond y 1 0) (count_cong n b c (λ i l. h i (omega arith))) (h n (omega arith))

pub count_none : (n : ℕ) → count n (λ i. false) ≡ 0
count_none zero = refl
count_none (suc n) = omega (arith, count_none n)

module _ {A : Type 0} (K : Field A) (n : ℕ) (w : ℕ → ℕ → A) where
  open K use {R}
  open R use {𝟘, 𝟙, ◌⊗◌}

  infixl 70 ◌⊗◌
  abbrev pub is_sep : (m : ℕ) (t : ℕ → A) → Answer K n w m t → Bool
  is_sep m t (inl c) = false
  is_sep m t (inr y) = true

  sep : (m : ℕ) (t : ℕ → A) (a : Answer K n w m t) → is_sep m t a ≡ true → Sep K n w m t
  sep m t (inl c) q = absurd (false≢true q)
  sep m t (inr y) q = y

  dep : (m : ℕ) (t : ℕ → A) (a : Answer K n w m t) → is_sep m t a ≡ false → (c : Comb K n w m t) × Canon K n w m c.0
  dep m t (inl c) q = c
  dep m t (inr y) q = absurd (true≢false q)

  -- Which vectors are kept.
  abbrev pub kept : ℕ → Bool
  kept k = is_sep k (w k) (solve K n w k (w k))

  pub kept_fresh : (k : ℕ) → kept k ≡ true → Sep K n w k (w k)
  kept_fresh k q = sep k (w k) (solve K n w k (w k)) q

  pub unkept_depends : (k : ℕ) → kept k ≡ false → (c : Comb K n w k (w k)) × Canon K n w k c.0
  unkept_depends k q = dep k (w k) (solve K n w k (w k)) q

  pub kept_false : (k : ℕ) → Comb K n w k (w k) → kept k ≡ false
  kept_false k c = go (kept k) refl
    where
      go : (x : Bool) → kept k ≡ x → kept k ≡ false
      go false q = q
      go true q = absurd (never K n w k (w k) c (kept_fresh k q))

  pub kept_true : (k : ℕ) → (Comb K n w k (w k) → ⊥) → kept k ≡ true
  kept_true k h = go (kept k) refl
    where
      go : (x : Bool) → kept k ≡ x → kept k ≡ true
      go true q = q
      go false q = absurd (h (unkept_depends k q).0)

  -- Marks by the rule: one that is not kept depends on those before it, and one that depends is not kept.
  pub rule_depends : (b : ℕ → Bool) (m : ℕ) → Keeps K n w b m → (k : ℕ) → k < m → b k ≡ false → Comb K n w k (w k)
  rule_depends b m h k l q = ⊎_elim (λ c. c.0)
      (λ y. absurd (false≢true (sym q ∙ (h k l).1 (λ c. never K n w k (w k) (c.0, c.2) y))))
      (solve K n w k (w k))

  pub rule_drops : (b : ℕ → Bool) (m : ℕ) → Keeps K n w b m → (k : ℕ) → k < m → Comb K n w k (w k) → b k ≡ false
  rule_drops b m h k l c = go (b k) refl
    where
      go : (x : Bool) → b k ≡ x → b k ≡ false
      go false q = q
      go true q = ⊎_elim
          (λ a. absurd ((h k l).0 q (a.0.0, (λ j lj f. a.1 j lj (rule_depends b m h j (omega arith) f)), a.0.1)))
          (λ y. absurd (never K n w k (w k) c y))
          (solve K n w k (w k))

  -- So any two markings by the rule agree.
  pub rule_kept : (b : ℕ → Bool) (m : ℕ) → Keeps K n w b m → (k : ℕ) → k < m → b k ≡ kept k
  rule_kept b m h k l = go (b k) refl
    where
      go : (x : Bool) → b k ≡ x → b k ≡ kept k
      go false q = q ∙ sym (kept_false k (rule_depends b m h k l q))
      go true q = q ∙ sym (kept_true k (λ c. true≢false (sym q ∙ rule_drops b m h k l c)))

  pub keeps : (m : ℕ) → Keeps K n w kept m
  keeps m k l = ((λ q c. never K n w k (w k) (c.0, c.2) (kept_fresh k q)), λ f. go f (kept k) refl)
    where
      go : (CombOf K n w kept k (w k) → ⊥) → (x : Bool) → kept k ≡ x → kept k ≡ true
      go f true q = q
      go f false q = let a = unkept_depends k q in absurd (f (a.0.0, (λ j lj g. a.1 j lj (unkept_depends j g).0), a.0.1))

  -- 0 where dependent, and 0 outside the kept ones.
  pub canon_only : (m : ℕ) (c : ℕ → A) → Canon K n w m c → Only K n w kept m c
  canon_only m c s k l q = s k l (unkept_depends k q).0

  pub coeffs_canon : (m : ℕ) (t c : ℕ → A) (o : Coeffs K n w m t c) → Canon K n w m c
  coeffs_canon m t c o k l q = o.only k l (rule_drops o.kept m o.keeps k l q)

  pub canon_coeffs : (m : ℕ) (t : ℕ → A) (c : Comb K n w m t) → Canon K n w m c.0 → Coeffs K n w m t c.0
  canon_coeffs m t c s = record { kept = kept; keeps = keeps m; only = canon_only m c.0 s; gives = c.1 }

  -- The theorem of the one question.
  abbrev pub answer : (m : ℕ) (t : ℕ → A) → ((c : ℕ → A) × Coeffs K n w m t c) ⊎ ((y : ℕ → A) × Separates K n w m t y)
  answer m t = ⊎_elim
      (λ c. inl (c.0.0, canon_coeffs m t c.0 c.1))
      (λ y. inr (y.0, record { kills = y.1; one = y.2 }))
      (solve K n w m t)

  pub never_both : (m : ℕ) (t y : ℕ → A) → Comb K n w m t → Separates K n w m t y → ⊥
  never_both m t y c s = never K n w m t c (y, s.kills, s.one)

  pub coeffs_unique : (m : ℕ) (t c d : ℕ → A) → Coeffs K n w m t c → Coeffs K n w m t d → (k : ℕ) → k < m → c k ≡ d k
  coeffs_unique m t c d o q = unique K n w m t (c, o.gives) (d, q.gives) (coeffs_canon m t c o) (coeffs_canon m t d q)

  pub zero_dropped : (b : ℕ → Bool) (m : ℕ) → Keeps K n w b m → (k : ℕ) → k < m → ((i : ℕ) → i < n → w k i ≡ 𝟘) → b k ≡ false
  zero_dropped b m h k l z = rule_drops b m h k l
      ((λ j. 𝟘), λ i li. sum_zero R k (λ j. 𝟘 ⊗ w j i) (λ j lj. zero_mul R (w j i)) ∙ sym (z i li))
