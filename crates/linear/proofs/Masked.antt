-- The chosen rows as a table with zeros for the other rows. A zero row is never kept, so a marking by the document's rule for the chosen
-- rows is one by the kept rule for this table, and back; the same for combinations, opening vectors and the number of kept rows.
-- Assumes nothing.
use mathlib.Core.Path.{◌≡◌, refl, sym, ap, ◌∙◌}
use mathlib.Core.Bool.{Bool, true, false, cond}
use Prim.Native.Nat.{ℕ, zero, suc, ◌<◌, ◌*◌, ◌%◌}
use native.Mathlib.Nat.{mul_comm, zero-mod}
use native.Mathlib.Omega.{arith}
use Rattle.linear.specs.Combination.{total, CombinationOf, KeptRule, KeptCount}
use Rattle.linear.specs.Question.{Coefficients}
use Rattle.linear.specs.Rows.{target, KeptRows, OpeningVector, Rank}
use Rattle.linear.proofs.Carry.{total_cong}

abbrev pub rows_of : (ℕ → ℕ → ℕ) → (ℕ → Bool) → ℕ → ℕ → ℕ
rows_of E chosen k j = cond (chosen k) (E k j) 0

pub total_zero : (n : ℕ) (f : ℕ → ℕ) → ((i : ℕ) → i < n → f i ≡ 0) → total n f ≡ 0
total_zero zero f h = refl
total_zero (suc n) f h = omega (arith, total_zero n f (λ i l. h i (omega arith)), h n (omega arith))

true_or_false : (b : Bool) → (b ≡ false → ⊥) → b ≡ true
true_or_false true h = refl
true_or_false false h = absurd (h refl)

module _ (p e : ℕ) (E : ℕ → ℕ → ℕ) (chosen : ℕ → Bool) where
  abbrev rows : ℕ → ℕ → ℕ
  rows = rows_of E chosen

  row_chosen : (k : ℕ) → chosen k ≡ true → (i : ℕ) → rows k i ≡ E k i
  row_chosen k h i = ap (λ b. cond b (E k i) 0) h

  row_out : (k : ℕ) → chosen k ≡ false → (i : ℕ) → rows k i ≡ 0
  row_out k h i = ap (λ b. cond b (E k i) 0) h

  -- Weights that are 0 outside marks within the chosen rows see no difference.
  same_total : (b : ℕ → Bool) (m : ℕ) (c : ℕ → ℕ) → ((k : ℕ) → k < m → b k ≡ true → chosen k ≡ true)
      → ((k : ℕ) → k < m → b k ≡ false → c k ≡ 0)
      → (i : ℕ) → total m (λ k. c k * E k i) ≡ total m (λ k. c k * rows k i)
  same_total b m c inside only i = total_cong m (λ k. c k * E k i) (λ k. c k * rows k i) (λ k l. go k l (b k) refl)
    where
      go : (k : ℕ) → k < m → (x : Bool) → b k ≡ x → c k * E k i ≡ c k * rows k i
      go k l true q = ap (λ (y : ℕ). c k * y) (sym (row_chosen k (inside k l q) i))
      go k l false q = ap (λ (y : ℕ). y * E k i) (only k l q) ∙ omega arith ∙ ap (λ (y : ℕ). y * rows k i) (sym (only k l q))

  module _ (b : ℕ → Bool) (m : ℕ) (inside : (k : ℕ) → k < m → b k ≡ true → chosen k ≡ true) where
    pub comb_mask : (t : ℕ → ℕ) → CombinationOf p e E b m t → CombinationOf p e rows b m t
    comb_mask t c = (c.0, c.1, λ i l. ap (λ (x : ℕ). x % p) (sym (same_total b m c.0 inside c.1 i)) ∙ c.2 i l)

    pub comb_unmask : (t : ℕ → ℕ) → CombinationOf p e rows b m t → CombinationOf p e E b m t
    comb_unmask t c = (c.0, c.1, λ i l. ap (λ (x : ℕ). x % p) (same_total b m c.0 inside c.1 i) ∙ c.2 i l)

  comb_to : (N : ℕ → ℕ → ℕ) (b : ℕ → Bool) (m : ℕ) (t u : ℕ → ℕ) → ((i : ℕ) → t i ≡ u i) → CombinationOf p e N b m t
      → CombinationOf p e N b m u
  comb_to N b m t u h c = (c.0, c.1, λ i l. c.2 i l ∙ ap (λ (x : ℕ). x % p) (h i))

  -- A row that is not chosen is a combination of none.
  out_comb : (N : ℕ → ℕ → ℕ) (b : ℕ → Bool) (k : ℕ) → chosen k ≡ false → CombinationOf p e N b k (rows k)
  out_comb N b k h = (
    (λ j. 0),
    (λ j l q. refl),
    λ i l.
        ap (λ (x : ℕ). x % p) (total_zero k (λ j. 0 * N j i) (λ j lj. omega arith) ∙ sym (row_out k h i)),
  )

  -- Marks by the kept rule for the table are within the chosen rows.
  masked_inside : (b : ℕ → Bool) (d : ℕ) → KeptRule p e rows b d → (k : ℕ) → k < d → b k ≡ true → chosen k ≡ true
  masked_inside b d h k l q = true_or_false (chosen k) (λ f. (h k l).0 q (out_comb rows b k f))

  pub rule_mask : (d : ℕ) (b : ℕ → Bool) → KeptRows p d e E chosen b → KeptRule p e rows b d
  rule_mask d b h k l = (keeps, kept)
    where
      inside : (j : ℕ) → j < k → b j ≡ true → chosen j ≡ true
      inside j lj q = ((h j (omega arith)).0 q).0

      keeps : b k ≡ true → CombinationOf p e rows b k (rows k) → ⊥
      keeps q c = let w = (h k l).0 q in w.1 (comb_unmask b k inside (E k) (comb_to rows b k (rows k) (E k) (row_chosen k w.0) c))

      kept : (CombinationOf p e rows b k (rows k) → ⊥) → b k ≡ true
      kept f = let w = true_or_false (chosen k) (λ q. f (out_comb rows b k q)) in
          (h k l).1 (w, λ c. f (comb_to rows b k (E k) (rows k) (λ i. sym (row_chosen k w i)) (comb_mask b k inside (E k) c)))

  pub rule_unmask : (d : ℕ) (b : ℕ → Bool) → KeptRule p e rows b d → KeptRows p d e E chosen b
  rule_unmask d b h k l = (keeps, kept)
    where
      inside : (j : ℕ) → j < k → b j ≡ true → chosen j ≡ true
      inside j lj q = masked_inside b d h j (omega arith) q

      keeps : b k ≡ true → (chosen k ≡ true) × (CombinationOf p e E b k (E k) → ⊥)
      keeps q = let w = masked_inside b d h k l q in
          (w, λ c. (h k l).0 q (comb_to rows b k (E k) (rows k) (λ i. sym (row_chosen k w i)) (comb_mask b k inside (E k) c)))

      kept : (chosen k ≡ true) × (CombinationOf p e E b k (E k) → ⊥) → b k ≡ true
      kept f = (h k l).1 (λ c. f.1 (comb_unmask b k inside (E k) (comb_to rows b k (rows k) (E k) (row_chosen k f.0) c)))

  pub opening_mask : (d : ℕ) (r : ℕ → ℕ) → OpeningVector p d e E chosen r → Coefficients p e rows d target r
  unfolding comb_mask
  opening_mask d r o = record {
    kept = o.kept;
    rule = rule_mask d o.kept o.rule;
    below = o.below;
    only = o.only;
    gives = (comb_mask o.kept d (λ k l q. ((o.rule k l).0 q).0) target (r, o.only, o.gives)).2;
  }

  pub opening_unmask : (d : ℕ) (r : ℕ → ℕ) → Coefficients p e rows d target r → OpeningVector p d e E chosen r
  unfolding comb_unmask
  opening_unmask d r o = record {
    kept = o.kept;
    rule = rule_unmask d o.kept o.rule;
    below = o.below;
    only = o.only;
    gives = (comb_unmask o.kept d (masked_inside o.kept d o.rule) target (r, o.only, o.gives)).2;
  }

  pub rank_mask : (d s : ℕ) → Rank p d e E chosen s → KeptCount p e rows d s
  rank_mask d s k = record { kept = k.kept; rule = rule_mask d k.kept k.rule; number = k.number }

  pub rank_unmask : (d s : ℕ) → KeptCount p e rows d s → Rank p d e E chosen s
  rank_unmask d s k = record { kept = k.kept; rule = rule_unmask d k.kept k.rule; number = k.number }

  -- A row times z, written either way round, in the table and in E.
  times_mask : (k : ℕ) (z : ℕ → ℕ) → chosen k ≡ true → total e (λ j. z j * rows k j) ≡ total e (λ j. E k j * z j)
  times_mask k z h = total_cong e (λ j. z j * rows k j) (λ j. E k j * z j)
      (λ j l. ap (λ (x : ℕ). z j * x) (row_chosen k h j) ∙ mul_comm (z j) (E k j))

  pub kills_mask : (z : ℕ → ℕ) (k : ℕ) → (chosen k ≡ true → total e (λ j. E k j * z j) % p ≡ 0) → total e (λ j. z j * rows k j) % p ≡ 0
  kills_mask z k h = go (chosen k) refl
    where
      go : (b : Bool) → chosen k ≡ b → total e (λ j. z j * rows k j) % p ≡ 0
      go true q = ap (λ (x : ℕ). x % p) (times_mask k z q) ∙ h q
      go false q = ap (λ (x : ℕ). x % p)
          (total_zero e (λ j. z j * rows k j) (λ j l. ap (λ (x : ℕ). z j * x) (row_out k q j) ∙ omega arith)) ∙ zero-mod p

  pub kills_unmask : (z : ℕ → ℕ) (k : ℕ) → total e (λ j. z j * rows k j) % p ≡ 0 → chosen k ≡ true → total e (λ j. E k j * z j) % p ≡ 0
  kills_unmask z k h q = ap (λ (x : ℕ). x % p) (sym (times_mask k z q)) ∙ h
