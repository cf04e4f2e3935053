-- The theorem of the one question over numbers modulo a prime, as contracts cite it: coefficients or a functional; never both; the
-- coefficients, the kept vectors and their number are unique. And: only what is read counts.
-- Assumes nothing.
use mathlib.Core.Path.{◌≡◌, refl, sym, ap, ap₂, ◌∙◌, subst}
use mathlib.Core.Bool.{Bool, false}
use mathlib.Core.Logic.{◌⊎◌, inl, inr, ⊎_elim}
use Prim.Native.Nat.{ℕ, suc, ◌<◌, ◌*◌, ◌%◌}
use native.Mathlib.Omega.{arith}
use Rattle.residue.specs.Prime.{Prime}
use Rattle.residue.specs.Residue.{res}
use Rattle.residue.proofs.Field.{residues, zero_res, res_inj}
use Rattle.linear.specs.Combination.{count, AddUpTo, CombinationOf, KeptRule, KeptCount}
use Rattle.linear.specs.Question.{Coefficients, NoCombination, Functional}
use Rattle.linear.proofs.Kept as Field
use Rattle.linear.proofs.Kept.{kept, keeps, rule_kept, zero_dropped, count_cong}
use Rattle.linear.proofs.Carry.{W, total_cong, comb_up, rule_up, rule_down, coeffs_up, coeffs_down, functional_up, functional_down}

module _ (p : ℕ) (H : Prime p) (n : ℕ) (N : ℕ → ℕ → ℕ) where
  abbrev pub answer : (m : ℕ) (t : ℕ → ℕ) → ((c : ℕ → ℕ) × Coefficients p n N m t c) ⊎ ((y : ℕ → ℕ) × Functional p n N m t y)
  answer m t = ⊎_elim
      (λ c. inl ((λ k. (c.0 k).0), coeffs_down p H n N m t c.0 c.1))
      (λ y. inr ((λ i. (y.0 i).0), functional_down p H n N m t y.0 y.1))
      (Field.answer (residues p H) n (W p H n N) m (λ i. res p H (t i)))

  pub functional_none : (m : ℕ) (t y : ℕ → ℕ) → Functional p n N m t y → NoCombination p n N m t
  functional_none m t y f = record {
    none = λ c.
        Field.never_both (residues p H) n (W p H n N) m (λ i. res p H (t i)) (λ i. res p H (y i)) (comb_up p H n N m t c)
        (functional_up p H n N m t y f);
  }

  -- The verdict alone, for any target.
  pub found_or_none : (m : ℕ) (t : ℕ → ℕ) → ((c : ℕ → ℕ) × Coefficients p n N m t c) ⊎ NoCombination p n N m t
  found_or_none m t = ⊎_elim (λ c. inl c) (λ y. inr (functional_none m t y.0 y.1)) (answer m t)

  pub never_both : (m : ℕ) (t c : ℕ → ℕ) → Coefficients p n N m t c → NoCombination p n N m t → ⊥
  never_both m t c o z = z.none (c, o.gives)

  pub coefficients_unique : (m : ℕ) (t c d : ℕ → ℕ) → Coefficients p n N m t c → Coefficients p n N m t d → (k : ℕ) → k < m → c k ≡ d k
  coefficients_unique m t c d o q k l = res_inj p H (c k) (d k) (o.below k l) (q.below k l)
      (Field.coeffs_unique (residues p H) n (W p H n N) m (λ i. res p H (t i)) (λ k. res p H (c k)) (λ k. res p H (d k))
      (coeffs_up p H n N m t c o) (coeffs_up p H n N m t d q) k l)

  -- The marks of the rule are unique, so their number is.
  pub kept_unique : (b c : ℕ → Bool) (m : ℕ) → KeptRule p n N b m → KeptRule p n N c m → (k : ℕ) → k < m → b k ≡ c k
  kept_unique b c m h g k l = rule_kept (residues p H) n (W p H n N) b m (rule_up p H n N b m h) k l
      ∙ sym (rule_kept (residues p H) n (W p H n N) c m (rule_up p H n N c m g) k l)

  pub count_unique : (m s u : ℕ) → KeptCount p n N m s → KeptCount p n N m u → s ≡ u
  count_unique m s u a b = sym a.number ∙ count_cong m a.kept b.kept (kept_unique a.kept b.kept m a.rule b.rule)
      ∙ b.number

  -- "a zero row is never kept"
  pub zero_not_kept : (b : ℕ → Bool) (m : ℕ) → KeptRule p n N b m → (k : ℕ) → k < m → ((i : ℕ) → i < n → N k i % p ≡ 0) → b k ≡ false
  zero_not_kept b m h k l z = zero_dropped (residues p H) n (W p H n N) b m (rule_up p H n N b m h) k l
      (λ i li. zero_res p H (N k i) (z i li))

  -- The rule's marks over numbers, for whoever has counted the kept vectors of the field.
  pub kept_count : (m s : ℕ) → count m (kept (residues p H) n (W p H n N)) ≡ s → KeptCount p n N m s
  kept_count m s e = record {
    kept = kept (residues p H) n (W p H n N);
    rule = rule_down p H n N (kept (residues p H) n (W p H n N)) m (keeps (residues p H) n (W p H n N) m);
    number = e;
  }

-- Two tables that agree where they are read.
module _ (p n m : ℕ) (N M : ℕ → ℕ → ℕ) (same : (k i : ℕ) → k < m → i < n → N k i ≡ M k i) where
  pub adds_same : (c d t u : ℕ → ℕ) (k : ℕ) → k < suc m → ((j : ℕ) → j < k → c j ≡ d j) → ((i : ℕ) → i < n → t i ≡ u i)
      → AddUpTo p n N k c t → AddUpTo p n M k d u
  adds_same c d t u k lk hc ht h i l = ap (λ (x : ℕ). x % p)
      (total_cong k (λ j. d j * M j i) (λ j. c j * N j i) (λ j lj. ap₂ ◌*◌ (sym (hc j lj)) (sym (same j i (omega arith) l))))
      ∙ h i l ∙ ap (λ (x : ℕ). x % p) (ht i l)

  pub comb_of_same : (b : ℕ → Bool) (k : ℕ) → k < m → CombinationOf p n N b k (N k) → CombinationOf p n M b k (M k)
  comb_of_same b k l c = (c.0, c.1, adds_same c.0 c.0 (N k) (M k) k (omega arith) (λ j lj. refl) (λ i li. same k i l li) c.2)

pub none_same : (p n m : ℕ) (N M : ℕ → ℕ → ℕ) → ((k i : ℕ) → k < m → i < n → N k i ≡ M k i) → (t u : ℕ → ℕ) → ((i : ℕ) → i < n → t i ≡ u i)
    → NoCombination p n N m t → NoCombination p n M m u
none_same p n m N M same t u ht h = record {
  none = λ c. h.none (
    c.0,
    adds_same p n m M N (λ k i a b. sym (same k i a b)) c.0 c.0 u t m (omega arith) (λ j l. refl) (λ i l. sym (ht i l)) c.1,
  );
}

pub rule_same : (p n m : ℕ) (N M : ℕ → ℕ → ℕ) → ((k i : ℕ) → k < m → i < n → N k i ≡ M k i) → (b : ℕ → Bool) → KeptRule p n N b m
    → KeptRule p n M b m
rule_same p n m N M same b h k l = (
  (λ q c. (h k l).0 q (comb_of_same p n m M N (λ k i x y. sym (same k i x y)) b k l c)),
  λ f. (h k l).1 (λ c. f (comb_of_same p n m N M same b k l c)),
)

pub coefficients_same : (p n m : ℕ) (N M : ℕ → ℕ → ℕ) → ((k i : ℕ) → k < m → i < n → N k i ≡ M k i) → (t u c d : ℕ → ℕ)
    → ((i : ℕ) → i < n → t i ≡ u i) → ((k : ℕ) → k < m → c k ≡ d k) → Coefficients p n N m t c → Coefficients p n M m u d
coefficients_same p n m N M same t u c d ht hc o = record {
  kept = o.kept;
  rule = rule_same p n m N M same o.kept o.rule;
  below = λ k l. subst (λ x. x < p) (hc k l) (o.below k l);
  only = λ k l q. sym (hc k l) ∙ o.only k l q;
  gives = adds_same p n m N M same c d t u m (omega arith) hc ht o.gives;
}
