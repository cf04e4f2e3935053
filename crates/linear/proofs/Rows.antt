-- Open or closed, over numbers modulo a prime: an opening vector or a witness, never both, each unique.
-- The witness is the one question once more: columns 2 to e over the chosen rows, with the first column's negative as target.
-- Assumes nothing.
use mathlib.Core.Path.{◌≡◌, refl, sym, ap, ap₂, ◌∙◌, subst, subst⁻¹}
use mathlib.Core.Bool.{Bool, true, false, cond, true≢false, false≢true}
use mathlib.Core.Logic.{◌⊎◌, inl, inr, ⊎_elim}
use Prim.Native.Nat.{ℕ, zero, suc, ◌<◌, ◌+◌, ◌-◌, ◌*◌, ◌%◌, ◌/◌}
use native.Mathlib.Nat.{div-add-mod', le_of_suc-le-suc, mod-eq_of_lt}
use native.Mathlib.Omega.{arith}
use Rattle.residue.specs.Prime.{Prime}
use Rattle.residue.proofs.Modulo.{mod_by, mod_neg, mod_neg_back}
use Rattle.residue.proofs.Field.{positive}
use Rattle.linear.specs.Combination.{total, AddUpTo, CombinationOf, KeptRule}
use Rattle.linear.specs.Question.{Coefficients, Functional}
use Rattle.linear.specs.Rows.{target, columns_of, Open, Closed, OpeningVector, Witness, Rank}
use Rattle.linear.proofs.Masked.{rows_of, total_zero, opening_mask, opening_unmask, rank_mask, comb_mask, kills_mask, kills_unmask}
use Rattle.linear.proofs.Carry.{total_first, total_cong}
use Rattle.linear.proofs.Numbers as Question
use Rattle.linear.proofs.Numbers.{coefficients_unique, count_unique, functional_none, rule_same, adds_same, comb_of_same}
use Rattle.linear.proofs.Kept.{count_none}

-- A first factor that is 1 modulo p.
times_one : (p y x s : ℕ) → y % p ≡ 1 → (y * x + s) % p ≡ (x + s) % p
times_one p y x s e = mod_by p (y * x + s) (x + s) 0 (y / p * x)
    (omega (arith, ap (λ (z : ℕ). z * x) (div-add-mod' y p), ap (λ (z : ℕ). z * x) e))

-- A vector times the target is its first number.
pub times_target : (f : ℕ) (z : ℕ → ℕ) → total (suc f) (λ j. z j * target j) ≡ z 0
times_target f z = omega (arith, total_first f (λ j. z j * target j), total_zero f (λ j. z (suc j) * 0) (λ j l. omega arith))

-- The first column's negative, as numbers.
abbrev pub minus_first : ℕ → (ℕ → ℕ → ℕ) → (ℕ → Bool) → ℕ → ℕ
minus_first p E chosen k = p - rows_of E chosen k 0 % p

-- f is the number of columns after the first.
module _ (p : ℕ) (H : Prime p) (d f : ℕ) (E : ℕ → ℕ → ℕ) (chosen : ℕ → Bool) where
  abbrev rows : ℕ → ℕ → ℕ
  rows = rows_of E chosen

  abbrev columns : ℕ → ℕ → ℕ
  columns = columns_of E chosen

  -- What begins with 1 and kills a row gives that row's first number, negated, by the other columns; and back.
  kill_split : (z : ℕ → ℕ) (k : ℕ) → z 0 % p ≡ 1
      → total (suc f) (λ j. z j * rows k j) % p ≡ (rows k 0 + total f (λ j. z (suc j) * columns j k)) % p
  kill_split z k e = ap (λ (x : ℕ). x % p) (total_first f (λ j. z j * rows k j))
      ∙ times_one p (z 0) (rows k 0) (total f (λ j. z (suc j) * columns j k)) e

  pub columns_of_holds : (z : ℕ → ℕ) → z 0 % p ≡ 1 → ((k : ℕ) → k < d → total (suc f) (λ j. z j * rows k j) % p ≡ 0)
      → AddUpTo p d columns f (λ j. z (suc j)) (minus_first p E chosen)
  columns_of_holds z e h k l = mod_neg p (rows k 0) (total f (λ j. z (suc j) * columns j k)) (positive p H) (sym (kill_split z k e) ∙ h k l)

  kills_of : (z : ℕ → ℕ) → z 0 % p ≡ 1 → AddUpTo p d columns f (λ j. z (suc j)) (minus_first p E chosen)
      → (k : ℕ) → k < d → total (suc f) (λ j. z j * rows k j) % p ≡ 0
  kills_of z e h k l = kill_split z k e ∙ mod_neg_back p (rows k 0) (total f (λ j. z (suc j) * columns j k)) (positive p H) (h k l)

  one_mod : (z : ℕ) → z ≡ 1 → z % p ≡ 1
  one_mod z e = ap (λ (x : ℕ). x % p) e ∙ mod-eq_of_lt H.two

  others : suc f - 1 ≡ f
  others = omega arith

  pub witness_coefficients : (z : ℕ → ℕ) → Witness p d (suc f) E chosen z
      → Coefficients p d columns f (minus_first p E chosen) (λ j. z (suc j))
  witness_coefficients z c = record {
    kept = c.kept;
    rule = subst (λ (m : ℕ). KeptRule p d columns c.kept m) others c.rule;
    below = λ j l. c.below (suc j) (omega arith);
    only = subst (λ (m : ℕ). (j : ℕ) → j < m → c.kept j ≡ false → z (suc j) ≡ 0) others c.only;
    gives = columns_of_holds z (one_mod (z 0) c.first) (λ k l. kills_mask p (suc f) E chosen z k (c.kills k l));
  }

  pub coefficients_witness : (z : ℕ → ℕ) → z 0 ≡ 1 → Coefficients p d columns f (minus_first p E chosen) (λ j. z (suc j))
      → Witness p d (suc f) E chosen z
  coefficients_witness z e c = record {
    kept = c.kept;
    rule = subst⁻¹ (λ (m : ℕ). KeptRule p d columns c.kept m) others c.rule;
    first = e;
    only = subst⁻¹ (λ (m : ℕ). (j : ℕ) → j < m → c.kept j ≡ false → z (suc j) ≡ 0) others c.only;
    below = small;
    kills = λ k l. kills_unmask p (suc f) E chosen z k (kills_of z (one_mod (z 0) e) c.gives k l);
  }
    where
      small : (j : ℕ) → j < suc f → z j < p
      small zero l = omega (arith, H.two, e)
      small (suc j) l = c.below j (le_of_suc-le-suc l)

  -- A witness is a functional that is 0 on each row and 1 on the target.
  pub witness_functional : (z : ℕ → ℕ) → Witness p d (suc f) E chosen z → Functional p (suc f) rows d target z
  witness_functional z c = record {
    kills = λ k l. kills_mask p (suc f) E chosen z k (c.kills k l);
    one = ap (λ (x : ℕ). x % p) (times_target f z) ∙ one_mod (z 0) c.first;
  }

  -- An opening vector is 0 outside the chosen rows and shows that they are open; a witness shows that they are closed.
  pub opening_outside : (r : ℕ → ℕ) → OpeningVector p d (suc f) E chosen r → (k : ℕ) → k < d → chosen k ≡ false → r k ≡ 0
  opening_outside r o k l q = o.only k l (go (o.kept k) refl)
    where
      go : (b : Bool) → o.kept k ≡ b → o.kept k ≡ false
      go true w = absurd (true≢false (sym ((o.rule k l).0 w).0 ∙ q))
      go false w = w

  pub opening_open : (r : ℕ → ℕ) → OpeningVector p d (suc f) E chosen r → Open p d (suc f) E chosen
  opening_open r o = (r, opening_outside r o, o.gives)

  pub witness_closed : (z : ℕ → ℕ) → Witness p d (suc f) E chosen z → Closed p d (suc f) E chosen
  witness_closed z c o = let w = comb_mask p (suc f) E chosen chosen d (λ k l q. q) target o in
      (functional_none p H (suc f) rows d target z (witness_functional z c)).none (w.0, w.2)

  pub open_not_closed : (r z : ℕ → ℕ) → OpeningVector p d (suc f) E chosen r → Witness p d (suc f) E chosen z → ⊥
  open_not_closed r z o c = witness_closed z c (opening_open r o)

  pub opening_unique : (r s : ℕ → ℕ) → OpeningVector p d (suc f) E chosen r → OpeningVector p d (suc f) E chosen s → (k : ℕ) → k < d
      → r k ≡ s k
  opening_unique r s o q = coefficients_unique p H (suc f) rows d target r s (opening_mask p (suc f) E chosen d r o)
      (opening_mask p (suc f) E chosen d s q)

  pub rank_unique : (s u : ℕ) → Rank p d (suc f) E chosen s → Rank p d (suc f) E chosen u → s ≡ u
  rank_unique s u a b = count_unique p H (suc f) rows d s u (rank_mask p (suc f) E chosen d s a) (rank_mask p (suc f) E chosen d u b)

  pub witness_unique : (x z : ℕ → ℕ) → Witness p d (suc f) E chosen x → Witness p d (suc f) E chosen z → (j : ℕ) → j < suc f → x j ≡ z j
  witness_unique x z c q zero l = c.first ∙ sym q.first
  witness_unique x z c q (suc j) l = coefficients_unique p H d columns f (minus_first p E chosen) (λ j. x (suc j)) (λ j. z (suc j))
      (witness_coefficients x c) (witness_coefficients z q) j (le_of_suc-le-suc l)

  abbrev pub first_one : (ℕ → ℕ) → ℕ → ℕ
  first_one c zero = 1
  first_one c (suc j) = c j

  -- Exactly one, and it computes.
  abbrev pub open_or_closed : ((r : ℕ → ℕ) × OpeningVector p d (suc f) E chosen r) ⊎ ((z : ℕ → ℕ) × Witness p d (suc f) E chosen z)
  open_or_closed = ⊎_elim
      (λ r. inl (r.0, opening_unmask p (suc f) E chosen d r.0 r.1))
      (λ y. ⊎_elim
      (λ c. inr (first_one c.0, coefficients_witness (first_one c.0) refl c.1))
      (λ u. absurd ((functional_none p H d columns f (minus_first p E chosen) u.0 u.1).none
      ((λ j. y.0 (suc j)), columns_of_holds y.0 (ap (λ (x : ℕ). x % p) (sym (times_target f y.0)) ∙ y.1.one) y.1.kills)))
      (Question.answer p H d columns f (minus_first p E chosen)))
      (Question.answer p H (suc f) rows d target)

  -- "The empty set, and a set that owns no row, are closed with z = the target", and no row is kept.
  pub none_chosen : ((k : ℕ) → k < d → chosen k ≡ false) → Witness p d (suc f) E chosen target × Rank p d (suc f) E chosen 0
  none_chosen none = (
    record {
      kept = λ j. false;
      rule = λ j l. (
        (λ q. absurd (false≢true q)),
        λ h. absurd (h (
          (λ i. 0),
          (λ i li q. refl),
          λ k lk.
              ap (λ (x : ℕ). x % p)
              (total_zero j (λ i. 0 * columns i k) (λ i li. omega arith) ∙ sym (ap (λ b. cond b (E k (suc j)) 0) (none k lk))),
        )),
      );
      below = small;
      first = refl;
      kills = λ k l q. absurd (true≢false (sym q ∙ none k l));
      only = λ j l q. refl;
    },
    record {
      kept = λ k. false;
      rule = λ k l. ((λ q. absurd (false≢true q)), λ h. absurd (true≢false (sym h.0 ∙ none k l)));
      number = count_none d;
    },
  )
    where
      small : (j : ℕ) → j < suc f → target j < p
      small zero l = H.two
      small (suc j) l = omega (arith, H.two)

-- The marks of the chosen rows count only below d, the entries only inside the table.
module _ (p d e : ℕ) (E F : ℕ → ℕ → ℕ) (b c : ℕ → Bool) (entries : (k j : ℕ) → k < d → j < e → E k j ≡ F k j)
    (marks : (k : ℕ) → k < d → b k ≡ c k) where
  kept_same : (kept : ℕ → Bool) (k : ℕ) → k < d → (CombinationOf p e E kept k (E k) → ⊥) → CombinationOf p e F kept k (F k) → ⊥
  kept_same kept k l h o = h (comb_of_same p e d F E (λ i j li lj. sym (entries i j li lj)) kept k l o)

  kept_back : (kept : ℕ → Bool) (k : ℕ) → k < d → (CombinationOf p e F kept k (F k) → ⊥) → CombinationOf p e E kept k (E k) → ⊥
  kept_back kept k l h o = h (comb_of_same p e d E F entries kept k l o)

  pub opening_same : (r : ℕ → ℕ) → OpeningVector p d e E b r → OpeningVector p d e F c r
  opening_same r o = record {
    kept = o.kept;
    rule = λ k l. (
      (λ q. let w = (o.rule k l).0 q in (sym (marks k l) ∙ w.0, kept_same o.kept k l w.1)),
      λ w. (o.rule k l).1 (marks k l ∙ w.0, kept_back o.kept k l w.1),
    );
    below = o.below;
    only = o.only;
    gives = adds_same p e d E F entries r r target target d (omega arith) (λ j l. refl) (λ i l. refl) o.gives;
  }

  pub witness_same : (z : ℕ → ℕ) → Witness p d e E b z → Witness p d e F c z
  witness_same z w = record {
    kept = w.kept;
    rule = rule_same p d (e - 1) (columns_of E b) (columns_of F c)
        (λ j k lj lk. ap₂ (λ x (y : ℕ). cond x y 0) (marks k lk) (entries k (suc j) lk (omega arith))) w.kept w.rule;
    below = w.below;
    first = w.first;
    kills = λ k l q. ap (λ (x : ℕ). x % p)
        (total_cong e (λ j. F k j * z j) (λ j. E k j * z j) (λ j lj. ap (λ (x : ℕ). x * z j) (sym (entries k j l lj))))
        ∙ w.kills k l (marks k l ∙ q);
    only = w.only;
  }

  pub open_same : Open p d e E b → Open p d e F c
  open_same o = (
    o.0,
    (λ k l q. o.1 k l (marks k l ∙ q)),
    adds_same p e d E F entries o.0 o.0 target target d (omega arith) (λ j l. refl) (λ i l. refl) o.2,
  )

  pub closed_same : Closed p d e F c → Closed p d e E b
  closed_same h o = h (open_same o)
