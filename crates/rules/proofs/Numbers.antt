-- Truth against matrix: modulo a prime the matrix of a rule opens for exactly the sets for which the rule is true.
-- Assumes nothing.
use mathlib.Core.Path.{◌≡◌, refl, sym, ap, ap₂, ◌∙◌}
use mathlib.Core.Bool.{Bool, true, false, true≢false}
use mathlib.Core.Logic.{⊎_elim, ◌↔◌}
use mathlib.Core.List.{List, [], ◌∷◌}
use Prim.Native.Nat.{ℕ, zero, suc, ◌+◌, ◌%◌, ◌<◌}
use native.Mathlib.Nat.{not-suc-le-zero, le_of_suc-le-suc, mod-eq_of_lt, zero-mod}
use native.Mathlib.Omega.{arith}
use lib.ListN.{get_or, length, set, replicate, length-set, length-replicate}
use lib.Seq.{get_or-set_same, get_or-set_other}
use Rattle.algebra.specs.Ring.{Field}
use Rattle.algebra.specs.Sum.{dot}
use Rattle.algebra.proofs.Cases.{same?}
use Rattle.algebra.proofs.Ring.{zero_r, one_r, mul-zero, neg_mul}
use Rattle.algebra.proofs.Sum.{sum_cong, sum_zero, sum_lin, sum_unit, unit, unit_same, unit_other, dot_comm}
use Rattle.lists.proofs.Store.{zeros_at}
use Rattle.residue.specs.Prime.{Prime}
use Rattle.residue.specs.Residue.{F, res}
use Rattle.residue.proofs.Field.{residues, res_mod, res_add, one_not_zero}
use Rattle.linear.specs.Question.{Functional}
use Rattle.linear.specs.Rows.{target, Open, Witness}
use Rattle.linear.proofs.Carry.{dot_iff, dot_val}
use Rattle.linear.proofs.Masked.{rows_of, comb_mask, kills_mask}
use Rattle.linear.proofs.Numbers.{functional_none}
use Rattle.linear.proofs.Rows.{times_target, opening_open, open_or_closed}
use Rattle.rules.specs.Tree.{Rule, rule_holds}
use Rattle.rules.specs.Text.{WellRule}
use Rattle.rules.specs.Construction.{modulo, rule_takes, rule_rows, columns, rows}
use Rattle.rules.proofs.Groups.{RuleGroups, rule_plain, rule_map}
use Rattle.rules.proofs.Same.{AllRel, Match, rule_same}
use Rattle.rules.proofs.Polynomial.{nat}
use Rattle.rules.proofs.Functional.{values, Killed}
use Rattle.rules.proofs.Choices.{Fit, Above}
use Rattle.rules.proofs.Truth.{rule_zero}
use Rattle.rules.proofs.Extends.{rule_extends}
use Rattle.rules.proofs.Taken.{one_off, off_one}

-- The label of row i, and its number in column j.
abbrev pub row_label : List (ℕ × List ℕ) → ℕ → ℕ
row_label rs i = (get_or rs i (0, [])).0

abbrev pub row_entry : List (ℕ × List ℕ) → ℕ → ℕ → ℕ
row_entry rs i j = get_or (get_or rs i (0, [])).1 j 0

-- What is asked of a choice "k of m rules".
abbrev pub Small : ℕ → ℕ → ℕ → Type 0
Small p k m = (0 < k) × (m < p)

module _ (p : ℕ) (H : Prime p) where
  abbrev K : Field (F p)
  K = residues p H

  open K use {R}
  open R use {𝟘, 𝟙, ◌⊕◌, ◌⊗◌, neg, zero_l, one_l, mcomm}

  infixl 65 ◌⊕◌
  infixl 70 ◌⊗◌
  abbrev entry : List ℕ → ℕ → F p
  entry x k = res p H (get_or x k 0)

  nat_res : (n : ℕ) → nat K n ≡ res p H n
  unfolding nat
  nat_res zero = refl
  nat_res (suc n) = ap (λ z. z ⊕ 𝟙) (nat_res n) ∙ res_add p H n 1 ∙ ap (res p H) (omega arith)

  -- w added.
  more : (a w : ℕ) → res p H ((a + w) % p) ≡ res p H a ⊕ nat K w
  more a w = res_mod p H (a + w) ∙ sym (res_add p H a w) ∙ ap (λ z. res p H a ⊕ z) (sym (nat_res w))

  -- d added at place c of a list: what a functional y makes of it.
  set_adds : (x : List ℕ) (c b : ℕ) (d : F p) → c < length x → res p H b ≡ entry x c ⊕ d
      → (k : ℕ) → entry (set x c b) k ≡ entry x k ⊕ d ⊗ unit R c k
  set_adds x c b d l e k = ⊎_elim
      (λ (q : k ≡ c). rw q
      (ap (res p H) (get_or-set_same x c b 0 l) ∙ e ∙ ap (λ z. entry x c ⊕ z) (sym (ap (λ z. d ⊗ z) (unit_same R c) ∙ one_r R d))))
      (λ ne. ap (res p H) (get_or-set_other x c k b 0 ne) ∙ sym (zero_r R (entry x k))
      ∙ ap (λ z. entry x k ⊕ z) (sym (ap (λ z. d ⊗ z) (unit_other R c k ne) ∙ mul-zero R d)))
      (same? k c)

  dot_set : (e : ℕ) (y : ℕ → F p) (x : List ℕ) (c b : ℕ) (d : F p) → length x ≡ e → c < e → res p H b ≡ entry x c ⊕ d
      → dot R e y (entry (set x c b)) ≡ dot R e y (entry x) ⊕ d ⊗ y c
  dot_set e y x c b d n l h =
      sum_cong R e (λ k. y k ⊗ entry (set x c b) k) (λ k. (entry x k ⊕ d ⊗ unit R c k) ⊗ y k)
      (λ k m. ap (λ z. y k ⊗ z) (set_adds x c b d (omega arith) h k) ∙ mcomm (y k) (entry x k ⊕ d ⊗ unit R c k))
      ∙ sum_lin R e d (entry x) (unit R c) y ∙ ap₂ (λ u w. u ⊕ d ⊗ w) (dot_comm R e (entry x) y) (sum_unit R e c y l)

  -- A vector of e numbers, and what the functional y makes of it.
  abbrev Has : ℕ → (ℕ → F p) → List ℕ → F p → Type 0
  Has e y x a = (length x ≡ e) × (dot R e y (entry x) ≡ a)

  matches : (e : ℕ) (y : ℕ → F p) → Match (modulo p e) (values K y) (Has e y) 0 e
  unfolding modulo values
  matches e y = record {
    units = λ k l u. (
      length-set (replicate e 0) k 1 ∙ length-replicate e 0,
      dot_set e y (replicate e 0) k 1 𝟙 (length-replicate e 0) u (sym (ap (λ z. z ⊕ 𝟙) (zeros k) ∙ zero_l 𝟙))
          ∙ ap₂ ◌⊕◌ dot_zeros (one_l (y k)) ∙ zero_l (y k),
    );
    lesses = λ k x a l u h. (
      length-set x k (one_off p (get_or x k 0)) ∙ h.0,
      dot_set e y x k (one_off p (get_or x k 0)) (neg 𝟙) h.0 u (off_one p H (get_or x k 0))
          ∙ ap₂ ◌⊕◌ h.1 (neg_mul R 𝟙 (y k) ∙ ap neg (one_l (y k))),
    );
    pluses = λ k w x a l u h. (
      length-set x k ((get_or x k 0 + w) % p) ∙ h.0,
      dot_set e y x k ((get_or x k 0 + w) % p) (nat K w) h.0 u (more (get_or x k 0) w) ∙ ap (λ z. z ⊕ nat K w ⊗ y k) h.1,
    );
  }
    where
      zeros : (k : ℕ) → entry (replicate e 0) k ≡ 𝟘
      zeros k = ap (res p H) (zeros_at e k)

      dot_zeros : dot R e y (entry (replicate e 0)) ≡ 𝟘
      dot_zeros = sum_zero R e (λ j. y j ⊗ entry (replicate e 0) j) (λ j l. ap (λ z. y j ⊗ z) (zeros j) ∙ mul-zero R (y j))

  module _ (member : ℕ → Bool) where
    -- y is 0 at each row of the set.
    abbrev KillsRows : ℕ → (ℕ → F p) → List (ℕ × List ℕ) → Type 0
    KillsRows e y rs = (k : ℕ) → k < length rs → member (row_label rs k) ≡ true → dot R e y (λ j. res p H (row_entry rs k j)) ≡ 𝟘

    to_killed : (e : ℕ) (y : ℕ → F p) (rs : List (ℕ × List ℕ)) (qs : List (ℕ × F p)) → AllRel (Has e y) rs qs → KillsRows e y rs
        → Killed K member qs
    to_killed e y [] [] h z = tt
    to_killed e y [] (q ∷ qs) h z = absurd h
    to_killed e y (r ∷ rs) [] h z = absurd h
    to_killed e y (r ∷ rs) (q ∷ qs) h z =
        ((λ m. sym h.1.1 ∙ z zero (omega arith) (ap member h.0 ∙ m)), to_killed e y rs qs h.2 (λ k l. z (suc k) (omega arith)))

    of_killed : (e : ℕ) (y : ℕ → F p) (rs : List (ℕ × List ℕ)) (qs : List (ℕ × F p)) → AllRel (Has e y) rs qs → Killed K member qs
        → KillsRows e y rs
    of_killed e y [] [] h z k l m = absurd (not-suc-le-zero l)
    of_killed e y [] (q ∷ qs) h z k l m = absurd h
    of_killed e y (r ∷ rs) [] h z k l m = absurd h
    of_killed e y (r ∷ rs) (q ∷ qs) h z zero l m = h.1.1 ∙ z.0 (sym (ap member h.0) ∙ m)
    of_killed e y (r ∷ rs) (q ∷ qs) h z (suc k) l m = of_killed e y rs qs h.2 z.1 k (le_of_suc-le-suc l) m

    module _ (r : Rule) (f : RuleGroups (Fit K) r) where
      abbrev made : List (ℕ × List ℕ)
      made = rows p r

      abbrev chosen : ℕ → Bool
      chosen k = member (row_label made k)

      -- The target is the vector with 1 in column 0: the functional makes y 0 of it.
      related : (y : ℕ → F p) → AllRel (Has (columns r) y) made (rule_rows (values K y) r (y zero) 1)
      unfolding rows modulo values
      related y = rule_same (modulo p (columns r)) (values K y) (Has (columns r) y) 0 (columns r) (matches (columns r) y) r
          (set (replicate (columns r) 0) 0 1) (y zero) 1 (omega arith) (omega arith)
          ((matches (columns r) y).units zero (omega arith) (omega arith))

      -- True: what kills the set's rows gives the target 0.
      kills_target : (y : ℕ → F p) → KillsRows (columns r) y made → rule_holds member r ≡ true → y zero ≡ 𝟘
      kills_target y z h =
          rule_zero K member y r (y zero) 1 f (to_killed (columns r) y made (rule_rows (values K y) r (y zero) 1) (related y) z) h

      witness_kills : (z : ℕ → ℕ) → Witness p (length made) (columns r) (row_entry made) chosen z
          → KillsRows (columns r) (λ j. res p H (z j)) made
      witness_kills z w k l m = dot_comm R (columns r) (λ j. res p H (z j)) (λ j. res p H (row_entry made k j))
          ∙ (dot_iff p H (columns r) (row_entry made k) z 0).0 (w.kills k l m ∙ sym (zero-mod p))

      opens : rule_holds member r ≡ true → Open p (length made) (columns r) (row_entry made) chosen
      opens h = ⊎_elim
          (λ o. opening_open p H (length made) (rule_takes r) (row_entry made) chosen o.0 o.1)
          (λ w. absurd (one_not_zero p H
          (ap (res p H) (sym w.1.first) ∙ kills_target (λ j. res p H (w.0 j)) (witness_kills w.0 w.1) h)))
          (open_or_closed p H (length made) (rule_takes r) (row_entry made) chosen)

      -- False: a functional that kills the set's rows and gives the target 1.
      killer : rule_holds member r ≡ false → (y : ℕ → F p) × KillsRows (columns r) y made × (y zero ≡ 𝟙)
      killer h =
          let u = rule_extends K member r 𝟙 1 (λ j. 𝟙) f (λ e. absurd (true≢false (sym e ∙ h))) in
          let one : u.0 zero ≡ 𝟙 = u.1 zero (λ l m. omega arith) in
          (u.0, of_killed (columns r) u.0 made (rule_rows (values K u.0) r (u.0 zero) 1) (related u.0) (rw one u.2), one)

      as_functional : (y : ℕ → F p) → KillsRows (columns r) y made → y zero ≡ 𝟙
          → Functional p (columns r) (rows_of (row_entry made) chosen) (length made) target (λ j. (y j).0)
      as_functional y z one = record {
        kills = λ k l. kills_mask p (columns r) (row_entry made) chosen (λ j. (y j).0) k
            (λ m. (dot_iff p H (columns r) (row_entry made k) (λ j. (y j).0) 0).1
            (dot_comm R (columns r) (λ j. res p H (row_entry made k j)) (λ j. res p H (y j).0)
            ∙ dot_val p H (columns r) y (λ j. res p H (row_entry made k j)) ∙ z k l m) ∙ zero-mod p);
        one = ap (λ (n : ℕ). n % p) (times_target (rule_takes r) (λ j. (y j).0)) ∙ mod-eq_of_lt (y zero).1 ∙ ap (λ a. a.0) one
            ∙ mod-eq_of_lt H.two;
      }

      closed : rule_holds member r ≡ false → Open p (length made) (columns r) (row_entry made) chosen → ⊥
      closed h o =
          let y = killer h in
          let c = comb_mask p (columns r) (row_entry made) chosen chosen (length made) (λ k l q. q) target o in
          (functional_none p H (columns r) (rows_of (row_entry made) chosen) (length made) target (λ j. (y.0 j).0)
          (as_functional y.0 y.1 y.2)).none (c.0, c.2)

      opens_iff : Open p (length made) (columns r) (row_entry made) chosen ↔ (rule_holds member r ≡ true)
      opens_iff = ((λ o. go (rule_holds member r) refl o), opens)
        where
          go : (b : Bool) → rule_holds member r ≡ b → Open p (length made) (columns r) (row_entry made) chosen → rule_holds member r ≡ true
          go true e o = e
          go false e o = absurd (closed e o)

  above : (m : ℕ) → m < p → Above K m
  above m h n l u e =
      let q : n % p ≡ 0 % p = ap (λ a. a.0) (sym (nat_res n) ∙ e) in
      let o : n < p = omega arith in
      omega (arith, q, mod-eq_of_lt o, zero-mod p)

-- The matrix of a rule is open, for any choice of members, exactly when the rule is true for them: for a rule whose choices k of m rules have
-- k at least 1 and m below p. For a scheme and its sets: `built_opens` of rule/proofs/Says.antt.
pub rule_opens : (p : ℕ) → Prime p → (r : Rule) (member : ℕ → Bool) → RuleGroups (Small p) r
    → Open p (length (rows p r)) (columns r) (row_entry (rows p r)) (λ k. member (row_label (rows p r) k)) ↔ (rule_holds member r ≡ true)
rule_opens p H r member f = opens_iff p H member r (rule_map (Small p) (Fit (K p H)) (λ k m h. (h.0, above p H m h.1)) r f)

-- The same for a rule of the first edition, which has no choice: for every prime, 2 too.
pub well_opens : (p : ℕ) → Prime p → (r : Rule) (d : ℕ) → WellRule r d → (member : ℕ → Bool)
    → Open p (length (rows p r)) (columns r) (row_entry (rows p r)) (λ k. member (row_label (rows p r) k)) ↔ (rule_holds member r ≡ true)
well_opens p H r d w member = rule_opens p H r member (rule_plain (Small p) r d w)
