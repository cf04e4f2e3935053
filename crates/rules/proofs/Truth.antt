-- Truth against one functional y, which gives each column a number and so each vector. Where the rule is true and y is 0 at each row of the
-- set, y is 0 at the rule's vector. And a term's own columns: y can be given numbers there, and those of what is inside the term come after.
-- Assumes nothing.
use mathlib.Core.Path.{◌≡◌, refl, ap, ap₂, ◌∙◌}
use mathlib.Core.Bool.{Bool, true, false, ◌&&◌, ◌||◌, cond, false≢true}
use mathlib.Core.Logic.{◌⊎◌, inl, inr, ⊎_elim}
use mathlib.Core.List.{[], ◌∷◌}
use Prim.Native.Nat.{ℕ, zero, suc, ◌+◌, ◌-◌}
use native.Mathlib.Omega.{arith}
use lib.ListN.{get_or}
use Rattle.algebra.specs.Ring.{Field}
use Rattle.algebra.proofs.Normal.{v, c0, ◌:+◌, ◌:-◌, ring}
use Rattle.rules.specs.Tree.{Rule, Term, Atom, Rules, term, ◌or◌, atom, ◌and◌, number, group, choice, rule, ◌comma◌}
use Rattle.rules.specs.Tree.{rule_holds, term_holds, atom_holds}
use Rattle.rules.specs.Construction.{Vectors, ands, rule_takes, inside_takes, atom_takes}
use Rattle.rules.specs.Construction.{less_all, plus_powers, rule_rows, term_rows, atom_rows, rules_rows}
use Rattle.rules.proofs.Groups.{RuleGroups, TermGroups, AtomGroups, RulesGroups}
use Rattle.rules.proofs.Functional.{values, Killed, killed_split, put, put_same, put_other}
use Rattle.rules.proofs.Functional.{Outside, Inside, outside_join, before, less_keep}
use Rattle.rules.proofs.Choices.{Fit, Zero, choice_zero}

or_true : (a b : Bool) → (a || b) ≡ true → (a ≡ true) ⊎ (b ≡ true)
or_true true b e = inl refl
or_true false b e = inr e

and_both : (a b : Bool) → (a && b) ≡ true → (a ≡ true) × (b ≡ true)
and_both true b e = (refl, e)
and_both false b e = absurd (false≢true e)

module _ {A : Type 0} (K : Field A) (member : ℕ → Bool) where
  open K use {R}
  open R use {𝟘, ◌⊕◌, neg, zero_l}

  infixl 65 ◌⊕◌
  -- True. y is 0 at the q columns from c on.
  abbrev Zeros : (ℕ → A) → ℕ → ℕ → Type 0
  Zeros y c zero = Unit {0}
  Zeros y c (suc q) = (y c ≡ 𝟘) × Zeros y (suc c) q

  -- A term's vector is 0 where its last atom's is, and y is 0 at its columns.
  less_zero : (y : ℕ → A) (c q : ℕ) (a : A) → (less_all (values K y) c q a ≡ 𝟘) × Zeros y c q → a ≡ 𝟘
  unfolding less_all values
  less_zero y c zero a h = h.0
  less_zero y c (suc q) a h = ring R (v 0) (v 0 :- v 1 :+ v 1) refl (λ j. get_or (a ∷ y c ∷ []) j 𝟘)
      ∙ ap₂ ◌⊕◌ (less_zero y (suc c) q (a ⊕ neg (y c)) (h.0, h.1.1)) h.1.0 ∙ zero_l 𝟘

  module _ (y : ℕ → A) where
    abbrev O : Vectors A
    O = values K y

    mutual
      unfolding rule_rows rule_holds ands values

      pub rule_zero : (r : Rule) (a : A) (c : ℕ) → RuleGroups (Fit K) r → Killed K member (rule_rows O r a c)
          → rule_holds member r ≡ true → a ≡ 𝟘
      rule_zero (term t) a c f k h = less_zero y c (ands t) a (term_zero t (less_all O c (ands t) a) c (c + ands t) f k h)
      rule_zero (t or r) a c f k h =
          let s = killed_split K member (rule_rows O (term t) a c) (rule_rows O r a (c + (ands t + inside_takes t))) k in
          ⊎_elim
          (λ e. less_zero y c (ands t) a (term_zero t (less_all O c (ands t) a) c (c + ands t) f.0 s.0 e))
          (λ e. rule_zero r a (c + (ands t + inside_takes t)) f.1 s.1 e)
          (or_true (term_holds member t) (rule_holds member r) h)

      term_zero : (t : Term) (l : A) (k c : ℕ) → TermGroups (Fit K) t → Killed K member (term_rows O t l k c) → term_holds member t ≡ true
          → (l ≡ 𝟘) × Zeros y k (ands t)
      term_zero (atom a) l k c f g h = (atom_zero a l c f g h, tt)
      term_zero (a and t) l k c f g h =
          let s = killed_split K member (atom_rows O a (O.unit k) c) (term_rows O t l (suc k) (c + atom_takes a)) g in
          let e = and_both (atom_holds member a) (term_holds member t) h in
          let u = term_zero t l (suc k) (c + atom_takes a) f.1 s.1 e.1 in
          (u.0, (atom_zero a (O.unit k) c f.0 s.0 e.0, u.1))

      atom_zero : (a : Atom) (x : A) (c : ℕ) → AtomGroups (Fit K) a → Killed K member (atom_rows O a x c) → atom_holds member a ≡ true → x ≡ 𝟘
      atom_zero (number i) x c f g h = g.0 h
      atom_zero (group r) x c f g h = rule_zero r x c f g h
      atom_zero (choice k b) x c f g h = choice_zero K member y k b c x f.0 (rules_zero b 1 (k - 1) c x (c + (k - 1)) f.1 g) h

      rules_zero : (b : Rules) (i q k : ℕ) (x : A) (c : ℕ) → RulesGroups (Fit K) b → Killed K member (rules_rows O b i q k x c)
          → Zero K member y b i q k x
      rules_zero (rule r) i q k x c f g = λ h. rule_zero r (plus_powers O i 1 k q x) c f g h
      rules_zero (r comma b) i q k x c f g =
          let s = killed_split K member (rule_rows O r (plus_powers O i 1 k q x) c) (rules_rows O b (suc i) q k x (c + rule_takes r)) g in
          ((λ h. rule_zero r (plus_powers O i 1 k q x) c f.0 s.0 h), rules_zero b (suc i) q k x (c + rule_takes r) f.1 s.1)

  -- False. z is y but for the n columns from c on, and P holds of it.
  abbrev pub Extends : (ℕ → A) → ℕ → ℕ → ((ℕ → A) → Type 0) → Type 0
  Extends y c n P = (z : ℕ → A) × Outside K c n y z × P z

  -- Each true atom of a term has 0: l is the last atom's number, c the column of the first.
  abbrev pub AtomsZero : (ℕ → A) → Term → A → ℕ → Type 0
  AtomsZero y (atom a) l c = atom_holds member a ≡ true → l ≡ 𝟘
  AtomsZero y (a and t) l c = (atom_holds member a ≡ true → y c ≡ 𝟘) × AtomsZero y t l (suc c)

  pub atoms_keep : (t : Term) (l : A) (c : ℕ) (y z : ℕ → A) → Inside K c (ands t) y z → AtomsZero y t l c → AtomsZero z t l c
  unfolding ands
  atoms_keep (atom a) l c y z h o = o
  atoms_keep (a and t) l c y z h o =
      ((λ e. h c (omega arith) (omega arith) ∙ o.0 e), atoms_keep t l (suc c) y z (λ j p q. h j (omega arith) (omega arith)) o.1)

  -- Numbers for a term's columns: the term's own number at the first false atom but the last, 0 else.
  pub term_columns : (t : Term) (y : ℕ → A) (a : A) (c : ℕ) → (term_holds member t ≡ true → a ≡ 𝟘)
      → Extends y c (ands t) (λ z. AtomsZero z t (less_all (values K z) c (ands t) a) c)
  unfolding ands less_all term_holds values
  term_columns (atom x) y a c h = (y, (λ k o. refl), h)
  term_columns (x and t) y a c h = after (term_columns t (put K c w y) (a ⊕ neg w) (suc c) (left (atom_holds member x) h))
    where
      w : A
      w = cond (atom_holds member x) 𝟘 a

      left : (b : Bool) → ((b && term_holds member t) ≡ true → a ≡ 𝟘) → term_holds member t ≡ true → a ⊕ neg (cond b 𝟘 a) ≡ 𝟘
      left true g e = ap (λ z. z ⊕ neg 𝟘) (g e) ∙ ring R (c0 :- c0) c0 refl (λ i. 𝟘)
      left false g e = ring R (v 0 :- v 0) c0 refl (λ i. a)

      after : Extends (put K c w y) (suc c) (ands t) (λ z. AtomsZero z t (less_all (values K z) (suc c) (ands t) (a ⊕ neg w)) (suc c))
          → Extends y c (suc (ands t)) (λ z. AtomsZero z (x and t) (less_all (values K z) (suc c) (ands t) (a ⊕ neg (z c))) c)
      after (z, o, k) = let e : z c ≡ w = o c (λ p q. omega arith) ∙ put_same K c w y in (
        z,
        (λ j p. o j (λ m n. p (omega arith) (omega arith)) ∙ put_other K c w y j (λ q. p (omega arith) (omega arith))),
        ((λ g. e ∙ ap (λ b. cond b 𝟘 a) g), rw e k),
      )

  -- A term's own columns, and then those of what is inside it.
  pub own_columns : (t : Term) (a : A) (c : ℕ) (y u : ℕ → A) → Outside K c (ands t) y u
      → Extends u (c + ands t) (inside_takes t)
      (λ z. Killed K member (term_rows (values K z) t (less_all (values K u) c (ands t) a) c (c + ands t)))
      → Extends y c (ands t + inside_takes t) (λ z. Killed K member (rule_rows (values K z) (term t) a c))
  unfolding rule_rows
  own_columns t a c y u o (z, p, k) = (
    z,
    outside_join K c (ands t) (inside_takes t) y u z o p,
    rw (less_keep K c (ands t) a u z (before K c (ands t) (c + ands t) (inside_takes t) u z (omega arith) p)) k,
  )
