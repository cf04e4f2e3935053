-- Whatever number a rule's vector has (0, if the rule is true), a functional y can be given numbers at the rule's columns such that it is 0 at
-- each row of the set.
-- Assumes nothing.
use mathlib.Core.Path.{◌≡◌, refl, ap, ◌∙◌}
use mathlib.Core.Bool.{Bool, true, false, ◌||◌}
use Prim.Native.Nat.{ℕ, suc, ◌+◌, ◌-◌, ◌≤◌}
use native.Mathlib.Omega.{arith}
use Rattle.algebra.specs.Ring.{Field}
use Rattle.rules.specs.Tree.{Rule, Term, Atom, Rules, term, ◌or◌, atom, ◌and◌, number, group, choice, rule, ◌comma◌}
use Rattle.rules.specs.Tree.{rule_holds, term_holds, atom_holds}
use Rattle.rules.specs.Construction.{ands, rule_takes, inside_takes, atom_takes, rules_take}
use Rattle.rules.specs.Construction.{less_all, plus_powers, rule_rows, term_rows, atom_rows, rules_rows}
use Rattle.rules.proofs.Groups.{RuleGroups, TermGroups, AtomGroups, RulesGroups}
use Rattle.rules.proofs.Functional.{values, unit_value, Killed, killed_join}
use Rattle.rules.proofs.Functional.{outside_join, before, plus_keep, rule_keep, atom_keep}
use Rattle.rules.proofs.Choices.{Fit, Zero, zero_keep, choice_columns}
use Rattle.rules.proofs.Truth.{Extends, AtomsZero, atoms_keep, term_columns, own_columns}

or_right : (a b : Bool) → b ≡ true → (a || b) ≡ true
or_right true b e = refl
or_right false b e = e

module _ {A : Type 0} (K : Field A) (member : ℕ → Bool) where
  open K use {R}
  open R use {𝟘}

  mutual
    unfolding rule_rows rule_holds rule_takes ands

    pub rule_extends : (r : Rule) (a : A) (c : ℕ) (y : ℕ → A) → RuleGroups (Fit K) r → (rule_holds member r ≡ true → a ≡ 𝟘)
        → Extends K member y c (rule_takes r) (λ z. Killed K member (rule_rows (values K z) r a c))
    rule_extends (term t) a c y f h =
        let u = term_columns K member t y a c h in
        own_columns K member t a c y u.0 u.1
        (term_extends t (less_all (values K u.0) c (ands t) a) c (c + ands t) u.0 f (omega arith) u.2)
    rule_extends (t or r) a c y f h =
        let n = ands t + inside_takes t in
        let u = term_columns K member t y a c (λ e. h (ap (λ b. b || rule_holds member r) e)) in
        let w = own_columns K member t a c y u.0 u.1
        (term_extends t (less_all (values K u.0) c (ands t) a) c (c + ands t) u.0 f.0 (omega arith) u.2) in
        let x = rule_extends r a (c + n) w.0 f.1 (λ e. h (or_right (term_holds member t) (rule_holds member r) e)) in
        let kept = rule_keep K member (term t) a a c w.0 x.0
        (before K c n (c + n) (rule_takes r) w.0 x.0 (omega arith) x.1) refl in (
          x.0,
          outside_join K c n (rule_takes r) y w.0 x.0 w.1 x.1,
          killed_join K member (rule_rows (values K x.0) (term t) a c) (rule_rows (values K x.0) r a (c + n)) (kept w.2) x.2,
        )

    term_extends : (t : Term) (l : A) (k c : ℕ) (y : ℕ → A) → TermGroups (Fit K) t → k + ands t ≤ c → AtomsZero K member y t l k
        → Extends K member y c (inside_takes t) (λ z. Killed K member (term_rows (values K z) t l k c))
    term_extends (atom a) l k c y f b o = atom_extends a l c y f o
    term_extends (a and t) l k c y f b o =
        let n = atom_takes a in
        let u = atom_extends a (y k) c y f.0 o.0 in
        let w = term_extends t l (suc k) (c + n) u.0 f.1 (omega arith)
        (atoms_keep K member t l (suc k) y u.0 (before K (suc k) (ands t) c n y u.0 (omega arith) u.1) o.1) in
        let here = unit_value K w.0 k ∙ w.1 k (λ p q. omega arith) ∙ u.1 k (λ p q. omega arith) in
        let kept = atom_keep K member a (y k) ((values K w.0).unit k) c u.0 w.0
        (before K c n (c + n) (inside_takes t) u.0 w.0 (omega arith) w.1) here in (
          w.0,
          outside_join K c n (inside_takes t) y u.0 w.0 u.1 w.1,
          killed_join K member (atom_rows (values K w.0) a ((values K w.0).unit k) c) (term_rows (values K w.0) t l (suc k) (c + n))
              (kept u.2) w.2,
        )

    atom_extends : (x : Atom) (a : A) (c : ℕ) (y : ℕ → A) → AtomGroups (Fit K) x → (atom_holds member x ≡ true → a ≡ 𝟘)
        → Extends K member y c (atom_takes x) (λ z. Killed K member (atom_rows (values K z) x a c))
    atom_extends (number i) a c y f h = (y, (λ k o. refl), (h, tt))
    atom_extends (group r) a c y f h = rule_extends r a c y f h
    atom_extends (choice k b) a c y f h =
        let u = choice_columns K member b k c y a f.0 h in
        let w = rules_extends b 1 (k - 1) c a (c + (k - 1)) u.0 f.1 (omega arith) u.2 in
        (w.0, outside_join K c (k - 1) (rules_take b) y u.0 w.0 u.1 w.1, w.2)

    rules_extends : (b : Rules) (i q k : ℕ) (x : A) (c : ℕ) (y : ℕ → A) → RulesGroups (Fit K) b → k + q ≤ c → Zero K member y b i q k x
        → Extends K member y c (rules_take b) (λ z. Killed K member (rules_rows (values K z) b i q k x c))
    rules_extends (rule r) i q k x c y f l o =
        let u = rule_extends r (plus_powers (values K y) i 1 k q x) c y f o in
        (u.0, u.1, rw (plus_keep K i k q x y u.0 (before K k q c (rule_takes r) y u.0 l u.1)) u.2)
    rules_extends (r comma b) i q k x c y f l o =
        let n = rule_takes r in
        let u = rule_extends r (plus_powers (values K y) i 1 k q x) c y f.0 o.0 in
        let w = rules_extends b (suc i) q k x (c + n) u.0 f.1 (omega arith)
        (zero_keep K member b (suc i) q k x y u.0 (before K k q c n y u.0 l u.1) o.1) in
        let z = w.0 in
        let both = outside_join K c n (rules_take b) y u.0 z u.1 w.1 in
        let here = plus_keep K i k q x y z (before K k q c (n + rules_take b) y z l both) in
        let kept = rule_keep K member r (plus_powers (values K y) i 1 k q x) (plus_powers (values K z) i 1 k q x) c u.0 z
        (before K c n (c + n) (rules_take b) u.0 z (omega arith) w.1) here in (
          z,
          both,
          killed_join K member (rule_rows (values K z) r (plus_powers (values K z) i 1 k q x) c)
              (rules_rows (values K z) b (suc i) q k x (c + n)) (kept u.2) w.2,
        )
