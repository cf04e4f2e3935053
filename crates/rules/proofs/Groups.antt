-- What is asked of the choices in a rule: `RuleGroups P r` says P k m for each choice "k of m rules" in r. A rule of the first edition has
-- none, so whatever is asked of choices holds of it.
-- Assumes nothing.
use Prim.Native.Nat.{ℕ, ◌-◌}
use Rattle.rules.specs.Tree.{Rule, Term, Atom, Rules, term, ◌or◌, atom, ◌and◌, number, group, choice, rule, ◌comma◌, branches}
use Rattle.rules.specs.Text.{WellRule, WellTerm, WellAtom}

module _ (P : ℕ → ℕ → Type 0) where
  abbrev mutual
    pub RuleGroups : Rule → Type 0
    RuleGroups (term t) = TermGroups t
    RuleGroups (t or r) = TermGroups t × RuleGroups r

    pub TermGroups : Term → Type 0
    TermGroups (atom a) = AtomGroups a
    TermGroups (a and t) = AtomGroups a × TermGroups t

    pub AtomGroups : Atom → Type 0
    AtomGroups (number i) = Unit {0}
    AtomGroups (group r) = RuleGroups r
    AtomGroups (choice k b) = P k (branches b) × RulesGroups b

    pub RulesGroups : Rules → Type 0
    RulesGroups (rule r) = RuleGroups r
    RulesGroups (r comma b) = RuleGroups r × RulesGroups b

  mutual
    pub rule_plain : (r : Rule) (d : ℕ) → WellRule r d → RuleGroups r
    rule_plain (term t) d w = term_plain t d w
    rule_plain (t or r) d w = (term_plain t d w.0, rule_plain r d w.1)

    term_plain : (t : Term) (d : ℕ) → WellTerm t d → TermGroups t
    term_plain (atom a) d w = atom_plain a d w
    term_plain (a and t) d w = (atom_plain a d w.0, term_plain t d w.1)

    atom_plain : (a : Atom) (d : ℕ) → WellAtom a d → AtomGroups a
    atom_plain (number i) d w = tt
    atom_plain (group r) d w = rule_plain r (d - 1) w.1
    atom_plain (choice k b) d w = absurd w

-- What follows from P may be asked in its place.
module _ (P Q : ℕ → ℕ → Type 0) (h : (k m : ℕ) → P k m → Q k m) where
  mutual
    pub rule_map : (r : Rule) → RuleGroups P r → RuleGroups Q r
    rule_map (term t) f = term_map t f
    rule_map (t or r) f = (term_map t f.0, rule_map r f.1)

    term_map : (t : Term) → TermGroups P t → TermGroups Q t
    term_map (atom a) f = atom_map a f
    term_map (a and t) f = (atom_map a f.0, term_map t f.1)

    atom_map : (a : Atom) → AtomGroups P a → AtomGroups Q a
    atom_map (number i) f = tt
    atom_map (group r) f = rule_map r f
    atom_map (choice k b) f = (h k (branches b) f.0, rules_map b f.1)

    rules_map : (b : Rules) → RulesGroups P b → RulesGroups Q b
    rules_map (rule r) f = rule_map r f
    rules_map (r comma b) f = (rule_map r f.0, rules_map b f.1)
