-- Rows and columns counted in the text of a rule of the first edition: one name more than the signs that join, and a column for each `&`.
-- Assumes nothing.
use mathlib.Core.Path.{◌≡◌, refl, sym, ap, ◌∙◌}
use mathlib.Core.Bool.{Bool, true, false, cond}
use mathlib.Core.List.{List, [], ◌∷◌, ◌++◌}
use Prim.Native.Nat.{ℕ, ◌+◌, ◌-◌, ◌≤◌}
use native.Mathlib.Omega.{arith}
use lib.Dec.{eqb, ltb}
use lib.ListN.{length, length-append}
use borrow.Author.Tests.{ne_eqb, ltb-true, ltb-false}
use Rattle.rules.specs.Tree.{Rule, Term, Atom, term, ◌or◌, atom, ◌and◌, number, group, choice, rule_names, term_names, atom_names}
use Rattle.rules.specs.Text.{bar, ampersand, closing, numeral, rule_text, term_text, atom_text, WellRule, WellTerm, WellAtom}
use Rattle.rules.specs.Bytes.{occurs}
use Rattle.rules.specs.Construction.{ands, rule_takes, inside_takes, atom_takes}

pub occurs_append : (byte : ℕ) (s t : List ℕ) → occurs byte (s ++ t) ≡ occurs byte s + occurs byte t
unfolding occurs
occurs_append byte [] t = omega arith
occurs_append byte (b ∷ s) t = ap (λ (n : ℕ). cond (eqb b byte) 1 0 + n) (occurs_append byte s t) ∙ omega arith

-- A byte that is no digit stands in no numeral.
pub occurs_numeral : (byte i : ℕ) → i ≤ 16 → (48 ≤ byte → byte ≤ 57 → ⊥) → occurs byte (numeral i) ≡ 0
unfolding occurs numeral
occurs_numeral byte i l h = go (ltb i 10) refl
  where
    go : (t : Bool) → ltb i 10 ≡ t → occurs byte (cond (ltb i 10) ((48 + i) ∷ []) (49 ∷ (38 + i) ∷ [])) ≡ 0
    go true e = let m = ltb-true i 10 e in rw (e, ne_eqb (48 + i) byte (λ q. h (omega arith) (omega arith))) refl
    go false e = let m = ltb-false i 10 e in
        rw (e, ne_eqb 49 byte (λ q. h (omega arith) (omega arith)), ne_eqb (38 + i) byte (λ q. h (omega arith) (omega arith))) refl

-- The signs that join.
abbrev joins : List ℕ → ℕ
joins s = occurs ampersand s + occurs bar s

joins_append : (s t : List ℕ) → joins (s ++ t) ≡ joins s + joins t
joins_append s t = omega (arith, occurs_append ampersand s t, occurs_append bar s t)

mutual
  unfolding rule_text rule_names occurs

  pub names_joins : (r : Rule) (d : ℕ) → WellRule r d → length (rule_names r) ≡ 1 + (occurs 38 (rule_text r) + occurs 124 (rule_text r))
  names_joins (term t) d w = term_joins t d w
  names_joins (t or r) d w = omega (
    arith,
    length-append (term_names t) (rule_names r),
    joins_append (term_text t) (bar ∷ rule_text r),
    term_joins t d w.0,
    names_joins r d w.1,
  )

  term_joins : (t : Term) (d : ℕ) → WellTerm t d → length (term_names t) ≡ 1 + joins (term_text t)
  term_joins (atom a) d w = atom_joins a d w
  term_joins (a and t) d w = omega (
    arith,
    length-append (atom_names a) (term_names t),
    joins_append (atom_text a) (ampersand ∷ term_text t),
    atom_joins a d w.0,
    term_joins t d w.1,
  )

  atom_joins : (a : Atom) (d : ℕ) → WellAtom a d → length (atom_names a) ≡ 1 + joins (atom_text a)
  atom_joins (number i) d w =
      omega (arith, occurs_numeral ampersand i w.1 (λ l u. omega arith), occurs_numeral bar i w.1 (λ l u. omega arith))
  atom_joins (group r) d w = omega (arith, joins_append (rule_text r) (closing ∷ []), names_joins r (d - 1) w.1)
  atom_joins (choice k b) d w = absurd w

mutual
  unfolding rule_text rule_takes occurs ands

  pub takes_ands : (r : Rule) (d : ℕ) → WellRule r d → rule_takes r ≡ occurs 38 (rule_text r)
  takes_ands (term t) d w = term_ands t d w
  takes_ands (t or r) d w =
      omega (arith, occurs_append ampersand (term_text t) (bar ∷ rule_text r), term_ands t d w.0, takes_ands r d w.1)

  term_ands : (t : Term) (d : ℕ) → WellTerm t d → ands t + inside_takes t ≡ occurs ampersand (term_text t)
  term_ands (atom a) d w = omega (arith, atom_ands a d w)
  term_ands (a and t) d w =
      omega (arith, occurs_append ampersand (atom_text a) (ampersand ∷ term_text t), atom_ands a d w.0, term_ands t d w.1)

  atom_ands : (a : Atom) (d : ℕ) → WellAtom a d → atom_takes a ≡ occurs ampersand (atom_text a)
  atom_ands (number i) d w = sym (occurs_numeral ampersand i w.1 (λ l u. omega arith))
  atom_ands (group r) d w = omega (arith, occurs_append ampersand (rule_text r) (closing ∷ []), takes_ands r (d - 1) w.1)
  atom_ands (choice k b) d w = absurd w
