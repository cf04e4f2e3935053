-- Document 01, "Written rules": the text of a rule, as bytes, and which texts are rules.
-- Assumes nothing.
use Rattle.std.specs.Prelude.{◌≡◌, cond, List, [], ◌∷◌, ◌++◌, ℕ, ◌+◌, ◌-◌, ◌≤◌, ltb, length}
use Rattle.rules.specs.Tree.{Rule, Term, Atom, Rules, term, ◌or◌, atom, ◌and◌, number, group, choice, rule, ◌comma◌}

-- The four signs as bytes: `|`, `&`, the two parentheses. The comma and the `o` are the second edition's; in the first they are neither
-- digit nor sign.
abbrev pub bar : ℕ
bar = 124

abbrev pub ampersand : ℕ
ampersand = 38

abbrev pub opening : ℕ
opening = 40

abbrev pub closing : ℕ
closing = 41

abbrev pub separator : ℕ
separator = 44

abbrev pub letter_o : ℕ
letter_o = 111

-- A number from 1 to 16 in digits, "without leading zero": one digit below 10, else the digit 1 and that of i - 10.
unfoldable pub numeral : ℕ → List ℕ
numeral i = cond (ltb i 10) ((48 + i) ∷ []) (49 ∷ (38 + i) ∷ [])

unfoldable mutual
  pub rule_text : Rule → List ℕ
  rule_text (term t) = term_text t
  rule_text (t or r) = term_text t ++ (bar ∷ rule_text r)

  pub term_text : Term → List ℕ
  term_text (atom a) = atom_text a
  term_text (a and t) = atom_text a ++ (ampersand ∷ term_text t)

  pub atom_text : Atom → List ℕ
  atom_text (number i) = numeral i
  atom_text (group r) = opening ∷ (rule_text r ++ (closing ∷ []))
  atom_text (choice k b) = numeral k ++ (letter_o ∷ opening ∷ (rules_text b ++ (closing ∷ [])))

  pub rules_text : Rules → List ℕ
  rules_text (rule r) = rule_text r
  rules_text (r comma b) = rule_text r ++ (separator ∷ rules_text b)

-- Rules of the first edition in which at most d parentheses are open at any place and each number is from 1 to 16.
abbrev mutual
  pub WellRule : Rule → ℕ → Type 0
  WellRule (term t) d = WellTerm t d
  WellRule (t or r) d = WellTerm t d × WellRule r d

  pub WellTerm : Term → ℕ → Type 0
  WellTerm (atom a) d = WellAtom a d
  WellTerm (a and t) d = WellAtom a d × WellTerm t d

  pub WellAtom : Atom → ℕ → Type 0
  WellAtom (number i) d = (1 ≤ i) × (i ≤ 16)
  WellAtom (group r) d = (1 ≤ d) × WellRule r (d - 1)
  WellAtom (choice k b) d = ⊥

-- The text t is the rule r: "a text of 1 to 256 bytes without spaces" (no rule's text has one), "at most 8 parentheses are open at any
-- place".
pub record IsRule (t : List ℕ) (r : Rule) : Type 0 where
  pub text : t ≡ rule_text r
  pub well : WellRule r 8
  pub long : 1 ≤ length t
  pub short : length t ≤ 256

-- "A text of another length, or with a ninth open parenthesis, is no rule."
abbrev pub NoRule : List ℕ → Type 0
NoRule t = (r : Rule) → IsRule t r → ⊥
