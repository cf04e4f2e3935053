-- Document 01, "Written rules": a rule as a tree, and when it is true for a set of participants.
-- Assumes nothing.
use Rattle.std.specs.Prelude.{Bool, ◌&&◌, ◌||◌, cond, List, [], ◌∷◌, ◌++◌, ℕ, suc, ◌+◌, leb}

infixr 30 ◌or◌
infixr 40 ◌and◌
infixr 20 ◌comma◌
mutual
  -- "A rule is one or more terms joined by `|`;"
  pub data Rule : Type 0 where
    term : Term → Rule
    ◌or◌ : Term → Rule → Rule

  -- "a term is one or more atoms joined by `&`;"
  pub data Term : Type 0 where
    atom : Atom → Term
    ◌and◌ : Atom → Term → Term

  -- "an atom is a number from 1 to 16 without leading zero, or a rule in parentheses." The third kind is for the second edition of the
  -- language, "k of these rules" (document 02, wish 8). No text of the first edition has one: `WellAtom` in Text.
  pub data Atom : Type 0 where
    number : ℕ → Atom
    group : Rule → Atom
    choice : ℕ → Rules → Atom

  pub data Rules : Type 0 where
    rule : Rule → Rules
    ◌comma◌ : Rule → Rules → Rules

-- True for a set: member i says whether participant i is in it.
module _ (member : ℕ → Bool) where
  unfoldable mutual
    pub rule_holds : Rule → Bool
    rule_holds (term t) = term_holds t
    rule_holds (t or r) = term_holds t || rule_holds r

    pub term_holds : Term → Bool
    term_holds (atom a) = atom_holds a
    term_holds (a and t) = atom_holds a && term_holds t

    pub atom_holds : Atom → Bool
    atom_holds (number i) = member i
    atom_holds (group r) = rule_holds r
    atom_holds (choice k b) = leb k (how_many b)

    -- How many of the rules are true.
    pub how_many : Rules → ℕ
    how_many (rule r) = cond (rule_holds r) 1 0
    how_many (r comma b) = cond (rule_holds r) 1 0 + how_many b

-- The numbers that a rule names, each as often as it is written, in the order of the text: one for each row.
unfoldable mutual
  pub rule_names : Rule → List ℕ
  rule_names (term t) = term_names t
  rule_names (t or r) = term_names t ++ rule_names r

  pub term_names : Term → List ℕ
  term_names (atom a) = atom_names a
  term_names (a and t) = atom_names a ++ term_names t

  pub atom_names : Atom → List ℕ
  atom_names (number i) = i ∷ []
  atom_names (group r) = rule_names r
  atom_names (choice k b) = rules_names b

  pub rules_names : Rules → List ℕ
  rules_names (rule r) = rule_names r
  rules_names (r comma b) = rule_names r ++ rules_names b

-- The rules between the commas of a choice.
unfoldable pub branches : Rules → ℕ
branches (rule r) = 1
branches (r comma b) = suc (branches b)
