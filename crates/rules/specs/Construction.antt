-- Document 01, "Written rules": the construction of source document 001, section 11.3. Columns are counted from 0 here, so that the second
-- column, from which a rule takes its columns, is column 1.
-- Assumes nothing.
use Rattle.std.specs.Prelude.{List, [], ◌∷◌, ◌++◌, ℕ, zero, suc, ◌+◌, ◌-◌, ◌%◌, ◌^◌, get_or, set, replicate}
use Rattle.rules.specs.Tree.{Rule, Term, Atom, Rules, term, ◌or◌, atom, ◌and◌, number, group, choice, rule, ◌comma◌}

-- How many columns a term takes for itself: "a term of k atoms .. takes the next k - 1 columns".
unfoldable pub ands : Term → ℕ
ands (atom a) = 0
ands (a and t) = suc (ands t)

-- How many columns are taken in all.
unfoldable mutual
  pub rule_takes : Rule → ℕ
  rule_takes (term t) = ands t + inside_takes t
  rule_takes (t or r) = ands t + inside_takes t + rule_takes r

  -- Those of what is inside a term.
  pub inside_takes : Term → ℕ
  inside_takes (atom a) = atom_takes a
  inside_takes (a and t) = atom_takes a + inside_takes t

  pub atom_takes : Atom → ℕ
  atom_takes (number i) = 0
  atom_takes (group r) = rule_takes r
  atom_takes (choice k b) = (k - 1) + rules_take b

  pub rules_take : Rules → ℕ
  rules_take (rule r) = rule_takes r
  rules_take (r comma b) = rule_takes r + rules_take b

-- What the construction does with vectors: 1 in column c and 0 elsewhere; 1 taken off at column c; w added at column c (second edition).
pub record Vectors (X : Type 0) : Type 0 where
  pub unit : ℕ → X
  pub less : ℕ → X → X
  pub plus : ℕ → ℕ → X → X

module _ {X : Type 0} (O : Vectors X) where
  -- "1 taken off at each of them": at the q columns from c on.
  unfoldable pub less_all : ℕ → ℕ → X → X
  less_all c zero x = x
  less_all c (suc q) x = less_all (suc c) q (O.less c x)

  -- Second edition: i to the j added in column c, i to the j + 1 in the next, and so on for q columns.
  unfoldable pub plus_powers : ℕ → ℕ → ℕ → ℕ → X → X
  plus_powers i j c zero x = x
  plus_powers i j c (suc q) x = plus_powers i (suc j) (suc c) q (O.plus c (i ^ j) x)

  -- The rows of a rule, each with its label, in the order of the text; x is the rule's vector and c the next column.
  unfoldable mutual
    -- "A rule passes its vector to every term." A term takes its columns "all before anything inside it is looked at (terms and groups go in
    -- the order of the text, each finished with all inside it before the next takes a column)".
    pub rule_rows : Rule → X → ℕ → List (ℕ × X)
    rule_rows (term t) x c = term_rows t (less_all c (ands t) x) c (c + ands t)
    rule_rows (t or r) x c = term_rows t (less_all c (ands t) x) c (c + ands t) ++ rule_rows r x (c + (ands t + inside_takes t))

    -- "atom i below k gets 1 in the i-th of them and 0 elsewhere; the last atom gets the term's vector with 1 taken off at each of them", which
    -- for a term of one atom is that vector. Here last is the last atom's vector, own the column of the next atom that is not the last, and c
    -- the next column.
    pub term_rows : Term → X → ℕ → ℕ → List (ℕ × X)
    term_rows (atom a) last own c = atom_rows a last c
    term_rows (a and t) last own c = atom_rows a (O.unit own) c ++ term_rows t last (suc own) (c + atom_takes a)

    -- "A number becomes one row, in the order of the text."
    pub atom_rows : Atom → X → ℕ → List (ℕ × X)
    atom_rows (number i) x c = (i, x) ∷ []
    atom_rows (group r) x c = rule_rows r x c
    atom_rows (choice k b) x c = rules_rows b 1 (k - 1) c x (c + (k - 1))

    -- Second edition: the rules of a choice from the i-th on; its q columns begin at own, its vector is x.
    pub rules_rows : Rules → ℕ → ℕ → ℕ → X → ℕ → List (ℕ × X)
    rules_rows (rule r) i q own x c = rule_rows r (plus_powers i 1 own q x) c
    rules_rows (r comma b) i q own x c = rule_rows r (plus_powers i 1 own q x) c ++ rules_rows b (suc i) q own x (c + rule_takes r)

-- Vectors of e numbers modulo p.
unfoldable pub modulo : ℕ → ℕ → Vectors (List ℕ)
modulo p e = record {
  unit = λ c. set (replicate e 0) c 1;
  less = λ c x. set x c ((get_or x c 0 + (p - 1)) % p);
  plus = λ c w x. set x c ((get_or x c 0 + w) % p);
}

-- The columns of a rule: the first, and those that are taken.
abbrev pub columns : Rule → ℕ
columns r = suc (rule_takes r)

-- "The whole rule gets the target."
unfoldable pub rows : ℕ → Rule → List (ℕ × List ℕ)
rows p r = rule_rows (modulo p (columns r)) r (set (replicate (columns r) 0) 0 1) 1

-- The labels and the entries, row by row.
unfoldable pub labels_of : List (ℕ × List ℕ) → List ℕ
labels_of [] = []
labels_of (row ∷ rest) = row.0 ∷ labels_of rest

unfoldable pub entries_of : List (ℕ × List ℕ) → List ℕ
entries_of [] = []
entries_of (row ∷ rest) = row.1 ++ entries_of rest
