-- The definitions tried: example J and `1|2&3` of document 01, a rule in a rule, and p = 2.
-- Assumes nothing.
use mathlib.Core.Path.{◌≡◌, refl}
use mathlib.Core.List.{[], ◌∷◌}
use Rattle.rules.specs.Tree.{Rule, term, ◌or◌, atom, ◌and◌, number, group}
use Rattle.rules.specs.Text.{rule_text, numeral}
use Rattle.rules.specs.Construction.{rows, modulo, rule_rows, less_all, rule_takes, ands}

-- `(1|2)&3`, p = 17: "rows (0,1), (0,1), (1,16), labels 1, 2, 3".
abbrev pub J : Rule
J = term (group (atom (number 1) or term (atom (number 2))) and atom (number 3))

pub j_text : rule_text J ≡ 40 ∷ 49 ∷ 124 ∷ 50 ∷ 41 ∷ 38 ∷ 51 ∷ []
unfolding rule_text numeral
j_text = refl

pub j_rows : rows 17 J ≡ (1, 0 ∷ 1 ∷ []) ∷ (2, 0 ∷ 1 ∷ []) ∷ (3, 1 ∷ 16 ∷ []) ∷ []
unfolding rows modulo rule_rows less_all rule_takes ands
j_rows = refl

-- `1|2&3` opens for 1 with one row.
abbrev pub one_or_two : Rule
one_or_two = atom (number 1) or term (number 2 and atom (number 3))

pub one_or_two_rows : rows 17 one_or_two ≡ (1, 1 ∷ 0 ∷ []) ∷ (2, 0 ∷ 1 ∷ []) ∷ (3, 1 ∷ 16 ∷ []) ∷ []
unfolding rows modulo rule_rows less_all rule_takes ands
one_or_two_rows = refl

-- `(1&2)&3`: the outer term takes column 1 before the inner one takes column 2.
abbrev pub nested : Rule
nested = term (group (term (number 1 and atom (number 2))) and atom (number 3))

pub nested_rows : rows 17 nested ≡ (1, 0 ∷ 0 ∷ 1 ∷ []) ∷ (2, 0 ∷ 1 ∷ 16 ∷ []) ∷ (3, 1 ∷ 16 ∷ 0 ∷ []) ∷ []
unfolding rows modulo rule_rows less_all rule_takes ands
nested_rows = refl

-- `1&2&3`, p = 2: 1 taken off is 1 added.
abbrev pub all_three : Rule
all_three = term (number 1 and number 2 and atom (number 3))

pub all_three_rows : rows 2 all_three ≡ (1, 0 ∷ 1 ∷ 0 ∷ []) ∷ (2, 0 ∷ 0 ∷ 1 ∷ []) ∷ (3, 1 ∷ 1 ∷ 1 ∷ []) ∷ []
unfolding rows modulo rule_rows less_all rule_takes ands
all_three_rows = refl
