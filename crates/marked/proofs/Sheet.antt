-- Document 01, "The sheet": its example from the rule to the last byte. `the_rule` builds the scheme, `the_file` writes it, and what
-- sheets/proofs/Cases.antt says of that file (`the_sheet`, `only_sheet`) is the sheet.
-- Assumes nothing.
use mathlib.Core.Path.{◌≡◌, refl}
use mathlib.Core.List.{List, [], ◌∷◌}
use Prim.Native.Nat.{ℕ}
use native.Mathlib.Omega.{arith}
use Rattle.residue.specs.Moduli.{is_in}
use Rattle.scheme.specs.Refusal.{IsScheme, numbers_refusal_lem, content_refusal_lem, refusal_of}
use Rattle.rules.specs.Tree.{Rule, term, atom, ◌and◌, number, rule_names}
use Rattle.rules.specs.Text.{IsRule, rule_text, numeral}
use Rattle.rules.specs.Construction.{rows, modulo, rule_rows, less_all, rule_takes, ands, labels_of, entries_of}
use Rattle.format.specs.Format.{file_of}
use Rattle.sheets.proofs.Cases.{shape, labels, entries}
use Rattle.marked.specs.Only.{Builds, Writes}
use Rattle.marked.proofs.Done.{builds, writes}

-- `1&2`
abbrev both : Rule
both = term (number 1 and atom (number 2))

abbrev pub text : List ℕ
text = 49 ∷ 38 ∷ 50 ∷ []

both_text : text ≡ rule_text both
unfolding rule_text numeral
both_text = refl

text_rule_lem : IsRule text both
text_rule_lem = record {
  text = both_text;
  well = ((omega arith, omega arith), (omega arith, omega arith));
  long = omega arith;
  short = omega arith;
}

-- "For the file of rule `1&2`, p = 17, n = 2"
pub the_rule : Builds 17 2 text shape labels entries
unfolding is_in rule_names rows modulo rule_rows less_all rule_takes ands labels_of entries_of
the_rule = builds 17 2 text both refl text_rule_lem refl

scheme : IsScheme shape labels entries
unfolding refusal_of numbers_refusal_lem content_refusal_lem is_in
scheme = refl

pub the_file : Writes shape labels entries 1024 (file_of 1 shape labels entries)
the_file = writes shape labels entries scheme 1024 refl
