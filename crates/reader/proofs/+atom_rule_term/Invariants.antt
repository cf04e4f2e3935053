-- `reader::rule`, `term` and `atom`, which call each other: what falls. Three times the length of what is left, with 2 for a rule and 1 for a
-- term.
use Rattle.std.proofs.Common.{◌+◌, ◌*◌, ◌-◌, length}
use Rattle.reader.proofs.+atom_rule_term.Given as goal

abbrev pub decreases-atom : goal.decreases-atom
decreases-atom l = 3 * (length l.text.now - l.at)

abbrev pub decreases-rule : goal.decreases-rule
decreases-rule l = 3 * (length l.text.now - l.at) + 2

abbrev pub decreases-term : goal.decreases-term
decreases-term l = 3 * (length l.text.now - l.at) + 1
