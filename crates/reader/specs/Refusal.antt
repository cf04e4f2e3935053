-- Document 01, "Refusal numbers", for a written rule.
-- Assumes nothing.
use Rattle.std.specs.Prelude.{◌≡◌, ◌⊎◌, List, ℕ, leb, length, Result, Err}
use Rattle.scheme.specs.declared.Refusal.{Refusal}
use Rattle.scheme.specs.declared.Refusal.TheVariants as R
use Rattle.scheme.specs.Tests.{each, unless, or_else}
use Rattle.rules.specs.Tree.{Rule, rule_names}
use Rattle.rules.specs.Text.{IsRule, NoRule}
use Rattle.rules.specs.Construction.{columns}

-- 14: "rule names someone above n"; 15, 16: "rule needs over 32 rows; over 12 columns", one row for each number written.
abbrev pub rule_refusal : ℕ → Rule → Result Unit Refusal
rule_refusal n r =
    or_else (unless (each (λ i. leb i n) (rule_names r)) R.RuleOutsider)
    (or_else (unless (leb (length (rule_names r)) 32) R.RuleRows) (unless (leb (columns r) 12) R.RuleColumns))

-- What is refused of a text: 13, "text is no rule", or what is refused of the rule that it is.
abbrev pub TextRefusal : ℕ → List ℕ → Result Unit Refusal → Type 0
TextRefusal n t k = ((k ≡ Err R.NoRule) × NoRule t) ⊎ ((r : Rule) × IsRule t r × (rule_refusal n r ≡ k))
