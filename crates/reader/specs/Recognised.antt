-- Document 01, "Written rules": what an answer to the question whether a text is a rule says.
-- Assumes nothing.
use Rattle.std.specs.Prelude.{◌≡◌, Bool, true, false, List, ℕ}
use Rattle.rules.specs.Tree.{Rule}
use Rattle.rules.specs.Text.{IsRule, NoRule}

pub record Recognised (t : List ℕ) (answer : Bool) : Type 0 where
  pub yes : answer ≡ true → (r : Rule) × IsRule t r
  pub no : answer ≡ false → NoRule t
