-- What the builder leaves where the text is a rule that is not too large.
-- Assumes nothing.
use Rattle.std.specs.Prelude.{◌≡◌, List, [], ℕ, ◌<◌, ◌≤◌, length, get_or, take, Option, Some}
use Rattle.rules.specs.Tree.{Rule, rule_names}
use Rattle.rules.specs.Text.{IsRule}
use Rattle.rules.specs.Construction.{columns, rows, labels_of}
use Rattle.builder.specs.declared.Place.{Place}

-- The lists hold the rows of the rule r, each in the first columns of its row of 12, and their labels; the place says how many rows and
-- columns there are.
pub record Held (p : ℕ) (r : Rule) (place : Place) (es : List (List ℕ)) (ls : List ℕ) : Type 0 where
  pub row : place.row ≡ length (rule_names r)
  pub col : place.col ≡ columns r
  pub labels : (k : ℕ) → k < length (rule_names r) → get_or ls k 0 ≡ get_or (labels_of (rows p r)) k 0
  pub entries : (k : ℕ) → k < length (rule_names r) → take (columns r) (get_or es k []) ≡ (get_or (rows p r) k (0, [])).1

-- es and ls are the lists before, es' and ls' those after. Of such a rule the builder fails nowhere.
pub record Left (p : ℕ) (t : List ℕ) (es : List (List ℕ)) (ls : List ℕ) (result : Option Place) (es' : List (List ℕ)) (ls' : List ℕ) : Type 0 where
  pub is : (r : Rule) → IsRule t r → length (rule_names r) ≤ 32 → columns r ≤ 12 → 32 ≤ length es → 32 ≤ length ls
      → (place : Place) × (result ≡ Some place) × Held p r place es' ls'
