-- Inner steps of `build`: rows laid one after another in a flat list, and what is written where nothing is refused. No public contract cites
-- this file.
-- Assumes nothing.
use Rattle.std.specs.Prelude.{◌≡◌, List, [], ℕ, ◌+◌, ◌*◌, ◌<◌, ◌≤◌, length, get_or, Ok}
use Rattle.scheme.specs.declared.Shape.{Shape}
use Rattle.scheme.specs.Outcome.{over}
use Rattle.rules.specs.Tree.{Rule}
use Rattle.rules.specs.Text.{IsRule}
use Rattle.rules.specs.Construction.{rows, labels_of, entries_of}
use Rattle.reader.specs.Refusal.{rule_refusal}
use Rattle.rule.specs.Says.{shape_of}

-- The first e numbers of each of the first d rows stand in x, row by row; all after them is as in x₀.
pub record Copied (d e : ℕ) (table : List (List ℕ)) (x₀ x : List ℕ) : Type 0 where
  pub size : length x ≡ length x₀
  pub done : (k j : ℕ) → k < d → j < e → get_or x (k * e + j) 0 ≡ get_or (get_or table k []) j 0
  pub after : (i : ℕ) → d * e ≤ i → get_or x i 0 ≡ get_or x₀ i 0

-- The scheme of the text's rule is written.
abbrev pub Written : ℕ → ℕ → List ℕ → List ℕ → List ℕ → Shape → List ℕ → List ℕ → Type 0
Written p n t labels entries s labels' entries' =
    (r : Rule) × IsRule t r × (rule_refusal n r ≡ Ok tt) × (s ≡ shape_of p n r)
    × (labels' ≡ over (labels_of (rows p r)) labels) × (entries' ≡ over (entries_of (rows p r)) entries)
