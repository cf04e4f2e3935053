-- Document 01, "Threshold verdict for t".
-- Assumes nothing.
use Rattle.std.specs.Prelude.{List, ◌↔◌, ℕ, ◌<◌, ◌≤◌, ◌+◌, ◌^◌}
use Rattle.linear.specs.Combination.{count}
use Rattle.scheme.specs.declared.Shape.{Shape}
use Rattle.scheme.specs.Sets.{in_set}
use Rattle.scheme.specs.Open.{Open}

-- "how many participants a set number names": of participants 1 to n, with rows or without; bits from n up are not counted.
abbrev pub size : ℕ → ℕ → ℕ
size n set = count n (λ i. in_set set (i + 1))

module _ (s : Shape) (labels entries : List ℕ) (t : ℕ) where
  -- The set is "open exactly if it has at least t + 1 participants".
  abbrev pub Keeps : ℕ → Type 0
  Keeps set = Open s labels entries set ↔ (t + 1 ≤ size s.n set)

  -- "Yes when each set is"; the sets are the numbers below 2 to the n.
  abbrev pub IsThreshold : Type 0
  IsThreshold = (set : ℕ) → set < 2 ^ s.n → Keeps set

  -- "the first set number, counting up from 0, that breaks it"
  pub record FirstBreaking (set : ℕ) : Type 0 where
    pub inside : set < 2 ^ s.n
    pub breaks : Keeps set → ⊥
    pub before : (lower : ℕ) → lower < set → Keeps lower
