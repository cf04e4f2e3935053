-- A table that can go on from any row it has gone through. No public contract cites this file.
-- Assumes nothing.
use Rattle.std.specs.Prelude.{◌≡◌, Bool, List, ℕ, suc, ◌<◌, ◌≤◌, ◌-◌, length, take}
use Rattle.linear.specs.Flat.{place, entry}
use Rattle.linear.specs.Rows.{OpeningVector, Witness}
use Rattle.rows.specs.State.{Unmet}

-- For each row up to `at`, counts has the number of lines that the table had before it: the table's first lines are still those, and the
-- target has not turned up.
pub record Marks (p f : ℕ) (E : ℕ → ℕ → ℕ) (chosen : ℕ → Bool) (at : ℕ) (counts : List ℕ) (t : List (List ℕ)) : Type 0 where
  pub len : length counts ≡ 33
  pub unmet : (k : ℕ) → k ≤ at → Unmet p f E chosen k (place counts k) t
  pub rising : (j k : ℕ) → j ≤ k → k ≤ at → place counts j ≤ place counts k

-- Two choices of rows agree below k.
abbrev pub Agree : ℕ → (ℕ → Bool) → (ℕ → Bool) → Type 0
Agree k chosen other = (j : ℕ) → j < k → chosen j ≡ other j

-- The target turned up at row `at`: r opens every choice of rows that agrees with this one up to that row.
abbrev pub Opens : (p d e : ℕ) → (ℕ → ℕ → ℕ) → (ℕ → Bool) → ℕ → List ℕ → Type 0
Opens p d e E chosen at r = (other : ℕ → Bool) → Agree (suc at) chosen other → OpeningVector p d e E other (place r)

-- The rows are gone through as far as the question asks: to the row `at` that gives the target, with the opening vector in r, or to the
-- end.
pub record Walked (p d e : ℕ) (E : ℕ → ℕ → ℕ) (chosen : ℕ → Bool) (at : ℕ) (counts : List ℕ) (t : List (List ℕ)) (r : List ℕ)
    : Type 0 where
  pub within : at ≤ d
  pub marks : Marks p (e - 1) E chosen at counts t
  pub opens : at < d → Opens p d e E chosen at r

-- The first e numbers of the row are the witness of every choice of rows that has these lines when all are gone through.
pub record Kills (p e lines : ℕ) (t : List (List ℕ)) (row : List ℕ) : Type 0 where
  pub len : length row ≡ 32
  pub is : (d : ℕ) (m : List ℕ) (chosen : ℕ → Bool) → Unmet p (e - 1) (entry e m) chosen d lines t
      → Witness p d e (entry e m) chosen (place (take e row))
