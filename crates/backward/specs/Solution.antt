-- The working table as lines over the residues, and its two backward solutions: the weights of a goal that a line gives, and the vector
-- that every line kills. No public contract cites this file.
-- Assumes nothing.
use Rattle.std.specs.Prelude.{◌≡◌, List, [], ℕ, suc, ◌<◌, ◌+◌, length, get_or}
use Rattle.residue.specs.Prime.{Prime}
use Rattle.residue.specs.Residue.{F, res, ◌⊗◌}
use Rattle.residue.proofs.Field.{residues}
use Rattle.echelon.specs.Basis.{Line, Basis, Reduced}
use Rattle.echelon.specs.Backward.{Solving, Killing}

-- A list of 27 numbers as a line.
abbrev pub line_of : (p : ℕ) → Prime p → List ℕ → Line (F p)
line_of p H v = record {
  vec = λ i. res p H (get_or v i 0);
  fac = λ l. res p H (get_or v (12 + l) 0);
  inv = res p H (get_or v 24 0);
  piv = get_or v 25 0;
  src = get_or v 26 0;
}

abbrev pub lines_of : (p : ℕ) → Prime p → List (List ℕ) → ℕ → Line (F p)
lines_of p H t j = line_of p H (get_or t j [])

-- The line v of row k gives the goal: the goal is the inverse times what is left of the row.
pub record Found (p k s : ℕ) (t : List (List ℕ)) (v : List ℕ) (H : Prime p) (n : ℕ) (W : ℕ → ℕ → F p) (goal : ℕ → F p) : Type 0 where
  pub basis : Basis (residues p H) n W k s (lines_of p H t)
  pub x : ℕ → F p
  pub reduced : Reduced (residues p H) n W s (lines_of p H t) (W k) (line_of p H v).fac x
  pub c : ℕ
  pub inside : c < n
  pub unit : ◌⊗◌ p H (res p H (get_or v 24 0)) (x c) ≡ res p H 1
  pub goals : (i : ℕ) → i < n → goal i ≡ ◌⊗◌ p H (res p H (get_or v 24 0)) (x i)

-- The factors of a list of 27 numbers, and a list as a vector of residues.
abbrev pub facs_of : (p : ℕ) → Prime p → List ℕ → ℕ → F p
facs_of p H v l = res p H (get_or v (12 + l) 0)

abbrev pub vec_of : (p : ℕ) → Prime p → List ℕ → ℕ → F p
vec_of p H v i = res p H (get_or v i 0)

-- What the goal asks of each line.
abbrev pub asked : (p : ℕ) → Prime p → List ℕ → ℕ → F p
asked p H v l = ◌⊗◌ p H (res p H (get_or v 24 0)) (facs_of p H v l)

-- The weights r of the goal, solved from the last line to line j, whatever the rows are; a holds them by lines.
pub record Solved (p k s : ℕ) (t : List (List ℕ)) (v : List ℕ) (d j : ℕ) (a r : List ℕ) : Type 0 where
  pub is : (H : Prime p) (n : ℕ) (W : ℕ → ℕ → F p) (goal : ℕ → F p) → Found p k s t v H n W goal
      → Solving (residues p H) n W s (lines_of p H t) d goal (asked p H v) j (facs_of p H a) (vec_of p H r)

-- The whole of it: r is filled with weights below p.
pub record Opened (p k s : ℕ) (t : List (List ℕ)) (v r₀ r : List ℕ) : Type 0 where
  pub len : length r ≡ length r₀
  pub small : (i : ℕ) → get_or r i 0 < p
  pub a : List ℕ
  pub solved : Solved p k s t v (length r₀) 0 a r

-- y kills the lines from j on, is 1 at place f and 0 before it outside their pivots, whatever the rows are.
pub record Killed (p s : ℕ) (t : List (List ℕ)) (f j : ℕ) (y : List ℕ) : Type 0 where
  pub is : (H : Prime p) (k : ℕ) (W : ℕ → ℕ → F p) → Basis (residues p H) (suc f) W k s (lines_of p H t)
      → Killing (residues p H) (suc f) W s (lines_of p H t) f j (vec_of p H y)
