-- What holds of the working table while the rows are gone through. f is the number of columns after
-- the first. No public contract cites this file.
-- Assumes nothing.
use Rattle.std.specs.Prelude.{◌≡◌, List, Bool, true, false, cond, ℕ, suc, ◌<◌, ◌≤◌, ◌+◌, ◌-◌, ◌*◌, ltb, length, get_or}
use Rattle.residue.specs.Prime.{Prime}
use Rattle.residue.specs.Residue.{F}
use Rattle.residue.proofs.Field.{residues}
use Rattle.linear.specs.Flat.{place}
use Rattle.linear.specs.Rows.{OpeningVector}
use Rattle.echelon.specs.Basis.{Basis}
use Rattle.echelon.specs.Order.{work, matrix}
use Rattle.lines.specs.Line.{Lows, at, Lined, Shaped}
use Rattle.backward.specs.Solution.{lines_of}

-- The chosen rows as residues, in the working order of the columns.
abbrev pub work_of : (p : ℕ) → Prime p → ℕ → (ℕ → ℕ → ℕ) → (ℕ → Bool) → ℕ → ℕ → F p
work_of p H f E chosen = work (residues p H) f (matrix p H E chosen)

-- The first s lines of t are those of the first k rows.
pub record State (p f : ℕ) (E : ℕ → ℕ → ℕ) (chosen : ℕ → Bool) (k s : ℕ) (t : List (List ℕ)) : Type 0 where
  pub len : length t ≡ 12
  pub lows : Lows p t
  pub fits : s ≤ suc f
  pub pivs : (j : ℕ) → j < s → at t j 25 < suc f
  pub basis : (H : Prime p) → Basis (residues p H) (suc f) (work_of p H f E chosen) k s (lines_of p H t)

-- And r holds the opening vector where the target has turned up; else r is as it was and no pivot is at the last place.
pub record Going (p f d : ℕ) (E : ℕ → ℕ → ℕ) (chosen : ℕ → Bool) (k s : ℕ) (t : List (List ℕ)) (r₀ : List ℕ) (opens : Bool)
    (r : List ℕ) : Type 0 where
  pub state : State p f E chosen k s t
  pub if_open : opens ≡ true → OpeningVector p d (suc f) E chosen (place r) × (length r ≡ length r₀)
  pub if_closed : opens ≡ false → (r ≡ r₀) × ((j : ℕ) → j < s → at t j 25 < f)

-- The same where r is not wanted: the target has not turned up.
pub record Unmet (p f : ℕ) (E : ℕ → ℕ → ℕ) (chosen : ℕ → Bool) (k s : ℕ) (t : List (List ℕ)) : Type 0 where
  pub state : State p f E chosen k s t
  pub below : (j : ℕ) → j < s → at t j 25 < f

-- Row k of the flat entries in the working order.
abbrev pub row_at : ℕ → List ℕ → ℕ → ℕ → ℕ
row_at e m k i = cond (ltb i (e - 1)) (get_or m (k * e + (1 + i)) 0) (get_or m (k * e) 0)

-- v is the line of row k of the entries m.
abbrev pub RowLine : ℕ → ℕ → ℕ → ℕ → List ℕ → List (List ℕ) → List ℕ → Type 0
RowLine p e k s m t v = (row : List ℕ) × ((i : ℕ) → i < e → get_or row i 0 ≡ row_at e m k i) × Lined p e k s t (λ i. get_or row i 0) v

-- v is what row k gives: its line where the row is wanted, and a line without a pivot where it is not.
pub record Next (p e k s : ℕ) (wanted : Bool) (m : List ℕ) (t : List (List ℕ)) (v : List ℕ) : Type 0 where
  pub shape : Shaped p e v
  pub out : wanted ≡ false → get_or v 25 0 ≡ e
  pub made : wanted ≡ true → RowLine p e k s m t v
