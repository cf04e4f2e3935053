-- What holds of a scheme of which nothing is refused.
-- Assumes nothing.
use Rattle.std.specs.Prelude.{◌≡◌, List, ℕ, ◌<◌, ◌≤◌, ◌*◌, length, get_or}
use Rattle.residue.specs.Prime.{Prime}
use Rattle.scheme.specs.declared.Shape.{Shape}

-- A scheme as document 01 has it.
pub record Valid (s : Shape) (labels entries : List ℕ) : Type 0 where
  pub prime : Prime s.p
  pub p_low : 1 < s.p
  pub p_high : s.p < 65536
  pub n_low : 1 ≤ s.n
  pub n_high : s.n ≤ 16
  pub d_low : 1 ≤ s.d
  pub d_high : s.d ≤ 32
  pub e_low : 1 ≤ s.e
  pub e_high : s.e ≤ 12
  pub labels_length : length labels ≡ s.d
  pub entries_length : length entries ≡ s.d * s.e
  pub label : (k : ℕ) → k < s.d → (1 ≤ get_or labels k 0) × (get_or labels k 0 ≤ s.n)
  pub entry : (i : ℕ) → get_or entries i 0 < s.p
