-- Which places of a block's content have a use, in version 1.
-- Assumes nothing.
use mathlib.Core.Path.{◌≡◌, refl}
use mathlib.Core.Bool.{false}
use Prim.Native.Nat.{ℕ, zero, suc, ◌+◌, ◌*◌, ◌-◌, ◌/◌, ◌%◌, ◌<◌, ◌≤◌}
use native.Mathlib.Omega.{arith}
use lib.Dec.{ltb}
use borrow.Author.Tests.{lt-ltb, le-ltb}
use Rattle.format.specs.Format.{used}

module _ (d e : ℕ) where
  pub use_heading : (b j : ℕ) → b ≡ 0 → ltb j 5 ≡ used 1 d e b j
  use_heading zero j q = refl
  use_heading (suc b) j q = absurd (omega arith)

  -- A record past d.
  pub use_past : (b j : ℕ) → (b ≡ 0 → ⊥) → j < 500 → d ≤ (b - 1) * 20 + j / 25 → false ≡ used 1 d e b j
  use_past zero j n l h = absurd (n refl)
  use_past (suc b) j n l h =
      let first : j / 25 < 20 = omega arith in
      let past : d ≤ b * 20 + j / 25 = omega arith in
      simp (lt-ltb (j / 25) 20 first, le-ltb (b * 20 + j / 25) d past)

  -- A record of a row.
  pub use_row : (b j : ℕ) → (b ≡ 0 → ⊥) → j < 500 → (b - 1) * 20 + j / 25 < d → ltb (j % 25) (1 + e * 2) ≡ used 1 d e b j
  use_row zero j n l h = absurd (n refl)
  use_row (suc b) j n l h =
      let first : j / 25 < 20 = omega arith in
      let row : b * 20 + j / 25 < d = omega arith in
      simp (lt-ltb (j / 25) 20 first, lt-ltb (b * 20 + j / 25) d row)
