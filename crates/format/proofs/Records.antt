-- Where the record of a row stands in a file of version v, and where an entry stands in its record; and back: each content place of a row
-- block that has a use is a place of one record.
-- Assumes nothing.
use mathlib.Core.Path.{◌≡◌, ap, ◌∙◌}
use Prim.Native.Nat.{ℕ, zero, suc, ◌<◌, ◌≤◌, ◌+◌, ◌-◌, ◌*◌, ◌/◌, ◌%◌}
use native.Mathlib.Nat.{mul-le-mul, mul-add-div_right, mul-add-mod_self_right, div-eq_of_lt, mod-eq_of_lt, mod-lt, div-add-mod'}
use native.Mathlib.Nat.{div-mul-le_self, le-div_iff_mul-le, div-lt_iff_lt-mul, le_refl}
use native.Mathlib.Omega.{arith}
use Rattle.lists.proofs.Store.{row_fits}
use Rattle.format.specs.Format.{width, size, records}

-- Place b of row a of a table with z places a row: the row and the place in it.
pub row_at : (a b z : ℕ) → b < z → (a * z + b) / z ≡ a
row_at a b z l = let q : b / z ≡ 0 = div-eq_of_lt l in mul-add-div_right {m = z} (omega arith) a b ∙ omega arith

pub within_row : (a b z : ℕ) → b < z → (a * z + b) % z ≡ b
within_row a b z l = mul-add-mod_self_right a z b ∙ mod-eq_of_lt l

pub inside_table : (a b m z : ℕ) → a < m → b < z → a * z + b < m * z
inside_table a b m z l u = omega (arith, row_fits a m z l)

pub row_below : (i d e : ℕ) → i < d * e → i / e < d
row_below i d zero l = absurd (omega arith)
row_below i d (suc e) l = (div-lt_iff_lt-mul {k = suc e} {x = i} {y = d} (omega arith)).1 l

pub place_below : (i d e : ℕ) → i < d * e → i % e < e
place_below i d zero l = absurd (omega arith)
place_below i d (suc e) l = mod-lt i (omega arith)

-- As many row blocks as d rows need, r a block.
pub row_block : (r d k : ℕ) → 0 < r → k < d → 1 + k / r < 1 + (d + (r - 1)) / r
row_block r d k l u =
    let h : suc (k / r) ≤ (d + (r - 1)) / r = (le-div_iff_mul-le {k = r} {x = suc (k / r)} {y = d + (r - 1)} l).1
    (omega (arith, div-mul-le_self k r)) in
    omega arith

module _ (v : ℕ) (lv : 1 ≤ v) (uv : v ≤ 20) where
  pub records_some : 0 < records v
  records_some = (le-div_iff_mul-le {k = size v} {x = 1} {y = 500} (omega arith)).1 (omega arith)

  -- The used part of a record with e columns is part of the record, ..
  pub record_inside : (e m : ℕ) → e ≤ 12 → m < 1 + e * width v → m < size v
  record_inside e m u l =
      let h : e * width v ≤ 12 * width v = mul-le-mul {n₁ = e} {m₁ = width v} {n₂ = 12} {m₂ = width v} u (le_refl (width v)) in omega arith

  -- .. and a record is part of its block's content.
  pub content_inside : (k m : ℕ) → m < size v → k % records v * size v + m < 500
  content_inside k m l = omega (
    arith,
    inside_table (k % records v) m (records v) (size v) (mod-lt k records_some) l,
    div-mul-le_self 500 (size v),
  )

  -- The place of a row in the file.
  pub row_again : (b j : ℕ) → j / size v < records v → (b * records v + j / size v) / records v ≡ b
  row_again b j l = row_at b (j / size v) (records v) l

  pub record_again : (b j : ℕ) → j / size v < records v → (b * records v + j / size v) % records v * size v + j % size v ≡ j
  record_again b j l = ap (λ (r : ℕ). r * size v + j % size v) (within_row b (j / size v) (records v) l) ∙ div-add-mod' j (size v)
