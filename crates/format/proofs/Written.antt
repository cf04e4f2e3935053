-- What stands where in the blocks of a scheme's file: each part of `block_byte` at the places that it is for.
-- Assumes nothing.
use mathlib.Core.Path.{◌≡◌, refl, ap, ap₂, ◌∙◌}
use mathlib.Core.Bool.{true, false, ◌&&◌}
use mathlib.Core.List.{List}
use Prim.Native.Nat.{ℕ, zero, suc, ◌<◌, ◌≤◌, ◌+◌, ◌-◌, ◌*◌, ◌/◌, ◌%◌}
use native.Mathlib.Nat.{mod-lt, div-add-mod'}
use native.Mathlib.Omega.{arith}
use borrow.Author.Tests.{lt-ltb, le-ltb, eq-eqb, ne_eqb}
use Rattle.linear.specs.Flat.{place, entry}
use Rattle.scheme.specs.declared.Shape.{Shape}
use Rattle.format.specs.Format.{byte_of_lem, mark, kind_of, width, size, records, row_of, in_record, used}
use Rattle.format.specs.Format.{heading_byte_lem, record_byte_lem, content_byte_lem, front_byte_lem, check_of_lem, block_byte}
use Rattle.format.proofs.Records.{row_at, within_row, records_some, record_inside}

module _ (v : ℕ) (s : Shape) (labels entries : List ℕ) (b : ℕ) where
  -- The block: bytes 0 to 507, and the check.
  pub block_front : (o : ℕ) → o < 508 → block_byte v s labels entries b o ≡ front_byte_lem v s labels entries b o
  block_front o l = rw (lt-ltb o 508 l)

  pub block_check : (k : ℕ) → block_byte v s labels entries b (508 + k) ≡ byte_of_lem (check_of_lem v s labels entries b) k
  block_check k = let e : 508 + k - 508 ≡ k = omega arith in
      rw (le-ltb (508 + k) 508 (omega arith), e)

  -- Its first 508 bytes.
  pub front_mark : (o : ℕ) → o < 4 → front_byte_lem v s labels entries b o ≡ place mark o
  front_mark o l = rw (lt-ltb o 4 l)

  pub front_kind : front_byte_lem v s labels entries b 4 ≡ kind_of b
  front_kind = refl

  pub front_version : front_byte_lem v s labels entries b 5 ≡ v
  front_version = refl

  pub front_number : (k : ℕ) → k < 2 → front_byte_lem v s labels entries b (6 + k) ≡ byte_of_lem b k
  front_number k l = let e : 6 + k - 6 ≡ k = omega arith in
      rw (
        le-ltb (6 + k) 4 (omega arith),
        ne_eqb (6 + k) 4 (λ q. omega arith),
        ne_eqb (6 + k) 5 (λ q. omega arith),
        lt-ltb (6 + k) 8 (omega arith),
        e,
      )

  pub front_content : (j : ℕ) → front_byte_lem v s labels entries b (8 + j) ≡ content_byte_lem v s labels entries b j
  front_content j = let e : 8 + j - 8 ≡ j = omega arith in
      rw (
        le-ltb (8 + j) 4 (omega arith),
        ne_eqb (8 + j) 4 (λ q. omega arith),
        ne_eqb (8 + j) 5 (λ q. omega arith),
        le-ltb (8 + j) 8 (omega arith),
        e,
      )

-- The content: a place without use is 0, ..
pub content_unused : (v : ℕ) (s : Shape) (labels entries : List ℕ) (b j : ℕ) → used v s.d s.e b j ≡ false
    → content_byte_lem v s labels entries b j ≡ 0
content_unused v s labels entries zero j h = rw h
content_unused v s labels entries (suc b) j h = rw h

module _ (v : ℕ) (s : Shape) (labels entries : List ℕ) where
  -- .. the heading holds p, n, d and e, ..
  pub heading_used : (j : ℕ) → j < width v + 3 → content_byte_lem v s labels entries 0 j ≡ heading_byte_lem v s labels entries j
  heading_used j l = rw (lt-ltb j (width v + 3) l)

  pub heading_p : (j : ℕ) → j < width v → heading_byte_lem v s labels entries j ≡ byte_of_lem s.p j
  heading_p j l = rw (lt-ltb j (width v) l)

  pub heading_n : heading_byte_lem v s labels entries (width v) ≡ s.n
  heading_n = rw (le-ltb (width v) (width v) (omega arith), eq-eqb (width v) (width v) refl)

  pub heading_d : heading_byte_lem v s labels entries (width v + 1) ≡ s.d
  heading_d = rw (
    le-ltb (width v + 1) (width v) (omega arith),
    ne_eqb (width v + 1) (width v) (λ q. omega arith),
    eq-eqb (width v + 1) (width v + 1) refl,
  )

  pub heading_e : heading_byte_lem v s labels entries (width v + 2) ≡ s.e
  heading_e = rw (
    le-ltb (width v + 2) (width v) (omega arith),
    ne_eqb (width v + 2) (width v) (λ q. omega arith),
    ne_eqb (width v + 2) (width v + 1) (λ q. omega arith),
  )

  -- .. and the record of row k of d holds its label and entries.
  pub record_used : (b j : ℕ) → used v s.d s.e (suc b) j ≡ true
      → content_byte_lem v s labels entries (suc b) j ≡ record_byte_lem v s labels entries (row_of v b j) (in_record v j)
  record_used b j h = rw h

  pub record_entry : (k c t : ℕ) → t < width v
      → record_byte_lem v s labels entries k (suc (c * width v + t)) ≡ byte_of_lem (entry s.e entries k c) t
  record_entry k c t l =
      ap₂ (λ (a m : ℕ). byte_of_lem (entry s.e entries k a) m) (row_at c t (width v) l) (within_row c t (width v) l)

  module _ (lv : 1 ≤ v) (uv : v ≤ 20) (ue : s.e ≤ 12) (k m : ℕ) (lk : k < s.d) (lm : m < 1 + s.e * width v) where
    pub content_record : content_byte_lem v s labels entries (suc (k / records v)) (k % records v * size v + m)
        ≡ record_byte_lem v s labels entries k m
    content_record = record_used (k / records v) (k % records v * size v + m) is_used
        ∙ ap₂ (record_byte_lem v s labels entries) row (within_row (k % records v) m (size v) inside)
      where
        inside : m < size v
        inside = record_inside v lv uv s.e m ue lm

        block_row : (k % records v * size v + m) / size v ≡ k % records v
        block_row = row_at (k % records v) m (size v) inside

        row : row_of v (k / records v) (k % records v * size v + m) ≡ k
        row = ap (λ (r : ℕ). k / records v * records v + r) block_row ∙ div-add-mod' k (records v)

        is_used : used v s.d s.e (suc (k / records v)) (k % records v * size v + m) ≡ true
        is_used = ap₂ ◌&&◌
            (lt-ltb ((k % records v * size v + m) / size v) (records v) (omega (arith, block_row, mod-lt k (records_some v lv uv))))
            (ap₂ ◌&&◌
            (lt-ltb (row_of v (k / records v) (k % records v * size v + m)) s.d (omega (arith, row)))
            (lt-ltb ((k % records v * size v + m) % size v) (1 + s.e * width v)
            (omega (arith, within_row (k % records v) m (size v) inside))))
