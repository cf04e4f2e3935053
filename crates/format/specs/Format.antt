-- Document 01, "Scheme files": each byte of the file of a scheme that refusals 1 to 7 pass (then each is below 256), by its place. All is
-- said for files of version v, in which an entry, and p in the heading, has 2 v bytes: version 1 is document 01's; version 2 (document 02)
-- has entries of 4 bytes. v is 1 or 2.
-- Assumes nothing.
use Rattle.std.specs.Prelude.{Bool, cond, ◌&&◌, List, [], ◌∷◌, ℕ, zero, suc, ◌+◌, ◌-◌, ◌*◌, ◌/◌, ◌%◌, ◌^◌, eqb, ltb}
use Rattle.linear.specs.Combination.{total}
use Rattle.linear.specs.Flat.{place, entry, list_of}
use Rattle.scheme.specs.declared.Shape.{Shape}

-- "numbers little-endian": byte k of a number, the lowest is byte 0; and the number whose w bytes are b 0, b 1, ..
abbrev pub byte_of_lem : ℕ → ℕ → ℕ
byte_of_lem x k = (x / 256 ^ k) % 256

abbrev pub number_of : ℕ → (ℕ → ℕ) → ℕ
number_of w b = total w (λ k. b k * 256 ^ k)

-- How many bytes an entry has.
abbrev pub width : ℕ → ℕ
width v = 2 * v

-- "records of 25 bytes, 20 a block: the label and twelve 2-byte entries": the bytes of a record, and how many a block's content holds.
abbrev pub size : ℕ → ℕ
size v = 1 + 12 * width v

abbrev pub records : ℕ → ℕ
records v = 500 / size v

-- "There are as many row blocks as d needs.": the heading block, and d divided by the records a block, rounded up.
abbrev pub blocks : ℕ → ℕ → ℕ
blocks v d = 1 + (d + (records v - 1)) / records v

-- Bytes 0 to 3: `QRUL`.
abbrev pub mark : List ℕ
mark = 81 ∷ 82 ∷ 85 ∷ 76 ∷ []

-- Byte 4: "kind (1 heading, 2 rows)"; the heading is block 0.
abbrev pub kind_of : ℕ → ℕ
kind_of zero = 1
kind_of (suc b) = 2

-- Rows and row blocks are counted from 0, so that row block b is block b + 1. Its content place j lies in the record of this row, at this
-- place of the record.
abbrev pub row_of : ℕ → ℕ → ℕ → ℕ
row_of v b j = b * records v + j / size v

abbrev pub in_record : ℕ → ℕ → ℕ
in_record v j = j % size v

-- "Columns past e, records past d and all other content bytes are 0": `used v d e b j` says whether content place j of block b has a use. In
-- the heading: p, n, d and e. In a row block: the label, and the bytes of the first e entries, of a record of one of the d rows.
abbrev pub used : ℕ → ℕ → ℕ → ℕ → ℕ → Bool
used v d e zero j = ltb j (width v + 3)
used v d e (suc b) j =
    ltb (j / size v) (records v) && (ltb (row_of v b j) d && ltb (in_record v j) (1 + e * width v))

module _ (v : ℕ) (s : Shape) (labels entries : List ℕ) where
  -- "The heading block (number 0) holds p in 2 bytes, then n, d and e in one each." Asked only at places that `used` admits.
  abbrev pub heading_byte_lem : ℕ → ℕ
  heading_byte_lem j =
      cond (ltb j (width v)) (byte_of_lem s.p j)
      (cond (eqb j (width v)) s.n
      (cond (eqb j (width v + 1)) s.d
      s.e))

  -- The record of row k: the label, then each entry's bytes. Asked only at places that `used` admits.
  abbrev pub record_byte_lem : ℕ → ℕ → ℕ
  record_byte_lem k zero = place labels k
  record_byte_lem k (suc m) = byte_of_lem (entry s.e entries k (m / width v)) (m % width v)

  -- Bytes 8 to 507, counted from 0.
  abbrev pub content_byte_lem : ℕ → ℕ → ℕ
  content_byte_lem zero j = cond (used v s.d s.e zero j) (heading_byte_lem j) 0
  content_byte_lem (suc b) j = cond (used v s.d s.e (suc b) j) (record_byte_lem (row_of v b j) (in_record v j)) 0

  -- Bytes 0 to 507 of block b.
  abbrev pub front_byte_lem : ℕ → ℕ → ℕ
  front_byte_lem b o =
      cond (ltb o 4) (place mark o)
      (cond (eqb o 4) (kind_of b)
      (cond (eqb o 5) v
      (cond (ltb o 8) (byte_of_lem b (o - 6))
      (content_byte_lem b (o - 8)))))

  -- "The check is the sum over bytes 0 to 507 of the byte times (its place + 1), not reduced."
  abbrev pub check_of_lem : ℕ → ℕ
  check_of_lem b = total 508 (λ o. front_byte_lem b o * (o + 1))

  -- Byte o of block b; 508 to 511 are the check, which four bytes hold (`check_below` of proofs/Below.antt).
  abbrev pub block_byte : ℕ → ℕ → ℕ
  block_byte b o = cond (ltb o 508) (front_byte_lem b o) (byte_of_lem (check_of_lem b) (o - 508))

  -- The file: the blocks one after another.
  unfoldable pub file_of : List ℕ
  file_of = list_of (512 * blocks v s.d) (λ i. block_byte (i / 512) (i % 512))
