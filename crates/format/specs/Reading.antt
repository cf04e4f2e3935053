-- Document 01, "Scheme files" and "Refusal numbers": what a file of bytes says, and why it is refused. All is said for files of version v.
-- Assumes nothing.
use Rattle.std.specs.Prelude.{Bool, true, ◌&&◌, ◌||◌, List, ℕ, zero, suc, ◌+◌, ◌*◌, ◌/◌, ◌%◌, eqb, length, Result}
use Rattle.linear.specs.Combination.{total}
use Rattle.linear.specs.Flat.{place, list_of}
use Rattle.scheme.specs.declared.Shape.{Shape}
use Rattle.scheme.specs.declared.Refusal.{Refusal}
use Rattle.scheme.specs.declared.Refusal.TheVariants as R
use Rattle.scheme.specs.Tests.{unless, or_else}
use Rattle.scheme.specs.Refusal.{numbers_refusal_lem, content_refusal_lem}
use Rattle.format.specs.Format.{number_of, width, size, records, blocks, mark, kind_of, used}

-- The test holds of each number below n.
unfoldable pub all_below : ℕ → (ℕ → Bool) → Bool
all_below zero test = true
all_below (suc n) test = all_below n test && test n

module _ (v : ℕ) (file : List ℕ) where
  -- Byte o of block b.
  abbrev pub byte_at : ℕ → ℕ → ℕ
  byte_at b o = place file (512 * b + o)

  -- 18: "a block's check wrong".
  abbrev pub check_right_lem : ℕ → Bool
  check_right_lem b = eqb (number_of 4 (λ k. byte_at b (508 + k))) (total 508 (λ o. byte_at b o * (o + 1)))

  -- 19: "mark, kind, version or block number wrong".
  abbrev pub marks_right_lem : ℕ → Bool
  marks_right_lem b =
      all_below 4 (λ o. eqb (byte_at b o) (place mark o))
      && (eqb (byte_at b 4) (kind_of b) && (eqb (byte_at b 5) v && eqb (number_of 2 (λ k. byte_at b (6 + k))) b))

  -- The heading's numbers.
  abbrev pub shape_at : Shape
  shape_at = record {
    p = number_of (width v) (λ k. byte_at 0 (8 + k));
    n = byte_at 0 (8 + width v);
    d = byte_at 0 (9 + width v);
    e = byte_at 0 (10 + width v);
  }

  -- Byte m of the record of row k.
  abbrev pub record_at : ℕ → ℕ → ℕ
  record_at k m = byte_at (1 + k / records v) (8 + (k % records v) * size v + m)

  -- The labels and the entries of a file with d rows and e columns.
  abbrev pub labels_at : ℕ → List ℕ
  labels_at d = list_of d (λ k. record_at k 0)

  abbrev pub entries_at : ℕ → ℕ → List ℕ
  entries_at d e = list_of (d * e) (λ i. number_of (width v) (λ k. record_at (i / e) (1 + (i % e) * width v + k)))

  -- "a byte that must be 0 is not": of the content of block b.
  abbrev pub zeros_right_lem : ℕ → ℕ → ℕ → Bool
  zeros_right_lem d e b = all_below 500 (λ j. used v d e b j || eqb (byte_at b (8 + j)) 0)

  -- How many blocks the file has.
  abbrev pub block_count : ℕ
  block_count = length file / 512

  -- 20: "a byte that must be 0 is not, or block count does not fit d".
  abbrev pub rest_right_lem : Shape → Bool
  rest_right_lem s = eqb block_count (blocks v s.d) && all_below block_count (zeros_right_lem s.d s.e)

  -- "reading a file tries 5, 17, 18, 19, 1, 2, 3, 4, 20, 6, 7": each number on every block before the next number is tried. 5: "32 label
  -- places and 384 entry places"; 17: the length is none of those named.
  abbrev pub read_refusal : Bool → ℕ → ℕ → Result Unit Refusal
  read_refusal length_right_lem labelPlaces entryPlaces =
      or_else (unless (eqb labelPlaces 32 && eqb entryPlaces 384) R.Length)
      (or_else (unless length_right_lem R.FileLength)
      (or_else (unless (all_below block_count check_right_lem) R.BlockCheck)
      (or_else (unless (all_below block_count marks_right_lem) R.BlockMark)
      (or_else (numbers_refusal_lem shape_at)
      (or_else (unless (rest_right_lem shape_at) R.FileRest)
      (content_refusal_lem shape_at.p shape_at.n (labels_at shape_at.d) (entries_at shape_at.d shape_at.e)))))))

-- Version 1. 17: "file not 1,024 or 1,536 bytes".
abbrev pub read_refusal1 : List ℕ → ℕ → ℕ → Result Unit Refusal
read_refusal1 file = read_refusal 1 file (eqb (length file) 1024 || eqb (length file) 1536)
