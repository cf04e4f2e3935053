-- What the inner steps of reading answer: parts of the definitions of crate format, for version 1.
-- Assumes nothing.
use Rattle.std.specs.Prelude.{Bool, ◌||◌, ◌&&◌, List, ℕ, ◌+◌, ◌*◌, ◌/◌, ◌%◌, eqb, length, take, drop, Result}
use Rattle.linear.specs.Combination.{total}
use Rattle.scheme.specs.declared.Shape.{Shape}
use Rattle.scheme.specs.declared.Refusal.{Refusal}
use Rattle.scheme.specs.declared.Refusal.TheVariants as R
use Rattle.scheme.specs.Tests.{unless, or_else}
use Rattle.scheme.specs.Refusal.{numbers_refusal_lem, content_refusal_lem}
use Rattle.format.specs.Format.{number_of}
use Rattle.format.specs.Reading.{all_below, byte_at, check_right_lem, marks_right_lem, record_at, labels_at, entries_at, block_count, rest_right_lem}

-- Bytes 8 to 507 of block b.
unfoldable pub content_of : List ℕ → ℕ → List ℕ
content_of file b = take 500 (drop (512 * b + 8) file)

-- The check that the bytes of block b give.
unfoldable pub check_sum_lem : List ℕ → ℕ → ℕ
check_sum_lem file b = total 508 (λ o. byte_at 1 file b o * (o + 1))

-- Entry i of a file with e columns, counted row by row.
abbrev pub entry_at : List ℕ → ℕ → ℕ → ℕ
entry_at file e i = number_of 2 (λ k. record_at 1 file (i / e) (1 + (i % e) * 2 + k))

-- "file not 1,024 or 1,536 bytes".
abbrev pub length_right_lem : ℕ → Bool
length_right_lem size = eqb size 1024 || eqb size 1536

-- 5, 17, 18 and 19.
unfoldable pub blocks_refusal_lem : List ℕ → ℕ → ℕ → Result Unit Refusal
blocks_refusal_lem file labelPlaces entryPlaces =
    or_else (unless (eqb labelPlaces 32 && eqb entryPlaces 384) R.Length)
    (or_else (unless (length_right_lem (length file)) R.FileLength)
    (or_else (unless (all_below (block_count 1 file) (check_right_lem 1 file)) R.BlockCheck)
    (unless (all_below (block_count 1 file) (marks_right_lem 1 file)) R.BlockMark)))

-- 1 to 4, 20, 6 and 7, for the numbers of the heading.
unfoldable pub scheme_refusal_lem : List ℕ → Shape → Result Unit Refusal
scheme_refusal_lem file s =
    or_else (numbers_refusal_lem s)
    (or_else (unless (rest_right_lem 1 file s) R.FileRest)
    (content_refusal_lem s.p s.n (labels_at 1 file s.d) (entries_at 1 file s.d s.e)))
