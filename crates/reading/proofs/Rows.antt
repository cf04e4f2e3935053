-- Where the rows of a file lie: row k in block 1 + k / 20, which a file of as many blocks as d needs has.
-- Assumes nothing.
use mathlib.Core.Path.{◌≡◌, ap, ◌∙◌}
use mathlib.Core.List.{List}
use Prim.Native.Nat.{ℕ, ◌+◌, ◌*◌, ◌/◌, ◌%◌, ◌<◌, ◌≤◌}
use native.Mathlib.Nat.{mod-lt}
use native.Mathlib.Omega.{arith}
use Rattle.linear.specs.Flat.{place}
use Rattle.format.specs.Format.{number_of}
use Rattle.format.specs.Reading.{record_at}
use Rattle.reading.specs.Parts.{content_of, entry_at}
use Rattle.reading.proofs.Contents.{content_at}
use Rattle.reading.proofs.Numbers.{number_same}

module _ (file : List ℕ) (k : ℕ) where
  -- Byte m of the record of row k, in the content of the row's block.
  pub record_at_holds : (m : ℕ) → m < 25 → place (content_of file (1 + k / 20)) (k % 20 * 25 + m) ≡ record_at 1 file k m
  record_at_holds m l =
      let q : 512 * (1 + k / 20) + (8 + (k % 20 * 25 + m)) ≡ 512 * (1 + k / 20) + (8 + k % 20 * 25 + m) = omega arith in
      content_at file (1 + k / 20) (k % 20 * 25 + m) (omega arith) ∙ ap (place file) q

pub label_at : (file : List ℕ) (k : ℕ) → place (content_of file (1 + k / 20)) (k % 20 * 25) ≡ record_at 1 file k 0
label_at file k =
    let q : k % 20 * 25 ≡ k % 20 * 25 + 0 = omega arith in
    ap (place (content_of file (1 + k / 20))) q ∙ record_at_holds file k 0 (omega arith)

-- An entry's two bytes.
pub column_fits : (i e : ℕ) → 0 < e → e ≤ 12 → i % e * 2 ≤ 22
column_fits i e l h = omega (arith, mod-lt i l)

pub entry_at_holds : (file : List ℕ) (e i : ℕ) → 0 < e → e ≤ 12
    → number_of 2 (λ t. place (content_of file (1 + i / e / 20)) (i / e % 20 * 25 + 1 + i % e * 2 + t)) ≡ entry_at file e i
entry_at_holds file e i l h = number_same 2
    (λ t. place (content_of file (1 + i / e / 20)) (i / e % 20 * 25 + 1 + i % e * 2 + t))
    (λ t. record_at 1 file (i / e) (1 + i % e * 2 + t))
    (λ t lt.
    let q : i / e % 20 * 25 + 1 + i % e * 2 + t ≡ i / e % 20 * 25 + (1 + i % e * 2 + t) = omega arith in
    ap (place (content_of file (1 + i / e / 20))) q ∙ record_at_holds file (i / e) (1 + i % e * 2 + t) (omega (arith, column_fits i e l h)))
