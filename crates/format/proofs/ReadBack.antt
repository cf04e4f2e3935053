-- The file of a scheme is read back: nothing of it is refused, and it says the scheme.
-- Assumes nothing.
use Rattle.std.specs.Prelude.{Result, Ok}
use mathlib.Core.Path.{◌≡◌, refl, sym, ap, ap₂, ◌∙◌}
use mathlib.Core.Bool.{Bool, true, false, ◌&&◌, ◌||◌}
use mathlib.Core.Logic.{⊎_elim}
use mathlib.Core.List.{List}
use Prim.Native.Nat.{ℕ, suc, ◌<◌, ◌≤◌, ◌+◌, ◌-◌, ◌*◌, ◌/◌, ◌%◌, ◌^◌}
use native.Mathlib.Nat.{div-add-mod', div-lt_iff_lt-mul, mul-le-mul, le_refl}
use native.Mathlib.Numerals.{one-add}
use native.Mathlib.Omega.{arith}
use lib.Dec.{eqb}
use lib.ListN.{length, get_or}
use lib.Seq.{ext_get_or}
use borrow.Author.Tests.{eq-eqb}
use Rattle.algebra.proofs.Cases.{lt_or_ge}
use Rattle.linear.specs.Combination.{total}
use Rattle.linear.specs.Flat.{place, entry, list_of}
use Rattle.linear.proofs.Flat.{list_length, list_at}
use Rattle.linear.proofs.Carry.{total_cong}
use Rattle.scheme.specs.declared.Shape.{Shape}
use Rattle.scheme.specs.declared.Refusal.{Refusal}
use Rattle.scheme.specs.declared.Refusal.TheVariants as R
use Rattle.scheme.specs.Tests.{unless, or_else}
use Rattle.scheme.specs.Refusal.{IsScheme, numbers_refusal_lem, content_refusal_lem}
use Rattle.scheme.proofs.Refusals.{Valid, valid, parts}
use Rattle.format.specs.Format.{byte_of_lem, number_of, width, size, records, blocks, mark, kind_of, used}
use Rattle.format.specs.Format.{record_byte_lem, content_byte_lem, front_byte_lem, check_of_lem, heading_byte_lem, file_of}
use Rattle.format.specs.Reading.{byte_at, check_right_lem, marks_right_lem, shape_at, record_at, labels_at, entries_at}
use Rattle.format.specs.Reading.{zeros_right_lem, block_count, rest_right_lem, read_refusal, read_refusal1}
use Rattle.format.proofs.Bytes.{number_bytes}
use Rattle.format.proofs.Below.{check_below}
use Rattle.format.proofs.Places.{file_length, file_at, blocks_two, blocks_three}
use Rattle.format.proofs.Records.{records_some, record_inside, content_inside, row_block, row_below, place_below, inside_table}
use Rattle.format.proofs.Tests.{all_holds}
use Rattle.format.proofs.Written.{block_front, block_check, front_mark, front_number, front_content, content_unused}
use Rattle.format.proofs.Written.{heading_used, heading_p, heading_n, heading_d, heading_e, content_record, record_entry}

-- A list is the list of its places.
pub list_is : (n : ℕ) (f : ℕ → ℕ) (xs : List ℕ) → length xs ≡ n → ((i : ℕ) → i < n → f i ≡ get_or xs i 0) → list_of n f ≡ xs
list_is n f xs e h = ext_get_or 0 (list_of n f) xs (list_length n f ∙ sym e)
    (λ i l. let u : i < n = omega (arith, list_length n f) in list_at n f i u ∙ h i u)

-- The number of bytes that are those of x.
number_is : (w x : ℕ) (b : ℕ → ℕ) → x < 256 ^ w → ((k : ℕ) → k < w → b k ≡ byte_of_lem x k) → number_of w b ≡ x
number_is w x b l h = total_cong w (λ k. b k * 256 ^ k) (λ k. byte_of_lem x k * 256 ^ k) (λ k lk. ap (λ (y : ℕ). y * 256 ^ k) (h k lk))
    ∙ number_bytes w x l

-- A heading and no more row blocks than rows.
blocks_few : (r d : ℕ) → 0 < r → 1 + (d + (r - 1)) / r ≤ d + 1
blocks_few r d l =
    let u : d * 1 ≤ d * r = mul-le-mul {n₁ = d} {m₁ = 1} {n₂ = d} {m₂ = r} (le_refl d) l in
    let h : (d + (r - 1)) / r < d + 1 = (div-lt_iff_lt-mul {k = r} {x = d + (r - 1)} {y = d + 1} l).1 (omega arith) in
    omega arith

module _ (v : ℕ) (s : Shape) (labels entries : List ℕ) (lv : 1 ≤ v) (uv : v ≤ 20) (lp : s.p < 256 ^ width v) (h : Valid s labels entries) where
  abbrev file : List ℕ
  file = file_of v s labels entries

  front_read : (b o : ℕ) → b < blocks v s.d → o < 508 → byte_at v file b o ≡ front_byte_lem v s labels entries b o
  front_read b o l u = file_at v s labels entries b o l (omega arith) ∙ block_front v s labels entries b o u

  content_read : (b j : ℕ) → b < blocks v s.d → j < 500 → byte_at v file b (8 + j) ≡ content_byte_lem v s labels entries b j
  content_read b j l u = front_read b (8 + j) l (omega arith) ∙ front_content v s labels entries b j

  -- 18.
  check_read : (b : ℕ) → b < blocks v s.d → check_right_lem v file b ≡ true
  check_read b l = eq-eqb (number_of 4 (λ k. byte_at v file b (508 + k))) (total 508 (λ o. byte_at v file b o * (o + 1)))
      (number_is 4 (check_of_lem v s labels entries b) (λ k. byte_at v file b (508 + k)) (check_below v s labels entries (omega arith) h b)
      (λ k u. file_at v s labels entries b (508 + k) l (omega arith) ∙ block_check v s labels entries b k)
      ∙ total_cong 508 (λ o. front_byte_lem v s labels entries b o * (o + 1)) (λ o. byte_at v file b o * (o + 1))
      (λ o u. ap (λ (x : ℕ). x * (o + 1)) (sym (front_read b o l u))))

  -- 19.
  block_few : (b : ℕ) → b < blocks v s.d → b < 256 ^ 2
  block_few b l = omega (arith, blocks_few (records v) s.d (records_some v lv uv), h.d_high)

  marks_read : (b : ℕ) → b < blocks v s.d → marks_right_lem v file b ≡ true
  marks_read b l = ap₂ ◌&&◌
      (all_holds 4 (λ o. eqb (byte_at v file b o) (place mark o))
      (λ o u. eq-eqb (byte_at v file b o) (place mark o) (front_read b o l (omega arith) ∙ front_mark v s labels entries b o u)))
      (ap₂ ◌&&◌ (eq-eqb (byte_at v file b 4) (kind_of b) (front_read b 4 l (omega arith)))
      (ap₂ ◌&&◌ (eq-eqb (byte_at v file b 5) v (front_read b 5 l (omega arith)))
      (eq-eqb (number_of 2 (λ k. byte_at v file b (6 + k))) b
      (number_is 2 b (λ k. byte_at v file b (6 + k)) (block_few b l)
      (λ k u. front_read b (6 + k) l (omega arith) ∙ front_number v s labels entries b k u)))))

  -- The heading's numbers.
  heading_read : (j : ℕ) → j < width v + 3 → byte_at v file 0 (8 + j) ≡ heading_byte_lem v s labels entries j
  heading_read j l = content_read 0 j (omega arith) (omega arith) ∙ heading_used v s labels entries j l

  p_read : number_of (width v) (λ k. byte_at v file 0 (8 + k)) ≡ s.p
  p_read = number_is (width v) s.p (λ k. byte_at v file 0 (8 + k)) lp
      (λ k l. heading_read k (omega arith) ∙ heading_p v s labels entries k l)

  n_read : byte_at v file 0 (8 + width v) ≡ s.n
  n_read = heading_read (width v) (omega arith) ∙ heading_n v s labels entries

  d_read : byte_at v file 0 (9 + width v) ≡ s.d
  d_read = let e : 9 + width v ≡ 8 + (width v + 1) = omega arith in
      ap (byte_at v file 0) e ∙ heading_read (width v + 1) (omega arith) ∙ heading_d v s labels entries

  e_read : byte_at v file 0 (10 + width v) ≡ s.e
  e_read = let e : 10 + width v ≡ 8 + (width v + 2) = omega arith in
      ap (byte_at v file 0) e ∙ heading_read (width v + 2) (omega arith) ∙ heading_e v s labels entries

  abbrev made : ℕ → ℕ → ℕ → ℕ → Shape
  made p n d e = record { p = p; n = n; d = d; e = e }

  pub shape_read : shape_at v file ≡ s
  shape_read =
      ap₂ (λ (p n : ℕ). made p n (byte_at v file 0 (9 + width v)) (byte_at v file 0 (10 + width v))) p_read n_read
      ∙ ap₂ (λ (d e : ℕ). made s.p s.n d e) d_read e_read

  -- The rows.
  record_read : (k m : ℕ) → k < s.d → m < 1 + s.e * width v → record_at v file k m ≡ record_byte_lem v s labels entries k m
  record_read k m lk lm =
      let e : 8 + k % records v * size v + m ≡ 8 + (k % records v * size v + m) = omega arith in
      ap (byte_at v file (1 + k / records v)) e
      ∙ content_read (1 + k / records v) (k % records v * size v + m) (row_block (records v) s.d k (records_some v lv uv) lk)
      (content_inside v lv uv k m (record_inside v lv uv s.e m h.e_high lm))
      ∙ ap (λ (b : ℕ). content_byte_lem v s labels entries b (k % records v * size v + m)) (one-add (k / records v))
      ∙ content_record v s labels entries lv uv h.e_high k m lk lm

  pub labels_read : labels_at v file s.d ≡ labels
  labels_read = list_is s.d (λ k. record_at v file k 0) labels h.labels_length (λ k l. record_read k 0 l (omega arith))

  entry_read : (k c : ℕ) → k < s.d → c < s.e
      → number_of (width v) (λ t. record_at v file k (1 + c * width v + t)) ≡ entry s.e entries k c
  entry_read k c lk lc = number_is (width v) (entry s.e entries k c) (λ t. record_at v file k (1 + c * width v + t))
      (omega (arith, h.entry (k * s.e + c)))
      (λ t l. let e : 1 + c * width v + t ≡ suc (c * width v + t) = omega arith in
      ap (record_at v file k) e ∙ record_read k (suc (c * width v + t)) lk (omega (arith, inside_table c t s.e (width v) lc l))
      ∙ record_entry v s labels entries k c t l)

  pub entries_read : entries_at v file s.d s.e ≡ entries
  entries_read = list_is (s.d * s.e) (λ i. number_of (width v) (λ t. record_at v file (i / s.e) (1 + (i % s.e) * width v + t))) entries
      h.entries_length
      (λ i l. entry_read (i / s.e) (i % s.e) (row_below i s.d s.e l) (place_below i s.d s.e l)
      ∙ ap (place entries) (div-add-mod' i s.e))

  -- 20.
  zero_read : (b j : ℕ) → b < blocks v s.d → j < 500 → (used v s.d s.e b j || eqb (byte_at v file b (8 + j)) 0) ≡ true
  zero_read b j l u = go (used v s.d s.e b j) refl
    where
      go : (t : Bool) → used v s.d s.e b j ≡ t → (t || eqb (byte_at v file b (8 + j)) 0) ≡ true
      go true q = refl
      go false q = eq-eqb (byte_at v file b (8 + j)) 0 (content_read b j l u ∙ content_unused v s labels entries b j q)

  count_read : block_count v file ≡ blocks v s.d
  count_read = ap (λ (n : ℕ). n / 512) (file_length v s labels entries) ∙ omega arith

  rest_read : rest_right_lem v file s ≡ true
  rest_read = ap₂ ◌&&◌ (eq-eqb (block_count v file) (blocks v s.d) count_read)
      (all_holds (block_count v file) (zeros_right_lem v file s.d s.e) (λ b l. all_holds 500
      (λ j. used v s.d s.e b j || eqb (byte_at v file b (8 + j)) 0) (λ j u. zero_read b j (omega (arith, count_read)) u)))

  -- All of it: no number applies.
  abbrev content_said : Shape → Result Unit Refusal
  content_said q = content_refusal_lem q.p q.n (labels_at v file q.d) (entries_at v file q.d q.e)

  pub nothing_refused : (length_right_lem : Bool) → length_right_lem ≡ true → numbers_refusal_lem s ≡ Ok tt
      → content_refusal_lem s.p s.n labels entries ≡ Ok tt → read_refusal v file length_right_lem 32 384 ≡ Ok tt
  nothing_refused length_right_lem right first lists =
      ap₂ or_else (ap (λ t. unless t R.FileLength) right)
      (ap₂ or_else (ap (λ t. unless t R.BlockCheck) (all_holds (block_count v file) (check_right_lem v file) (λ b l. check_read b (omega (arith, count_read)))))
      (ap₂ or_else (ap (λ t. unless t R.BlockMark) (all_holds (block_count v file) (marks_right_lem v file) (λ b l. marks_read b (omega (arith, count_read)))))
      (ap₂ or_else (ap numbers_refusal_lem shape_read ∙ first)
      (ap₂ or_else (ap (λ t. unless t R.FileRest) (ap (rest_right_lem v file) shape_read ∙ rest_read))
      (ap content_said shape_read ∙ ap₂ (content_refusal_lem s.p s.n) labels_read entries_read ∙ lists)))))

-- Either way round.
or_true : (a : Bool) → (a || true) ≡ true
or_true true = refl
or_true false = refl

-- "1,024 or 1,536 bytes"
pub length_right_holds : (n d : ℕ) → 1 ≤ d → d ≤ 32 → n ≡ 512 * blocks 1 d → (eqb n 1024 || eqb n 1536) ≡ true
length_right_holds n d l u e = ⊎_elim
    (λ (q : d < 21). ap (λ t. t || eqb n 1536) (eq-eqb n 1024 (omega (arith, blocks_two d l (omega arith)))))
    (λ (q : 21 ≤ d). ap (λ t. eqb n 1024 || t) (eq-eqb n 1536 (omega (arith, blocks_three d q u))) ∙ or_true (eqb n 1024))
    (lt_or_ge d 21)

module _ (s : Shape) (labels entries : List ℕ) (h : IsScheme s labels entries) where
  pub read_back : (read_refusal1 (file_of 1 s labels entries) 32 384 ≡ Ok tt) × (shape_at 1 (file_of 1 s labels entries) ≡ s)
      × (labels_at 1 (file_of 1 s labels entries) s.d ≡ labels) × (entries_at 1 (file_of 1 s labels entries) s.d s.e ≡ entries)
  read_back =
      let t = parts s labels entries true (Ok tt) h in
      let k = valid s labels entries true h in
      let lp : s.p < 256 ^ width 1 = k.p_high in
      let lv : 1 ≤ 1 = omega arith in
      let uv : 1 ≤ 20 = omega arith in (
        nothing_refused 1 s labels entries lv uv lp k (eqb (length (file_of 1 s labels entries)) 1024
            || eqb (length (file_of 1 s labels entries)) 1536)
            (length_right_holds (length (file_of 1 s labels entries)) s.d k.d_low k.d_high (file_length 1 s labels entries))
            t.first t.lists,
        shape_read 1 s labels entries lv uv lp k,
        labels_read 1 s labels entries lv uv lp k,
        entries_read 1 s labels entries lv uv lp k,
      )
