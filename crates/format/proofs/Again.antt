-- A file of bytes that reading does not refuse says a scheme, and is the file of that scheme: written again it is the same.
-- Assumes nothing.
use Rattle.std.specs.Prelude.{Ok}
use mathlib.Core.Path.{◌≡◌, refl, sym, ap, ap₂, subst⁻¹, ◌∙◌}
use mathlib.Core.Bool.{Bool, true, false, ◌&&◌, ◌||◌}
use mathlib.Core.Logic.{⊎_elim}
use mathlib.Core.List.{List}
use Prim.Native.Nat.{ℕ, zero, suc, ◌<◌, ◌≤◌, ◌+◌, ◌-◌, ◌*◌, ◌/◌, ◌%◌}
use native.Mathlib.Nat.{div-add-mod'}
use native.Mathlib.Numerals.{one-add}
use native.Mathlib.Omega.{arith}
use lib.Dec.{eqb, ltb}
use lib.ListN.{length}
use lib.Seq.{ext_get_or}
use borrow.Author.Tests.{eqb-true, ltb-true, eq-eqb}
use Rattle.algebra.proofs.Cases.{lt_or_ge, same?}
use Rattle.linear.specs.Combination.{total}
use Rattle.linear.specs.Flat.{place, entry}
use Rattle.linear.proofs.Flat.{list_length, list_at}
use Rattle.linear.proofs.Carry.{total_cong}
use Rattle.scheme.specs.declared.Shape.{Shape}
use Rattle.scheme.specs.Refusal.{IsScheme, refusal_of, numbers_refusal_lem, content_refusal_lem}
use Rattle.scheme.proofs.Refusals.{and-true, or_else_ok, unless_ok}
use Rattle.format.specs.Format.{byte_of_lem, number_of, width, size, records, blocks, mark, kind_of, row_of, in_record, used}
use Rattle.format.specs.Format.{heading_byte_lem, record_byte_lem, content_byte_lem, front_byte_lem, check_of_lem, block_byte, file_of}
use Rattle.format.specs.Reading.{all_below, byte_at, check_right_lem, marks_right_lem, shape_at, record_at, labels_at, entries_at}
use Rattle.format.specs.Reading.{zeros_right_lem, block_count, rest_right_lem, read_refusal, read_refusal1}
use Rattle.format.proofs.Bytes.{byte_number_lem}
use Rattle.format.proofs.Places.{file_length, file_place}
use Rattle.format.proofs.Records.{row_at, within_row, inside_table, row_below, place_below, row_again, record_again}
use Rattle.format.proofs.Tests.{all_at}
use Rattle.format.proofs.Written.{block_front, block_check, front_mark, front_number, front_content, content_unused}
use Rattle.format.proofs.Written.{heading_used, heading_p, heading_n, heading_d, heading_e, record_used}

-- Bytes whose number is x are the bytes of x.
bytes_of : (w x : ℕ) (b : ℕ → ℕ) → ((k : ℕ) → b k < 256) → number_of w b ≡ x → (k : ℕ) → k < w → b k ≡ byte_of_lem x k
bytes_of w x b h e k l = sym (byte_number_lem w b (λ i u. h i) k l) ∙ ap (λ (y : ℕ). byte_of_lem y k) e

-- Bytes 0 to 507 part by part.
module _ (v : ℕ) (s : Shape) (labels entries : List ℕ) (b : ℕ) (f : ℕ → ℕ) where
  front_is : ((o : ℕ) → o < 4 → f o ≡ place mark o) → f 4 ≡ kind_of b → f 5 ≡ v → ((k : ℕ) → k < 2 → f (6 + k) ≡ byte_of_lem b k)
      → ((j : ℕ) → j < 500 → f (8 + j) ≡ content_byte_lem v s labels entries b j) → (o : ℕ) → o < 508 → f o ≡ front_byte_lem v s labels entries b o
  front_is marks kind version number content o l = ⊎_elim
      (λ (u : o < 4). marks o u ∙ sym (front_mark v s labels entries b o u))
      (λ (u : 4 ≤ o). ⊎_elim (λ (q : o ≡ 4). at o 4 q kind) (λ n4. ⊎_elim (λ (q : o ≡ 5). at o 5 q version) (λ n5. ⊎_elim
      (λ (w : o < 8). at o (6 + (o - 6)) (omega arith)
      (number (o - 6) (omega arith) ∙ sym (front_number v s labels entries b (o - 6) (omega arith))))
      (λ (w : 8 ≤ o). at o (8 + (o - 8)) (omega arith) (content (o - 8) (omega arith) ∙ sym (front_content v s labels entries b (o - 8))))
      (lt_or_ge o 8)) (same? o 5)) (same? o 4))
      (lt_or_ge o 4)
    where
      at : (o q : ℕ) → o ≡ q → f q ≡ front_byte_lem v s labels entries b q → f o ≡ front_byte_lem v s labels entries b o
      at o q e h = subst⁻¹ (λ (i : ℕ). f i ≡ front_byte_lem v s labels entries b i) e h

module _ (v : ℕ) (file : List ℕ) where
  abbrev s : Shape
  s = shape_at v file

  abbrev labels : List ℕ
  labels = labels_at v file s.d

  abbrev entries : List ℕ
  entries = entries_at v file s.d s.e

  -- What a file that is not refused has been found to be.
  pub record Read (length_right_lem : Bool) : Type 0 where
    pub whole : length_right_lem ≡ true
    pub checks : all_below (block_count v file) (check_right_lem v file) ≡ true
    pub marks : all_below (block_count v file) (marks_right_lem v file) ≡ true
    pub numbers : numbers_refusal_lem s ≡ Ok tt
    pub rest : rest_right_lem v file s ≡ true
    pub lists : content_refusal_lem s.p s.n labels entries ≡ Ok tt

  pub read : (length_right_lem : Bool) (m n : ℕ) → read_refusal v file length_right_lem m n ≡ Ok tt → Read length_right_lem
  read length_right_lem m n h =
      let a = or_else_ok _ _ h in
      let b = or_else_ok _ _ a.1 in
      let c = or_else_ok _ _ b.1 in
      let d = or_else_ok _ _ c.1 in
      let e = or_else_ok _ _ d.1 in
      let f = or_else_ok _ _ e.1 in
      record {
        whole = unless_ok _ _ b.0;
        checks = unless_ok _ _ c.0;
        marks = unless_ok _ _ d.0;
        numbers = e.0;
        rest = unless_ok _ _ f.0;
        lists = f.1;
      }

  -- The lists have their lengths, so all tests of a scheme have been made.
  pub says_scheme : (length_right_lem : Bool) → Read length_right_lem → IsScheme s labels entries
  unfolding refusal_of
  says_scheme length_right_lem r = rw (
    r.numbers,
    eq-eqb (length labels) s.d (list_length s.d (λ k. record_at v file k 0)),
    eq-eqb (length entries) (s.d * s.e)
        (list_length (s.d * s.e) (λ i. number_of (width v) (λ t. record_at v file (i / s.e) (1 + (i % s.e) * width v + t)))),
    r.lists,
  )

  -- Each place of a file of bytes that was read holds what is written there.
  module _ (lv : 1 ≤ v) (uv : v ≤ 20) (bytes : (i : ℕ) → place file i < 256) (length_right_lem : Bool) (r : Read length_right_lem) where
    count_right : block_count v file ≡ blocks v s.d
    count_right = eqb-true _ _ (and-true (eqb (block_count v file) (blocks v s.d)) _ r.rest).0

    -- What the tests say of block b.
    check_right_holds : (b : ℕ) → b < blocks v s.d
        → number_of 4 (λ k. byte_at v file b (508 + k)) ≡ total 508 (λ o. byte_at v file b o * (o + 1))
    check_right_holds b l = eqb-true (number_of 4 (λ k. byte_at v file b (508 + k))) (total 508 (λ o. byte_at v file b o * (o + 1)))
        (all_at (block_count v file) (check_right_lem v file) r.checks b (omega (arith, count_right)))

    marks_right_holds : (b : ℕ) → b < blocks v s.d → ((o : ℕ) → o < 4 → byte_at v file b o ≡ place mark o) × (byte_at v file b 4 ≡ kind_of b)
        × (byte_at v file b 5 ≡ v) × (number_of 2 (λ k. byte_at v file b (6 + k)) ≡ b)
    marks_right_holds b l =
        let t = and-true (all_below 4 (λ o. eqb (byte_at v file b o) (place mark o))) (eqb (byte_at v file b 4) (kind_of b)
        && (eqb (byte_at v file b 5) v && eqb (number_of 2 (λ k. byte_at v file b (6 + k))) b))
        (all_at (block_count v file) (marks_right_lem v file) r.marks b (omega (arith, count_right))) in
        let u = and-true (eqb (byte_at v file b 4) (kind_of b)) (eqb (byte_at v file b 5) v && eqb (number_of 2 (λ k. byte_at v file b (6 + k))) b)
        t.1 in
        let w = and-true (eqb (byte_at v file b 5) v) (eqb (number_of 2 (λ k. byte_at v file b (6 + k))) b) u.1 in (
          (λ o lo. eqb-true (byte_at v file b o) (place mark o)
              (all_at 4 (λ o. eqb (byte_at v file b o) (place mark o)) t.0 o lo)),
          eqb-true (byte_at v file b 4) (kind_of b) u.0,
          eqb-true (byte_at v file b 5) v w.0,
          eqb-true (number_of 2 (λ k. byte_at v file b (6 + k))) b w.1,
        )

    zero_right : (b j : ℕ) → b < blocks v s.d → j < 500 → used v s.d s.e b j ≡ false → byte_at v file b (8 + j) ≡ 0
    zero_right b j l u q = eqb-true (byte_at v file b (8 + j)) 0
        (sym (ap (λ t. t || eqb (byte_at v file b (8 + j)) 0) q)
        ∙ all_at 500 (λ j. used v s.d s.e b j || eqb (byte_at v file b (8 + j)) 0)
        (all_at (block_count v file) (zeros_right_lem v file s.d s.e)
        (and-true (eqb (block_count v file) (blocks v s.d)) _ r.rest).1 b (omega (arith, count_right))) j u)

    -- The heading.
    heading_again : (j : ℕ) → j < width v + 3 → byte_at v file 0 (8 + j) ≡ heading_byte_lem v s labels entries j
    heading_again j l = ⊎_elim
        (λ (u : j < width v). bytes_of (width v) s.p (λ k. byte_at v file 0 (8 + k)) (λ k. bytes (512 * 0 + (8 + k))) refl j u
        ∙ sym (heading_p v s labels entries j u))
        (λ (u : width v ≤ j). ⊎_elim
        (λ (q : j ≡ width v). at j (width v) 8 q (omega arith) (heading_n v s labels entries)) (λ n0. ⊎_elim
        (λ (q : j ≡ width v + 1). at j (width v + 1) 9 q (omega arith) (heading_d v s labels entries))
        (λ n1. at j (width v + 2) 10 (omega arith) (omega arith) (heading_e v s labels entries))
        (same? j (width v + 1))) (same? j (width v)))
        (lt_or_ge j (width v))
      where
        at : (j q k : ℕ) → j ≡ q → 8 + q ≡ k + width v → heading_byte_lem v s labels entries q ≡ byte_at v file 0 (k + width v)
            → byte_at v file 0 (8 + j) ≡ heading_byte_lem v s labels entries j
        at j q k e c h = subst⁻¹ (λ (i : ℕ). byte_at v file 0 (8 + i) ≡ heading_byte_lem v s labels entries i) e
            (ap (byte_at v file 0) c ∙ sym h)

    -- The records.
    entry_said : (k c : ℕ) → k < s.d → c < s.e → number_of (width v) (λ t. record_at v file k (1 + c * width v + t)) ≡ entry s.e entries k c
    entry_said k c lk lc = sym
        (list_at (s.d * s.e) (λ i. number_of (width v) (λ t. record_at v file (i / s.e) (1 + (i % s.e) * width v + t))) (k * s.e + c)
        (inside_table k c s.d s.e lk lc)
        ∙ ap₂ (λ (a m : ℕ). number_of (width v) (λ t. record_at v file a (1 + m * width v + t))) (row_at k c s.e lc) (within_row k c s.e lc))

    record_said : (k m : ℕ) → k < s.d → m < 1 + s.e * width v → record_at v file k m ≡ record_byte_lem v s labels entries k m
    record_said k zero lk lm = sym (list_at s.d (λ k. record_at v file k 0) k lk)
    record_said k (suc m) lk lm =
        let lc : m / width v < s.e = row_below m s.e (width v) (omega arith) in
        let lt : m % width v < width v = place_below m s.e (width v) (omega arith) in
        let e : suc m ≡ 1 + m / width v * width v + m % width v = omega (arith, div-add-mod' m (width v)) in
        ap (record_at v file k) e
        ∙ bytes_of (width v) (entry s.e entries k (m / width v)) (λ t. record_at v file k (1 + m / width v * width v + t))
        (λ t. bytes (512 * (1 + k / records v) + (8 + k % records v * size v + (1 + m / width v * width v + t))))
        (entry_said k (m / width v) lk lc) (m % width v) lt

    record_place : (b j : ℕ) → j / size v < records v → byte_at v file (suc b) (8 + j) ≡ record_at v file (row_of v b j) (in_record v j)
    record_place b j l =
        let q : suc b ≡ 1 + row_of v b j / records v = ap suc (sym (row_again v lv uv b j l)) ∙ sym (one-add (row_of v b j / records v)) in
        let e : 8 + j ≡ 8 + row_of v b j % records v * size v + in_record v j = omega (arith, record_again v lv uv b j l) in
        ap₂ (byte_at v file) q e

    content_again : (b j : ℕ) → b < blocks v s.d → j < 500 → byte_at v file b (8 + j) ≡ content_byte_lem v s labels entries b j
    content_again b j l u = go b l (used v s.d s.e b j) refl
      where
        go : (b : ℕ) → b < blocks v s.d → (t : Bool) → used v s.d s.e b j ≡ t
            → byte_at v file b (8 + j) ≡ content_byte_lem v s labels entries b j
        go b l false q = zero_right b j l u q ∙ sym (content_unused v s labels entries b j q)
        go zero l true q = let w : j < width v + 3 = ltb-true j (width v + 3) q in
            heading_again j w ∙ sym (heading_used v s labels entries j w)
        go (suc b) l true q =
            let x = and-true (ltb (j / size v) (records v)) (ltb (row_of v b j) s.d && ltb (in_record v j) (1 + s.e * width v)) q in
            let y = and-true (ltb (row_of v b j) s.d) (ltb (in_record v j) (1 + s.e * width v)) x.1 in
            record_place b j (ltb-true (j / size v) (records v) x.0)
            ∙ record_said (row_of v b j) (in_record v j) (ltb-true (row_of v b j) s.d y.0)
            (ltb-true (in_record v j) (1 + s.e * width v) y.1)
            ∙ sym (record_used v s labels entries b j q)

    -- The blocks.
    front_again : (b o : ℕ) → b < blocks v s.d → o < 508 → byte_at v file b o ≡ front_byte_lem v s labels entries b o
    front_again b o l = let m = marks_right_holds b l in
        front_is v s labels entries b (byte_at v file b) m.0 m.1 m.2
        (bytes_of 2 b (λ k. byte_at v file b (6 + k)) (λ k. bytes (512 * b + (6 + k))) m.3) (λ j. content_again b j l) o

    check_again : (b k : ℕ) → b < blocks v s.d → k < 4 → byte_at v file b (508 + k) ≡ byte_of_lem (check_of_lem v s labels entries b) k
    check_again b k l = bytes_of 4 (check_of_lem v s labels entries b) (λ k. byte_at v file b (508 + k)) (λ k. bytes (512 * b + (508 + k)))
        (check_right_holds b l ∙ total_cong 508 (λ o. byte_at v file b o * (o + 1)) (λ o. front_byte_lem v s labels entries b o * (o + 1))
        (λ o u. ap (λ (x : ℕ). x * (o + 1)) (front_again b o l u))) k

    block_again : (b o : ℕ) → b < blocks v s.d → o < 512 → byte_at v file b o ≡ block_byte v s labels entries b o
    block_again b o l u = ⊎_elim
        (λ (w : o < 508). front_again b o l w ∙ sym (block_front v s labels entries b o w))
        (λ (w : 508 ≤ o). let e : o ≡ 508 + (o - 508) = omega arith in
        subst⁻¹ (λ (i : ℕ). byte_at v file b i ≡ block_byte v s labels entries b i) e
        (check_again b (o - 508) l (omega arith) ∙ sym (block_check v s labels entries b (o - 508))))
        (lt_or_ge o 508)

    -- The file, of whole blocks.
    pub file_again : length file ≡ 512 * block_count v file → file ≡ file_of v s labels entries
    file_again e = ext_get_or 0 file (file_of v s labels entries) (size_right ∙ sym (file_length v s labels entries))
        (λ i l. let q : i ≡ 512 * (i / 512) + i % 512 = omega arith in
        ap (place file) q ∙ block_again (i / 512) (i % 512) (omega (arith, size_right)) (omega arith)
        ∙ sym (file_place v s labels entries i (omega (arith, size_right))))
      where
        size_right : length file ≡ 512 * blocks v s.d
        size_right = e ∙ ap (λ (n : ℕ). 512 * n) count_right

-- Version 1: a file of 1,024 or 1,536 bytes is one of whole blocks.
whole_blocks : (n : ℕ) → (eqb n 1024 || eqb n 1536) ≡ true → n ≡ 512 * (n / 512)
whole_blocks n h = go (eqb n 1024) refl h
  where
    go : (t : Bool) → eqb n 1024 ≡ t → (t || eqb n 1536) ≡ true → n ≡ 512 * (n / 512)
    go true q h = omega (arith, eqb-true n 1024 q)
    go false q h = omega (arith, eqb-true n 1536 h)

pub written_again : (file : List ℕ) (m n : ℕ) → ((i : ℕ) → place file i < 256) → read_refusal1 file m n ≡ Ok tt
    → IsScheme (shape_at 1 file) (labels_at 1 file (shape_at 1 file).d) (entries_at 1 file (shape_at 1 file).d (shape_at 1 file).e)
    × (file ≡ file_of 1 (shape_at 1 file) (labels_at 1 file (shape_at 1 file).d) (entries_at 1 file (shape_at 1 file).d (shape_at 1 file).e))
written_again file m n bytes h =
    let right : Bool = eqb (length file) 1024 || eqb (length file) 1536 in
    let r = read 1 file right m n h in (
      says_scheme 1 file right r,
      file_again 1 file (omega arith) (omega arith) bytes right r (whole_blocks (length file) r.whole),
    )
