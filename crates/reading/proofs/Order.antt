-- Reading's refusals in their order: the first tests, then the others. And what a file that is not refused has.
-- Assumes nothing.
use Rattle.std.specs.Prelude.{Result, Ok, Err}
use mathlib.Core.Path.{◌≡◌, refl, sym, ap, subst⁻¹, ◌∙◌}
use mathlib.Core.Bool.{Bool, true, false, ◌||◌, false≢true}
use mathlib.Core.List.{List}
use Prim.Native.Nat.{ℕ, ◌*◌, ◌<◌, ◌≤◌}
use native.Mathlib.Omega.{arith}
use lib.Dec.{eqb}
use lib.ListN.{length}
use borrow.Author.Tests.{eqb-true}
use Rattle.scheme.specs.declared.Shape.{Shape}
use Rattle.scheme.specs.declared.Refusal.{Refusal}
use Rattle.scheme.specs.Tests.{or_else}
use Rattle.scheme.specs.Refusal.{numbers_refusal_lem}
use Rattle.scheme.proofs.Tests.{within_true}
use Rattle.scheme.proofs.Refusals.{and-true, stands, or_else_assoc, or_else_ok, unless_ok, numbers, rows_few}
use Rattle.format.specs.Format.{blocks}
use Rattle.format.specs.Reading.{all_below, shape_at}
use Rattle.format.specs.Reading.{zeros_right_lem, block_count, rest_right_lem, read_refusal1}
use Rattle.format.proofs.Again.{read}
use Rattle.reading.specs.Parts.{length_right_lem, blocks_refusal_lem, scheme_refusal_lem}

-- All of them: 5, 17, 18 and 19, then the others.
in_order : (file : List ℕ) (m n : ℕ)
    → or_else (blocks_refusal_lem file m n) (scheme_refusal_lem file (shape_at 1 file)) ≡ read_refusal1 file m n
unfolding blocks_refusal_lem scheme_refusal_lem
in_order file m n = simp (or_else_assoc)

module _ (file : List ℕ) (m n : ℕ) where
  pub blocks_wrong : (k : Refusal) → blocks_refusal_lem file m n ≡ Err k → read_refusal1 file m n ≡ Err k
  blocks_wrong k h = sym (in_order file m n) ∙ stands _ _ k h

  pub blocks_pass : blocks_refusal_lem file m n ≡ Ok tt → read_refusal1 file m n ≡ scheme_refusal_lem file (shape_at 1 file)
  blocks_pass h = sym (in_order file m n) ∙ ap (λ (k : Result Unit Refusal). or_else k (scheme_refusal_lem file (shape_at 1 file))) h

-- A length that is right.
pub sized : (n : ℕ) → length_right_lem n ≡ true → (512 ≤ n) × (n ≤ 1536)
sized n h = cases (eqb n 1024) (eqb n 1536) refl refl h
  where
    cases : (a b : Bool) → eqb n 1024 ≡ a → eqb n 1536 ≡ b → (a || b) ≡ true → (512 ≤ n) × (n ≤ 1536)
    cases true b q r h = let e = eqb-true n 1024 q in (omega arith, omega arith)
    cases false true q r h = let e = eqb-true n 1536 r in (omega arith, omega arith)
    cases false false q r h = absurd (false≢true h)

pub blocks_sized : (file : List ℕ) (m n : ℕ) → blocks_refusal_lem file m n ≡ Ok tt → (512 ≤ length file) × (length file ≤ 1536)
unfolding blocks_refusal_lem
blocks_sized file m n h =
    let a = or_else_ok _ _ h in
    let b = or_else_ok _ _ a.1 in
    sized _ (unless_ok _ _ b.0)

-- The file has the blocks that d rows need.
pub rest_blocks : (file : List ℕ) (s : Shape) → rest_right_lem 1 file s ≡ true → 512 * blocks 1 s.d ≤ length file
rest_blocks file s t =
    let fits = eqb (block_count 1 file) (blocks 1 s.d) in
    let both = and-true fits (all_below (block_count 1 file) (zeros_right_lem 1 file s.d s.e)) t in
    let q = eqb-true (block_count 1 file) (blocks 1 s.d) both.0 in
    omega arith

-- The numbers that are not refused.
pub record Small (s : Shape) : Type 0 where
  pub d_high : s.d ≤ 32
  pub e_low : 0 < s.e
  pub e_high : s.e ≤ 12
  pub few : s.d * s.e ≤ 384

pub small : (s : Shape) → numbers_refusal_lem s ≡ Ok tt → Small s
small s z =
    let q = numbers s z in
    let e = within_true 1 12 s.e q.e_right in
    record { d_high = (within_true 1 32 s.d q.d_right).1; e_low = e.0; e_high = e.1; few = rows_few s z }

-- A file that is not refused: what the two fillings require, where m label places and n entry places are lent.
pub record Ready (file : List ℕ) (m n : ℕ) (s : Shape) : Type 0 where
  pub labels_fit : s.d ≤ m
  pub entries_fit : s.d * s.e ≤ n
  pub e_low : 0 < s.e
  pub e_high : s.e ≤ 12
  pub blocks_there : 512 * blocks 1 s.d ≤ length file

pub places : (file : List ℕ) (m n : ℕ) → read_refusal1 file m n ≡ Ok tt → (m ≡ 32) × (n ≡ 384)
places file m n h =
    let t = and-true _ _ (unless_ok _ _ (or_else_ok _ _ h).0) in
    (eqb-true m 32 t.0, eqb-true n 384 t.1)

pub ready : (file : List ℕ) (m n : ℕ) (s : Shape) → s ≡ shape_at 1 file → read_refusal1 file m n ≡ Ok tt → Ready file m n s
ready file m n s q h = subst⁻¹ (Ready file m n) q
    (let r = read 1 file (length_right_lem (length file)) m n h in
    let l = places file m n h in
    let k = small (shape_at 1 file) r.numbers in
    record {
      labels_fit = omega (arith, k.d_high, l.0);
      entries_fit = omega (arith, k.few, l.1);
      e_low = k.e_low;
      e_high = k.e_high;
      blocks_there = rest_blocks file (shape_at 1 file) r.rest;
    })
