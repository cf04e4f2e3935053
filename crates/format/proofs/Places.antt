-- The places of a file: byte o of block b stands at place 512 * b + o. And how many blocks there are in version 1.
-- Assumes nothing.
use mathlib.Core.Path.{◌≡◌, refl, ap₂, ◌∙◌}
use mathlib.Core.List.{List}
use Prim.Native.Nat.{ℕ, ◌<◌, ◌≤◌, ◌+◌, ◌*◌, ◌/◌, ◌%◌}
use native.Mathlib.Omega.{arith}
use lib.ListN.{length}
use Rattle.linear.specs.Flat.{place}
use Rattle.linear.proofs.Flat.{list_length, list_at}
use Rattle.scheme.specs.declared.Shape.{Shape}
use Rattle.format.specs.Format.{width, size, records, blocks, block_byte, file_of}

-- The block of a place, and the place in it.
pub place_block : (b o : ℕ) → o < 512 → (512 * b + o) / 512 ≡ b
place_block b o l = omega arith

pub place_offset : (b o : ℕ) → o < 512 → (512 * b + o) % 512 ≡ o
place_offset b o l = omega arith

pub place_inside : (b o n : ℕ) → b < n → o < 512 → 512 * b + o < 512 * n
place_inside b o n l lo = omega arith

module _ (v : ℕ) (s : Shape) (labels entries : List ℕ) where
  pub file_length : length (file_of v s labels entries) ≡ 512 * blocks v s.d
  unfolding file_of
  file_length = list_length (512 * blocks v s.d) (λ i. block_byte v s labels entries (i / 512) (i % 512))

  -- Any place of the file, ..
  pub file_place : (i : ℕ) → i < 512 * blocks v s.d
      → place (file_of v s labels entries) i ≡ block_byte v s labels entries (i / 512) (i % 512)
  unfolding file_of
  file_place i l = list_at (512 * blocks v s.d) (λ i. block_byte v s labels entries (i / 512) (i % 512)) i l

  -- .. and a place by its block.
  pub file_at : (b o : ℕ) → b < blocks v s.d → o < 512
      → place (file_of v s labels entries) (512 * b + o) ≡ block_byte v s labels entries b o
  file_at b o l lo = file_place (512 * b + o) (place_inside b o (blocks v s.d) l lo)
      ∙ ap₂ (block_byte v s labels entries) (place_block b o lo) (place_offset b o lo)

-- Version 1: entries of 2 bytes, records of 25, 20 of them a block.
pub width_1 : width 1 ≡ 2
width_1 = refl

pub size_1 : size 1 ≡ 25
size_1 = refl

pub records_1 : records 1 ≡ 20
records_1 = refl

pub blocks_two : (d : ℕ) → 1 ≤ d → d ≤ 20 → blocks 1 d ≡ 2
blocks_two d l u = omega arith

pub blocks_three : (d : ℕ) → 21 ≤ d → d ≤ 32 → blocks 1 d ≡ 3
blocks_three d l u = omega arith
