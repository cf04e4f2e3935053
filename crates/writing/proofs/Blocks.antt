-- A block from its two parts, and a file from its blocks.
-- Assumes nothing.
use mathlib.Core.Path.{◌≡◌, refl, sym, ap, ap₂, subst, ◌∙◌}
use mathlib.Core.List.{List}
use Prim.Native.Nat.{ℕ, ◌<◌, ◌≤◌, ◌+◌, ◌*◌, ◌/◌, ◌%◌}
use native.Mathlib.Omega.{arith}
use lib.ListN.{length}
use Rattle.lists.proofs.Fill.{Filled}
use Rattle.linear.proofs.Flat.{filled_list}
use Rattle.scheme.specs.declared.Shape.{Shape}
use Rattle.format.specs.Format.{byte_of_lem, blocks, front_byte_lem, block_byte, file_of}
use Rattle.format.proofs.Places.{place_block, place_offset}
use Rattle.format.proofs.Written.{block_front}
use Rattle.writing.specs.Steps.{weight_of}
use Rattle.writing.proofs.Filling.{fill_more, fill_wider}
use Rattle.writing.proofs.Checking.{check_bytes}

module _ (s : Shape) (labels entries : List ℕ) where
  pub block_whole : (b check : ℕ) (a₀ a a' : List ℕ) → check ≡ weight_of 508 (front_byte_lem 1 s labels entries b)
      → Filled (512 * b) 508 (front_byte_lem 1 s labels entries b) a₀ a 508 → Filled (512 * b + 508) 4 (byte_of_lem check) a a' 4
      → Filled (512 * b) 512 (block_byte 1 s labels entries b) a₀ a' 512
  block_whole b check a₀ a a' e front last =
      fill_more (512 * b) 512 (block_byte 1 s labels entries b) a₀ a a' 508 (512 * b + 508) 4 (byte_of_lem check)
      (fill_wider (512 * b) 508 512 (front_byte_lem 1 s labels entries b) (block_byte 1 s labels entries b) a₀ a 508 front (omega arith)
      (λ k l. sym (block_front 1 s labels entries b k l)))
      last refl (omega arith) (λ k l. ap (λ (x : ℕ). byte_of_lem x k) e ∙ check_bytes s labels entries b k)

  -- The first b blocks of the file are written.
  abbrev pub BlocksWritten : List ℕ → List ℕ → ℕ → Type 0
  BlocksWritten a₀ a b = Filled 0 (512 * blocks 1 s.d) (λ i. block_byte 1 s labels entries (i / 512) (i % 512)) a₀ a (512 * b)

  pub blocks_turn : (a₀ a a' : List ℕ) (b : ℕ) → BlocksWritten a₀ a b → b < blocks 1 s.d
      → Filled (512 * b) 512 (block_byte 1 s labels entries b) a a' 512 → BlocksWritten a₀ a' (b + 1)
  blocks_turn a₀ a a' b h l next =
      let e : 512 * b + 512 ≡ 512 * (b + 1) = omega arith in
      subst (Filled 0 (512 * blocks 1 s.d) (λ i. block_byte 1 s labels entries (i / 512) (i % 512)) a₀ a') e
      (fill_more 0 (512 * blocks 1 s.d) (λ i. block_byte 1 s labels entries (i / 512) (i % 512)) a₀ a a' (512 * b) (512 * b) 512
      (block_byte 1 s labels entries b) h next (omega arith) (omega arith)
      (λ k u. sym (ap₂ (block_byte 1 s labels entries) (place_block b k u) (place_offset b k u))))

  pub blocks_all : (a₀ a : List ℕ) (b : ℕ) → BlocksWritten a₀ a b → length a₀ ≡ 512 * blocks 1 s.d → blocks 1 s.d ≤ b
      → a ≡ file_of 1 s labels entries
  unfolding file_of
  blocks_all a₀ a b h q l = filled_list _ _ a₀ a (512 * b) h (omega arith) q
