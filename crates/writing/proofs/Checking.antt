-- A block's check as the loop adds it up, byte by byte.
-- Assumes nothing.
use mathlib.Core.Path.{◌≡◌, refl, sym, ap, ap₂, subst⁻¹, ◌∙◌}
use mathlib.Core.List.{List}
use Prim.Native.Nat.{ℕ, ◌<◌, ◌+◌, ◌*◌, ◌^◌}
use native.Mathlib.Numerals.{add-one}
use native.Mathlib.Omega.{arith}
use Rattle.scheme.specs.declared.Shape.{Shape}
use Rattle.format.specs.Format.{byte_of_lem, front_byte_lem, block_byte}
use Rattle.format.proofs.Below.{weighted_below}
use Rattle.format.proofs.Written.{block_check}
use Rattle.writing.specs.Steps.{weight_of}

pub weight_none : (f : ℕ → ℕ) → 0 ≡ weight_of 0 f
unfolding weight_of
weight_none f = refl

-- The sum of the first o bytes of a block, and what byte o, which is x, adds to it.
module _ (f : ℕ → ℕ) (sum o x r : ℕ) (h : sum ≡ weight_of o f) (e : x ≡ f o) (q : r ≡ x * (o + 1)) where
  pub weight_turn : sum + r ≡ weight_of (o + 1) f
  unfolding weight_of
  weight_turn = rw (add-one o) (ap₂ ◌+◌ h (q ∙ ap (λ (y : ℕ). y * (o + 1)) e))

  -- The sum of at most 508 bytes fits in four.
  pub weight_room : o < 508 → ((k : ℕ) → f k < 256) → sum + r < 2 ^ 32
  unfolding weight_of
  weight_room l below = subst⁻¹ (λ (n : ℕ). n < 2 ^ 32) weight_turn (weighted_below (o + 1) f (omega arith) below)

-- The check's bytes are the last four of the block.
pub check_bytes : (s : Shape) (labels entries : List ℕ) (b k : ℕ)
    → byte_of_lem (weight_of 508 (front_byte_lem 1 s labels entries b)) k ≡ block_byte 1 s labels entries b (508 + k)
unfolding weight_of
check_bytes s labels entries b k = sym (block_check 1 s labels entries b k)
