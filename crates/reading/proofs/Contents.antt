-- A block's content: its length, and its bytes as bytes of the file.
-- Assumes nothing.
use mathlib.Core.Path.{◌≡◌, ap, ◌∙◌}
use mathlib.Core.Bool.{Bool, ◌||◌}
use mathlib.Core.List.{List}
use Prim.Native.Nat.{ℕ, ◌+◌, ◌*◌, ◌-◌, ◌<◌, ◌≤◌}
use native.Mathlib.Omega.{arith}
use lib.Dec.{eqb}
use lib.ListN.{length, take, drop, length-take, length-drop}
use lib.Seq.{get_or-take, get_or-drop}
use Rattle.linear.specs.Flat.{place}
use Rattle.format.specs.Format.{used}
use Rattle.format.specs.Reading.{all_below, byte_at, zeros_right_lem}
use Rattle.reading.specs.Parts.{content_of}
use Rattle.reading.proofs.Tests.{all_same}

-- The part of the file from place a to place z.
pub content_part : (file : List ℕ) (b a z : ℕ) → a ≡ 512 * b + 8 → z ≡ a + 500 → take (z - a) (drop a file) ≡ content_of file b
unfolding content_of
content_part file b a z e f =
    let q : z - a ≡ 500 = omega arith in
    rw (q, e)

module _ (file : List ℕ) (b : ℕ) where
  pub content_length : 512 * b + 512 ≤ length file → length (content_of file b) ≡ 500
  unfolding content_of
  content_length h = simp (length-take, length-drop) (omega arith)

  pub content_at : (j : ℕ) → j < 500 → place (content_of file b) j ≡ byte_at 1 file b (8 + j)
  unfolding content_of
  content_at j h =
      let q : 512 * b + 8 + j ≡ 512 * b + (8 + j) = omega arith in
      get_or-take 500 (drop (512 * b + 8) file) j 0 h ∙ get_or-drop (512 * b + 8) file j 0 ∙ ap (place file) q

  -- What is found of a block's content is found of the block.
  pub zeros_content : (d e : ℕ) (r : Bool) (c : List ℕ) → c ≡ content_of file b
      → r ≡ all_below 500 (λ j. used 1 d e b j || eqb (place c j) 0) → r ≡ zeros_right_lem 1 file d e b
  zeros_content d e r c q t = t ∙ all_same 500
      (λ j. used 1 d e b j || eqb (place c j) 0)
      (λ j. used 1 d e b j || eqb (byte_at 1 file b (8 + j)) 0)
      (λ j l. ap (λ (x : ℕ). used 1 d e b j || eqb x 0) (ap (λ l. place l j) q ∙ content_at j l))
