-- The loop that adds the check of a block up, and the check that the block holds.
-- Assumes nothing.
use mathlib.Core.Path.{◌≡◌, ap, ap₂, ◌∙◌}
use mathlib.Core.List.{List}
use Prim.Native.Nat.{ℕ, ◌+◌, ◌*◌, ◌≤◌}
use Rattle.std.proofs.Common.{arith, length, take, drop}
use Rattle.std.proofs.lemmas.List.{length-take, length-drop, get_or-take, get_or-drop}
use Rattle.linear.proofs.Carry.{total_cong}
use native.Mathlib.Numerals.{add-one}
use lib.Dec.{eqb}
use Rattle.linear.specs.Combination.{total}
use Rattle.linear.specs.Flat.{place}
use Rattle.format.specs.Format.{number_of}
use Rattle.format.specs.Reading.{byte_at, check_right_lem}
use Rattle.reading.specs.Parts.{check_sum_lem}
use Rattle.reading.proofs.Numbers.{number_shift}

pub sum_go : (f : ℕ → ℕ) (sum o x : ℕ) → sum ≡ total o f → x ≡ f o → sum + x ≡ total (o + 1) f
sum_go f sum o x e q = rw (add-one o) (ap₂ ◌+◌ e q)

module _ (file : List ℕ) (b : ℕ) where
  -- The bytes are those of the file from the block's first on, n of them.
  pub sum_end : (sum o n : ℕ) → 512 * b + 512 ≤ length file → n ≡ 508
      → sum ≡ total o (λ k. place (take n (drop (512 * b) file)) k * (k + 1)) → length (take n (drop (512 * b) file)) ≤ o
      → o ≤ length (take n (drop (512 * b) file)) → sum ≡ check_sum_lem file b
  unfolding check_sum_lem
  sum_end sum o n fits q e low high =
      let bytes = take n (drop (512 * b) file) in
      let all : o ≡ 508 = omega (arith, length-take n (drop (512 * b) file), length-drop (512 * b) file) in
      e ∙ ap (λ (m : ℕ). total m (λ k. place bytes k * (k + 1))) all
      ∙ total_cong 508 (λ k. place bytes k * (k + 1)) (λ k. byte_at 1 file b k * (k + 1))
      (λ k l. ap (λ (x : ℕ). x * (k + 1)) (get_or-take n (drop (512 * b) file) k 0 (omega arith) ∙ get_or-drop (512 * b) file k 0))

  pub check_right_holds : (held sum : ℕ) → held ≡ number_of 4 (λ k. place file (512 * b + 508 + k)) → sum ≡ check_sum_lem file b
      → eqb held sum ≡ check_right_lem 1 file b
  unfolding check_sum_lem
  check_right_holds held sum e f = ap₂ eqb (e ∙ number_shift 4 file (512 * b) 508) f
