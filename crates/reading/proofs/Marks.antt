-- The mark, kind, version and number of a block, tried one after another.
-- Assumes nothing.
use mathlib.Core.Path.{◌≡◌, sym, ap, ◌∙◌}
use mathlib.Core.Bool.{Bool, true, false}
use mathlib.Core.List.{List}
use Prim.Native.Nat.{ℕ, ◌+◌, ◌*◌}
use lib.Dec.{eqb}
use borrow.Author.Tests.{eq-eqb, ne_eqb}
use Rattle.linear.specs.Flat.{place}
use Rattle.format.specs.Format.{number_of, mark, kind_of}
use Rattle.format.specs.Reading.{all_below, byte_at, marks_right_lem}
use Rattle.reading.proofs.Numbers.{number_shift}

module _ (file : List ℕ) (b : ℕ) where
  abbrev pub marked : Bool
  marked = all_below 4 (λ o. eqb (byte_at 1 file b o) (place mark o))

  pub mark_wrong : marked ≡ false → false ≡ marks_right_lem 1 file b
  mark_wrong m = simp m

  pub kind_wrong : (kind : ℕ) → marked ≡ true → kind ≡ kind_of b → (byte_at 1 file b 4 ≡ kind → ⊥) → false ≡ marks_right_lem 1 file b
  kind_wrong kind m q n = simp (m, ne_eqb (byte_at 1 file b 4) (kind_of b) (λ e. n (e ∙ sym q)))

  pub version_wrong : (kind : ℕ) → marked ≡ true → kind ≡ kind_of b → byte_at 1 file b 4 ≡ kind → (byte_at 1 file b 5 ≡ 1 → ⊥)
      → false ≡ marks_right_lem 1 file b
  version_wrong kind m q k n = simp (m, eq-eqb (byte_at 1 file b 4) (kind_of b) (k ∙ q), ne_eqb (byte_at 1 file b 5) 1 n)

  pub number_last : (kind number : ℕ) → marked ≡ true → kind ≡ kind_of b → byte_at 1 file b 4 ≡ kind → byte_at 1 file b 5 ≡ 1
      → number ≡ number_of 2 (λ k. place file (512 * b + 6 + k)) → eqb number b ≡ marks_right_lem 1 file b
  number_last kind number m q k v e =
      ap (λ (n : ℕ). eqb n b) (e ∙ number_shift 2 file (512 * b) 6)
      ∙ simp (m, eq-eqb (byte_at 1 file b 4) (kind_of b) (k ∙ q), eq-eqb (byte_at 1 file b 5) 1 v)
