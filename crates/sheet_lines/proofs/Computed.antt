-- The line of a set computed: each set of a valid scheme has one.
-- Assumes nothing.
use mathlib.Core.Path.{refl}
use mathlib.Core.Bool.{Bool, true, false}
use mathlib.Core.List.{List, [], ◌++◌}
use Prim.Native.Nat.{ℕ, zero, suc, ◌+◌}
use Rattle.linear.specs.Flat.{entry}
use Rattle.linear.proofs.Decided.{decided, Told, decided_told}
use Rattle.scheme.specs.declared.Shape.{Shape}
use Rattle.scheme.specs.Sets.{of_set}
use Rattle.scheme.proofs.Refusals.{Valid}
use Rattle.sheet_lines.specs.Texts.{set_text}
use Rattle.sheet_lines.specs.Lines.{Shows, IsLine, IsLines}

module _ (s : Shape) (labels entries : List ℕ) (v : Valid s labels entries) where
  abbrev answer : ℕ → Bool × List ℕ
  answer set = decided s.p v.prime s.d s.e (entry s.e entries) (of_set set labels)

  told_shows : (set : ℕ) (opens : Bool) (vector : List ℕ)
      → Told s.p s.d s.e (entry s.e entries) (of_set set labels) opens vector
      → Shows s labels entries set opens vector
  told_shows set true vector h = h
  told_shows set false vector h = h

  abbrev pub line_of : ℕ → List ℕ
  line_of set = set_text s.p set (answer set).0 (answer set).1

  pub line_is : (set : ℕ) → IsLine s labels entries set (line_of set)
  line_is set = record {
    opens = (answer set).0;
    vector = (answer set).1;
    shows = told_shows set (answer set).0 (answer set).1
        (decided_told s.p v.prime s.d s.e v.e_low (entry s.e entries) (of_set set labels));
    says = refl;
  }

  abbrev pub lines_of : ℕ → ℕ → List ℕ
  lines_of first zero = []
  lines_of first (suc count) = lines_of first count ++ line_of (first + count)

  pub lines_are : (first count : ℕ) → IsLines s labels entries first count (lines_of first count)
  lines_are first zero = refl
  lines_are first (suc count) = (lines_of first count, line_of (first + count), lines_are first count, line_is (first + count), refl)
