-- Document 01, "The sheet": what its lines say of a scheme.
-- Assumes nothing.
use Rattle.std.specs.Prelude.{◌≡◌, Bool, true, false, List, [], ◌++◌, ℕ, zero, suc, ◌+◌, length}
use Rattle.linear.specs.Flat.{place}
use Rattle.scheme.specs.declared.Shape.{Shape}
use Rattle.scheme.specs.Open as Set
use Rattle.sheet_lines.specs.Texts.{set_text}

module _ (s : Shape) (labels entries : List ℕ) where
  -- True: the vector is r, of length d, so the set is open. False: it is z, of length e, so the set is closed.
  abbrev pub Shows : ℕ → Bool → List ℕ → Type 0
  Shows set true vector = Set.OpeningVector s labels entries set (place vector) × (length vector ≡ s.d)
  Shows set false vector = Set.Witness s labels entries set (place vector) × (length vector ≡ s.e)

  -- The line of a set.
  pub record IsLine (set : ℕ) (text : List ℕ) : Type 0 where
    pub opens : Bool
    pub vector : List ℕ
    pub shows : Shows set opens vector
    pub says : text ≡ set_text s.p set opens vector

  -- The lines of so many sets, from the set `first` on, one after another: those before the last, and the last.
  abbrev pub IsLines : ℕ → ℕ → List ℕ → Type 0
  IsLines first zero text = text ≡ []
  IsLines first (suc count) text =
      (before : List ℕ) × (last : List ℕ) × IsLines first count before × IsLine (first + count) last × (text ≡ before ++ last)
