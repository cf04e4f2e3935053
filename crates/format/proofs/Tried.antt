-- The definitions tried: example L of document 01, and a check that is above 65535.
-- Assumes nothing.
use mathlib.Core.Path.{◌≡◌, refl}
use mathlib.Core.List.{List, [], ◌∷◌}
use Prim.Native.Nat.{ℕ}
use lib.ListN.{replicate}
use Rattle.scheme.specs.declared.Shape.{Shape}
use Rattle.format.specs.Format.{check_of_lem}

abbrev shape : Shape
shape = record { p = 17; n = 5; d = 5; e = 3 }

abbrev labels : List ℕ
labels = 1 ∷ 2 ∷ 3 ∷ 4 ∷ 5 ∷ []

abbrev entries : List ℕ
entries = 1 ∷ 1 ∷ 1 ∷ 1 ∷ 2 ∷ 4 ∷ 1 ∷ 3 ∷ 9 ∷ 1 ∷ 4 ∷ 16 ∷ 1 ∷ 5 ∷ 8 ∷ []

-- "The checks of S's two file blocks: 1122 and 6524."
pub heading_check : check_of_lem 1 shape labels entries 0 ≡ 1122
heading_check = refl

pub rows_check : check_of_lem 1 shape labels entries 1 ≡ 6524
rows_check = refl

-- "not reduced": one row of twelve entries 65520, p = 65521. The check is above 65535.
abbrev wide : Shape
wide = record { p = 65521; n = 1; d = 1; e = 12 }

pub check_not_reduced : check_of_lem 1 wide (1 ∷ []) (replicate 12 65520) 1 ≡ 128636
check_not_reduced = refl
