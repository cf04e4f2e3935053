-- The numbers of a text, byte by byte. No public contract cites this file.
-- Assumes nothing.
use Rattle.std.specs.Prelude.{Bool, true, cond, ◌&&◌, List, [], ◌∷◌, ℕ, ◌+◌, ◌-◌, ◌*◌, leb}
use Rattle.scheme.specs.Tests.{within}

-- The number that is written so far, one byte further: 0 where that byte is no digit.
abbrev pub further : ℕ → ℕ → ℕ
further v b = cond (within 48 57 b) (v * 10 + (b - 48)) 0

-- Each number of the text is at most n; v is the number that is written so far. The front part of a number is no larger than the number.
unfoldable pub up_to : ℕ → ℕ → List ℕ → Bool
up_to n v [] = true
up_to n v (b ∷ text) = leb (further v b) n && up_to n (further v b) text
