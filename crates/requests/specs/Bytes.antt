-- A list of numbers taken as bytes.
-- Assumes nothing.
use Rattle.std.specs.Prelude.{◌≡◌, Bool, ◌&&◌, cond, List, ℕ, leb, length}
use Rattle.scheme.specs.Tests.{each_below}
use Rattle.scheme.specs.Outcome.{over}

-- The numbers are bytes, and there are places for all.
abbrev pub are_bytes : List ℕ → ℕ → Bool
are_bytes xs places = leb (length xs) places && each_below 256 xs

-- What is said of a list, and what the places hold then: the bytes over the first of them, or what they held.
abbrev pub BytesSay : List ℕ → List ℕ → Bool → List ℕ → Type 0
BytesSay xs out r out' = (r ≡ are_bytes xs (length out)) × (out' ≡ cond r (over xs out) out)
