-- The parts of a list of numbers: a number; a list, which is its length and then its numbers. One place past the end: not all there.
-- Assumes nothing.
use Rattle.std.specs.Prelude.{Bool, true, false, List, ℕ, ◌+◌, ltb, length, take, drop, get_or}

-- The place k, where the numbers up to it are there; else one place past the end.
abbrev pub within : List ℕ → Bool → ℕ → ℕ
within xs true k = k
within xs false k = length xs + 1

-- The place after the number at a place.
abbrev pub past_number_lem : List ℕ → ℕ → ℕ
past_number_lem xs at = within xs (ltb at (length xs)) (at + 1)

-- The place after the list at a place.
abbrev pub past_list_lem : List ℕ → ℕ → ℕ
past_list_lem xs at = within xs (ltb (at + get_or xs at 0) (length xs)) (at + 1 + get_or xs at 0)

-- The list at a place.
abbrev pub list_at_lem : List ℕ → ℕ → List ℕ
list_at_lem xs at = take (get_or xs at 0) (drop (at + 1) xs)
