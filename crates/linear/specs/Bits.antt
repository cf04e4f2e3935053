-- A number as marks: place k, counted from 0, is marked when bit k is one.
-- Assumes nothing.
use Rattle.std.specs.Prelude.{Bool, ℕ, ◌/◌, ◌%◌, ◌^◌, eqb}

abbrev pub bit : ℕ → ℕ → Bool
bit number k = eqb ((number / 2 ^ k) % 2) 1
