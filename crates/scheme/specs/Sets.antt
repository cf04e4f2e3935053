-- Document 01, "A scheme": sets and their rows.
-- Assumes nothing.
use Rattle.std.specs.Prelude.{Bool, List, ℕ, ◌-◌}
use Rattle.linear.specs.Bits.{bit}
use Rattle.linear.specs.Flat.{place}

-- "A set is a number: participant i is in it when bit i - 1 is one." Participants are counted from 1; labels of a checked scheme are.
abbrev pub in_set : ℕ → ℕ → Bool
in_set set i = bit set (i - 1)

-- "The set's rows are those whose label is in it, in rising order." Row k, counted from 0, is one of them.
abbrev pub of_set : ℕ → List ℕ → ℕ → Bool
of_set set labels k = in_set set (place labels k)
