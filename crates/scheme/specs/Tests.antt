-- Tests of numbers and lists, and the first refusal of several.
-- Assumes nothing.
use Rattle.std.specs.Prelude.{Bool, true, false, ◌&&◌, List, ℕ, leb, ltb, Result, Ok, Err}
use Rattle.std.specs.List.{list_all}
use Rattle.scheme.specs.declared.Refusal.{Refusal}

-- x is from lo to hi.
abbrev pub within : ℕ → ℕ → ℕ → Bool
within lo hi x = leb lo x && leb x hi

-- The test holds of each number of the list.
abbrev pub each : (ℕ → Bool) → List ℕ → Bool
each test xs = list_all test xs

-- Each number is below p.
abbrev pub each_below : ℕ → List ℕ → Bool
each_below p xs = each (λ x. ltb x p) xs

-- The refusal k where the test fails.
abbrev pub unless : Bool → Refusal → Result Unit Refusal
unless true k = Ok tt
unless false k = Err k

-- The first refusal; where it is none, the second.
abbrev pub or_else : Result Unit Refusal → Result Unit Refusal → Result Unit Refusal
or_else (Ok u) second = second
or_else (Err k) second = Err k

-- What an answer refuses.
abbrev pub refused : {A : Type 0} → Result A Refusal → Result Unit Refusal
refused (Ok a) = Ok tt
refused (Err k) = Err k
