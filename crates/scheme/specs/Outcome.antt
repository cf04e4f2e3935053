-- What a lent list holds after a call.
-- Assumes nothing.
use Rattle.std.specs.Prelude.{List, ◌++◌, ℕ, length, drop, Result, Ok, Err}
use Rattle.scheme.specs.declared.Refusal.{Refusal}

-- "A refusal returns its number only and no lent list is altered."
abbrev pub left_at : Result Unit Refusal → List ℕ → List ℕ → List ℕ
left_at (Ok u) old new = new
left_at (Err k) old new = old

-- "writes the first d and d times e, leaves the other places unchanged": new numbers over the first places of old,
-- which is never shorter than new.
abbrev pub over : List ℕ → List ℕ → List ℕ
over new old = new ++ drop (length new) old
