-- Parts of a line and of its numbers.
-- Assumes nothing.
use Rattle.std.proofs.Common.{◌≡◌, sym, ap, ◌∙◌, List, ℕ, ◌+◌, ◌-◌, ◌≤◌, length}
use native.Mathlib.Nat.{zero-add}
use native.Mathlib.Omega.{arith}
use lib.ListN.{take, drop, length-drop, drop_of_length-le}
use lib.Seq.{take_all, take-length, drop-length}
use Rattle.requests.specs.Text.{index_of}

-- A byte looked for in all of a line.
pub in_line : (line : List ℕ) (byte r : ℕ) → r ≡ 0 + index_of byte (take (length line) line) → r ≡ index_of byte line
in_line line byte r e = e ∙ zero-add _ ∙ ap (index_of byte) (take-length line)

-- The empty part at the end, where a place is past the end.
pub nothing_left : (k : ℕ) (xs : List ℕ) → length xs ≤ k → take (length xs - length xs) (drop (length xs) xs) ≡ drop k xs
nothing_left k xs h = take_all _ (drop (length xs) xs) (omega (arith, length-drop (length xs) xs)) ∙ drop-length xs ∙ sym (drop_of_length-le xs h)
