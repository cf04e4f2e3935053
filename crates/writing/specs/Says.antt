-- What writing a scheme file answers and leaves, for every input.
-- Assumes nothing.
use Rattle.std.specs.Prelude.{◌≡◌, List, ℕ, length, Result}
use Rattle.scheme.specs.declared.Shape.{Shape}
use Rattle.scheme.specs.declared.Refusal.{Refusal}
use Rattle.scheme.specs.Outcome.{left_at}
use Rattle.format.specs.Format.{file_of}
use Rattle.format.specs.Writing.{write_refusal_lem}

-- file is the lent list before the call, file' after it: the file of the scheme, or what it was where the call is refused.
pub record WriteSays (s : Shape) (labels entries file : List ℕ) (a : Result Unit Refusal) (file' : List ℕ) : Type 0 where
  pub answer : a ≡ write_refusal_lem 1 s labels entries (length file)
  pub left : file' ≡ left_at (write_refusal_lem 1 s labels entries (length file)) file (file_of 1 s labels entries)
