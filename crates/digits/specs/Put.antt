-- A text written over some places of a list of bytes: what the steps that print leave.
-- Assumes nothing.
use Rattle.std.specs.Prelude.{◌≡◌, List, ℕ, ◌+◌, length}
use Rattle.std.proofs.lemmas.List.Edits.{sets}

-- The text stands from place `at` on, every other place is as it was, and `end` is the place after the text.
abbrev pub Put : List ℕ → ℕ → List ℕ → ℕ → List ℕ → Type 0
Put before at text end after = (end ≡ at + length text) × (after ≡ sets before at text)

-- The same for some text that `Is` holds of.
pub record PutSome (Is : List ℕ → Type 0) (before : List ℕ) (at end : ℕ) (after : List ℕ) : Type 0 where
  pub text : List ℕ
  pub is : Is text
  pub put : Put before at text end after
