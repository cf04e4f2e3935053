-- Document 01, "Scheme files" and "Refusal numbers": writing.
-- Assumes nothing.
use Rattle.std.specs.Prelude.{List, ℕ, ◌*◌, eqb, Result, Ok}
use Rattle.scheme.specs.declared.Shape.{Shape}
use Rattle.scheme.specs.declared.Refusal.{Refusal}
use Rattle.scheme.specs.Refusal.{refusal_of}
use Rattle.format.specs.Format.{blocks}

-- Refusals 1 to 7, where the list lent for the file has so many places. "A file is written to 512 bytes a block, exactly as many as
-- needed."
abbrev pub write_refusal_lem : ℕ → Shape → List ℕ → List ℕ → ℕ → Result Unit Refusal
write_refusal_lem v s labels entries places = refusal_of s labels entries (eqb places (512 * blocks v s.d)) (Ok tt)
