-- `sheet_lines::put_vector` meets its contract: after i turns the texts of the first i numbers stand there, of 7 bytes at most each.
-- Assumes nothing.
use mathlib.Core.Path.{◌≡◌}
use Rattle.sheet_lines.specs.Texts.{vector_text}
use Rattle.digits.specs.Put.{Put}
use lib.ListN.{length, take}
use Prim.Native.Nat.{◌+◌, ◌*◌, ◌≤◌}
use Rattle.sheet_lines.proofs.put_vector.Given as goal

abbrev pub invariant-loop-v : goal.invariant-loop-v
invariant-loop-v l =
    (l.end ≤ l.at + 7 * l.v-index) × (length l.out ≡ length l.initial.out) × Put l.initial.out l.at (vector_text l.p (take l.v-index l.vector)) l.end l.out
