-- `sheet_lines::put_each` meets its contract: after i turns the lines of the first i sets stand there, of 256 bytes at most each.
-- Assumes nothing.
use Prim.Native.Nat.{◌*◌, ◌≤◌}
use Rattle.digits.specs.Put.{PutSome}
use Rattle.sheet_lines.specs.Lines.{IsLines}
use Rattle.sheet_lines.proofs.put_each.Given as goal

abbrev pub invariant-loop-i : goal.invariant-loop-i
invariant-loop-i l =
    (l.end ≤ 256 * l.i)
    × PutSome (IsLines l.scheme.shape l.scheme.labels.now l.scheme.entries.now l.first l.i) l.initial.out 0 l.end l.out
