-- `lines::pivot_marks` meets its contract: the loop has marked the pivots of the lines before and nothing else.
-- Assumes nothing.
use Rattle.std.proofs.Common.{◌≡◌, length}
use Rattle.lines.specs.Line.{PivotMarks}
use Rattle.lines.proofs.pivot_marks.Given as goal

abbrev pub invariant-loop-line : goal.invariant-loop-line
invariant-loop-line l = (length l.marks ≡ 12) × PivotMarks l.t l.line-index l.marks
