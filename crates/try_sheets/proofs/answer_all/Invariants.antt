-- `try_sheets::answer_all`: each answer moves on.
use Rattle.std.proofs.Common.{length}
use Rattle.try_sheets.proofs.answer_all.Given as goal

abbrev pub decreases-loop-rest : goal.decreases-loop-rest
decreases-loop-rest g l = length l.rest
