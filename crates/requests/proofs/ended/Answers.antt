-- `requests::ended` stores the number that ends, or says that the text is bad: it has no digit, or there is no place for it.
use Rattle.std.proofs.Common.{ap, refl, true, is_some}
use Rattle.requests.proofs.Steps.{no_digits, no_place, stored}
use Rattle.requests.proofs.ended.Goals as goal

pub returns-in_err-number : goal.returns-in_err-number
returns-in_err-number c = λ text ys more s. no_digits text _ _ _ ys _ more s (ap is_some c.in_err-number.was) _ c.from_residual.ensures

pub returns-then-out-count : goal.returns-then-out-count
returns-then-out-count c = λ text ys more s. no_place text _ _ _ ys _ more s c.if-out-count.true

pub returns : goal.returns
returns c = λ text ys more s. stored text _ _ _ ys true more (rw c.in_ok-number.was at s) refl c.if-out-count.false
