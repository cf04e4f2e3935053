-- `reading::scheme_refusal` meets its contract: what each step requires, from the tests before it.
-- Assumes nothing.
use Rattle.std.proofs.Common.{sym, ◌∙◌}
use Rattle.std.proofs.lemmas.Bool.{not_from_true}
use Rattle.scheme.proofs.Tests.{passed}
use Rattle.reading.proofs.Order.{small, rest_blocks}
use Rattle.reading.proofs.scheme_refusal.Goals as goal

pub rest_right-requires : goal.rest_right-requires
rest_right-requires c =
    let q = small _ (sym c.numbers_refusal.ensures ∙ c.in_ok-numbers_refusal.was) in
    (q.d_high, q.e_high, c.requires.1)

pub labels_right-requires : goal.labels_right-requires
labels_right-requires c = (
  (small _ (sym c.numbers_refusal.ensures ∙ c.in_ok-numbers_refusal.was)).d_high,
  rest_blocks c.args.file.now c.heading-s.result (passed c.rest_right.ensures (not_from_true _ c.if-not-rest_right.false)),
)

pub entries_right-requires : goal.entries_right-requires
entries_right-requires c =
    let q = small _ (sym c.numbers_refusal.ensures ∙ c.in_ok-numbers_refusal.was) in
    (q.d_high, q.e_low, q.e_high, rest_blocks c.args.file.now c.heading-s.result (passed c.rest_right.ensures (not_from_true _ c.if-not-rest_right.false)))
