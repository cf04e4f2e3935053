-- `reader::refusal` meets its contract.
-- Assumes nothing.
use native.Mathlib.Omega.{arith}
use Rattle.std.proofs.lemmas.Bool.{not_from_true, not_from_false}
use Rattle.scheme.proofs.Tests.{failed, passed}
use Rattle.reader.proofs.Refused.{no_rule, above_n, joins_few, many_rows, many_columns, nothing}
use Rattle.reader.proofs.refusal.Goals as goal

pub returns-then-not-is_rule : goal.returns-then-not-is_rule
returns-then-not-is_rule c = no_rule _ _ c.is_rule.ensures c.if-not-is_rule.true

pub returns-then-not-named : goal.returns-then-not-named
returns-then-not-named c =
    above_n _ _ c.is_rule.ensures c.if-not-is_rule.false
    (failed c.named.ensures (not_from_false _ c.if-not-named.true))

pub overflow_add-ands : goal.overflow_add-ands
overflow_add-ands c =
    let few = joins_few _ c.is_rule.ensures c.if-not-is_rule.false
    c.occurrences-ands.ensures c.occurrences-ors.ensures in
    record { fits = omega arith }

pub returns-then-ands-ors-gt31 : goal.returns-then-ands-ors-gt31
returns-then-ands-ors-gt31 c =
    many_rows _ _ c.is_rule.ensures c.if-not-is_rule.false
    c.occurrences-ands.ensures c.occurrences-ors.ensures
    (passed c.named.ensures (not_from_true _ c.if-not-named.false)) (omega arith)

pub returns-then-ands-gt11 : goal.returns-then-ands-gt11
returns-then-ands-gt11 c =
    many_columns _ _ c.is_rule.ensures c.if-not-is_rule.false
    c.occurrences-ands.ensures c.occurrences-ors.ensures
    (passed c.named.ensures (not_from_true _ c.if-not-named.false)) (omega arith) c.if-ands-gt11.true

pub returns : goal.returns
returns c =
    nothing _ _ c.is_rule.ensures c.if-not-is_rule.false
    c.occurrences-ands.ensures c.occurrences-ors.ensures
    (passed c.named.ensures (not_from_true _ c.if-not-named.false)) (omega arith) c.if-ands-gt11.false
