-- `reading::mark_right` meets its contract: at each return the tests before it passed.
-- Assumes nothing.
use Rattle.scheme.proofs.Tests.{failed, passed}
use Rattle.reading.proofs.Marks.{mark_wrong, kind_wrong, version_wrong, number_last}
use Rattle.std.proofs.lemmas.Bool.{not_from_true, not_from_false}
use Rattle.reading.proofs.mark_right.Goals as goal

pub returns-then-not-same_at : goal.returns-then-not-same_at
returns-then-not-same_at c =
    let a = c.args in
    mark_wrong a.file.now a.b (failed c.same_at.ensures (not_from_false c.same_at.result c.if-not-same_at.true))

pub returns-then-file-at : goal.returns-then-file-at
returns-then-file-at c =
    let a = c.args in
    kind_wrong a.file.now a.b _ (passed c.same_at.ensures (not_from_true c.same_at.result c.if-not-same_at.false))
    c.kind.ensures c.if-file-at.true

pub returns-then-file-at-ne1 : goal.returns-then-file-at-ne1
returns-then-file-at-ne1 c =
    let a = c.args in
    version_wrong a.file.now a.b _ (passed c.same_at.ensures (not_from_true c.same_at.result c.if-not-same_at.false)) c.kind.ensures
    c.if-file-at.false c.if-file-at-ne1.true

pub returns : goal.returns
returns c =
    let a = c.args in
    number_last a.file.now a.b _ _ (passed c.same_at.ensures (not_from_true c.same_at.result c.if-not-same_at.false)) c.kind.ensures
    c.if-file-at.false c.if-file-at-ne1.false c.two_bytes-number.ensures.0
