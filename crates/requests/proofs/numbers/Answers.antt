-- `requests::numbers` answers what a text says. What is stored and what the rest of the text goes on with are its numbers at each turn.
use Rattle.std.proofs.Common.{refl, arith}
use borrow.Author.Tests.{ne_eqb}
use Rattle.requests.specs.Text.{Stored}
use Rattle.requests.proofs.Steps.{read_digit, read_space, read_end, says, says_bad}
use Rattle.requests.proofs.numbers.Goals.{then-byte-eq-SPACE+in_ok-count, else-byte-eq-SPACE+in_ok-with_digit}
use Rattle.requests.proofs.numbers.Goals as goal

pub loop-byte-init : goal.loop-byte-init
unfolding Stored
loop-byte-init c = (refl, refl, omega arith)

pub returns-in_err-count : goal.returns-in_err-count
returns-in_err-count c =
    let l = c.loop-byte in
    says_bad _ _ _ _ _ _ c.in_err-count.was c.from_residual.ensures
    (c.ended.ensures _ _ _ (read_space _ _ _ _ l.value l.invariant c.loop-byte-test.true c.if-byte-eq-SPACE.true))

pub returns-in_err-with_digit : goal.returns-in_err-with_digit
returns-in_err-with_digit c =
    let l = c.loop-byte in
    let other = ne_eqb _ 32 c.if-byte-eq-SPACE.false in
    let bad = rw c.in_err-with_digit.was at (read_digit _ _ _ _ l.value l.invariant c.loop-byte-test.true other _ c.with_digit.ensures) in
    rw c.from_residual-in_err-with_digit.ensures bad

pub loop-byte-preserved : goal.loop-byte-preserved
loop-byte-preserved c =
    let l = c.loop-byte in
    elim c.if-byte-eq-SPACE.branch [
      | then-byte-eq-SPACE+in_ok-count w ↦
          let s = read_space _ _ _ _ l.value l.invariant c.loop-byte-test.true w.if-byte-eq-SPACE.true in
          rw (w.out-is, w.count-is, w.value-is) (w.in_ok-count.ensures _ _ _ s)
      | else-byte-eq-SPACE+in_ok-with_digit w ↦
          let other = ne_eqb _ 32 w.if-byte-eq-SPACE.false in
          let s = read_digit _ _ _ _ l.value l.invariant c.loop-byte-test.true other _ w.with_digit.ensures in
          rw (w.out-is, w.count-is, w.value-is) (rw w.in_ok-with_digit.was at s)
    ]

pub returns : goal.returns
returns c =
    says _ _ _ (c.ended-2.ensures _ _ _ (read_end _ _ _ _ c.loop-byte.value c.loop-byte.invariant c.loop-byte-test.false))
