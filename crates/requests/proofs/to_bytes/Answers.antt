-- `requests::to_bytes` meets its contract: what is copied are bytes, and in the end they stand over the first places.
use Rattle.std.proofs.Common.{sym, refl, arith, rules}
use Rattle.lists.proofs.Fill.{fill_start, fill_turn}
use Rattle.scheme.proofs.Refusals.{below_at}
use Rattle.requests.proofs.Bytes.{bytes, copied}
use Rattle.requests.proofs.to_bytes.Goals as goal

pub loop-i-init : goal.loop-i-init
loop-i-init c = fill_start _ _ _ _

pub overflow_cast-out : goal.overflow_cast-out
overflow_cast-out c = search (rules, below_at 256 c.args.xs.now (omega arith) (sym c.if-not-all_below.ensures) c.loop-i.i)

pub loop-i-preserved : goal.loop-i-preserved
loop-i-preserved c =
    fill_turn _ _ _ _ _ _ _ _ c.loop-i.invariant (omega arith) (omega (arith, c.if-out-xs.false)) (omega arith) refl

pub returns : goal.returns
returns c =
    bytes c.args.xs.now _ _ (sym c.if-not-all_below.ensures) c.if-out-xs.false
    (copied c.args.xs.now _ _ _ c.loop-i.invariant c.loop-i-test.false c.if-out-xs.false)
