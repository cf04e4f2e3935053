-- `reader::named` meets its contract.
-- Assumes nothing.
use native.Mathlib.Omega.{arith}
use Rattle.reader.proofs.Passes.{up_to_stop, up_to_go, up_to_end}
use Rattle.reader.proofs.named.Goals as goal

pub returns-then-v-most : goal.returns-then-v-most
returns-then-v-most c =
    let l = c.loop-b in
    up_to_stop _ _ l.b-index l.v _ l.invariant.1 (omega arith) c.read_on-v.ensures (omega arith)

pub loop-b-preserved : goal.loop-b-preserved
loop-b-preserved c =
    let l = c.loop-b in
    (omega arith, up_to_go _ _ l.b-index l.v _ l.invariant.1 (omega arith) c.read_on-v.ensures (omega arith))

pub returns : goal.returns
returns c = let l = c.loop-b in up_to_end _ _ l.b-index l.v l.invariant.1 (omega arith)
