-- `sheet_lines::put_vector` meets its contract: after i turns the texts of the first i numbers stand there, of 7 bytes at most each.
-- Assumes nothing.
use mathlib.Core.Path.{refl}
use Rattle.sheet_lines.proofs.Texts.{vector_start, vector_turn, vector_end}
use native.Mathlib.Omega.{arith}
use Rattle.sheet_lines.proofs.put_vector.Goals as goal

pub loop-v-init : goal.loop-v-init
loop-v-init c =
    let a = c.args in
    (omega arith, refl, vector_start a.out.now a.at a.p a.vector.now)

pub loop-v-preserved : goal.loop-v-preserved
loop-v-preserved c =
    let a = c.args in
    let l = c.loop-v in
    let t = c.put_text-end in
    let r = c.put_residue-end in (
      omega (arith, l.invariant.0, t.ensures.0, r.ensures.room),
      omega (arith, l.invariant.1, t.auto.out, r.auto.out),
      vector_turn a.out.now a.at a.p a.vector.now l.v-index
          c.loop-v-test.true l.invariant.2 t.ensures
          r.ensures.put,
    )

pub returns : goal.returns
returns c =
    let a = c.args in
    let l = c.loop-v in
    record {
      put = vector_end a.out.now a.at a.p a.vector.now l.v-index (omega arith) l.invariant.2;
      room = omega (arith, l.invariant.0);
    }
