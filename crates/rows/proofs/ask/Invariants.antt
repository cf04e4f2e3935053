-- `rows::ask` meets its contract. The loop keeps `Going` (specs/State.antt): the table is that of the rows gone through, and r holds the
-- opening vector once the target has turned up.
-- Assumes nothing.
use Prim.Native.Nat.{◌-◌}
use Rattle.rows.specs.State.{Going}
use Rattle.linear.specs.Bits.{bit}
use Rattle.linear.specs.Flat.{entry}
use Rattle.rows.proofs.ask.Given as goal

abbrev pub invariant-loop-k : goal.invariant-loop-k
invariant-loop-k l = Going l.f.m.p (l.e - 1) l.d (entry l.e l.entries)
    (bit l.chosen) l.k l.s l.t l.initial.r l.opens l.r
