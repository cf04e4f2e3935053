-- `combination::make_duals` meets its contract. The loop's invariant: the first k duals are made. Assumes nothing.
use Rattle.combination.specs.Steps.{Made}
use Rattle.combination.proofs.make_duals.Given as goal

abbrev pub invariant-loop-k : goal.invariant-loop-k
invariant-loop-k l = Made l.field.m.p l.k l.n l.vectors l.duals l.initial.duals l.initial.c l.t l.u l.c
