-- `combination::down` meets its contract. The loop's invariant is the contract for the vectors from k on (`down_turn` of linear's
-- proofs/Dual.antt is its turn); k falls to 0. Assumes nothing.
use Rattle.combination.specs.Steps.{Downed}
use Rattle.combination.proofs.down.Given as goal

abbrev pub invariant-loop-k : goal.invariant-loop-k
invariant-loop-k l = Downed l.modulus.p l.m l.n l.vectors l.duals l.initial.t l.initial.c l.t l.c l.k
