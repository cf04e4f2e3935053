-- `combination::up` meets its contract. The loop's invariant is the contract for the first k vectors (`up_turn` of linear's
-- proofs/Dual.antt is its turn). Assumes nothing.
use Rattle.combination.specs.Steps.{Raised}
use Rattle.combination.proofs.up.Given as goal

abbrev pub invariant-loop-k : goal.invariant-loop-k
invariant-loop-k l = Raised l.modulus.p l.m l.n l.vectors l.duals l.initial.u l.u l.k
