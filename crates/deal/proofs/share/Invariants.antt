-- `deal::share` meets its contract. The loop's invariant: the products of the places so far are added up modulo p; it starts at turn 1,
-- the first product being the secret's. Assumes nothing.
use Rattle.std.proofs.Common.{◌∷◌, ◌+◌, ◌*◌, length}
use Rattle.linear.specs.Flat.{place, entry}
use Rattle.linear.proofs.Summing.{Summing}
use Rattle.deal.proofs.share.Given as goal

abbrev pub invariant-loop-x : goal.invariant-loop-x
invariant-loop-x l =
    Summing l.scheme.shape.p l.scheme.shape.e (λ i. entry l.scheme.shape.e l.scheme.entries.now l.k i * place (l.secret ∷ l.randoms) i) l.acc (length l.yielded + 1)
