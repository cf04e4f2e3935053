-- `reader::named` meets its contract. The loop's invariant: what is left, after the number that is written so far, gives the answer.
-- Assumes nothing.
use Rattle.std.proofs.Common.{◌≡◌, ◌≤◌, drop}
use Rattle.reader.specs.Scan.{up_to}
use Rattle.reader.proofs.named.Given as goal

abbrev pub invariant-loop-b : goal.invariant-loop-b
invariant-loop-b l = (l.v ≤ l.n) × (up_to l.n l.v (drop l.b-index l.text) ≡ up_to l.n 0 l.text)
