-- `requests::to_bytes` meets its contract. The loop's invariant: the first i numbers are copied.
use Rattle.std.proofs.Common.{length}
use Rattle.lists.proofs.Fill.{Filled}
use Rattle.linear.specs.Flat.{place}
use Rattle.requests.proofs.to_bytes.Given as goal

abbrev pub invariant-loop-i : goal.invariant-loop-i
invariant-loop-i l = Filled 0 (length l.xs) (place l.xs) l.initial.out l.out l.i
