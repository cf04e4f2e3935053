-- `reading::fill_labels` meets its contract. The loop's invariant: the first k places hold the first k labels.
-- Assumes nothing.
use Rattle.lists.proofs.Fill.{Filled}
use Rattle.format.specs.Reading.{record_at}
use Rattle.reading.proofs.fill_labels.Given as goal

abbrev pub invariant-loop-k : goal.invariant-loop-k
invariant-loop-k l = Filled 0 l.d (λ i. record_at 1 l.file i 0) l.initial.x-items l.x-items l.k
