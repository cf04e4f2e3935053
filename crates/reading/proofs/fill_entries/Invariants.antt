-- `reading::fill_entries` meets its contract. The loop's invariant: the first i places hold the first i entries.
-- Assumes nothing.
use Prim.Native.Nat.{◌*◌}
use Rattle.lists.proofs.Fill.{Filled}
use Rattle.reading.specs.Parts.{entry_at}
use Rattle.reading.proofs.fill_entries.Given as goal

abbrev pub invariant-loop-i : goal.invariant-loop-i
invariant-loop-i l = Filled 0 (l.d * l.e) (entry_at l.file l.e) l.initial.x-items l.x-items l.i
