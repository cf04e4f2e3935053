-- `requests::numbers` answers what a text says. What is stored and what the rest of the text goes on with are its numbers at each turn.
use Rattle.std.proofs.Common.{drop, Some}
use Rattle.requests.specs.Text.{ReadsOn}
use Rattle.requests.proofs.numbers.Given as goal

abbrev pub invariant-loop-byte : goal.invariant-loop-byte
invariant-loop-byte l = ReadsOn l.text l.out (Some l.count) l.value (drop l.byte-index l.text)
