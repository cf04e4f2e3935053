-- `reading::zeros_in` meets its contract.
-- Assumes nothing.
use Rattle.std.proofs.Common.{rules}
use Rattle.std.proofs.iter.runs.Made.{chains}
use Rattle.reading.proofs.Contents.{zeros_content}
use Rattle.reading.proofs.Tests.{all_answer}
use Rattle.reading.proofs.zeros_in.Goals as goal

pub returns : goal.returns
returns c = zeros_content _ _ _ _ _ _ c.content.ensures.0 (all_answer _ _ _ (search (rules, chains)) (search (rules, chains)))
