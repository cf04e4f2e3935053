-- Document 01, "Refusal numbers".
-- Assumes nothing.
use Rattle.std.specs.Prelude.{ℕ}
use Rattle.scheme.specs.declared.Refusal.{Refusal}
use Rattle.scheme.specs.declared.Refusal.TheVariants as R

-- The number of a refusal in the table.
abbrev pub number_lem : Refusal → ℕ
number_lem R.Modulus = 1
number_lem R.Participants = 2
number_lem R.Rows = 3
number_lem R.Columns = 4
number_lem R.Length = 5
number_lem R.Label = 6
number_lem R.Entry = 7
number_lem R.Outsider = 8
number_lem R.NotBelowP = 9
number_lem R.Threshold = 10
number_lem R.SetClosed = 11
number_lem R.NoDealing = 12
number_lem R.NoRule = 13
number_lem R.RuleOutsider = 14
number_lem R.RuleRows = 15
number_lem R.RuleColumns = 16
number_lem R.FileLength = 17
number_lem R.BlockCheck = 18
number_lem R.BlockMark = 19
number_lem R.FileRest = 20
number_lem R.CardIn = 21
number_lem R.CardNotIn = 22
