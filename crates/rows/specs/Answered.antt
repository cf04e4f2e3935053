-- What `ask` answers for d rows of e numbers modulo p, of which some are chosen: open with the vector r, or closed with the witness z,
-- the other list as it was; and how many of the rows are kept.
-- Assumes nothing.
use Rattle.std.specs.Prelude.{List, ℕ}
use Rattle.linear.specs.Bits.{bit}
use Rattle.linear.specs.Flat.{entry}
use Rattle.linear.specs.Rows.{Rank, Handed}
use Rattle.rows.specs.declared.Answer.{Answer}

-- r and z are the lent lists before the call, r' and z' after it.
pub record Answered (p d e chosen : ℕ) (entries r z : List ℕ) (a : Answer) (r' z' : List ℕ) : Type 0 where
  pub handed : Handed p d e (entry e entries) (bit chosen) r z a.opens r' z'
  pub rank : Rank p d e (entry e entries) (bit chosen) a.rank
