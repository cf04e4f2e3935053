-- `digits::put_text` meets its contract.
-- Assumes nothing.
use mathlib.Core.Path.{refl}
use native.Mathlib.Omega.{arith}
use Rattle.digits.proofs.Puts.{put_part}
use Rattle.digits.proofs.put_text.Goals as goal

pub returns : goal.returns
returns c = (refl, put_part _ _ _ _ _ c.copy_from_slice.ensures.after (omega arith) c.requires)
