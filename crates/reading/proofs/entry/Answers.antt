-- `reading::entry` meets its contract: two bytes of the row's record.
-- Assumes nothing.
use mathlib.Core.Path.{ap, ◌∙◌}
use Prim.Native.Nat.{◌+◌, ◌*◌, ◌/◌, ◌%◌}
use Rattle.linear.specs.Flat.{place}
use Rattle.format.specs.Format.{number_of}
use Rattle.reading.proofs.Rows.{entry_at_holds}
use Rattle.reading.proofs.entry.Goals as goal

pub returns : goal.returns
returns c =
    let at = c.args.i / c.args.e % 20 * 25 + 1 + c.args.i % c.args.e * 2 in
    c.two_bytes.ensures.0 ∙ ap (λ l. number_of 2 (λ t. place l (at + t))) c.content-c.ensures.0 ∙ entry_at_holds _ _ _ c.requires.0 c.requires.1
