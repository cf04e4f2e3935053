-- `reading::label` meets its contract: the first byte of the row's record.
-- Assumes nothing.
use mathlib.Core.Path.{ap, ◌∙◌}
use Prim.Native.Nat.{◌*◌, ◌%◌}
use Rattle.linear.specs.Flat.{place}
use Rattle.reading.proofs.Rows.{label_at}
use Rattle.reading.proofs.label.Goals as goal

pub returns : goal.returns
returns c =
    c.from.ensures ∙ ap (λ l. place l (c.args.k % 20 * 25)) c.content-c.ensures.0
    ∙ label_at c.args.file.now c.args.k
