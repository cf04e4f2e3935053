-- `builder::ands`: what is left of the text falls.
use Rattle.std.proofs.Common.{◌-◌, length}
use Rattle.builder.proofs.+ands.Given as goal

abbrev pub decreases-ands : goal.decreases-ands
decreases-ands l = length l.text.now - l.at
