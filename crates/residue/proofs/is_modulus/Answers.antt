-- `residue::is_modulus` meets its contract: the table is the list of the definition.
-- Assumes nothing.
use Rattle.residue.specs.Moduli.{is_in}
use Rattle.residue.proofs.is_modulus.Goals as goal

pub returns : goal.returns
unfolding is_in
returns c = c.contains.ensures.value
