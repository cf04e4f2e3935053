-- `mkscheme::make` is safe: what is built is a scheme, in the first places of the two lists.
use Rattle.rule.proofs.Says.{built_scheme}
use Rattle.mkscheme.proofs.make.Goals as goal

pub print_built-requires-clause-entries_value : goal.print_built-requires-clause-entries_value
print_built-requires-clause-entries_value g c =
    let a = c.args in
    let b = c.build.new in
    built_scheme a.p a.n a.text.now a.labels.now a.entries.now c.in-Ok.s b.labels b.entries c.in-Ok.ensures
