-- `mkscheme::print_built` is safe: a scheme has 32 labels and 384 entries at most, and they are the first of the places.
use Rattle.std.proofs.Common.{rules}
use Rattle.sheets.proofs.FileRead.{taken_small}
use Rattle.mkscheme.proofs.print_built.Goals as goal

pub slice_bounds-scheme-end : goal.slice_bounds-scheme-end
slice_bounds-scheme-end g c =
    let few = taken_small c.args.s c.args.labels.now c.args.entries.now c.requires.entries_value in
    search (rules, few.0)

pub slice_bounds-scheme-end-2 : goal.slice_bounds-scheme-end-2
slice_bounds-scheme-end-2 g c =
    let few = taken_small c.args.s c.args.labels.now c.args.entries.now c.requires.entries_value in
    search (rules, few.1)
