-- `builder::build_atom`, `build_rule`, `build_term`, which call each other: what falls, three times the length of what is left, with 2 for a rule
-- and 1 for a term; and the loop over a term's atoms: the atoms that are left, and the last one,
-- make the term.
use Rattle.std.proofs.Common.{◌≡◌, ℕ, suc, ◌+◌, ◌*◌, ◌-◌, ◌≤◌, length}
use Rattle.builder.specs.Building.{stand, chain, atoms_built, term_built, atom_built}
use Rattle.builder.proofs.+build_atom_build_rule_build_term.Given as goal

abbrev pub decreases-build_atom : goal.decreases-build_atom
decreases-build_atom l = 3 * (length l.text.now - l.st.at)

abbrev pub decreases-build_rule : goal.decreases-build_rule
decreases-build_rule l = 3 * (length l.text.now - l.st.at) + 2

abbrev pub decreases-build_term : goal.decreases-build_term
decreases-build_term l = 3 * (length l.text.now - l.st.at) + 1

abbrev pub invariant-build_term-loop-i : goal.invariant-build_term-loop-i
invariant-build_term-loop-i l = record {
  past : l.st.at ≤ l.here.at;
  built : (n : ℕ) → 3 * (length l.text - l.st.at) + 1 ≤ n
      → chain (atoms_built (λ u x. atom_built n l.text l.p l.depth u x) l.p l.text (l.m - l.i) (l.st.col + l.i) (stand l.ents l.labs l.here))
      (λ r. atom_built n l.text l.p l.depth l.w r)
      ≡ term_built (suc n) l.text l.p l.depth l.fn.v (stand l.initial.ents l.initial.labs l.st);
}
