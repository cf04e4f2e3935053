-- `builder::ands` meets its contract.
-- Assumes nothing.
use native.Mathlib.Omega.{arith}
use Rattle.reader.specs.declared.Kind.TheVariants.{And}
use Rattle.reader.proofs.Places.{seen, not_sign, above}
use Rattle.builder.proofs.Steps.{ands_step}
use Rattle.builder.proofs.+ands.Goals as goal

pub returns-in_default-clause-by_index : goal.returns-in_default-clause-by_index
returns-in_default-clause-by_index t c = above _ (λ n h. rw (ands_step, ← c.atom.ensures.by_index n (omega arith), c.in_default.is))

pub overflow_add-q : goal.overflow_add-q
overflow_add-q t c = let l = seen _ _ c.in-And.ensures tt in record { fits = omega arith }

pub ands-requires : goal.ands-requires
ands-requires t c = let l = seen _ _ c.in-And.ensures tt in (omega (arith, c.in-Some.ensures.within), tt)

pub returns-in-And-clause-by_index : goal.returns-in-And-clause-by_index
returns-in-And-clause-by_index t c =
    let l = seen _ _ c.in-And.ensures tt in
    above _ (λ n h. rw (
      ands_step,
      ← c.in-Some.ensures.by_index n (omega arith),
      ← c.in-And.ensures,
      ← c.ands.ensures.by_index n (omega (arith, c.in-Some.ensures.within)),
    ) (omega arith))

pub returns-in-And-clause-upper_bound : goal.returns-in-And-clause-upper_bound
returns-in-And-clause-upper_bound t c =
    let l = seen _ _ c.in-And.ensures tt in omega (arith, c.in-Some.ensures.within, c.ands.ensures.upper_bound)

pub returns-in_default-kind_at : goal.returns-in_default-kind_at
returns-in_default-kind_at t c = record {
  by_index = above _ (λ n h. rw (
    ands_step,
    ← c.in-Some.ensures.by_index n (omega arith),
    ← c.kind_at.ensures,
    not_sign _ And (omega arith) c.in_default-kind_at.not-And,
  ));
  upper_bound = omega arith;
}
