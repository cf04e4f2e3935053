-- `reader::rule`, `term` and `atom`, which call each other, meet their contracts.
-- Assumes nothing.
use native.Mathlib.Omega.{arith}
use borrow.Author.Tests.{eq-eqb}
use Rattle.reader.specs.declared.Kind.TheVariants.{Or, And, Open, Close}
use Rattle.reader.proofs.Places.{seen, not_sign, not_number, above, rule_step, term_step, atom_step, group_step, number_within}
use Rattle.reader.proofs.+atom_rule_term.Goals as goal

pub atom-number_end-requires : goal.atom-number_end-requires
atom-number_end-requires t c = seen _ _ c.in-Digit.ensures tt

pub atom-overflow_add-at : goal.atom-overflow_add-at
atom-overflow_add-at t c = let l = seen _ _ c.in-Open.ensures tt in record { fits = omega arith }

pub atom-rule-requires : goal.atom-rule-requires
atom-rule-requires t c = let l = seen _ _ c.in-Open.ensures tt in (omega arith, tt)

pub atom-returns-in_err-inside-in-Open-clause-by_index : goal.atom-returns-in_err-inside-in-Open-clause-by_index
atom-returns-in_err-inside-in-Open-clause-by_index t c =
    above _ (λ n h. rw (atom_step, ← c.in-Open.ensures, eq-eqb c.args.depth 0 (omega (arith, c.in_err-inside-in-Open.ensures))) c.from_residual.ensures)

pub atom-returns-in_err-q-in-Open-clause-by_index : goal.atom-returns-in_err-q-in-Open-clause-by_index
atom-returns-in_err-q-in-Open-clause-by_index t c =
    let l = seen _ _ c.in-Open.ensures tt in
    let e = c.in_ok-inside-in-Open.ensures in
    above _ (λ n h. rw (group_step n _ _ _ c.in-Open.ensures e.0, ← e.1, ← c.in_err-q-in-Open.ensures.by_index n (omega arith))
    c.from_residual-in_err-q-in-Open.ensures)

pub atom-overflow_add-result : goal.atom-overflow_add-result
atom-overflow_add-result t c = let l = seen _ _ c.in-Close.ensures tt in record { fits = omega arith }

pub atom-returns-in-Digit-clause-by_index : goal.atom-returns-in-Digit-clause-by_index
atom-returns-in-Digit-clause-by_index t c = above _ (λ n h. rw (atom_step, ← c.in-Digit.ensures) c.number_end.ensures)

pub atom-returns-in-Digit-clause-within : goal.atom-returns-in-Digit-clause-within
atom-returns-in-Digit-clause-within t c = rw c.number_end.ensures (number_within _ _ _)

pub atom-returns-in-Close-clause-by_index : goal.atom-returns-in-Close-clause-by_index
atom-returns-in-Close-clause-by_index t c =
    let l = seen _ _ c.in-Open.ensures tt in
    let e = c.in_ok-inside-in-Open.ensures in
    above _ (λ n h. rw (
      group_step n _ _ _ c.in-Open.ensures e.0,
      ← e.1,
      ← c.in_ok-q-in-Open.ensures.by_index n (omega arith),
      ← c.in-Close.ensures,
    ))

pub atom-returns-in_default-kind_at : goal.atom-returns-in_default-kind_at
atom-returns-in_default-kind_at t c =
    let l = seen _ _ c.in-Open.ensures tt in
    let e = c.in_ok-inside-in-Open.ensures in
    record {
      by_index = above _ (λ n h. rw (
        group_step n _ _ _ c.in-Open.ensures e.0,
        ← e.1,
        ← c.in_ok-q-in-Open.ensures.by_index n (omega arith),
        ← c.kind_at-in-Open.ensures,
        not_sign _ Close (omega arith) c.in_default-kind_at.not-Close,
      ));
      within = tt;
    }

pub atom-returns-in_default : goal.atom-returns-in_default
atom-returns-in_default t c = record {
  by_index = above _ (λ n h. rw (
    atom_step,
    ← c.kind_at.ensures,
    not_number _ c.in_default.not-Digit,
    not_sign _ Open (omega arith) c.in_default.not-Open,
  ));
  within = tt;
}

pub rule-returns-in_err-q-clause-by_index : goal.rule-returns-in_err-q-clause-by_index
rule-returns-in_err-q-clause-by_index t c = above _ (λ n h. rw (rule_step, ← c.in_err-q.ensures.by_index n (omega arith)) c.from_residual.ensures)

pub rule-overflow_add-q : goal.rule-overflow_add-q
rule-overflow_add-q t c = let l = seen _ _ c.in-Or.ensures tt in record { fits = omega arith }

pub rule-rule-requires : goal.rule-rule-requires
rule-rule-requires t c = let l = seen _ _ c.in-Or.ensures tt in (omega (arith, c.in_ok-q.ensures.within), tt)

pub rule-returns-in-Or-clause-by_index : goal.rule-returns-in-Or-clause-by_index
rule-returns-in-Or-clause-by_index t c =
    let l = seen _ _ c.in-Or.ensures tt in
    above _ (λ n h. rw (rule_step, ← c.in_ok-q.ensures.by_index n (omega arith), ← c.in-Or.ensures)
    (c.rule.ensures.by_index n (omega (arith, c.in_ok-q.ensures.within))))

pub rule-returns-in_default : goal.rule-returns-in_default
rule-returns-in_default t c = record {
  by_index = above _ (λ n h. rw (
    rule_step,
    ← c.in_ok-q.ensures.by_index n (omega arith),
    ← c.kind_at.ensures,
    not_sign _ Or (omega arith) c.in_default.not-Or,
  ));
  within = c.in_ok-q.ensures.within;
}

pub term-returns-in_err-q-clause-by_index : goal.term-returns-in_err-q-clause-by_index
term-returns-in_err-q-clause-by_index t c = above _ (λ n h. rw (term_step, ← c.in_err-q.ensures.by_index n (omega arith)) c.from_residual.ensures)

pub term-overflow_add-q : goal.term-overflow_add-q
term-overflow_add-q t c = let l = seen _ _ c.in-And.ensures tt in record { fits = omega arith }

pub term-term-requires : goal.term-term-requires
term-term-requires t c = let l = seen _ _ c.in-And.ensures tt in (omega (arith, c.in_ok-q.ensures.within), tt)

pub term-returns-in-And-clause-by_index : goal.term-returns-in-And-clause-by_index
term-returns-in-And-clause-by_index t c =
    let l = seen _ _ c.in-And.ensures tt in
    above _ (λ n h. rw (term_step, ← c.in_ok-q.ensures.by_index n (omega arith), ← c.in-And.ensures)
    (c.term.ensures.by_index n (omega (arith, c.in_ok-q.ensures.within))))

pub term-returns-in_default : goal.term-returns-in_default
term-returns-in_default t c = record {
  by_index = above _ (λ n h. rw (
    term_step,
    ← c.in_ok-q.ensures.by_index n (omega arith),
    ← c.kind_at.ensures,
    not_sign _ And (omega arith) c.in_default.not-And,
  ));
  within = c.in_ok-q.ensures.within;
}
