-- `builder::build_atom`, `build_rule`, `build_term`, which call each other, meet their contracts.
-- Assumes nothing.
use mathlib.Core.Path.{sym, subst}
use Prim.Native.Nat.{◌+◌, ◌-◌}
use native.Mathlib.Nat.{sub-zero, add-zero, add_assoc}
use native.Mathlib.Omega.{arith}
use borrow.Author.Tests.{lt-ltb, le-ltb, eq-eqb}
use Rattle.reader.specs.declared.Kind.TheVariants.{Or, And, Open, Close}
use Rattle.reader.specs.Grammar.{Within}
use Rattle.reader.proofs.Places.{seen, not_sign, not_number, above, number_within}
use Rattle.builder.specs.Building.{stand}
use Rattle.builder.proofs.Steps.{
  ands_all,
  rule_step,
  term_step,
  term_large,
  atom_step,
  number_step,
  group_step,
  none_step,
  more_step,
}
use Rattle.builder.proofs.+build_atom_build_rule_build_term.Goals as goal

pub build_atom-value_at-requires : goal.build_atom-value_at-requires
build_atom-value_at-requires t c = seen _ _ c.in-Digit.ensures tt

pub build_atom-number_end-requires : goal.build_atom-number_end-requires
build_atom-number_end-requires t c = seen _ _ c.in-Digit.ensures tt

pub build_atom-returns-in_err-q-in-Digit-clause-by_index : goal.build_atom-returns-in_err-q-in-Digit-clause-by_index
build_atom-returns-in_err-q-in-Digit-clause-by_index t c =
    let a = c.args in
    above _ (λ n h. rw (
      number_step n a.text.now a.p a.depth a.v (stand a.ents.now a.labs.now a.st) _ c.in-Digit.ensures,
      ← c.in_err-q-in-Digit.ensures,
      ← c.value_at.ensures,
      ← c.put.ensures,
      ← c.put-in-Digit.ensures,
      c.from_residual.ensures,
    ))

pub build_atom-returns-then-st-lt32-clause-by_index : goal.build_atom-returns-then-st-lt32-clause-by_index
build_atom-returns-then-st-lt32-clause-by_index t c =
    let a = c.args in
    above _ (λ n h. rw (
      number_step n a.text.now a.p a.depth a.v (stand a.ents.now a.labs.now a.st) _ c.in-Digit.ensures,
      ← c.in_ok-q-in-Digit.ensures,
      ← c.value_at.ensures,
      ← c.put.ensures,
      ← c.put-in-Digit.ensures,
      lt-ltb a.st.row 32 c.if-st-lt32.true,
    ))

pub build_atom-returns-then-st-lt32-clause-past : goal.build_atom-returns-then-st-lt32-clause-past
build_atom-returns-then-st-lt32-clause-past t c =
    subst (Within c.args.st.at) (sym c.in_ok-q-in-Digit.ensures) (number_within _ _ _)

pub build_atom-returns-else-st-lt32-clause-by_index : goal.build_atom-returns-else-st-lt32-clause-by_index
build_atom-returns-else-st-lt32-clause-by_index t c =
    let a = c.args in
    above _ (λ n h. rw (
      number_step n a.text.now a.p a.depth a.v (stand a.ents.now a.labs.now a.st) _ c.in-Digit.ensures,
      ← c.in_ok-q-in-Digit.ensures,
      ← c.value_at.ensures,
      ← c.put.ensures,
      ← c.put-in-Digit.ensures,
      le-ltb a.st.row 32 c.if-st-lt32.false,
    ))

pub build_atom-returns-in_err-inside-in-Open-clause-by_index : goal.build_atom-returns-in_err-inside-in-Open-clause-by_index
build_atom-returns-in_err-inside-in-Open-clause-by_index t c =
    above _ (λ n h. rw (
      atom_step,
      ← c.in-Open.ensures,
      eq-eqb c.args.depth 0 (omega (arith, c.in_err-inside-in-Open.ensures)),
      c.from_residual-in_err-inside-in-Open.ensures,
    ))

pub build_atom-overflow_add-next : goal.build_atom-overflow_add-next
build_atom-overflow_add-next t c = let l = seen _ _ c.in-Open.ensures tt in record { fits = omega arith }

pub build_atom-build_rule-requires : goal.build_atom-build_rule-requires
build_atom-build_rule-requires t c = let l = seen _ _ c.in-Open.ensures tt in (omega arith, c.requires)

pub build_atom-returns-in_err-r-in-Open-clause-by_index : goal.build_atom-returns-in_err-r-in-Open-clause-by_index
build_atom-returns-in_err-r-in-Open-clause-by_index t c =
    let a = c.args in
    let l = seen _ _ c.in-Open.ensures tt in
    let e = c.in_ok-inside-in-Open.ensures in
    above _ (λ n h. rw (
      group_step n a.text.now a.p a.depth a.v (stand a.ents.now a.labs.now a.st) c.in-Open.ensures e.0,
      ← e.1,
      ← c.in_err-r-in-Open.ensures.by_index n (omega arith),
      c.from_residual-in_err-r-in-Open.ensures,
    ))

pub build_atom-overflow_add-result-in-Close : goal.build_atom-overflow_add-result-in-Close
build_atom-overflow_add-result-in-Close t c = let l = seen _ _ c.in-Close.ensures tt in record { fits = omega arith }

pub build_atom-returns-in-Close-clause-by_index : goal.build_atom-returns-in-Close-clause-by_index
build_atom-returns-in-Close-clause-by_index t c =
    let a = c.args in
    let l = seen _ _ c.in-Open.ensures tt in
    let e = c.in_ok-inside-in-Open.ensures in
    above _ (λ n h. rw (
      group_step n a.text.now a.p a.depth a.v (stand a.ents.now a.labs.now a.st) c.in-Open.ensures e.0,
      ← e.1,
      ← c.in_ok-r-in-Open.ensures.by_index n (omega arith),
      ← c.in-Close.ensures,
    ))

pub build_atom-returns-in_default-kind_at : goal.build_atom-returns-in_default-kind_at
build_atom-returns-in_default-kind_at t c =
    let a = c.args in
    let l = seen _ _ c.in-Open.ensures tt in
    let e = c.in_ok-inside-in-Open.ensures in
    record {
      by_index = above _ (λ n h. rw (
        group_step n a.text.now a.p a.depth a.v (stand a.ents.now a.labs.now a.st) c.in-Open.ensures e.0,
        ← e.1,
        ← c.in_ok-r-in-Open.ensures.by_index n (omega arith),
        ← c.kind_at-in-Open.ensures,
        not_sign _ Close (omega arith) c.in_default-kind_at.not-Close,
      ));
      past = tt;
    }

pub build_atom-returns-in_default : goal.build_atom-returns-in_default
build_atom-returns-in_default t c = record {
  by_index = above _ (λ n h. rw (
    atom_step,
    ← c.kind_at.ensures,
    not_number _ c.in_default.not-Digit,
    not_sign _ Open (omega arith) c.in_default.not-Open,
  ));
  past = tt;
}

pub build_rule-returns-in_err-r-clause-by_index : goal.build_rule-returns-in_err-r-clause-by_index
build_rule-returns-in_err-r-clause-by_index t c =
    above _ (λ n h. rw (rule_step, ← c.in_err-r.ensures.by_index n (omega arith), c.from_residual.ensures))

pub build_rule-overflow_add-next : goal.build_rule-overflow_add-next
build_rule-overflow_add-next t c = let l = seen _ _ c.in-Or.ensures tt in record { fits = omega arith }

pub build_rule-build_rule-requires : goal.build_rule-build_rule-requires
build_rule-build_rule-requires t c =
    let l = seen _ _ c.in-Or.ensures tt in (omega (arith, c.in_ok-r.ensures.past), c.requires)

pub build_rule-returns-in-Or-clause-by_index : goal.build_rule-returns-in-Or-clause-by_index
build_rule-returns-in-Or-clause-by_index t c =
    let l = seen _ _ c.in-Or.ensures tt in
    above _ (λ n h. rw (rule_step, ← c.in_ok-r.ensures.by_index n (omega arith), ← c.in-Or.ensures)
    (c.build_rule.ensures.by_index n (omega (arith, c.in_ok-r.ensures.past))))

pub build_rule-returns-in_default : goal.build_rule-returns-in_default
build_rule-returns-in_default t c = record {
  by_index = above _ (λ n h. rw (
    rule_step,
    ← c.in_ok-r.ensures.by_index n (omega arith),
    ← c.kind_at.ensures,
    not_sign _ Or (omega arith) c.in_default.not-Or,
  ));
  past = c.in_ok-r.ensures.past;
}

pub build_term-returns-then-st-gt12-clause-by_index : goal.build_term-returns-then-st-gt12-clause-by_index
build_term-returns-then-st-gt12-clause-by_index t c =
    let a = c.args in
    above _ (λ n h. term_large n a.text.now a.p a.depth a.v (stand a.ents.now a.labs.now a.st) _
    (ands_all _ _ _ _ c.ands-m.ensures.by_index) c.then-st-gt12.either)

pub build_term-loop-i-init : goal.build_term-loop-i-init
build_term-loop-i-init t c =
    let a = c.args in
    let m = c.ands-m in
    record {
      past = omega arith;
      built = λ n h. rw (
        term_step n a.text.now a.p a.depth a.v (stand a.ents.now a.labs.now a.st) m.result
            (ands_all _ _ _ _ m.ensures.by_index) c.if-st-gt12.false c.if-m-gt256.false,
        ← c.last-w.ensures,
        sub-zero,
        add-zero,
      );
    }

pub build_term-returns-in_err-r-clause-by_index : goal.build_term-returns-in_err-r-clause-by_index
build_term-returns-in_err-r-clause-by_index t c =
    let a = c.args in
    let m = c.ands-m in
    let now = c.loop-i in
    above _ (λ n h. rw (
      ← now.invariant.built n h,
      more_step n a.text.now a.p a.depth (a.st.col + now.i) (stand now.ents now.labs now.here) (m.result - now.i)
          (m.result - (now.i + 1)) (omega arith) _ (c.unit-u.ensures a.p) _ (c.in_err-r.ensures.by_index n (omega arith)),
      c.from_residual.ensures,
    ))

pub build_term-overflow_add-here-in-And : goal.build_term-overflow_add-here-in-And
build_term-overflow_add-here-in-And t c = let l = seen _ _ c.in-And.ensures tt in record { fits = omega arith }

pub build_term-returns-in_default : goal.build_term-returns-in_default
build_term-returns-in_default t c =
    let a = c.args in
    let m = c.ands-m in
    let now = c.loop-i in
    record {
      by_index = above _ (λ n h. rw (
        ← now.invariant.built n h,
        more_step n a.text.now a.p a.depth (a.st.col + now.i) (stand now.ents now.labs now.here) (m.result - now.i)
            (m.result - (now.i + 1)) (omega arith) _ (c.unit-u.ensures a.p) _ (c.in_ok-r.ensures.by_index n (omega arith)),
        ← c.kind_at.ensures,
        not_sign _ And (omega arith) c.in_default.not-And,
      ));
      past = tt;
    }

pub build_term-loop-i-preserved : goal.build_term-loop-i-preserved
build_term-loop-i-preserved t c =
    let a = c.args in
    let m = c.ands-m in
    let now = c.loop-i in
    record {
      past = omega (arith, c.in_ok-r.ensures.past);
      built = λ n h. rw (
        ← now.invariant.built n h,
        more_step n a.text.now a.p a.depth (a.st.col + now.i) (stand now.ents now.labs now.here) (m.result - now.i)
            (m.result - (now.i + 1)) (omega arith) _ (c.unit-u.ensures a.p) _ (c.in_ok-r.ensures.by_index n (omega arith)),
        ← c.in-And.ensures,
        add_assoc a.st.col now.i 1,
      );
    }

pub build_term-returns-clause-by_index : goal.build_term-returns-clause-by_index
build_term-returns-clause-by_index t c =
    let a = c.args in
    let now = c.loop-i in
    above _ (λ n h. rw (
      ← now.invariant.built n h,
      none_step n a.text.now a.p a.depth (a.st.col + now.i) (stand now.ents now.labs now.here) (c.ands-m.result - now.i) (omega arith),
    )
    (c.build_atom-2.ensures.by_index n (omega arith)))
