-- What is refused of a text, from what the passes over its bytes say; and it is one number.
-- Assumes nothing.
use Rattle.std.specs.Prelude.{Result, Ok, Err}
use mathlib.Core.Path.{◌≡◌, refl, sym, ap, ◌∙◌}
use mathlib.Core.Bool.{Bool, true, false}
use mathlib.Core.List.{List}
use mathlib.Core.Logic.{inl, inr}
use Prim.Native.Nat.{ℕ, suc, ◌+◌, ◌≤◌, ◌<◌}
use native.Mathlib.Omega.{arith}
use lib.Dec.{leb}
use lib.ListN.{length}
use borrow.Author.Tests.{le-leb, lt-leb}
use Rattle.scheme.specs.declared.Refusal.{Refusal}
use Rattle.scheme.specs.declared.Refusal.TheVariants as R
use Rattle.scheme.specs.Tests.{unless, or_else}
use Rattle.rules.specs.Tree.{Rule, rule_names}
use Rattle.rules.specs.Text.{ampersand, bar, IsRule}
use Rattle.rules.specs.Bytes.{occurs}
use Rattle.rules.specs.Construction.{rule_takes}
use Rattle.rules.proofs.Signs.{names_joins, takes_ands}
use Rattle.reader.specs.Scan.{up_to}
use Rattle.reader.specs.Recognised.{Recognised}
use Rattle.reader.specs.Refusal.{rule_refusal, TextRefusal}
use Rattle.reader.proofs.Passes.{occurs_le, names_up_to}
use Rattle.reader.proofs.OneTree.{one_tree}

-- What is refused of a rule, by its bytes: one row more than signs that join, a column for each `&` and the first.
abbrev by_numbers : Bool → ℕ → ℕ → Result Unit Refusal
by_numbers named rows taken =
    or_else (unless named R.RuleOutsider) (or_else (unless (leb rows 32) R.RuleRows) (unless (leb (suc taken) 12) R.RuleColumns))

abbrev by_bytes : ℕ → List ℕ → Result Unit Refusal
by_bytes n t = by_numbers (up_to n 0 t) (1 + (occurs ampersand t + occurs bar t)) (occurs ampersand t)

rule_by_bytes : (n : ℕ) (t : List ℕ) (r : Rule) → IsRule t r → rule_refusal n r ≡ by_bytes n t
rule_by_bytes n t r i =
    ap (λ (x : Bool). by_numbers x (length (rule_names r)) (rule_takes r)) (sym (names_up_to n t r i))
    ∙ ap (λ (x : ℕ). by_numbers (up_to n 0 t) x (rule_takes r))
    (names_joins r 8 i.well ∙ ap (λ (s : List ℕ). 1 + (occurs ampersand s + occurs bar s)) (sym i.text))
    ∙ ap (λ (x : ℕ). by_numbers (up_to n 0 t) (1 + (occurs ampersand t + occurs bar t)) x)
    (takes_ands r 8 i.well ∙ ap (occurs ampersand) (sym i.text))

-- The signs of a rule are few.
pub joins_few : (t : List ℕ) {answer : Bool} → Recognised t answer → answer ≡ true
    → {ands ors : ℕ} → ands ≡ occurs ampersand t → ors ≡ occurs bar t → ands + ors ≤ 512
joins_few t is e a b = omega (arith, a, b, occurs_le ampersand t, occurs_le bar t, (is.yes e).1.short)

-- The refusal of a text, after the answer whether it is a rule.
module _ (n : ℕ) (t : List ℕ) {answer : Bool} (is : Recognised t answer) where
  pub no_rule : answer ≡ false → TextRefusal n t (Err R.NoRule)
  no_rule e = inl (refl, is.no e)

  -- Of a rule; ands and ors are what the passes count.
  module _ (e : answer ≡ true) where
    of_rule : {k : Result Unit Refusal} → by_bytes n t ≡ k → TextRefusal n t k
    of_rule h = let r = is.yes e in inr (r.0, r.1, rule_by_bytes n t r.0 r.1 ∙ h)

    pub above_n : up_to n 0 t ≡ false → TextRefusal n t (Err R.RuleOutsider)
    above_n h = of_rule (rw h)

    module _ {ands ors : ℕ} (a : ands ≡ occurs ampersand t) (b : ors ≡ occurs bar t) where
      module _ (h : up_to n 0 t ≡ true) where
        pub many_rows : 31 < ands + ors → TextRefusal n t (Err R.RuleRows)
        many_rows l = of_rule (rw (h, lt-leb (1 + (occurs ampersand t + occurs bar t)) 32 (omega arith)))

        pub many_columns : ands + ors ≤ 31 → 11 < ands → TextRefusal n t (Err R.RuleColumns)
        many_columns l m = of_rule (rw (
          h,
          le-leb (1 + (occurs ampersand t + occurs bar t)) 32 (omega arith),
          lt-leb (suc (occurs ampersand t)) 12 (omega arith),
        ))

        pub nothing : ands + ors ≤ 31 → ands ≤ 11 → TextRefusal n t (Ok tt)
        nothing l m = of_rule (rw (
          h,
          le-leb (1 + (occurs ampersand t + occurs bar t)) 32 (omega arith),
          le-leb (suc (occurs ampersand t)) 12 (omega arith),
        ))

-- A text has one refusal.
pub text_refusal_one : (n : ℕ) (t : List ℕ) (j k : Result Unit Refusal) → TextRefusal n t j → TextRefusal n t k → j ≡ k
text_refusal_one n t j k (inl a) (inl b) = a.0 ∙ sym b.0
text_refusal_one n t j k (inl a) (inr b) = absurd (a.1 b.0 b.1)
text_refusal_one n t j k (inr a) (inl b) = absurd (b.1 a.0 a.1)
text_refusal_one n t j k (inr a) (inr b) = sym a.2 ∙ ap (rule_refusal n) (one_tree t a.0 b.0 a.1 b.1) ∙ b.2
