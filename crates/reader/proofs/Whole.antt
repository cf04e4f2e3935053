-- A whole text, from what the reader of a rule answers of it: it is a rule, or it is none; and that is one answer.
-- Assumes nothing.
use mathlib.Core.Path.{◌≡◌, refl, sym, ap, subst, ◌∙◌}
use mathlib.Core.Bool.{Bool, true, false, false≢true}
use mathlib.Core.List.{List, [], ◌++◌, append-nil}
use Prim.Native.Nat.{ℕ, ◌+◌, ◌*◌, ◌-◌, ◌≤◌, ◌<◌}
use native.Mathlib.Omega.{arith}
use lib.Dec.{eqb}
use lib.ListN.{length, drop_of_length-le}
use borrow.Author.Tests.{eqb-true, eqb-false}
use Rattle.rules.specs.Tree.{Rule}
use Rattle.rules.specs.Text.{rule_text, WellRule, IsRule, NoRule}
use Rattle.std.specs.Prelude.{Option, Some, None}
use Rattle.std.specs.Option.{option_eq}
use Rattle.reader.specs.Grammar.{rule_end}
use Rattle.reader.specs.Recognised.{Recognised}
use Rattle.reader.proofs.Found.{Written, Found, rule_found}
use Rattle.reader.proofs.Ends.{nothing_follows, rule_ends}

none : (t : List ℕ) → NoRule t → Recognised t false
none t n = record { yes = λ e. absurd (false≢true e); no = λ e. n }

-- Where a reading ends; 0 where there is none.
abbrev place : Option ℕ → ℕ
place (Some q) = q
place None = 0

-- A text of the right length; end is what the reader answers of it.
module _ (t : List ℕ) (long : 1 ≤ length t) (short : length t ≤ 256) (end : Option ℕ)
    (is : (n : ℕ) → 3 * (length t - 0) + 2 < n → end ≡ rule_end n t 8 0) where
  -- Of a rule the reader answers its end.
  ends : (r : Rule) → IsRule t r → end ≡ Some (length t)
  ends r i =
      is (3 * length t + 3) (omega arith)
      ∙ rule_ends t r (3 * length t + 3) 8 0 [] (i.text ∙ sym (append-nil (rule_text r))) i.well nothing_follows
      (omega (arith, ap length i.text))
      ∙ ap (λ (m : ℕ). Some m) (omega (arith, ap length i.text))

  unread : end ≡ None → Recognised t false
  unread e = none t (λ r i. let q = ap place (sym e ∙ ends r i) in omega arith)

  read_to : (q : ℕ) → end ≡ Some q → Recognised t (eqb q (length t))
  read_to q e = record {
    yes = λ f. whole (eqb-true q (length t) f);
    no = λ f r i. eqb-false q (length t) f (ap place (sym e ∙ ends r i));
  }
    where
      w : Written rule_text WellRule t 8 0 q
      w = subst (Found rule_text WellRule t 8 0) (sym (is (3 * length t + 3) (omega arith)) ∙ e) (rule_found (3 * length t + 3) t 8 0)

      whole : q ≡ length t → (r : Rule) × IsRule t r
      whole f = (
        w.tree,
        record {
          text =
              w.here
              ∙ ap (λ (z : List ℕ). rule_text w.tree ++ z) (drop_of_length-le t {i = q} (omega arith))
              ∙ append-nil (rule_text w.tree);
          well = w.well;
          long = long;
          short = short;
        },
      )

-- It is a rule just where its end is the text's.
pub recognised : (t : List ℕ) → 1 ≤ length t → length t ≤ 256 → (end : Option ℕ)
    → ((n : ℕ) → 3 * (length t - 0) + 2 < n → end ≡ rule_end n t 8 0) → Recognised t (option_eq eqb end (Some (length t)))
recognised t l u None is = unread t l u None is refl
recognised t l u (Some q) is = read_to t l u (Some q) is q refl

-- A text has one answer.
pub recognised_one : (t : List ℕ) (a b : Bool) → Recognised t a → Recognised t b → a ≡ b
recognised_one t true true x y = refl
recognised_one t true false x y = let r = x.yes refl in absurd (y.no refl r.0 r.1)
recognised_one t false true x y = let r = y.yes refl in absurd (x.no refl r.0 r.1)
recognised_one t false false x y = refl
