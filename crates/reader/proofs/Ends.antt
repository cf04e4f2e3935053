-- The readers miss nothing: where a rule, a term or an atom is written, with what may follow it, they say where it ends.
-- Assumes nothing.
use mathlib.Core.Path.{◌≡◌, refl, ap, ◌∙◌}
use mathlib.Core.Bool.{Bool, true, false, cond}
use mathlib.Core.List.{List, [], ◌∷◌, ◌++◌, append_assoc}
use Prim.Native.Nat.{ℕ, zero, suc, ◌+◌, ◌*◌, ◌-◌, ◌≤◌, ◌<◌}
use native.Mathlib.Nat.{not-suc-le-zero}
use native.Mathlib.Omega.{arith}
use lib.Dec.{eqb, ltb}
use lib.ListN.{length, length-append, drop}
use borrow.Author.Tests.{ltb-true, ltb-false, le-leb, ne_eqb}
use Rattle.rules.specs.Tree.{Rule, Term, Atom, term, ◌or◌, atom, ◌and◌, number, group, choice}
use Rattle.rules.specs.Text.{bar, ampersand, opening, closing, numeral, rule_text, term_text, atom_text, WellRule, WellTerm, WellAtom}
use Rattle.reader.specs.declared.Kind.{Kind}
use Rattle.std.specs.Prelude.{Option, Some}
use Rattle.reader.specs.Grammar.{class_of, kind_at, tag, digit, number_end_lem, after, rule_end, term_end, atom_end}
use Rattle.reader.proofs.Places.{rule_step, term_step}
use Rattle.reader.proofs.Begins.{
  kind_of_holds,
  past,
  Sign,
  or_sign,
  and_sign,
  open_sign,
  close_sign,
  Not,
  sign_true,
  sign_false,
  NoDigit,
  digit_false,
  class_digit,
  digit_class,
}

-- What may follow a term and a rule; an atom no digit may follow.
pub record AfterTerm (z : List ℕ) : Type 0 where
  pub no_digit : NoDigit z
  pub no_and : Not ampersand z

pub record AfterRule (z : List ℕ) : Type 0 where
  pub as_term : AfterTerm z
  pub no_or : Not bar z

-- A sign that joins or closes may follow what it joins or closes.
pub ampersand_follows : (z : List ℕ) → NoDigit (ampersand ∷ z)
ampersand_follows z l u = omega arith

pub bar_follows : (z : List ℕ) → AfterTerm (bar ∷ z)
bar_follows z = record { no_digit = λ l u. omega arith; no_and = λ e. omega arith }

pub closing_follows : (z : List ℕ) → AfterRule (closing ∷ z)
closing_follows z = record { as_term = record { no_digit = λ l u. omega arith; no_and = λ e. omega arith }; no_or = λ e. omega arith }

pub nothing_follows : AfterRule []
nothing_follows = record { as_term = record { no_digit = tt; no_and = tt }; no_or = tt }

-- Parts joined by a sign, for a rule and for a term alike: the last part x; a part x and the others y.
module _
    (inner outer : ℕ → List ℕ → ℕ → ℕ → Option ℕ)
    {k : Kind}
    {byte : ℕ}
    (sign : Sign k byte)
    (step : (n : ℕ) (s : List ℕ) (d at : ℕ) → outer (suc n) s d at
    ≡ after (inner n s d at) (λ q. cond (eqb (tag (kind_at s q)) (tag k)) (outer n s d (q + 1)) (Some q)))
    (n : ℕ) (s : List ℕ) (d at : ℕ) (x : List ℕ) (first : inner n s d at ≡ Some (at + length x)) where
  last_ends : (z : List ℕ) → drop at s ≡ x ++ z → Not byte z → outer (suc n) s d at ≡ Some (at + length x)
  last_ends z e o = rw (step, first, sign_false sign s (at + length x) z (past s at x z e) o)

  more_ends : (y z : List ℕ) → drop at s ≡ (x ++ (byte ∷ y)) ++ z
      → (drop (at + length x + 1) s ≡ y ++ z → outer n s d (at + length x + 1) ≡ Some (at + length x + 1 + length y))
      → outer (suc n) s d at ≡ Some (at + length (x ++ (byte ∷ y)))
  more_ends y z e rest =
      let here : drop (at + length x) s ≡ byte ∷ (y ++ z) = past s at x (byte ∷ (y ++ z)) (e ∙ append_assoc x (byte ∷ y) z) in
      let size : at + length x + 1 + length y ≡ at + length (x ++ (byte ∷ y)) = omega (arith, length-append x (byte ∷ y)) in
      rw (step, first, sign_true sign s (at + length x) (y ++ z) here)
      (rest (past s (at + length x) (byte ∷ []) (y ++ z) here) ∙ ap (λ (m : ℕ). Some m) size)

module _ (n : ℕ) (s : List ℕ) (d at : ℕ) where
  group_ends : (x z : List ℕ) → drop at s ≡ (opening ∷ (x ++ (closing ∷ []))) ++ z → 1 ≤ d
      → (drop (at + 1) s ≡ x ++ (closing ∷ z) → rule_end n s (d - 1) (at + 1) ≡ Some (at + 1 + length x))
      → atom_end (suc n) s d at ≡ Some (at + length (opening ∷ (x ++ (closing ∷ []))))
  unfolding atom_end
  group_ends x z e l inside =
      let here : drop at s ≡ opening ∷ (x ++ (closing ∷ z)) = e ∙ ap (λ (y : List ℕ). opening ∷ y) (append_assoc x (closing ∷ []) z) in
      let next : drop (at + 1) s ≡ x ++ (closing ∷ z) = past s at (opening ∷ []) (x ++ (closing ∷ z)) here in
      let size : at + 1 + length x + 1 ≡ at + length (opening ∷ (x ++ (closing ∷ []))) = omega (arith, length-append x (closing ∷ [])) in
      rw (
        kind_of_holds s at opening (x ++ (closing ∷ z)) here,
        open_sign.class,
        ne_eqb d 0 (λ z. omega arith),
        inside next,
        sign_true close_sign s (at + 1 + length x) z (past s (at + 1) x (closing ∷ z) next),
      ) (ap (λ (m : ℕ). Some m) size)

  one_digit_ends : (i : ℕ) (z : List ℕ) → drop at s ≡ (48 + i) ∷ z → 1 ≤ i → i ≤ 9 → NoDigit z → atom_end (suc n) s d at ≡ Some (at + 1)
  unfolding atom_end number_end_lem
  one_digit_ends i z e l u stop =
      rw (
        kind_of_holds s at (48 + i) z e,
        class_digit (48 + i) (omega arith) (omega arith),
        digit_false s (at + 1) z (past s at ((48 + i) ∷ []) z e) stop,
      )

  two_digits_end : (i : ℕ) (z : List ℕ) → drop at s ≡ 49 ∷ (38 + i) ∷ z → 10 ≤ i → i ≤ 16 → atom_end (suc n) s d at ≡ Some (at + 2)
  unfolding atom_end number_end_lem
  two_digits_end i z e l u =
      let second = digit_class (38 + i) (omega arith) (omega arith) in
      rw (
        kind_of_holds s at 49 ((38 + i) ∷ z) e,
        class_digit 49 (omega arith) (omega arith),
        kind_of_holds s (at + 1) (38 + i) z (past s at (49 ∷ []) ((38 + i) ∷ z) e),
        second.0,
        le-leb (digit (class_of (38 + i))) 6 (omega (arith, second.1)),
      )

  pub number_ends : (i : ℕ) (z : List ℕ) → drop at s ≡ numeral i ++ z → 1 ≤ i → i ≤ 16 → NoDigit z
      → atom_end (suc n) s d at ≡ Some (at + length (numeral i))
  unfolding numeral
  number_ends i z e l u stop = go (ltb i 10) refl e
    where
      go : (t : Bool) → ltb i 10 ≡ t → drop at s ≡ cond t ((48 + i) ∷ []) (49 ∷ (38 + i) ∷ []) ++ z
          → atom_end (suc n) s d at ≡ Some (at + length (cond (ltb i 10) ((48 + i) ∷ []) (49 ∷ (38 + i) ∷ [])))
      go true t e = rw t (one_digit_ends i z e l (omega (arith, ltb-true i 10 t)) stop)
      go false t e = rw t (two_digits_end i z e (ltb-false i 10 t) u)

module _ (s : List ℕ) where
  mutual
    unfolding rule_text

    pub rule_ends : (r : Rule) (n d at : ℕ) (z : List ℕ) → drop at s ≡ rule_text r ++ z → WellRule r d → AfterRule z
        → 3 * length (rule_text r) + 2 < n → rule_end n s d at ≡ Some (at + length (rule_text r))
    rule_ends (term t) zero d at z e w a l = absurd (not-suc-le-zero l)
    rule_ends (term t) (suc n) d at z e w a l =
        last_ends term_end rule_end or_sign rule_step n s d at (term_text t)
        (term_ends t n d at z e w a.as_term (omega arith)) z e a.no_or
    rule_ends (t or r) zero d at z e w a l = absurd (not-suc-le-zero l)
    rule_ends (t or r) (suc n) d at z e w a l =
        let m = length-append (term_text t) (bar ∷ rule_text r) in
        more_ends term_end rule_end or_sign rule_step n s d at (term_text t)
        (term_ends t n d at (bar ∷ (rule_text r ++ z)) (e ∙ append_assoc (term_text t) (bar ∷ rule_text r) z) w.0
        (bar_follows (rule_text r ++ z)) (omega (arith, m)))
        (rule_text r) z e (λ f. rule_ends r n d (at + length (term_text t) + 1) z f w.1 a (omega (arith, m)))

    pub term_ends : (t : Term) (n d at : ℕ) (z : List ℕ) → drop at s ≡ term_text t ++ z → WellTerm t d → AfterTerm z
        → 3 * length (term_text t) + 1 < n → term_end n s d at ≡ Some (at + length (term_text t))
    term_ends (atom b) zero d at z e w a l = absurd (not-suc-le-zero l)
    term_ends (atom b) (suc n) d at z e w a l =
        last_ends atom_end term_end and_sign term_step n s d at (atom_text b)
        (atom_ends b n d at z e w a.no_digit (omega arith)) z e a.no_and
    term_ends (b and t) zero d at z e w a l = absurd (not-suc-le-zero l)
    term_ends (b and t) (suc n) d at z e w a l =
        let m = length-append (atom_text b) (ampersand ∷ term_text t) in
        more_ends atom_end term_end and_sign term_step n s d at (atom_text b)
        (atom_ends b n d at (ampersand ∷ (term_text t ++ z)) (e ∙ append_assoc (atom_text b) (ampersand ∷ term_text t) z) w.0
        (ampersand_follows (term_text t ++ z)) (omega (arith, m)))
        (term_text t) z e (λ f. term_ends t n d (at + length (atom_text b) + 1) z f w.1 a (omega (arith, m)))

    pub atom_ends : (b : Atom) (n d at : ℕ) (z : List ℕ) → drop at s ≡ atom_text b ++ z → WellAtom b d → NoDigit z
        → 3 * length (atom_text b) < n → atom_end n s d at ≡ Some (at + length (atom_text b))
    atom_ends (number i) zero d at z e w a l = absurd (not-suc-le-zero l)
    atom_ends (number i) (suc n) d at z e w a l = number_ends n s d at i z e w.0 w.1 a
    atom_ends (group r) zero d at z e w a l = absurd (not-suc-le-zero l)
    atom_ends (group r) (suc n) d at z e w a l =
        let m = length-append (rule_text r) (closing ∷ []) in
        group_ends n s d at (rule_text r) z e w.0
        (λ f. rule_ends r n (d - 1) (at + 1) (closing ∷ z) f w.1 (closing_follows z) (omega (arith, m)))
    atom_ends (choice k b) n d at z e w a l = absurd w
