-- A text is one rule at most.
-- Assumes nothing.
use mathlib.Core.Path.{◌≡◌, refl, sym, ap, ap₂, ◌∙◌}
use mathlib.Core.Bool.{Bool, true, false, cond}
use mathlib.Core.List.{List, [], ◌∷◌, ◌++◌, append_assoc, append-nil, nil≢cons, head-eq_of_cons-eq, tail-eq_of_cons-eq}
use Prim.Native.Nat.{ℕ, ◌+◌, ◌-◌, ◌≤◌}
use native.Mathlib.Omega.{arith}
use lib.Dec.{ltb}
use borrow.Author.Tests.{ltb-false}
use Rattle.rules.specs.Tree.{Rule, Term, Atom, term, ◌or◌, atom, ◌and◌, number, group, choice}
use Rattle.rules.specs.Text.{bar, ampersand, opening, closing, numeral, rule_text, term_text, atom_text, WellRule, WellTerm, WellAtom, IsRule}
use Rattle.reader.proofs.Begins.{Not, not_here, NoDigit}
use Rattle.reader.proofs.Ends.{AfterTerm, AfterRule, ampersand_follows, bar_follows, closing_follows, nothing_follows}

-- The tree and what follows it are the same.
abbrev Same : {A : Type 0} → A → A → List ℕ → List ℕ → Type 0
Same a b y z = (a ≡ b) × (y ≡ z)

-- The same wherever texts are the same, with what may follow.
abbrev SameFrom : {A : Type 0} → (A → List ℕ) → (List ℕ → Type 0) → A → A → Type 0
SameFrom text After a b = (y z : List ℕ) → After y → After z → text a ++ y ≡ text b ++ z → Same a b y z

no_digit_here : (b : ℕ) (y z : List ℕ) → y ≡ b ∷ z → 48 ≤ b → b ≤ 57 → NoDigit y → ⊥
no_digit_here b [] z e l u n = nil≢cons e
no_digit_here b (c ∷ y) z e l u n = let h : c ≡ b = head-eq_of_cons-eq e in n (omega arith) (omega arith)

-- A numeral in bytes: one digit, or the digit 1 and a second.
abbrev digits : Bool → ℕ → List ℕ
digits t i = cond t ((48 + i) ∷ []) (49 ∷ (38 + i) ∷ [])

numeral_same : (i j : ℕ) (y z : List ℕ) → numeral i ++ y ≡ numeral j ++ z → 1 ≤ i → i ≤ 16 → 1 ≤ j → j ≤ 16
    → NoDigit y → NoDigit z → Same i j y z
unfolding numeral
numeral_same i j y z e l u m v a b = go (ltb i 10) (ltb j 10) refl refl e
  where
    go : (s t : Bool) → ltb i 10 ≡ s → ltb j 10 ≡ t → digits s i ++ y ≡ digits t j ++ z → Same i j y z
    go true true p q e = let h : 48 + i ≡ 48 + j = head-eq_of_cons-eq e in (omega arith, tail-eq_of_cons-eq e)
    go true false p q e =
        let k = ltb-false j 10 q in
        absurd (no_digit_here (38 + j) y z (tail-eq_of_cons-eq e) (omega arith) (omega arith) a)
    go false true p q e =
        let k = ltb-false i 10 p in
        absurd (no_digit_here (38 + i) z y (sym (tail-eq_of_cons-eq e)) (omega arith) (omega arith) b)
    go false false p q e =
        let h : 38 + i ≡ 38 + j = head-eq_of_cons-eq (tail-eq_of_cons-eq e) in
        (omega arith, tail-eq_of_cons-eq (tail-eq_of_cons-eq e))

-- A numeral is no group.
numeral_opens : (i : ℕ) (y z : List ℕ) → 1 ≤ i → numeral i ++ y ≡ opening ∷ z → ⊥
unfolding numeral
numeral_opens i y z l e = go (ltb i 10) e
  where
    go : (t : Bool) → digits t i ++ y ≡ opening ∷ z → ⊥
    go true e = let h : 48 + i ≡ opening = head-eq_of_cons-eq e in omega arith
    go false e = let h : 49 ≡ opening = head-eq_of_cons-eq e in omega arith

group_same : (r q : Rule) (y z : List ℕ) → Same r q (closing ∷ y) (closing ∷ z) → Same (group r) (group q) y z
group_same r q y z h = (ap group h.0, tail-eq_of_cons-eq h.1)

-- Parts joined by a sign, for a rule and for a term alike: the first parts, a and b, are the same.
module _
    {Part Joined : Type 0}
    (one : Part → Joined)
    (more : Part → Joined → Joined)
    (text : Part → List ℕ)
    (byte : ℕ)
    (AfterPart : List ℕ → Type 0)
    (follows : (z : List ℕ) → AfterPart (byte ∷ z))
    (a b : Part)
    (first : SameFrom text AfterPart a b)
    (y z : List ℕ) where
  both_last : AfterPart y → AfterPart z → text a ++ y ≡ text b ++ z → Same (one a) (one b) y z
  both_last f g e = let h = first y z f g e in (ap one h.0, h.1)

  left_last : (s : List ℕ) → AfterPart y → Not byte y → text a ++ y ≡ text b ++ (byte ∷ s) ++ z → ⊥
  left_last s f n e =
      not_here byte y (s ++ z) (first y (byte ∷ (s ++ z)) f (follows (s ++ z)) (e ∙ append_assoc (text b) (byte ∷ s) z)).1 n

  right_last : (r : List ℕ) → AfterPart z → Not byte z → text a ++ (byte ∷ r) ++ y ≡ text b ++ z → ⊥
  right_last r g n e =
      not_here byte z (r ++ y) (sym (first (byte ∷ (r ++ y)) z (follows (r ++ y)) g (sym (append_assoc (text a) (byte ∷ r) y) ∙ e)).1) n

  both_more : (r s : List ℕ) {l m : Joined} → (r ++ y ≡ s ++ z → Same l m y z) → text a ++ (byte ∷ r) ++ y ≡ text b ++ (byte ∷ s) ++ z
      → Same (more a l) (more b m) y z
  both_more r s rest e =
      let h = first (byte ∷ (r ++ y)) (byte ∷ (s ++ z)) (follows (r ++ y)) (follows (s ++ z))
      (sym (append_assoc (text a) (byte ∷ r) y) ∙ e ∙ append_assoc (text b) (byte ∷ s) z) in
      let k = rest (tail-eq_of_cons-eq h.1) in
      (ap₂ more h.0 k.0, k.1)

mutual
  unfolding rule_text

  rule_same : (r q : Rule) (d : ℕ) → WellRule r d → WellRule q d → SameFrom rule_text AfterRule r q
  rule_same (term t) (term u) d v w = λ y z a b e.
      both_last term ◌or◌ term_text bar AfterTerm bar_follows t u (term_same t u d v w)
      y z a.as_term b.as_term e
  rule_same (term t) (u or q) d v w = λ y z a b e.
      absurd (left_last term ◌or◌ term_text bar AfterTerm bar_follows t u (term_same t u d v w.0)
      y z (rule_text q) a.as_term a.no_or e)
  rule_same (t or r) (term u) d v w = λ y z a b e.
      absurd (right_last term ◌or◌ term_text bar AfterTerm bar_follows t u (term_same t u d v.0 w)
      y z (rule_text r) b.as_term b.no_or e)
  rule_same (t or r) (u or q) d v w = λ y z a b e.
      both_more term ◌or◌ term_text bar AfterTerm bar_follows t u (term_same t u d v.0 w.0)
      y z (rule_text r) (rule_text q) (rule_same r q d v.1 w.1 y z a b) e

  term_same : (t u : Term) (d : ℕ) → WellTerm t d → WellTerm u d → SameFrom term_text AfterTerm t u
  term_same (atom f) (atom g) d v w = λ y z a b e.
      both_last atom ◌and◌ atom_text ampersand NoDigit ampersand_follows f g (atom_same f g d v w)
      y z a.no_digit b.no_digit e
  term_same (atom f) (g and u) d v w = λ y z a b e. absurd
      (left_last atom ◌and◌ atom_text ampersand NoDigit ampersand_follows f g (atom_same f g d v w.0)
      y z (term_text u) a.no_digit a.no_and e)
  term_same (f and t) (atom g) d v w = λ y z a b e. absurd
      (right_last atom ◌and◌ atom_text ampersand NoDigit ampersand_follows f g (atom_same f g d v.0 w)
      y z (term_text t) b.no_digit b.no_and e)
  term_same (f and t) (g and u) d v w = λ y z a b e.
      both_more atom ◌and◌ atom_text ampersand NoDigit ampersand_follows f g (atom_same f g d v.0 w.0)
      y z (term_text t) (term_text u) (term_same t u d v.1 w.1 y z a b) e

  atom_same : (f g : Atom) (d : ℕ) → WellAtom f d → WellAtom g d → SameFrom atom_text NoDigit f g
  atom_same (number i) (number j) d v w = λ y z a b e.
      let h = numeral_same i j y z e v.0 v.1 w.0 w.1 a b in (ap number h.0, h.1)
  atom_same (number i) (group q) d v w = λ y z a b e. absurd (numeral_opens i y ((rule_text q ++ (closing ∷ [])) ++ z) v.0 e)
  atom_same (number i) (choice k b) d v w = λ y z a c e. absurd w
  atom_same (group r) (number j) d v w = λ y z a b e. absurd (numeral_opens j z ((rule_text r ++ (closing ∷ [])) ++ y) w.0 (sym e))
  atom_same (group r) (group q) d v w = λ y z a b e. group_same r q y z
      (rule_same r q (d - 1) v.1 w.1 (closing ∷ y) (closing ∷ z) (closing_follows y) (closing_follows z)
      (sym (append_assoc (rule_text r) (closing ∷ []) y) ∙ tail-eq_of_cons-eq e ∙ append_assoc (rule_text q) (closing ∷ []) z))
  atom_same (group r) (choice k b) d v w = λ y z a c e. absurd w
  atom_same (choice k b) g d v w = λ y z a c e. absurd v

-- A text has at most one tree.
pub one_tree : (t : List ℕ) (r q : Rule) → IsRule t r → IsRule t q → r ≡ q
one_tree t r q i j = (rule_same r q 8 i.well j.well [] [] nothing_follows nothing_follows
    (append-nil (rule_text r) ∙ sym i.text ∙ j.text ∙ sym (append-nil (rule_text q)))).0
