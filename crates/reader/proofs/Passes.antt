-- The passes over the bytes of a text, turn by turn, and what the pass over the numbers says of a rule.
-- Assumes nothing.
use mathlib.Core.Path.{◌≡◌, refl, sym, ap, ◌∙◌}
use mathlib.Core.Bool.{Bool, true, false, cond, ◌&&◌, and-true, and-false, and_assoc}
use mathlib.Core.List.{List, [], ◌∷◌, ◌++◌, append_assoc, append-nil}
use Prim.Native.Nat.{ℕ, ◌+◌, ◌-◌, ◌*◌, ◌≤◌, ◌<◌}
use native.Mathlib.Omega.{arith}
use lib.Dec.{eqb, leb, ltb}
use lib.ListN.{length, drop, get_or, drop_of_length-le}
use borrow.Author.Tests.{le-leb, lt-leb, ltb-true, ltb-false, leb-true}
use Rattle.std.specs.Prelude.{◌==◌, count_by}
use Rattle.std.proofs.Common.{zero-add}
use Rattle.std.proofs.lemmas.List.Recursion.{is_count_by}
use Rattle.std.proofs.lemmas.List.Sums.{count_by-le-length}
use Rattle.std.proofs.lemmas.List.Folds.{list_all-append}
use Rattle.residue.proofs.Moduli.{drop_next}
use Rattle.scheme.specs.Tests.{each}
use Rattle.rules.specs.Tree.{Rule, Term, Atom, term, ◌or◌, atom, ◌and◌, number, group, choice, rule_names, term_names, atom_names}
use Rattle.rules.specs.Text.{bar, ampersand, opening, closing, numeral, rule_text, term_text, atom_text, WellRule, WellTerm, WellAtom, IsRule}
use Rattle.rules.specs.Bytes.{occurs}
use Rattle.reader.specs.Scan.{further, up_to}
use Rattle.reader.proofs.Begins.{NoDigit}

-- Counting a byte is the library's count.
one_more : (n : ℕ) (t : Bool) → cond t 1 0 + n ≡ cond t (1 + n) n
one_more n true = refl
one_more n false = zero-add n

pub occurs_counts : (b : ℕ) (s : List ℕ) → count_by (λ x. x == b) s ≡ occurs b s
unfolding occurs
occurs_counts b s = sym (is_count_by (occurs b) (λ x. x == b) refl (λ x s. one_more (occurs b s) (eqb x b)) s)

pub occurs_le : (b : ℕ) (s : List ℕ) → occurs b s ≤ length s
occurs_le b s = rw (← occurs_counts b s) (count_by-le-length (λ x. x == b) s)

-- The numbers: what is left, after the number v that is written so far, gives the answer.
module _ (n : ℕ) (s : List ℕ) (i v w : ℕ) (inv : up_to n v (drop i s) ≡ up_to n 0 s) (l : i < length s) (e : w ≡ further v (get_or s i 0)) where
  turn : (leb w n && up_to n w (drop (i + 1) s)) ≡ up_to n 0 s
  unfolding up_to
  turn = ap (λ (x : ℕ). leb x n && up_to n x (drop (i + 1) s)) e ∙ sym (ap (up_to n v) (drop_next s i l)) ∙ inv

  pub up_to_stop : n < w → false ≡ up_to n 0 s
  up_to_stop h = ap (λ (t : Bool). t && up_to n w (drop (i + 1) s)) (sym (lt-leb w n h)) ∙ turn

  pub up_to_go : w ≤ n → up_to n w (drop (i + 1) s) ≡ up_to n 0 s
  up_to_go h = ap (λ (t : Bool). t && up_to n w (drop (i + 1) s)) (sym (le-leb w n h)) ∙ turn

pub up_to_end : (n : ℕ) (s : List ℕ) (i v : ℕ) → up_to n v (drop i s) ≡ up_to n 0 s → length s ≤ i → true ≡ up_to n 0 s
unfolding up_to
up_to_end n s i v inv l = sym (ap (up_to n v) (drop_of_length-le s l)) ∙ inv

-- One byte further.
further_digit : (v b : ℕ) → 48 ≤ b → b ≤ 57 → v * 10 + (b - 48) ≡ further v b
further_digit v b l u = simp (le-leb 48 b l, le-leb b 57 u)

-- A byte that is no digit ends the number.
further_other : (v b : ℕ) → (48 ≤ b → b ≤ 57 → ⊥) → further v b ≡ 0
further_other v b h = go (leb 48 b) (leb b 57) refl refl
  where
    go : (t u : Bool) → leb 48 b ≡ t → leb b 57 ≡ u → cond (t && u) (v * 10 + (b - 48)) 0 ≡ 0
    go true true e f = absurd (h (leb-true 48 b e) (leb-true b 57 f))
    go true false e f = refl
    go false u e f = refl

up_to_other : (n v b : ℕ) (s : List ℕ) → (48 ≤ b → b ≤ 57 → ⊥) → up_to n v (b ∷ s) ≡ up_to n 0 s
unfolding up_to
up_to_other n v b s h = rw (further_other v b h, le-leb 0 n (omega arith))

up_to_after : (n v : ℕ) (s : List ℕ) → NoDigit s → up_to n v s ≡ up_to n 0 s
unfolding up_to
up_to_after n v [] h = refl
up_to_after n v (b ∷ s) h = up_to_other n v b s h ∙ sym (up_to_other n 0 b s h)

-- The text x has the names xs: before any text that begins with no digit.
module _ (n : ℕ) where
  abbrev at_most : List ℕ → Bool
  at_most xs = each (λ i. leb i n) xs

  abbrev Names : List ℕ → List ℕ → Type 0
  Names x xs = (s : List ℕ) → NoDigit s → up_to n 0 (x ++ s) ≡ (at_most xs && up_to n 0 s)

  names_joined : (byte : ℕ) → (48 ≤ byte → byte ≤ 57 → ⊥) → (x y xs ys : List ℕ) → Names x xs → Names y ys
      → Names (x ++ (byte ∷ y)) (xs ++ ys)
  names_joined byte sign x y xs ys h k s stop =
      ap (up_to n 0) (append_assoc x (byte ∷ y) s)
      ∙ h (byte ∷ (y ++ s)) sign
      ∙ ap (λ (t : Bool). at_most xs && t) (up_to_other n 0 byte (y ++ s) sign ∙ k s stop)
      ∙ sym (ap (λ (t : Bool). t && up_to n 0 s) (list_all-append _ xs ys) ∙ and_assoc (at_most xs) (at_most ys) (up_to n 0 s))

  names_group : (x xs : List ℕ) → Names x xs → Names (opening ∷ (x ++ (closing ∷ []))) xs
  names_group x xs h s stop =
      up_to_other n 0 opening ((x ++ (closing ∷ [])) ++ s) (λ l u. omega arith)
      ∙ ap (up_to n 0) (append_assoc x (closing ∷ []) s)
      ∙ h (closing ∷ s) (λ l u. omega arith)
      ∙ ap (λ (t : Bool). at_most xs && t) (up_to_other n 0 closing s (λ l u. omega arith))

  -- Where the number is at most n, so is its first digit.
  first_too : (i : ℕ) → 1 ≤ i → (rest : Bool) → (leb 1 n && (leb i n && rest)) ≡ (leb i n && rest)
  first_too i l rest = go (leb i n) refl
    where
      go : (t : Bool) → leb i n ≡ t → (leb 1 n && (leb i n && rest)) ≡ (leb i n && rest)
      go true e = rw (le-leb 1 n (omega (arith, leb-true i n e)))
      go false e = rw (e, and-false)

  names_number : (i : ℕ) → 1 ≤ i → i ≤ 16 → Names (numeral i) (i ∷ [])
  unfolding numeral up_to
  names_number i l u s stop = go (ltb i 10) refl ∙ ap (λ (t : Bool). t && up_to n 0 s) (sym (and-true (leb i n)))
    where
      one : i ≤ 9 → up_to n 0 ((48 + i) ∷ s) ≡ (leb i n && up_to n 0 s)
      one h =
          let e : 0 * 10 + (48 + i - 48) ≡ i = omega arith in
          rw (← further_digit 0 (48 + i) (omega arith) (omega arith), e, up_to_after n i s stop)

      two : 10 ≤ i → up_to n 0 (49 ∷ (38 + i) ∷ s) ≡ (leb i n && up_to n 0 s)
      two h =
          let e : 1 * 10 + (38 + i - 48) ≡ i = omega arith in
          rw (← further_digit 1 (38 + i) (omega arith) (omega arith), e, up_to_after n i s stop) (first_too i l (up_to n 0 s))

      go : (t : Bool) → ltb i 10 ≡ t → up_to n 0 (cond (ltb i 10) ((48 + i) ∷ []) (49 ∷ (38 + i) ∷ []) ++ s) ≡ (leb i n && up_to n 0 s)
      go true e = rw e (one (omega (arith, ltb-true i 10 e)))
      go false e = rw e (two (ltb-false i 10 e))

  mutual
    unfolding rule_text rule_names

    rule_names_hold : (r : Rule) (d : ℕ) → WellRule r d → Names (rule_text r) (rule_names r)
    rule_names_hold (term t) d w = term_names_hold t d w
    rule_names_hold (t or r) d w =
        names_joined bar (λ l u. omega arith) (term_text t) (rule_text r) (term_names t) (rule_names r)
        (term_names_hold t d w.0) (rule_names_hold r d w.1)

    term_names_hold : (t : Term) (d : ℕ) → WellTerm t d → Names (term_text t) (term_names t)
    term_names_hold (atom a) d w = atom_names_hold a d w
    term_names_hold (a and t) d w =
        names_joined ampersand (λ l u. omega arith) (atom_text a) (term_text t) (atom_names a) (term_names t)
        (atom_names_hold a d w.0) (term_names_hold t d w.1)

    atom_names_hold : (a : Atom) (d : ℕ) → WellAtom a d → Names (atom_text a) (atom_names a)
    atom_names_hold (number i) d w = names_number i w.0 w.1
    atom_names_hold (group r) d w = names_group (rule_text r) (rule_names r) (rule_names_hold r (d - 1) w.1)
    atom_names_hold (choice k b) d w = absurd w

  -- Of a rule the pass says whether each name is at most n.
  pub names_up_to : (t : List ℕ) (r : Rule) → IsRule t r → up_to n 0 t ≡ at_most (rule_names r)
  unfolding up_to
  names_up_to t r i =
      ap (up_to n 0) (i.text ∙ sym (append-nil (rule_text r))) ∙ rule_names_hold r 8 i.well [] tt ∙ and-true (at_most (rule_names r))
