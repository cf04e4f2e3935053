-- What the readers answer is right: where one says that a rule, a term or an atom ends, one is written.
-- Assumes nothing.
use mathlib.Core.Path.{◌≡◌, refl, sym, ap, ◌∙◌}
use mathlib.Core.Bool.{Bool, true, false, cond, ◌&&◌}
use mathlib.Core.List.{List, [], ◌∷◌, ◌++◌, append_assoc}
use Prim.Native.Nat.{ℕ, zero, suc, ◌+◌, ◌-◌, ◌≤◌}
use native.Mathlib.Omega.{arith}
use lib.Dec.{eqb, leb}
use lib.ListN.{drop}
use borrow.Author.Tests.{lt-ltb, le-ltb, eqb-true, eqb-false, leb-true}
use Rattle.scheme.proofs.Tests.{and-true}
use Rattle.rules.specs.Tree.{term, ◌or◌, atom, ◌and◌, number, group}
use Rattle.rules.specs.Text.{opening, closing, numeral, rule_text, term_text, atom_text, WellRule, WellTerm, WellAtom}
use Rattle.reader.specs.declared.Kind.{Kind}
use Rattle.std.specs.Prelude.{Option, Some, None}
use Rattle.reader.specs.Grammar.{
  kind_at,
  tag,
  is_digit,
  is_open,
  is_close,
  digit,
  number_end_lem,
  after,
  on_atom,
  rule_end,
  term_end,
  atom_end,
}
use Rattle.reader.proofs.Begins.{
  Sign,
  or_sign,
  and_sign,
  open_sign,
  close_sign,
  sign_here,
  DigitAt,
  digit_here,
  first_here,
}

-- A tree is written in s from one place up to the other, with at most d parentheses open in it.
pub record Written {A : Type 0} (text : A → List ℕ) (Well : A → ℕ → Type 0) (s : List ℕ) (d at end : ℕ) : Type 0 where
  pub tree : A
  pub well : Well tree d
  pub here : drop at s ≡ text tree ++ drop end s

abbrev pub Found : {A : Type 0} → (A → List ℕ) → (A → ℕ → Type 0) → List ℕ → ℕ → ℕ → Option ℕ → Type 0
Found text Well s d at (Some q) = Written text Well s d at q
Found text Well s d at None = Unit {0}

-- Parts joined by a sign, for a rule and for a term alike.
module _
    {Part Joined : Type 0}
    (part : Part → List ℕ)
    (text : Joined → List ℕ)
    (WellPart : Part → ℕ → Type 0)
    (Well : Joined → ℕ → Type 0)
    (one : Part → Joined)
    (more : Part → Joined → Joined)
    {k : Kind}
    {byte : ℕ}
    (sign : Sign k byte)
    (text-one : (a : Part) → text (one a) ≡ part a)
    (text-more : (a : Part) (l : Joined) → text (more a l) ≡ part a ++ (byte ∷ text l))
    (well-one : (a : Part) (d : ℕ) → WellPart a d → Well (one a) d)
    (well-more : (a : Part) (l : Joined) (d : ℕ) → WellPart a d → Well l d → Well (more a l) d)
    (s : List ℕ)
    (d at : ℕ) where
  joined_found : (first : Option ℕ) (rest : ℕ → Option ℕ) → Found part WellPart s d at first → ((q : ℕ) → Found text Well s d (q + 1) (rest q))
      → Found text Well s d at (after first (λ q. cond (eqb (tag (kind_at s q)) (tag k)) (rest q) (Some q)))
  joined_found None rest f g = tt
  joined_found (Some q) rest f g = go (eqb (tag (kind_at s q)) (tag k)) refl
    where
      longer : drop q s ≡ byte ∷ drop (q + 1) s → (r : Option ℕ) → Found text Well s d (q + 1) r → Found text Well s d at r
      longer e None h = tt
      longer e (Some m) h = record {
        tree = more f.tree h.tree;
        well = well-more f.tree h.tree d f.well h.well;
        here =
            f.here ∙ ap (λ (z : List ℕ). part f.tree ++ z) (e ∙ ap (λ (z : List ℕ). byte ∷ z) h.here)
            ∙ sym (append_assoc (part f.tree) (byte ∷ text h.tree) (drop m s))
            ∙ ap (λ (z : List ℕ). z ++ drop m s) (sym (text-more f.tree h.tree));
      }

      go : (t : Bool) → eqb (tag (kind_at s q)) (tag k) ≡ t → Found text Well s d at (cond t (rest q) (Some q))
      go true e = longer (sign_here sign s q e) (rest q) (g q)
      go false e = record {
        tree = one f.tree;
        well = well-one f.tree d f.well;
        here = f.here ∙ ap (λ (z : List ℕ). z ++ drop q s) (sym (text-one f.tree));
      }

-- A number of one digit, and one of two.
module _ (s : List ℕ) (d at : ℕ) where
  one_digit : (v : ℕ) → DigitAt s at v → 1 ≤ v → Written atom_text WellAtom s d at (at + 1)
  unfolding atom_text numeral
  one_digit v h l = let u = h.most in record {
    tree = number v;
    well = (l, omega arith);
    here = rw (lt-ltb v 10 (omega arith)) h.here;
  }

  two_digits : (v w : ℕ) → DigitAt s at v → v ≡ 1 → DigitAt s (at + 1) w → w ≤ 6 → Written atom_text WellAtom s d at (at + 2)
  unfolding atom_text numeral
  two_digits v w h e k u =
      let first : 48 + v ≡ 49 = omega arith in
      let second : 48 + w ≡ 38 + (10 + w) = omega arith in
      let next : at + 1 + 1 ≡ at + 2 = omega arith in
      record {
        tree = number (10 + w);
        well = (omega arith, omega arith);
        here = rw (le-ltb (10 + w) 10 (omega arith))
            (rw first at h.here ∙ ap (λ (z : List ℕ). 49 ∷ z) (rw (second, next) at k.here));
      }

  number_found : (v : ℕ) → DigitAt s at v → 1 ≤ v → Found atom_text WellAtom s d at (number_end_lem s v at)
  unfolding number_end_lem
  number_found v h l = go (is_digit (kind_at s (at + 1))) refl
    where
      fits : (t : Bool) → (eqb v 1 && leb (digit (kind_at s (at + 1))) 6) ≡ t → DigitAt s (at + 1) (digit (kind_at s (at + 1)))
          → Found atom_text WellAtom s d at (cond t (Some (at + 2)) None)
      fits true e k = let b = and-true _ _ e in two_digits v _ h (eqb-true v 1 b.0) k (leb-true _ 6 b.1)
      fits false e k = tt

      go : (t : Bool) → is_digit (kind_at s (at + 1)) ≡ t
          → Found atom_text WellAtom s d at (cond t (cond (eqb v 1 && leb (digit (kind_at s (at + 1))) 6) (Some (at + 2)) None) (Some (at + 1)))
      go true e = fits (eqb v 1 && leb (digit (kind_at s (at + 1))) 6) refl (digit_here s (at + 1) e)
      go false e = one_digit v h l

  -- A group: the rule in it is read from the next place on.
  group_found : drop at s ≡ opening ∷ drop (at + 1) s → (d ≡ 0 → ⊥) → (r : Option ℕ) → Found rule_text WellRule s (d - 1) (at + 1) r
      → Found atom_text WellAtom s d at (after r (λ q. cond (is_close (kind_at s q)) (Some (q + 1)) None))
  unfolding atom_text
  group_found o n None f = tt
  group_found o n (Some q) f = go (is_close (kind_at s q)) refl
    where
      go : (t : Bool) → is_close (kind_at s q) ≡ t → Found atom_text WellAtom s d at (cond t (Some (q + 1)) None)
      go true e = record {
        tree = group f.tree;
        well = (omega (arith, n), f.well);
        here = o ∙ ap (λ (z : List ℕ). opening ∷ z)
            (f.here ∙ ap (λ (z : List ℕ). rule_text f.tree ++ z) (sign_here close_sign s q e)
            ∙ sym (append_assoc (rule_text f.tree) (closing ∷ []) (drop (q + 1) s)));
      }
      go false e = tt

  either_found : (r : Option ℕ) → Found rule_text WellRule s (d - 1) (at + 1) r
      → Found atom_text WellAtom s d at
      (on_atom (kind_at s at) (λ v. number_end_lem s v at) (cond (eqb d 0) None (after r (λ q. cond (is_close (kind_at s q)) (Some (q + 1)) None))))
  either_found r f = go (eqb (tag (kind_at s at)) 0) (is_open (kind_at s at)) (eqb d 0) refl refl refl
    where
      go : (first opens deep : Bool) → eqb (tag (kind_at s at)) 0 ≡ first → is_open (kind_at s at) ≡ opens → eqb d 0 ≡ deep
          → Found atom_text WellAtom s d at
          (cond first (number_end_lem s (digit (kind_at s at)) at)
          (cond opens (cond deep None (after r (λ q. cond (is_close (kind_at s q)) (Some (q + 1)) None))) None))
      go true opens deep e o z = let h = first_here s at e in number_found (digit (kind_at s at)) h.0 h.1
      go false true true e o z = tt
      go false true false e o z = group_found (sign_here open_sign s at o) (eqb-false d 0 z) r f
      go false false deep e o z = tt

mutual
  unfolding rule_end rule_text

  pub rule_found : (n : ℕ) (s : List ℕ) (d at : ℕ) → Found rule_text WellRule s d at (rule_end n s d at)
  rule_found zero s d at = tt
  rule_found (suc n) s d at = joined_found term_text rule_text WellTerm WellRule term ◌or◌ or_sign (λ t. refl) (λ t r. refl) (λ t d w. w)
      (λ t r d w v. (w, v)) s d at (term_end n s d at) (λ q. rule_end n s d (q + 1)) (term_found n s d at) (λ q. rule_found n s d (q + 1))

  term_found : (n : ℕ) (s : List ℕ) (d at : ℕ) → Found term_text WellTerm s d at (term_end n s d at)
  term_found zero s d at = tt
  term_found (suc n) s d at = joined_found atom_text term_text WellAtom WellTerm atom ◌and◌ and_sign (λ a. refl) (λ a t. refl) (λ a d w. w)
      (λ a t d w v. (w, v)) s d at (atom_end n s d at) (λ q. term_end n s d (q + 1)) (atom_found n s d at) (λ q. term_found n s d (q + 1))

  atom_found : (n : ℕ) (s : List ℕ) (d at : ℕ) → Found atom_text WellAtom s d at (atom_end n s d at)
  atom_found zero s d at = tt
  atom_found (suc n) s d at = either_found s d at (rule_end n s (d - 1) (at + 1)) (rule_found n s (d - 1) (at + 1))
