-- Rows and columns counted: a row for each name, in order; each row has as many numbers as there are columns, all below p; the entries as
-- one list, row by row; and each name is from 1 to 16.
-- Assumes nothing.
use mathlib.Core.Path.{◌≡◌, refl, sym, ap, ap₂, ◌∙◌}
use mathlib.Core.List.{List, [], ◌∷◌, ◌++◌}
use Prim.Native.Nat.{ℕ, zero, suc, ◌+◌, ◌-◌, ◌*◌, ◌%◌, ◌<◌, ◌≤◌}
use native.Mathlib.Nat.{not-suc-le-zero, le_of_suc-le-suc, mod-lt}
use native.Mathlib.Omega.{arith}
use lib.ListN.{length, get_or, set, replicate, length-append, length-set, length-replicate, get_or-append}
use lib.Seq.{get_or-append-add}
use Rattle.lists.proofs.Store.{below_set, zeros_at}
use Rattle.rules.specs.Tree.{Rule, Term, Atom, Rules, term, ◌or◌, atom, ◌and◌, number, group, choice, rule, ◌comma◌}
use Rattle.rules.specs.Tree.{rule_names, term_names, atom_names, rules_names}
use Rattle.rules.specs.Text.{WellRule, WellTerm, WellAtom}
use Rattle.rules.specs.Construction.{Vectors, ands, rule_takes, inside_takes, atom_takes, less_all, plus_powers}
use Rattle.rules.specs.Construction.{rule_rows, term_rows, atom_rows, rules_rows, modulo, columns, rows, labels_of, entries_of}
use Rattle.rules.proofs.Same.{AllRel, Match, rule_same}
use Rattle.rules.proofs.Numbers.{row_label, row_entry}

labels_append : (rs qs : List (ℕ × List ℕ)) → labels_of (rs ++ qs) ≡ labels_of rs ++ labels_of qs
unfolding labels_of
labels_append [] qs = refl
labels_append (r ∷ rs) qs = ap (λ z. r.0 ∷ z) (labels_append rs qs)

labels_length : (rs : List (ℕ × List ℕ)) → length (labels_of rs) ≡ length rs
unfolding labels_of
labels_length [] = refl
labels_length (r ∷ rs) = ap suc (labels_length rs)

pub label_at : (rs : List (ℕ × List ℕ)) (k : ℕ) → get_or (labels_of rs) k 0 ≡ row_label rs k
unfolding labels_of
label_at [] k = refl
label_at (r ∷ rs) zero = refl
label_at (r ∷ rs) (suc k) = label_at rs k

-- The labels are the names, whatever is done with vectors.
module _ (O : Vectors (List ℕ)) where
  mutual
    unfolding rule_rows rule_names labels_of

    pub rule_labels : (r : Rule) (x : List ℕ) (c : ℕ) → labels_of (rule_rows O r x c) ≡ rule_names r
    rule_labels (term t) x c = term_labels t (less_all O c (ands t) x) c (c + ands t)
    rule_labels (t or r) x c = labels_append (rule_rows O (term t) x c) (rule_rows O r x (c + (ands t + inside_takes t)))
        ∙ ap₂ ◌++◌ (term_labels t (less_all O c (ands t) x) c (c + ands t)) (rule_labels r x (c + (ands t + inside_takes t)))

    term_labels : (t : Term) (x : List ℕ) (k c : ℕ) → labels_of (term_rows O t x k c) ≡ term_names t
    term_labels (atom a) x k c = atom_labels a x c
    term_labels (a and t) x k c = labels_append (atom_rows O a (O.unit k) c) (term_rows O t x (suc k) (c + atom_takes a))
        ∙ ap₂ ◌++◌ (atom_labels a (O.unit k) c) (term_labels t x (suc k) (c + atom_takes a))

    atom_labels : (a : Atom) (x : List ℕ) (c : ℕ) → labels_of (atom_rows O a x c) ≡ atom_names a
    atom_labels (number i) x c = refl
    atom_labels (group r) x c = rule_labels r x c
    atom_labels (choice k b) x c = rules_labels b 1 (k - 1) c x (c + (k - 1))

    rules_labels : (b : Rules) (i q k : ℕ) (x : List ℕ) (c : ℕ) → labels_of (rules_rows O b i q k x c) ≡ rules_names b
    rules_labels (rule r) i q k x c = rule_labels r (plus_powers O i 1 k q x) c
    rules_labels (r comma b) i q k x c =
        labels_append (rule_rows O r (plus_powers O i 1 k q x) c) (rules_rows O b (suc i) q k x (c + rule_takes r))
        ∙ ap₂ ◌++◌ (rule_labels r (plus_powers O i 1 k q x) c) (rules_labels b (suc i) q k x (c + rule_takes r))

  pub rule_count : (r : Rule) (x : List ℕ) (c : ℕ) → length (rule_rows O r x c) ≡ length (rule_names r)
  rule_count r x c = sym (labels_length (rule_rows O r x c)) ∙ ap length (rule_labels r x c)

  pub term_count : (t : Term) (x : List ℕ) (k c : ℕ) → length (term_rows O t x k c) ≡ length (term_names t)
  term_count t x k c = sym (labels_length (term_rows O t x k c)) ∙ ap length (term_labels t x k c)

  pub atom_count : (a : Atom) (x : List ℕ) (c : ℕ) → length (atom_rows O a x c) ≡ length (atom_names a)
  atom_count a x c = sym (labels_length (atom_rows O a x c)) ∙ ap length (atom_labels a x c)

pub labels_are : (p : ℕ) (r : Rule) → labels_of (rows p r) ≡ rule_names r
unfolding rows
labels_are p r = rule_labels (modulo p (columns r)) r (set (replicate (columns r) 0) 0 1) 1

pub rows_count : (p : ℕ) (r : Rule) → length (rows p r) ≡ length (rule_names r)
unfolding rows
rows_count p r = rule_count (modulo p (columns r)) r (set (replicate (columns r) 0) 0 1) 1

-- What holds of each vector holds of each row's.
all_at : (P : List ℕ → Type 0) (rs qs : List (ℕ × List ℕ)) → AllRel (λ x y. P x) rs qs → (k : ℕ) → k < length rs → P (get_or rs k (0, [])).1
all_at P [] qs h k l = absurd (not-suc-le-zero l)
all_at P (r ∷ rs) [] h k l = absurd h
all_at P (r ∷ rs) (q ∷ qs) h zero l = h.1
all_at P (r ∷ rs) (q ∷ qs) h (suc k) l = all_at P rs qs h.2 k (le_of_suc-le-suc l)

module _ (p : ℕ) (r : Rule) where
  abbrev O : Vectors (List ℕ)
  O = modulo p (columns r)

  -- The target is the vector with 1 in column 0.
  each_row : (P : List ℕ → Type 0) → Match O O (λ x y. P x) 0 (columns r)
      → (k : ℕ) → k < length (rows p r) → P (get_or (rows p r) k (0, [])).1
  unfolding rows modulo
  each_row P M = all_at P (rows p r) (rows p r)
      (rule_same O O (λ x y. P x) 0 (columns r) M r (set (replicate (columns r) 0) 0 1) (set (replicate (columns r) 0) 0 1) 1 (omega arith)
      (omega arith) (M.units 0 (omega arith) (omega arith)))

  abbrev Long : List ℕ → Type 0
  Long x = length x ≡ columns r

  unit_long : (k : ℕ) → Long (O.unit k)
  unfolding modulo
  unit_long k = length-set (replicate (columns r) 0) k 1 ∙ length-replicate (columns r) 0

  pub row_length : (k : ℕ) → k < length (rows p r) → length (get_or (rows p r) k (0, [])).1 ≡ columns r
  unfolding modulo
  row_length = each_row Long (record {
    units = λ k l u. unit_long k;
    lesses = λ k x y l u h. length-set x k ((get_or x k 0 + (p - 1)) % p) ∙ h;
    pluses = λ k w x y l u h. length-set x k ((get_or x k 0 + w) % p) ∙ h;
  })

  abbrev Below : List ℕ → Type 0
  Below x = Long x × ((j : ℕ) → get_or x j 0 < p)

  set_below : (x : List ℕ) (k b : ℕ) → k < columns r → b < p → Below x → Below (set x k b)
  set_below x k b l h g = (length-set x k b ∙ g.0, below_set p x k b (omega (arith, g.0)) h g.1)

  pub rows_below : 1 < p → (k j : ℕ) → k < length (rows p r) → row_entry (rows p r) k j < p
  unfolding modulo
  rows_below one k j l = (each_row Below (record {
    units = λ k l u. set_below (replicate (columns r) 0) k 1 u one
        (length-replicate (columns r) 0, λ j. omega (arith, zeros_at (columns r) j));
    lesses = λ k x y l u h. set_below x k ((get_or x k 0 + (p - 1)) % p) u (mod-lt (get_or x k 0 + (p - 1)) (omega arith)) h;
    pluses = λ k w x y l u h. set_below x k ((get_or x k 0 + w) % p) u (mod-lt (get_or x k 0 + w) (omega arith)) h;
  }) k l).1 j

-- Rows of e numbers each, one after another.
module _ (e : ℕ) where
  abbrev RowsLong : List (ℕ × List ℕ) → Type 0
  RowsLong rs = (k : ℕ) → k < length rs → length (get_or rs k (0, [])).1 ≡ e

  flat_length : (rs : List (ℕ × List ℕ)) → RowsLong rs → length (entries_of rs) ≡ length rs * e
  unfolding entries_of
  flat_length [] h = omega arith
  flat_length (r ∷ rs) h =
      omega (arith, length-append r.1 (entries_of rs), h zero (omega arith), flat_length rs (λ k l. h (suc k) (omega arith)))

  flat_at : (rs : List (ℕ × List ℕ)) → RowsLong rs → (k j : ℕ) → k < length rs → j < e → get_or (entries_of rs) (k * e + j) 0 ≡ row_entry rs k j
  unfolding entries_of
  flat_at [] h k j l m = absurd (not-suc-le-zero l)
  flat_at (r ∷ rs) h zero j l m =
      let q : zero * e + j ≡ j = omega arith in
      ap (λ (i : ℕ). get_or (r.1 ++ entries_of rs) i 0) q ∙ get_or-append r.1 (entries_of rs) 0 j (omega (arith, h zero (omega arith)))
  flat_at (r ∷ rs) h (suc k) j l m =
      let q : suc k * e + j ≡ length r.1 + (k * e + j) = omega (arith, h zero (omega arith)) in
      ap (λ (i : ℕ). get_or (r.1 ++ entries_of rs) i 0) q ∙ get_or-append-add r.1 (entries_of rs) (k * e + j) 0
      ∙ flat_at rs (λ i li. h (suc i) (omega arith)) k j (le_of_suc-le-suc l) m

pub entries_length : (p : ℕ) (r : Rule) → length (entries_of (rows p r)) ≡ length (rows p r) * columns r
entries_length p r = flat_length (columns r) (rows p r) (row_length p r)

pub entries_at : (p : ℕ) (r : Rule) (k j : ℕ) → k < length (rows p r) → j < columns r
    → get_or (entries_of (rows p r)) (k * columns r + j) 0 ≡ row_entry (rows p r) k j
entries_at p r = flat_at (columns r) (rows p r) (row_length p r)

-- "a number from 1 to 16", at each place of a list.
abbrev pub FromOneTo16 : List ℕ → Type 0
FromOneTo16 l = (k : ℕ) → k < length l → (1 ≤ get_or l k 0) × (get_or l k 0 ≤ 16)

from_append : (l m : List ℕ) → FromOneTo16 l → FromOneTo16 m → FromOneTo16 (l ++ m)
from_append [] m h g k q = g k q
from_append (x ∷ l) m h g zero q = h zero (omega arith)
from_append (x ∷ l) m h g (suc k) q = from_append l m (λ i li. h (suc i) (omega arith)) g k (le_of_suc-le-suc q)

from_single : (i : ℕ) → (1 ≤ i) × (i ≤ 16) → FromOneTo16 (i ∷ [])
from_single i w zero l = w
from_single i w (suc k) l = absurd (not-suc-le-zero (le_of_suc-le-suc l))

mutual
  unfolding rule_names

  pub names_well : (r : Rule) (d : ℕ) → WellRule r d → FromOneTo16 (rule_names r)
  names_well (term t) d w = term_well t d w
  names_well (t or r) d w = from_append (term_names t) (rule_names r) (term_well t d w.0) (names_well r d w.1)

  term_well : (t : Term) (d : ℕ) → WellTerm t d → FromOneTo16 (term_names t)
  term_well (atom a) d w = atom_well a d w
  term_well (a and t) d w = from_append (atom_names a) (term_names t) (atom_well a d w.0) (term_well t d w.1)

  atom_well : (a : Atom) (d : ℕ) → WellAtom a d → FromOneTo16 (atom_names a)
  atom_well (number i) d w = from_single i w
  atom_well (group r) d w = names_well r (d - 1) w.1
  atom_well (choice k b) d w = absurd w
