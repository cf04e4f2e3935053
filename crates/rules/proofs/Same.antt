-- The construction does not look into vectors: two kinds of vectors that correspond give rows that correspond.
-- Assumes nothing.
use mathlib.Core.Path.{◌≡◌, refl}
use mathlib.Core.List.{List, [], ◌∷◌, ◌++◌}
use Prim.Native.Nat.{ℕ, zero, suc, ◌+◌, ◌-◌, ◌^◌, ◌<◌, ◌≤◌}
use native.Mathlib.Omega.{arith}
use Rattle.rules.specs.Tree.{Rule, Term, Atom, Rules, term, ◌or◌, atom, ◌and◌, number, group, choice, rule, ◌comma◌}
use Rattle.rules.specs.Construction.{Vectors, ands, rule_takes, inside_takes, atom_takes, rules_take}
use Rattle.rules.specs.Construction.{less_all, plus_powers, rule_rows, term_rows, atom_rows, rules_rows}

-- Row by row the labels are equal and the vectors related.
module _ {X Y : Type 0} (Rel : X → Y → Type 0) where
  abbrev pub AllRel : List (ℕ × X) → List (ℕ × Y) → Type 0
  AllRel [] [] = Unit {0}
  AllRel [] (q ∷ qs) = ⊥
  AllRel (r ∷ rs) [] = ⊥
  AllRel (r ∷ rs) (q ∷ qs) = (r.0 ≡ q.0) × Rel r.1 q.1 × AllRel rs qs

  pub all_append : (rs ts : List (ℕ × X)) (qs us : List (ℕ × Y)) → AllRel rs qs → AllRel ts us → AllRel (rs ++ ts) (qs ++ us)
  all_append [] ts [] us h k = k
  all_append [] ts (q ∷ qs) us h k = absurd h
  all_append (r ∷ rs) ts [] us h k = absurd h
  all_append (r ∷ rs) ts (q ∷ qs) us h k = (h.0, h.1, all_append rs ts qs us h.2 k)

-- The two kinds correspond at the columns from lo on and below hi.
pub record Match {X Y : Type 0} (O : Vectors X) (P : Vectors Y) (Rel : X → Y → Type 0) (lo hi : ℕ) : Type 0 where
  pub units : (k : ℕ) → lo ≤ k → k < hi → Rel (O.unit k) (P.unit k)
  pub lesses : (k : ℕ) (x : X) (y : Y) → lo ≤ k → k < hi → Rel x y → Rel (O.less k x) (P.less k y)
  pub pluses : (k w : ℕ) (x : X) (y : Y) → lo ≤ k → k < hi → Rel x y → Rel (O.plus k w x) (P.plus k w y)

module _ {X Y : Type 0} (O : Vectors X) (P : Vectors Y) (Rel : X → Y → Type 0) (lo hi : ℕ) (M : Match O P Rel lo hi) where
  pub less_same : (c q : ℕ) (x : X) (y : Y) → lo ≤ c → c + q ≤ hi → Rel x y → Rel (less_all O c q x) (less_all P c q y)
  unfolding less_all
  less_same c zero x y l h r = r
  less_same c (suc q) x y l h r =
      less_same (suc c) q (O.less c x) (P.less c y) (omega arith) (omega arith) (M.lesses c x y l (omega arith) r)

  pub plus_same : (i j c q : ℕ) (x : X) (y : Y) → lo ≤ c → c + q ≤ hi → Rel x y → Rel (plus_powers O i j c q x) (plus_powers P i j c q y)
  unfolding plus_powers
  plus_same i j c zero x y l h r = r
  plus_same i j c (suc q) x y l h r = plus_same i (suc j) (suc c) q (O.plus c (i ^ j) x) (P.plus c (i ^ j) y) (omega arith) (omega arith)
      (M.pluses c (i ^ j) x y l (omega arith) r)

  -- A rule's rows, where its columns are among those.
  mutual
    unfolding rule_rows rule_takes ands

    pub rule_same : (r : Rule) (x : X) (y : Y) (c : ℕ) → lo ≤ c → c + rule_takes r ≤ hi → Rel x y
        → AllRel Rel (rule_rows O r x c) (rule_rows P r y c)
    rule_same (term t) x y c l h e = term_same t (less_all O c (ands t) x) (less_all P c (ands t) y) c (c + ands t) l (omega arith)
        (omega arith) (omega arith) (less_same c (ands t) x y l (omega arith) e)
    rule_same (t or r) x y c l h e = all_append Rel
        (rule_rows O (term t) x c) (rule_rows O r x (c + (ands t + inside_takes t)))
        (rule_rows P (term t) y c) (rule_rows P r y (c + (ands t + inside_takes t)))
        (term_same t (less_all O c (ands t) x) (less_all P c (ands t) y) c (c + ands t) l (omega arith) (omega arith) (omega arith)
        (less_same c (ands t) x y l (omega arith) e))
        (rule_same r x y (c + (ands t + inside_takes t)) (omega arith) (omega arith) e)

    pub term_same : (t : Term) (x : X) (y : Y) (k c : ℕ) → lo ≤ k → k + ands t ≤ hi → lo ≤ c → c + inside_takes t ≤ hi → Rel x y
        → AllRel Rel (term_rows O t x k c) (term_rows P t y k c)
    term_same (atom a) x y k c l h m n e = atom_same a x y c m n e
    term_same (a and t) x y k c l h m n e = all_append Rel
        (atom_rows O a (O.unit k) c) (term_rows O t x (suc k) (c + atom_takes a))
        (atom_rows P a (P.unit k) c) (term_rows P t y (suc k) (c + atom_takes a))
        (atom_same a (O.unit k) (P.unit k) c m (omega arith) (M.units k l (omega arith)))
        (term_same t x y (suc k) (c + atom_takes a) (omega arith) (omega arith) (omega arith) (omega arith) e)

    pub atom_same : (a : Atom) (x : X) (y : Y) (c : ℕ) → lo ≤ c → c + atom_takes a ≤ hi → Rel x y
        → AllRel Rel (atom_rows O a x c) (atom_rows P a y c)
    atom_same (number i) x y c l h e = (refl, e, tt)
    atom_same (group r) x y c l h e = rule_same r x y c l h e
    atom_same (choice k b) x y c l h e =
        rules_same b 1 (k - 1) c x y (c + (k - 1)) l (omega arith) (omega arith) (omega arith) e

    pub rules_same : (b : Rules) (i q k : ℕ) (x : X) (y : Y) (c : ℕ) → lo ≤ k → k + q ≤ hi → lo ≤ c → c + rules_take b ≤ hi → Rel x y
        → AllRel Rel (rules_rows O b i q k x c) (rules_rows P b i q k y c)
    rules_same (rule r) i q k x y c l h m n e =
        rule_same r (plus_powers O i 1 k q x) (plus_powers P i 1 k q y) c m n (plus_same i 1 k q x y l h e)
    rules_same (r comma b) i q k x y c l h m n e = all_append Rel
        (rule_rows O r (plus_powers O i 1 k q x) c) (rules_rows O b (suc i) q k x (c + rule_takes r))
        (rule_rows P r (plus_powers P i 1 k q y) c) (rules_rows P b (suc i) q k y (c + rule_takes r))
        (rule_same r (plus_powers O i 1 k q x) (plus_powers P i 1 k q y) c m (omega arith) (plus_same i 1 k q x y l h e))
        (rules_same b (suc i) q k x y (c + rule_takes r) l h (omega arith) (omega arith) e)
