-- A functional gives each column a number, and so each vector: its numbers are a kind of vectors for the construction. Which rows it kills,
-- and what stays when it is changed at other columns.
-- Assumes nothing.
use mathlib.Core.Path.{◌≡◌, refl, sym, ap, ap₂, ◌∙◌}
use mathlib.Core.Bool.{Bool, true, cond}
use mathlib.Core.List.{List, [], ◌∷◌, ◌++◌}
use Prim.Native.Nat.{ℕ, ◌+◌, ◌<◌, ◌≤◌}
use native.Mathlib.Omega.{arith}
use lib.Dec.{eqb}
use borrow.Author.Tests.{eq-eqb, ne_eqb}
use Rattle.algebra.specs.Ring.{Field}
use Rattle.rules.specs.Tree.{Rule, Atom}
use Rattle.rules.specs.Construction.{Vectors, rule_takes, atom_takes, less_all, plus_powers, rule_rows, atom_rows}
use Rattle.rules.proofs.Same.{AllRel, Match, less_same, plus_same, rule_same, atom_same}
use Rattle.rules.proofs.Polynomial.{nat}

module _ {A : Type 0} (K : Field A) where
  open K use {R}
  open R use {𝟘, ◌⊕◌, ◌⊗◌, neg}

  infixl 65 ◌⊕◌
  infixl 70 ◌⊗◌
  -- What the functional y makes of vectors: y c is its number at column c.
  unfoldable pub values : (ℕ → A) → Vectors A
  values y = record { unit = y; less = λ c a. a ⊕ neg (y c); plus = λ c w a. a ⊕ nat K w ⊗ y c }

  pub unit_value : (y : ℕ → A) (k : ℕ) → (values y).unit k ≡ y k
  unfolding values
  unit_value y k = refl

  -- The functional is 0 at each row of the set.
  module _ (member : ℕ → Bool) where
    abbrev pub Killed : List (ℕ × A) → Type 0
    Killed [] = Unit {0}
    Killed (r ∷ rs) = (member r.0 ≡ true → r.1 ≡ 𝟘) × Killed rs

    pub killed_split : (rs qs : List (ℕ × A)) → Killed (rs ++ qs) → Killed rs × Killed qs
    killed_split [] qs k = (tt, k)
    killed_split (r ∷ rs) qs k = let h = killed_split rs qs k.1 in ((k.0, h.0), h.1)

    pub killed_join : (rs qs : List (ℕ × A)) → Killed rs → Killed qs → Killed (rs ++ qs)
    killed_join [] qs k l = l
    killed_join (r ∷ rs) qs k l = (k.0, killed_join rs qs k.1 l)

  -- The functional y with x at column c.
  abbrev pub put : ℕ → A → (ℕ → A) → ℕ → A
  put c x y k = cond (eqb k c) x (y k)

  pub put_same : (c : ℕ) (x : A) (y : ℕ → A) → put c x y c ≡ x
  put_same c x y = ap (λ b. cond b x (y c)) (eq-eqb c c refl)

  pub put_other : (c : ℕ) (x : A) (y : ℕ → A) (k : ℕ) → (k ≡ c → ⊥) → put c x y k ≡ y k
  put_other c x y k h = ap (λ b. cond b x (y k)) (ne_eqb k c h)

  -- z is y outside the n columns from c on; z is y inside them.
  abbrev pub Outside : ℕ → ℕ → (ℕ → A) → (ℕ → A) → Type 0
  Outside c n y z = (k : ℕ) → (c ≤ k → k < c + n → ⊥) → z k ≡ y k

  abbrev pub Inside : ℕ → ℕ → (ℕ → A) → (ℕ → A) → Type 0
  Inside c n y z = (k : ℕ) → c ≤ k → k < c + n → z k ≡ y k

  -- m columns changed, and then the n columns after them.
  pub outside_join : (c m n : ℕ) (y u z : ℕ → A) → Outside c m y u → Outside (c + m) n u z → Outside c (m + n) y z
  outside_join c m n y u z o p k h = p k (λ a b. h (omega arith) (omega arith)) ∙ o k (λ a b. h (omega arith) (omega arith))

  -- What lies before the columns changed is as it was.
  pub before : (a m c n : ℕ) (y z : ℕ → A) → a + m ≤ c → Outside c n y z → Inside a m y z
  before a m c n y z l o k p q = o k (λ r s. omega arith)

  abbrev Equal : A → A → Type 0
  Equal a b = a ≡ b

  agree : (c n : ℕ) (y z : ℕ → A) → Inside c n y z → Match (values z) (values y) Equal c (c + n)
  unfolding values
  agree c n y z h = record {
    units = λ k l u. h k l u;
    lesses = λ k a b l u e. ap₂ (λ p q. p ⊕ neg q) e (h k l u);
    pluses = λ k w a b l u e. ap₂ (λ p q. p ⊕ nat K w ⊗ q) e (h k l u);
  }

  pub less_keep : (c q : ℕ) (a : A) (y z : ℕ → A) → Inside c q y z → less_all (values z) c q a ≡ less_all (values y) c q a
  less_keep c q a y z h =
      less_same (values z) (values y) Equal c (c + q) (agree c q y z h) c q a a (omega arith) (omega arith) refl

  pub plus_keep : (i c q : ℕ) (a : A) (y z : ℕ → A) → Inside c q y z → plus_powers (values z) i 1 c q a ≡ plus_powers (values y) i 1 c q a
  plus_keep i c q a y z h =
      plus_same (values z) (values y) Equal c (c + q) (agree c q y z h) i 1 c q a a (omega arith) (omega arith) refl

  module _ (member : ℕ → Bool) where
    killed_same : (rs qs : List (ℕ × A)) → AllRel Equal rs qs → Killed member qs → Killed member rs
    killed_same [] [] h k = tt
    killed_same [] (q ∷ qs) h k = absurd h
    killed_same (r ∷ rs) [] h k = absurd h
    killed_same (r ∷ rs) (q ∷ qs) h k = ((λ e. h.1 ∙ k.0 (sym (ap member h.0) ∙ e)), killed_same rs qs h.2 k.1)

    pub rule_keep : (r : Rule) (a b : A) (c : ℕ) (y z : ℕ → A) → Inside c (rule_takes r) y z → b ≡ a
        → Killed member (rule_rows (values y) r a c) → Killed member (rule_rows (values z) r b c)
    rule_keep r a b c y z h e k = killed_same (rule_rows (values z) r b c) (rule_rows (values y) r a c)
        (rule_same (values z) (values y) Equal c (c + rule_takes r) (agree c (rule_takes r) y z h) r b a c (omega arith) (omega arith) e) k

    pub atom_keep : (x : Atom) (a b : A) (c : ℕ) (y z : ℕ → A) → Inside c (atom_takes x) y z → b ≡ a
        → Killed member (atom_rows (values y) x a c) → Killed member (atom_rows (values z) x b c)
    atom_keep x a b c y z h e k = killed_same (atom_rows (values z) x b c) (atom_rows (values y) x a c)
        (atom_same (values z) (values y) Equal c (c + atom_takes x) (agree c (atom_takes x) y z h) x b a c (omega arith) (omega arith) e) k
