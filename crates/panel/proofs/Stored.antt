-- Shares laid at a participant's rows, place by place; and the stored shares that are read.
-- Assumes nothing.
use mathlib.Core.Path.{◌≡◌, refl, ap, ap₂, ◌∙◌}
use mathlib.Core.Bool.{Bool, true, false, not, cond, ◌&&◌, ◌||◌}
use mathlib.Core.List.{List, [], ◌∷◌}
use Prim.Native.Nat.{ℕ, zero, suc, ◌+◌, ◌<◌, ◌≤◌}
use native.Mathlib.Nat.{le_of_suc-le-suc, not-suc-le-zero}
use native.Mathlib.Omega.{arith}
use lib.Dec.{eqb, ltb}
use lib.ListN.{length, take}
use borrow.Author.Tests.{eq-eqb, ne_eqb, lt-ltb}
use Rattle.linear.specs.Flat.{place}
use Rattle.sets.proofs.Mask.{one}
use Rattle.scheme.specs.Sets.{in_set}
use Rattle.scheme.specs.Refusal.{read_below_lem}
use Rattle.panel.specs.Cards.{rows_of, laid}

either_length : (b : Bool) (x y : ℕ) (u v stored : List ℕ) → length u ≡ length stored → length v ≡ length stored
    → length (cond b (x ∷ u) (y ∷ v)) ≡ suc (length stored)
either_length true x y u v stored e f = ap suc e
either_length false x y u v stored e f = ap suc f

pub laid_length : (who : ℕ) (labels shares stored : List ℕ) → length (laid who labels shares stored) ≡ length stored
unfolding laid
laid_length who [] shares stored = refl
laid_length who (l ∷ labels) [] [] = refl
laid_length who (l ∷ labels) (y ∷ shares) [] = refl
laid_length who (l ∷ labels) [] (x ∷ stored) = ap suc (laid_length who labels [] stored)
laid_length who (l ∷ labels) (y ∷ shares) (x ∷ stored) = either_length (eqb l who) y x (laid who labels shares stored)
    (laid who labels (y ∷ shares) stored) stored (laid_length who labels shares stored) (laid_length who labels (y ∷ shares) stored)

-- A participant with a row has one.
own_some : (who : ℕ) (labels : List ℕ) (k : ℕ) → k < length labels → place labels k ≡ who → 1 ≤ rows_of who labels
unfolding rows_of
own_some who [] k l e = absurd (not-suc-le-zero l)
own_some who (x ∷ labels) zero l e = let q : one (eqb x who) ≡ 1 = ap one (eq-eqb x who e) in omega arith
own_some who (x ∷ labels) (suc k) l e = omega (arith, own_some who labels k (le_of_suc-le-suc l) e)

-- At the participant's rows stand the shares, each at the place of the row among them.
pub laid_own : (who : ℕ) (labels shares stored : List ℕ) (k : ℕ) → k < length labels → k < length stored → place labels k ≡ who
    → rows_of who labels ≤ length shares → place (laid who labels shares stored) k ≡ place shares (rows_of who (take k labels))
unfolding laid rows_of
laid_own who [] shares stored k l m e h = absurd (not-suc-le-zero l)
laid_own who (z ∷ labels) shares [] k l m e h = absurd (not-suc-le-zero m)
laid_own who (z ∷ labels) [] (x ∷ stored) k l m e h = absurd (omega (arith, own_some who (z ∷ labels) k l e, h))
laid_own who (z ∷ labels) (y ∷ shares) (x ∷ stored) zero l m e h =
    ap (λ (b : Bool). place (cond b (y ∷ laid who labels shares stored) (x ∷ laid who labels (y ∷ shares) stored)) 0) (eq-eqb z who e)
laid_own who (z ∷ labels) (y ∷ shares) (x ∷ stored) (suc k) l m e h = go (eqb z who) refl
    (laid_own who labels shares stored k (le_of_suc-le-suc l) (le_of_suc-le-suc m) e)
    (laid_own who labels (y ∷ shares) stored k (le_of_suc-le-suc l) (le_of_suc-le-suc m) e)
  where
    go : (b : Bool) → eqb z who ≡ b
        → (rows_of who labels ≤ length shares → place (laid who labels shares stored) k ≡ place shares (rows_of who (take k labels)))
        → (rows_of who labels ≤ suc (length shares)
        → place (laid who labels (y ∷ shares) stored) k ≡ place (y ∷ shares) (rows_of who (take k labels)))
        → place (cond (eqb z who) (y ∷ laid who labels shares stored) (x ∷ laid who labels (y ∷ shares) stored)) (suc k)
        ≡ place (y ∷ shares) (one (eqb z who) + rows_of who (take k labels))
    go true q first second =
        let c : one (eqb z who) ≡ 1 = ap one q in
        let r : suc (rows_of who (take k labels)) ≡ one (eqb z who) + rows_of who (take k labels) = omega arith in
        let u : rows_of who labels ≤ length shares = omega arith in
        ap (λ (b : Bool). place (cond b (y ∷ laid who labels shares stored) (x ∷ laid who labels (y ∷ shares) stored)) (suc k)) q
        ∙ first u ∙ ap (place (y ∷ shares)) r
    go false q first second =
        let c : one (eqb z who) ≡ 0 = ap one q in
        let r : rows_of who (take k labels) ≡ one (eqb z who) + rows_of who (take k labels) = omega arith in
        let u : rows_of who labels ≤ suc (length shares) = omega arith in
        ap (λ (b : Bool). place (cond b (y ∷ laid who labels shares stored) (x ∷ laid who labels (y ∷ shares) stored)) (suc k)) q
        ∙ second u ∙ ap (place (y ∷ shares)) r

either_rest : (b : Bool) (x y z : ℕ) (u v : List ℕ) (k : ℕ) → place u k ≡ z → place v k ≡ z → place (cond b (x ∷ u) (y ∷ v)) (suc k) ≡ z
either_rest true x y z u v k e f = e
either_rest false x y z u v k e f = f

-- The other rows keep what they hold.
pub laid_other : (who : ℕ) (labels shares stored : List ℕ) (k : ℕ) → k < length labels → (place labels k ≡ who → ⊥)
    → place (laid who labels shares stored) k ≡ place stored k
unfolding laid
laid_other who [] shares stored k l e = refl
laid_other who (z ∷ labels) [] [] k l e = refl
laid_other who (z ∷ labels) (y ∷ shares) [] k l e = refl
laid_other who (z ∷ labels) [] (x ∷ stored) zero l e = refl
laid_other who (z ∷ labels) [] (x ∷ stored) (suc k) l e = laid_other who labels [] stored k (le_of_suc-le-suc l) e
laid_other who (z ∷ labels) (y ∷ shares) (x ∷ stored) zero l e =
    ap (λ (b : Bool). place (cond b (y ∷ laid who labels shares stored) (x ∷ laid who labels (y ∷ shares) stored)) 0) (ne_eqb z who e)
laid_other who (z ∷ labels) (y ∷ shares) (x ∷ stored) (suc k) l e = either_rest (eqb z who) y x (place stored k)
    (laid who labels shares stored) (laid who labels (y ∷ shares) stored) k
    (laid_other who labels shares stored k (le_of_suc-le-suc l) e) (laid_other who labels (y ∷ shares) stored k (le_of_suc-le-suc l) e)

-- Where each share at the set's rows is below p, the test of them holds.
pub read_by : (p set : ℕ) (labels shares : List ℕ)
    → ((k : ℕ) → k < length labels → k < length shares → in_set set (place labels k) ≡ true → place shares k < p)
    → read_below_lem p set labels shares ≡ true
unfolding read_below_lem
read_by p set [] shares h = refl
read_by p set (l ∷ labels) [] h = refl
read_by p set (l ∷ labels) (x ∷ shares) h = ap₂ ◌&&◌ (first (in_set set l) refl)
    (read_by p set labels shares (λ k lk mk q. h (suc k) (omega arith) (omega arith) q))
  where
    first : (b : Bool) → in_set set l ≡ b → (not (in_set set l) || ltb x p) ≡ true
    first true q = ap (λ (b : Bool). not b || ltb x p) q ∙ lt-ltb x p (h zero (omega arith) (omega arith) q)
    first false q = ap (λ (b : Bool). not b || ltb x p) q
