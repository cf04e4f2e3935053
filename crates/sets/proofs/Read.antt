-- The shares at the set's rows: the test of all of them, pair by pair, and what holds of each where the test holds.
-- Assumes nothing.
use mathlib.Core.Path.{◌≡◌, refl, sym, ap, ◌∙◌}
use Rattle.std.specs.List.{list_all, zip}
use mathlib.Core.Bool.{Bool, true, not, ◌&&◌, ◌||◌}
use mathlib.Core.List.{List, [], ◌∷◌}
use Prim.Native.Nat.{ℕ, zero, suc, ◌<◌}
use native.Mathlib.Nat.{le_of_suc-le-suc, not-suc-le-zero}
use lib.Dec.{ltb}
use lib.ListN.{length, get_or}
use borrow.Author.Tests.{ltb-true}
use Rattle.scheme.specs.Sets.{in_set}
use Rattle.scheme.specs.Refusal.{read_below_lem}
use Rattle.scheme.proofs.Refusals.{and-true}

-- The test of one row.
abbrev pub read_one : ℕ → ℕ → ℕ → ℕ → Bool
read_one p set l x = not (in_set set l) || ltb x p

read_inside : (p set l x : ℕ) → in_set set l ≡ true → read_one p set l x ≡ ltb x p
read_inside p set l x e = ap (λ (b : Bool). not b || ltb x p) e

-- The test of all rows, pair by pair.
pub read_all : (p set : ℕ) (labels shares : List ℕ)
    → read_below_lem p set labels shares ≡ list_all (λ (q : ℕ × ℕ). read_one p set q.0 q.1) (zip labels shares)
unfolding read_below_lem
read_all p set [] shares = refl
read_all p set (l ∷ labels) [] = refl
read_all p set (l ∷ labels) (x ∷ shares) = ap (λ b. read_one p set l x && b) (read_all p set labels shares)

-- Where the test holds, each share at the set's rows is below p.
pub read_at : (p set : ℕ) (labels shares : List ℕ) → read_below_lem p set labels shares ≡ true
    → (k : ℕ) → k < length labels → k < length shares → in_set set (get_or labels k 0) ≡ true → get_or shares k 0 < p
unfolding read_below_lem
read_at p set [] shares h k l m q = absurd (not-suc-le-zero l)
read_at p set (y ∷ labels) [] h k l m q = absurd (not-suc-le-zero m)
read_at p set (y ∷ labels) (x ∷ shares) h zero l m q =
    ltb-true x p (sym (read_inside p set y x q) ∙ (and-true (read_one p set y x) (read_below_lem p set labels shares) h).0)
read_at p set (y ∷ labels) (x ∷ shares) h (suc k) l m q =
    read_at p set labels shares (and-true (read_one p set y x) (read_below_lem p set labels shares) h).1 k (le_of_suc-le-suc l)
    (le_of_suc-le-suc m) q
