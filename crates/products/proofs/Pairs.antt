-- The place of a pair (j, l), j up to l, in the order 0-0, 0-1, .., 0-(e - 1), 1-1, and so on. The pairs from (j, j) on take the last
-- pairs (e - j) of the pairs e places, so place i is that of (j, l) where i + pairs (e - j) is pairs e + (l - j).
-- Assumes nothing.
use mathlib.Core.Path.{◌≡◌, refl, sym, ap, ap₂, ◌∙◌}
use mathlib.Core.Bool.{cond}
use mathlib.Core.Logic.{⊎_elim}
use Prim.Native.Nat.{ℕ, zero, suc, ◌<◌, ◌≤◌, ◌+◌, ◌-◌, ◌*◌}
use native.Mathlib.Nat.{mul-le-mul, not-suc-le-zero}
use native.Mathlib.Omega.{arith}
use borrow.Author.Tests.{lt-ltb, le-ltb}
use Rattle.algebra.proofs.Cases.{lt_or_ge}
use Rattle.linear.specs.Rows.{target}
use Rattle.linear.specs.Product.{pairs, products}

pub pairs_zero : pairs 0 ≡ 0
pairs_zero = refl

pub pairs_suc : (f : ℕ) → pairs (suc f) ≡ suc f + pairs f
pairs_suc f = omega arith

pub pairs_whole : (e : ℕ) → pairs (e - 0) ≡ pairs e
pairs_whole e = let q : e - 0 ≡ e = omega arith in ap pairs q

pairs_both : (f j : ℕ) → pairs (suc f - suc j) ≡ pairs (f - j)
pairs_both f j = let q : suc f - suc j ≡ f - j = omega arith in ap pairs q

-- The pairs that begin with j, and those after them.
pub pairs_rest : (e j : ℕ) → j < e → pairs (e - j) ≡ (e - j) + pairs (e - suc j)
pairs_rest e j h = let q : e - j ≡ suc (e - suc j) = omega arith in rw q (pairs_suc (e - suc j))

pub pairs_le : (e j : ℕ) → pairs (e - j) ≤ pairs e
pairs_le e j =
    let h : (e - j) * (e - j + 1) ≤ e * (e + 1) = mul-le-mul {n₁ = e - j} {m₁ = e - j + 1} {n₂ = e} {m₂ = e + 1} (omega arith) (omega arith)
    in omega arith

-- Place i is that of the pair (j, l).
abbrev pub PairAt : ℕ → ℕ → ℕ → ℕ → Type 0
PairAt e j l i = (j ≤ l) × (l < e) × (i + pairs (e - j) ≡ pairs e + (l - j))

-- The two clauses of `products`.
products_row : (f : ℕ) (x : ℕ → ℕ) (i : ℕ) → i < suc f → products (suc f) x i ≡ x 0 * x i
unfolding products
products_row f x i h = ap (λ b. cond b (x 0 * x i) (products f (λ j. x (suc j)) (i - suc f))) (lt-ltb i (suc f) h)

products_rest : (f : ℕ) (x : ℕ → ℕ) (i : ℕ) → suc f ≤ i → products (suc f) x i ≡ products f (λ j. x (suc j)) (i - suc f)
unfolding products
products_rest f x i h = ap (λ b. cond b (x 0 * x i) (products f (λ j. x (suc j)) (i - suc f))) (le-ltb i (suc f) h)

-- The product at a place.
pub product_at : (e : ℕ) (x : ℕ → ℕ) (j l i : ℕ) → j ≤ l → l < e → i + pairs (e - j) ≡ pairs e + (l - j) → products e x i ≡ x j * x l
product_at zero x j l i a b q = absurd (not-suc-le-zero b)
product_at (suc f) x zero l i a b q = let s : i ≡ l = omega (arith, pairs_whole (suc f)) in
    products_row f x i (omega arith) ∙ ap (λ (n : ℕ). x 0 * x n) s
product_at (suc f) x (suc j) zero i a b q = absurd (not-suc-le-zero a)
product_at (suc f) x (suc j) (suc l) i a b q =
    let s : suc f ≤ i = omega (arith, pairs_suc f, pairs_both f j, pairs_le f j) in
    products_rest f x i s
    ∙ product_at f (λ n. x (suc n)) j l (i - suc f) (omega arith) (omega arith) (omega (arith, pairs_suc f, pairs_both f j))

-- Each place is that of a pair.
pub pair_at : (e i : ℕ) → i < pairs e → (j : ℕ) × (l : ℕ) × PairAt e j l i
pair_at zero i h = absurd (not-suc-le-zero h)
pair_at (suc f) i h = ⊎_elim
    (λ (s : i < suc f). (0, i, (omega arith, s, omega (arith, pairs_whole (suc f)))))
    (λ (s : suc f ≤ i). after s (pair_at f (i - suc f) (omega (arith, pairs_suc f))))
    (lt_or_ge i (suc f))
  where
    after : suc f ≤ i → (j : ℕ) × (l : ℕ) × PairAt f j l (i - suc f) → (j : ℕ) × (l : ℕ) × PairAt (suc f) j l i
    after s w = let q = pairs_both f w.0 in
        (suc w.0, suc w.1, (omega (arith, w.2), omega (arith, w.2), omega (arith, w.2, pairs_suc f, q)))

-- Each pair has a place, ..
pub place_of : (e j l : ℕ) → j ≤ l → l < e → PairAt e j l (pairs e - pairs (e - j) + (l - j))
place_of e j l a b = (a, b, omega (arith, pairs_le e j))

-- .. and it is one of the places.
pub place_inside : (e j l i : ℕ) → PairAt e j l i → i < pairs e
place_inside e j l i h = omega (arith, h.0, h.1, h.2, pairs_rest e j (omega (arith, h.0, h.1)))

-- Place 0 is that of the pair (0, 0), and of no other.
pub first_place : (e : ℕ) → 1 ≤ e → PairAt e 0 0 0
first_place e h = (omega arith, h, omega (arith, pairs_whole e))

pub pairs_some : (e : ℕ) → 1 ≤ e → 1 ≤ pairs e
pairs_some e h = place_inside e 0 0 0 (first_place e h)

pub first_pair : (e j l : ℕ) → PairAt e j l 0 → (j ≡ 0) × (l ≡ 0)
first_pair zero j l h = absurd (not-suc-le-zero h.1)
first_pair (suc f) zero l h = (refl, omega (arith, h.2, pairs_whole (suc f)))
first_pair (suc f) (suc j) l h = absurd (omega (arith, h.2, pairs_suc f, pairs_both f j, pairs_le f j))

-- So the target's number at a place is the product of its numbers at the pair.
pub target_at : (e j l i : ℕ) → PairAt e j l i → target i ≡ target j * target l
target_at e j l zero h = let s = first_pair e j l h in sym (ap₂ (λ (x y : ℕ). target x * target y) s.0 s.1)
target_at e zero zero (suc i) h = absurd (omega (arith, h.2, pairs_whole e))
target_at e zero (suc l) (suc i) h = refl
target_at e (suc j) l (suc i) h = omega arith

-- For whoever goes through the pairs in order: past the last pair that begins with j stands the first that begins with j + 1, ..
pub next_row : (e j i : ℕ) → j < e → i + pairs (e - j) ≡ pairs e + (e - j) → i + pairs (e - (j + 1)) ≡ pairs e
next_row e j i h q = let s : e - (j + 1) ≡ e - suc j = omega arith in omega (arith, pairs_rest e j h, ap pairs s)

-- .. and past them all the number of places.
pub last_row : (e i : ℕ) → i + pairs (e - e) ≡ pairs e → i ≡ pairs e
last_row e i q = let s : e - e ≡ 0 = omega arith in omega (arith, ap pairs s)
