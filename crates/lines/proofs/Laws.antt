-- Laws of numbers and lists that the code's proofs cite: a sum term by term, the factors, and the line made of them.
-- Assumes nothing.
use mathlib.Core.Path.{◌≡◌, sym, ap, ap₂, ◌∙◌}
use mathlib.Core.List.{List}
use Prim.Native.Nat.{ℕ, ◌+◌, ◌-◌, ◌*◌, ◌%◌, ◌<◌, ◌≤◌}
use native.Mathlib.Nat.{add-mod, mod-mod}
use native.Mathlib.Numerals.{add-one}
use native.Mathlib.Omega.{arith}
use borrow.Author.Count.{below_more}
use lib.ListN.{length, get_or, set, length-set}
use lib.Seq.{get_or-set_same, get_or-set_other}
use Rattle.lists.proofs.Store.{set_at}
use Rattle.linear.specs.Combination.{total}
use Rattle.linear.proofs.Carry.{total_cong}
use Rattle.lines.specs.Line.{Low, at, col_sum, left, Factored, Changed, Lined}

-- acc is a and the first l terms of f modulo p, and no more than a number of 32 bits for each.
pub record Summed (p a : ℕ) (f : ℕ → ℕ) (l acc : ℕ) : Type 0 where
  pub small : acc ≤ 4294967295 + l * 4294967295
  pub same : acc % p ≡ (a + total l f) % p

pub sum_turn : {p a : ℕ} {f : ℕ → ℕ} {l acc : ℕ} (r : ℕ) → Summed p a f l acc → r % p ≡ f l % p → r < 4294967296
    → Summed p a f (l + 1) (acc + r)
sum_turn {p} {a} {f} {l} {acc} r h e lr = record {
  small = omega (arith, h.small);
  same = rw (add-one l) (add-mod acc r p ∙ ap₂ (λ (y z : ℕ). (y + z) % p) h.same e ∙ sym (add-mod (a + total l f) (f l) p)
      ∙ ap (λ (z : ℕ). z % p) (omega arith));
}

pub low_set : (p : ℕ) (v : List ℕ) (i x : ℕ) → i < length v → (p < 65536 → x < 65536) → Low p v → Low p (set v i x)
low_set p v i x l h lo lp k = set_at v i x k (λ y. y < 65536) l (h lp) (λ ne. lo lp k)

-- The first j factors of g are those of h.
abbrev pub SameFactors : ℕ → List ℕ → List ℕ → Type 0
SameFactors j g h = (k : ℕ) → k < j → get_or g (12 + k) 0 ≡ get_or h (12 + k) 0

pub col_same : (t : List (List ℕ)) (g h : List ℕ) (j c : ℕ) → SameFactors j g h → col_sum g t j c ≡ col_sum h t j c
col_same t g h j c e =
    total_cong j (λ k. get_or g (12 + k) 0 * at t k c) (λ k. get_or h (12 + k) 0 * at t k c) (λ k l. ap (λ (y : ℕ). y * at t k c) (e k l))

pub factored_turn : {p : ℕ} {t : List (List ℕ)} {v g : List ℕ} {j : ℕ} (x : ℕ) → Factored p t v g j → j < 12 → at t j 25 < 12
    → x ≡ (get_or g (at t j 25) 0 + col_sum g t j (at t j 25)) % p → Factored p t v (set g (12 + j) (p - x)) (j + 1)
factored_turn {p} {t} {v} {g} {j} x h lj lc e = record {
  len = length-set g (12 + j) (p - x) ∙ h.len;
  low = low_set p g (12 + j) (p - x) room (λ lp. omega arith) h.low;
  vec = λ i l. get_or-set_other g (12 + j) i (p - x) 0 (λ q. omega arith) ∙ h.vec i l;
  facs = below_more (λ k. get_or g' (12 + k) 0 ≡ p - (get_or v (at t k 25) 0 + col_sum g' t k (at t k 25)) % p) j
      (λ k l. other k l ∙ h.facs k l ∙ ap (λ (z : ℕ). p - (get_or v (at t k 25) 0 + z) % p) (sym (same k (omega arith))))
      (get_or-set_same g (12 + j) (p - x) 0 room ∙ ap (λ (z : ℕ). p - z) e
      ∙ ap₂ (λ (y z : ℕ). p - (y + z) % p) (h.vec (at t j 25) lc) (sym (same j (omega arith))));
}
  where
    room : 12 + j < length g
    room = omega (arith, h.len)

    g' : List ℕ
    g' = set g (12 + j) (p - x)

    other : SameFactors j g' g
    other k l = get_or-set_other g (12 + j) (12 + k) (p - x) 0 (λ q. omega arith)

    same : (k : ℕ) → k ≤ j → col_sum g' t k (at t k 25) ≡ col_sum g t k (at t k 25)
    same k l = col_same t g' g k (at t k 25) (λ i li. other i (omega arith))

-- What `marked` says of its line y, made of v, beside the shape.
abbrev pub Marked : List ℕ → ℕ → ℕ → ℕ → List ℕ → Type 0
Marked v q c k y = ((get_or y 24 0 ≡ q) × (get_or y 25 0 ≡ c) × (get_or y 26 0 ≡ k)) × ((i : ℕ) → i < 24 → get_or y i 0 ≡ get_or v i 0)

-- What `rest` leaves of g at place i.
abbrev pub rested : ℕ → ℕ → List (List ℕ) → List ℕ → ℕ → ℕ
rested p s t g i = (get_or g i 0 + col_sum g t s i) % p

pub rested_whole : {p e : ℕ} {g x : List ℕ} (s : ℕ) (t : List (List ℕ)) → Changed p e (rested p s t g) g x → (c : ℕ) → c < e
    → get_or x c 0 % p ≡ get_or x c 0
rested_whole {p} {e} {g} s t r c l = ap (λ (z : ℕ). z % p) (r.done c l) ∙ mod-mod (get_or g c 0 + col_sum g t s c) p ∙ sym (r.done c l)

-- A line v with the factors of g, which `factors` made of row, and of which `rest` made x.
module _ (p e s : ℕ) (t : List (List ℕ)) (row g x v : List ℕ) (ls : s ≤ 12) (le : e ≤ 12) (f : Factored p t row g s)
    (r : Changed p e (rested p s t g) g x) (o : SameFactors 12 v g) where
  line_same : (j : ℕ) → j ≤ 12 → (c : ℕ) → col_sum g t j c ≡ col_sum v t j c
  line_same j l c = col_same t g v j c (λ i li. sym (o i (omega arith)))

  line_facs : (j : ℕ) → j < s → get_or v (12 + j) 0 ≡ p - (get_or row (at t j 25) 0 + col_sum v t j (at t j 25)) % p
  line_facs j l = o j (omega arith) ∙ f.facs j l
      ∙ ap (λ (z : ℕ). p - (get_or row (at t j 25) 0 + z) % p) (line_same j (omega arith) (at t j 25))

  line_left : (i : ℕ) → i < e → left p s t (λ i. get_or row i 0) v i ≡ get_or x i 0
  line_left i l = sym (r.done i l ∙ ap₂ (λ (y z : ℕ). (y + z) % p) (f.vec i (omega arith)) (line_same s ls i))

-- Nothing is left.
pub lined_none : {p e k s : ℕ} {t : List (List ℕ)} {row g x v : List ℕ} → s ≤ 12 → e ≤ 12 → 0 < p → Factored p t row g s
    → Changed p e (rested p s t g) g x → ((i : ℕ) → i < e → get_or x i 0 ≡ 0) → Marked x 0 e k v
    → Lined p e k s t (λ i. get_or row i 0) v
lined_none {p} {e} {k} {s} {t} {row} {g} {x} {v} ls le lp f r z m = record {
  facs = line_facs p e s t row g x v ls le f r o;
  none = λ q i l. line_left p e s t row g x v ls le f r o i l ∙ z i l;
  some = λ l. absurd (omega (arith, m.0.1));
  src = m.0.2;
  inv = rw m.0.0 lp;
}
  where
    o : SameFactors 12 v g
    o i l = m.1 (12 + i) (omega arith) ∙ r.rest (12 + i) (omega arith)

-- The first place where something is left is c, and q is the inverse of what is left there.
pub lined_some : {p e k s : ℕ} {t : List (List ℕ)} {row g x y v : List ℕ} (c q : ℕ) → s ≤ 12 → e ≤ 12 → Factored p t row g s
    → Changed p e (rested p s t g) g x → c < e → ((i : ℕ) → i < c → get_or x i 0 ≡ 0) → (q * get_or x c 0 % p ≡ 1) × (q < p)
    → Changed p e (λ i. q * get_or x i 0 % p) x y → Marked y q c k v → Lined p e k s t (λ i. get_or row i 0) v
lined_some {p} {e} {k} {s} {t} {row} {g} {x} {y} {v} c q ls le f r lc z u sc m = record {
  facs = line_facs p e s t row g x v ls le f r o;
  none = λ n. absurd (omega (arith, m.0.1));
  some = λ l. (
    ap₂ (λ (a b : ℕ). a * b % p) m.0.0 (ap (left p s t (λ i. get_or row i 0) v) m.0.1 ∙ h c lc) ∙ u.0,
    (λ i li. h i (omega (arith, m.0.1)) ∙ z i (omega (arith, m.0.1))),
    λ i li. m.1 i (omega arith) ∙ sc.done i li ∙ ap₂ (λ (a b : ℕ). a * b % p) (sym m.0.0) (sym (h i li)),
  );
  src = m.0.2;
  inv = rw m.0.0 u.1;
}
  where
    o : SameFactors 12 v g
    o i l = m.1 (12 + i) (omega arith) ∙ sc.rest (12 + i) (omega arith) ∙ r.rest (12 + i) (omega arith)

    h : (i : ℕ) → i < e → left p s t (λ i. get_or row i 0) v i ≡ get_or x i 0
    h = line_left p e s t row g x v ls le f r o
