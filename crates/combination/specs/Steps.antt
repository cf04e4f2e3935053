-- What the steps of `find` leave behind. No public contract cites this file.
-- A step holds for every reason H that p is prime: the field of the residues is built on one, and a contract has none at hand.
-- `vectors` and `duals` are tables of m vectors of n places; dual k is the functional of vector k (`Dual` of linear's proofs/Dual.antt).
-- Assumes nothing.
use Rattle.std.specs.Prelude.{◌≡◌, Bool, true, false, List, ◌⊎◌, ℕ, ◌<◌, ◌≤◌, ◌+◌, ◌-◌, ◌*◌, ◌%◌, length, Option, Some, None}
use Rattle.algebra.specs.Sum.{dot}
use Rattle.residue.specs.Prime.{Prime}
use Rattle.residue.specs.Residue.{F, res, ◌⊕◌, ◌⊗◌, neg}
use Rattle.residue.proofs.Field.{residue_ring, residues}
use Rattle.linear.specs.Flat.{place, entry}
use Rattle.linear.proofs.Dual.{Duals, Down, Up}

-- Vector k of a table as residues.
abbrev pub row : (p : ℕ) → Prime p → ℕ → List ℕ → ℕ → ℕ → F p
row p H n l k i = res p H (entry n l k i)

-- A list as a vector of residues.
abbrev pub vec : (p : ℕ) → Prime p → List ℕ → ℕ → F p
vec p H l i = res p H (place l i)

-- All n places of a list are 0 modulo p.
abbrev pub Zero : (p : ℕ) → Prime p → ℕ → List ℕ → Type 0
Zero p H n l = (i : ℕ) → i < n → vec p H l i ≡ res p H 0

-- x is x₀ less f times vector k of b.
pub record TakenOff (p k n f : ℕ) (b x₀ x : List ℕ) : Type 0 where
  pub len : length x ≡ n
  pub is : (i : ℕ) → i < n → place x i ≡ (place x₀ i + (p - f) * entry n b k i) % p

-- The first place of x that is not 0 modulo p; none where all n places are 0.
abbrev pub FirstNonzero : ℕ → ℕ → List ℕ → Option ℕ → Type 0
FirstNonzero p n x (Some r) = (r < n) × ((i : ℕ) → i < r → place x i % p ≡ 0) × (place x r % p ≡ 0 → ⊥)
FirstNonzero p n x None = (i : ℕ) → i < n → place x i % p ≡ 0

-- x is x₀ less r times vector k of b, now as residues, where r is vector k of a times x₀.
pub record Cancelled (p k n : ℕ) (a b x₀ x : List ℕ) (r : ℕ) : Type 0 where
  pub len : length x ≡ n
  pub below : r < p
  pub factor : (H : Prime p) → res p H r ≡ dot (residue_ring p H) n (row p H n a k) (vec p H x₀)
  pub rest : (H : Prime p) (i : ℕ) → i < n → vec p H x i ≡ ◌⊕◌ p H (vec p H x₀ i) (neg p H (◌⊗◌ p H (res p H r) (row p H n b k i)))

-- The answer is whether t has a place that is not 0. Then u is 1 at t; else u is 0, as t is.
pub record Seeded (p n : ℕ) (t u : List ℕ) (answer : Bool) : Type 0 where
  pub len : length u ≡ n
  pub yes : answer ≡ true → (H : Prime p) → dot (residue_ring p H) n (vec p H u) (vec p H t) ≡ res p H 1
  pub no : answer ≡ false → (H : Prime p) → Zero p H n t × Zero p H n u

module _ (p m n : ℕ) (vectors duals : List ℕ) where
  -- The first m duals are the functionals of the first m vectors.
  pub record DualsOf : Type 0 where
    pub is : (H : Prime p) → Duals (residues p H) n (row p H n vectors) (row p H n duals) m

  -- The vectors from k on are taken off t₀: t is left, and c says from k on how often each was taken.
  pub record Downed (t₀ c₀ t c : List ℕ) (k : ℕ) : Type 0 where
    pub upto : k ≤ m
    pub len : length t ≡ n
    pub size : length c ≡ length c₀
    pub below : (j : ℕ) → k ≤ j → j < m → place c j < p
    pub is : (H : Prime p) → Down (residues p H) n (row p H n vectors) (row p H n duals) m (vec p H t₀) (vec p H t) (vec p H c) k

  -- Every dual is 0 at t.
  abbrev pub Spent : (H : Prime p) → (ℕ → F p) → Type 0
  Spent H t = (j : ℕ) → j < m → dot (residue_ring p H) n (row p H n duals j) t ≡ res p H 0

  -- u is 0 at the first k vectors, and 1 wherever u₀ is 1 and every dual is 0.
  pub record Raised (u₀ u : List ℕ) (k : ℕ) : Type 0 where
    pub upto : k ≤ m
    pub len : length u ≡ n
    pub is : (H : Prime p) (t : ℕ → F p) → Spent H t → dot (residue_ring p H) n (vec p H u₀) t ≡ res p H 1
        → Up (residues p H) n (row p H n vectors) (row p H n duals) t (vec p H u) k

  -- t and u are 0; or u is 1 at t and 0 at the first m vectors, if every dual is 0 at t.
  pub record Separated (t u : List ℕ) : Type 0 where
    pub len : length u ≡ n
    pub is : (H : Prime p) → (Zero p H n t × Zero p H n u)
        ⊎ (Spent H (vec p H t) → Up (residues p H) n (row p H n vectors) (row p H n duals) (vec p H t) (vec p H u) m)

  -- The duals of the first m vectors are made; no list has another length than before.
  pub record Made (duals₀ c₀ t u c : List ℕ) : Type 0 where
    pub duals_size : length duals ≡ length duals₀
    pub t_len : length t ≡ n
    pub u_len : length u ≡ n
    pub c_size : length c ≡ length c₀
    pub is : DualsOf
