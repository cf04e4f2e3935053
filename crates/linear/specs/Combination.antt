-- Vectors of numbers modulo p: combinations and the kept rule of document 01, "Open or closed".
-- N k i is place i of vector k, each vector has n places.
-- Assumes nothing.
use Rattle.std.specs.Prelude.{◌≡◌, Bool, true, false, cond, ◌↔◌, ℕ, zero, suc, ◌<◌, ◌+◌, ◌*◌, ◌%◌}

-- f 0 + f 1 + .. + f (n - 1)
abbrev pub total : ℕ → (ℕ → ℕ) → ℕ
total zero f = 0
total (suc n) f = total n f + f n

-- How many of the first m are marked.
abbrev pub count : ℕ → (ℕ → Bool) → ℕ
count zero marked = 0
count (suc m) marked = count m marked + cond (marked m) 1 0

module _ (p n : ℕ) (N : ℕ → ℕ → ℕ) where
  -- The first m vectors, weighted by c, add up to t.
  abbrev pub AddUpTo : ℕ → (ℕ → ℕ) → (ℕ → ℕ) → Type 0
  AddUpTo m c t = (i : ℕ) → i < n → total m (λ k. c k * N k i) % p ≡ t i % p

  -- t is a combination of the first m vectors.
  abbrev pub Combination : ℕ → (ℕ → ℕ) → Type 0
  Combination m t = (c : ℕ → ℕ) × AddUpTo m c t

  -- t is a combination of the marked ones of the first m vectors.
  abbrev pub CombinationOf : (ℕ → Bool) → ℕ → (ℕ → ℕ) → Type 0
  CombinationOf marked m t = (c : ℕ → ℕ) × ((k : ℕ) → k < m → marked k ≡ false → c k ≡ 0) × AddUpTo m c t

  -- "keep a [vector] when it is not a combination of those kept before it": of the first m vectors exactly those are kept.
  -- A zero vector is a combination of none, with all weights 0, so it is never kept (`zero_not_kept` of proofs/Numbers.antt).
  abbrev pub KeptRule : (ℕ → Bool) → ℕ → Type 0
  KeptRule kept m = (k : ℕ) → k < m → (kept k ≡ true) ↔ (CombinationOf kept k (N k) → ⊥)

  -- By the kept rule s of the first m vectors are kept.
  pub record KeptCount (m s : ℕ) : Type 0 where
    pub kept : ℕ → Bool
    pub rule : KeptRule kept m
    pub number : count m kept ≡ s
