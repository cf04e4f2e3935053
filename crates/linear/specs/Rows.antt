-- Document 01, "Open or closed", for d rows of e numbers modulo p, e at least 1, of which some are chosen (a set's rows): E k j is the
-- number in row k and column j, both counted from 0, and chosen k says whether row k counts.
-- Assumes nothing.
use Rattle.std.specs.Prelude.{◌≡◌, Bool, true, false, cond, List, ◌↔◌, ℕ, zero, suc, ◌<◌, ◌-◌, ◌*◌, ◌%◌, length}
use Rattle.linear.specs.Combination.{total, count, AddUpTo, CombinationOf, KeptRule}
use Rattle.linear.specs.Flat.{place}

-- "the list of length e with 1 first and 0 after"
abbrev pub target : ℕ → ℕ
target zero = 1
target (suc j) = 0

-- Column j + 2 over the chosen rows. The other rows stand as 0, which changes no combination of columns.
abbrev pub columns_of : (ℕ → ℕ → ℕ) → (ℕ → Bool) → ℕ → ℕ → ℕ
columns_of E chosen j k = cond (chosen k) (E k (suc j)) 0

module _ (p d e : ℕ) (E : ℕ → ℕ → ℕ) (chosen : ℕ → Bool) where
  -- "open when the target is a combination of its rows, and closed otherwise"
  abbrev pub Open : Type 0
  Open = CombinationOf p e E chosen d target

  abbrev pub Closed : Type 0
  Closed = Open → ⊥

  -- "Go through the set's rows in order and keep a row when it is not a combination of those kept before it"
  abbrev pub KeptRows : (ℕ → Bool) → Type 0
  KeptRows kept = (k : ℕ) → k < d → (kept k ≡ true) ↔ ((chosen k ≡ true) × (CombinationOf p e E kept k (E k) → ⊥))

  -- Open: "r is 0 outside the kept rows, and the rows weighted by r add up to the target."
  pub record OpeningVector (r : ℕ → ℕ) : Type 0 where
    pub kept : ℕ → Bool
    pub rule : KeptRows kept
    pub below : (k : ℕ) → k < d → r k < p
    pub only : (k : ℕ) → k < d → kept k ≡ false → r k ≡ 0
    pub gives : AddUpTo p e E d r target

  -- Closed: "Its first number is 1 and each row of the set times z is 0. Look at columns 2 to e over the set's rows, and keep a column
  -- when it is not a combination of columns kept before it; z is 0 at each of columns 2 to e that is not kept."
  pub record Witness (z : ℕ → ℕ) : Type 0 where
    pub kept : ℕ → Bool
    pub rule : KeptRule p d (columns_of E chosen) kept (e - 1)
    pub below : (j : ℕ) → j < e → z j < p
    pub first : z 0 ≡ 1
    pub kills : (k : ℕ) → k < d → chosen k ≡ true → total e (λ j. E k j * z j) % p ≡ 0
    pub only : (j : ℕ) → j < e - 1 → kept j ≡ false → z (suc j) ≡ 0

  -- So many of the chosen rows are kept.
  pub record Rank (s : ℕ) : Type 0 where
    pub kept : ℕ → Bool
    pub rule : KeptRows kept
    pub number : count d kept ≡ s

  -- What is handed out. True: r' is the opening vector, so the chosen rows are open (`opening_opens` of proofs/Handed.antt), and z stays.
  -- False: z' is the witness, so they are closed (`witness_closes`), and r stays. r and z are the lent lists before the call, r' and z' after.
  abbrev pub Handed : List ℕ → List ℕ → Bool → List ℕ → List ℕ → Type 0
  Handed r z true r' z' = OpeningVector (place r') × (length r' ≡ d) × (z' ≡ z)
  Handed r z false r' z' = Witness (place z') × (length z' ≡ e) × (r' ≡ r)
