-- What the steps of joining leave. No public contract cites this file.
-- Assumes nothing.
use Rattle.std.specs.Prelude.{◌≡◌, Bool, true, false, cond, List, ◌⊎◌, ℕ, ◌<◌, ◌*◌, ◌%◌, length, Result, Ok, Err}
use Rattle.linear.specs.Combination.{total}
use Rattle.linear.specs.Flat.{place, entry}
use Rattle.linear.specs.Rows.{Open, Closed, OpeningVector}
use Rattle.linear.specs.Bits.{bit}
use Rattle.scheme.specs.declared.Refusal.{Refusal}
use Rattle.scheme.specs.declared.Refusal.TheVariants.{SetClosed, NoDealing}

-- x holds the list's numbers at the chosen rows, and 0 at the others; place i is of row i % d.
pub record MaskedTo (d : ℕ) (chosen : ℕ → Bool) (list x : List ℕ) : Type 0 where
  pub len : length x ≡ length list
  pub at : (i : ℕ) → i < length list → place x i ≡ cond (chosen (i % d)) (place list i) 0

-- Some list b gives x, modulo p, at the chosen rows.
abbrev pub FitsRows : (p d e : ℕ) → (ℕ → ℕ → ℕ) → (ℕ → Bool) → (ℕ → ℕ) → Type 0
FitsRows p d e E chosen x = (b : ℕ → ℕ) × ((k : ℕ) → k < d → chosen k ≡ true → total e (λ j. E k j * b j) % p ≡ x k % p)

-- Whether some list b gives the shares at the chosen rows.
pub record FitsSays (p d e chosen : ℕ) (entries shares : List ℕ) (r : Bool) : Type 0 where
  pub yes : r ≡ true → FitsRows p d e (entry e entries) (bit chosen) (place shares)
  pub no : r ≡ false → FitsRows p d e (entry e entries) (bit chosen) (place shares) → ⊥

-- What joining the chosen rows answers.
unfoldable pub RowsSay : (p d e chosen : ℕ) → List ℕ → List ℕ → Result ℕ Refusal → Type 0
RowsSay p d e chosen entries shares (Ok c) =
    FitsRows p d e (entry e entries) (bit chosen) (place shares)
    × ((r : ℕ → ℕ) × OpeningVector p d e (entry e entries) (bit chosen) r × (c ≡ total d (λ k. r k * place shares k) % p))
RowsSay p d e chosen entries shares (Err k) =
    ((k ≡ SetClosed) × Closed p d e (entry e entries) (bit chosen))
    ⊎ ((k ≡ NoDealing) × Open p d e (entry e entries) (bit chosen) × (FitsRows p d e (entry e entries) (bit chosen) (place shares) → ⊥))
