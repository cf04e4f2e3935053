-- A list whose first n places a loop has filled.
-- Assumes nothing.
use mathlib.Core.Path.{◌≡◌, sym, ap, ap₂}
use mathlib.Core.List.{List, ◌++◌}
use Prim.Native.Nat.{ℕ, ◌≤◌}
use lib.ListN.{length, drop}
use Rattle.lists.proofs.Fill.{Filled}
use Rattle.linear.specs.Flat.{list_of}
use Rattle.linear.proofs.Flat.{list_length, filled_list}
use Rattle.scheme.specs.Outcome.{over}

pub filled_over : (n : ℕ) (f : ℕ → ℕ) (x₀ x old : List ℕ) (i : ℕ) → Filled 0 n f x₀ x i → n ≤ i → length x₀ ≡ n
    → x ++ drop n old ≡ over (list_of n f) old
filled_over n f x₀ x old i h l e =
    ap₂ ◌++◌ (filled_list n f x₀ x i h l e) (ap (λ (k : ℕ). drop k old) (sym (list_length n f)))
