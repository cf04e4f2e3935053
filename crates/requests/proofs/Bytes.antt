-- Bytes copied to the first places of a list, and what is said of them.
-- Assumes nothing.
use mathlib.Core.Path.{◌≡◌}
use mathlib.Core.Bool.{true}
use mathlib.Core.List.{List}
use Prim.Native.Nat.{ℕ, ◌≤◌}
use native.Mathlib.Omega.{arith}
use lib.ListN.{length}
use borrow.Author.Tests.{le-leb}
use Rattle.lists.proofs.Fill.{Filled, filled}
use Rattle.linear.specs.Flat.{place}
use Rattle.scheme.specs.Tests.{each_below}
use Rattle.scheme.specs.Outcome.{over}
use Rattle.scheme.proofs.Over.{over_is}
use Rattle.requests.specs.Bytes.{BytesSay}

-- A loop that has copied every number has put the list over the first places.
pub copied : (xs out₀ out : List ℕ) (i : ℕ) → Filled 0 (length xs) (place xs) out₀ out i → length xs ≤ i → length xs ≤ length out₀
    → out ≡ over xs out₀
copied xs out₀ out i h l fits =
    over_is xs out₀ out h.size fits (filled (length xs) (place xs) out₀ out i h l) (λ j m. h.after j (omega (arith, h.upto)))

-- The numbers are bytes with a place for each, and stand over the first places.
pub bytes : (xs out₀ out : List ℕ) → each_below 256 xs ≡ true → length xs ≤ length out₀ → out ≡ over xs out₀ → BytesSay xs out₀ true out
bytes xs out₀ out e l h = (simp (le-leb (length xs) (length out₀) l, e), h)
