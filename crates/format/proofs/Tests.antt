-- A test of all numbers below n: it holds where it holds of each.
-- Assumes nothing.
use mathlib.Core.Path.{◌≡◌, refl, ap₂}
use mathlib.Core.Bool.{Bool, true, ◌&&◌}
use mathlib.Core.Logic.{◌↔◌}
use Prim.Native.Nat.{ℕ, zero, suc, ◌<◌}
use native.Mathlib.Nat.{not-suc-le-zero}
use native.Mathlib.Omega.{arith}
use Rattle.algebra.proofs.Cases.{below_suc}
use Rattle.scheme.proofs.Tests.{and-true}
use Rattle.format.specs.Reading.{all_below}

pub all_at : (n : ℕ) (test : ℕ → Bool) → all_below n test ≡ true → (i : ℕ) → i < n → test i ≡ true
unfolding all_below
all_at zero test h i l = absurd (not-suc-le-zero l)
all_at (suc n) test h i l = let q = and-true (all_below n test) (test n) h in
    below_suc (λ i. test i ≡ true) n (λ k u. all_at n test q.0 k u) q.1 i l

pub all_holds : (n : ℕ) (test : ℕ → Bool) → ((i : ℕ) → i < n → test i ≡ true) → all_below n test ≡ true
unfolding all_below
all_holds zero test h = refl
all_holds (suc n) test h = ap₂ ◌&&◌ (all_holds n test (λ i l. h i (omega arith))) (h n (omega arith))

pub all_below_holds : (n : ℕ) (test : ℕ → Bool) → (all_below n test ≡ true) ↔ ((i : ℕ) → i < n → test i ≡ true)
all_below_holds n test = (all_at n test, all_holds n test)
