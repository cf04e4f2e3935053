-- The count of a set number's ones is the number of participants that it names.
-- Assumes nothing.
use mathlib.Core.Path.{◌≡◌, refl, sym, ap, ap₂, ◌∙◌}
use mathlib.Core.Bool.{cond}
use Prim.Native.Nat.{ℕ, zero, suc, ◌<◌, ◌+◌, ◌-◌, ◌*◌, ◌/◌, ◌%◌, ◌^◌}
use native.Mathlib.Nat.{mod-one, mod-lt, mod-eq_of_lt, add_comm}
use native.Mathlib.Numerals.{one-add}
use native.Mathlib.Omega.{arith}
use lib.Dec.{eqb}
use lib.Pow.{pow_pos, mod-pow-add}
use lib.Count.{ones, ones_cat}
use Rattle.scheme.specs.Threshold.{size}

one_bit : (r : ℕ) → r < 2 → cond (eqb r 1) 1 0 ≡ ones r
unfolding ones
one_bit zero h = refl
one_bit (suc zero) h = refl
one_bit (suc (suc r)) h = absurd (omega arith)

-- The ones of the first n bits.
low_ones : (n set : ℕ) → size n set ≡ ones (set % 2 ^ n)
unfolding ones
low_ones zero set = rw mod-one
low_ones (suc i) set =
    let place : i + 1 - 1 ≡ i = omega arith in
    let split : set % 2 ^ suc i ≡ (set / 2 ^ i % 2) * 2 ^ i + set % 2 ^ i = rw (← one-add i) (mod-pow-add set 1 i) in
    ap₂ ◌+◌ (low_ones i set)
    (ap (λ (j : ℕ). cond (eqb (set / 2 ^ j % 2) 1) 1 0) place ∙ one_bit (set / 2 ^ i % 2) (mod-lt (set / 2 ^ i) (pow_pos 1)))
    ∙ add_comm (ones (set % 2 ^ i)) (ones (set / 2 ^ i % 2))
    ∙ sym (ap ones split ∙ ones_cat i (set / 2 ^ i % 2) (set % 2 ^ i) (mod-lt set (pow_pos i)))

pub ones_size : (n set : ℕ) → set < 2 ^ n → ones set ≡ size n set
ones_size n set l = ap ones (sym (mod-eq_of_lt l)) ∙ sym (low_ones n set)
