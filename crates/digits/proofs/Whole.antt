-- Signed numbers of 64 bits that are distances below 2 ^ 32 from zero; residues nearest to zero, and their texts.
-- Assumes nothing.
use mathlib.Core.Path.{◌≡◌, refl, ap, subst, ◌∙◌}
use mathlib.Core.Bool.{Bool, true, false}
use mathlib.Core.List.{◌∷◌}
use Prim.Native.Nat.{ℕ, ◌*◌, ◌-◌, ◌<◌, ◌≤◌}
use native.Mathlib.Omega.{arith}
use lib.Dec.{T, leb}
use lib.IntN.{ℤ, pos, negsuc, nat_abs, ◌-ℤ◌}
use lib.Signed.{lt_z}
use mir.Syntax.{w64}
use mir.Val.{SFits, to_z, of_z}
use mir.ValLaws.{to_z_pos, to_z-of_z}
use borrow.Author.Tests.{ltb-true, le-leb, lt-leb}
use Rattle.digits.specs.Digits.{decimal, nearest, whole_text}
use Rattle.digits.proofs.Digits.{sub_is}

-- The number that a word of 64 bits stands for.
pub word : (n : ℕ) → n < 4294967296 → to_z w64 n ≡ pos n
word n h = to_z_pos w64 n (omega arith)

pub sub_fits : (v p : ℕ) → v < p → p < 4294967296 → SFits w64 (to_z w64 v -ℤ to_z w64 p)
sub_fits v p h k = rw (word v (omega arith), word p k, sub_is v p h) (record { sfits = omega arith })

-- What `near` answers on either side.
pub near_low : (p v : ℕ) → v < p → p < 4294967296 → v ≤ p - v → to_z w64 v ≡ nearest p v
near_low p v h k l = rw (le-leb (2 * v) p (omega arith)) (word v (omega arith))

pub near_high : (p v : ℕ) → v < p → p < 4294967296 → p - v < v → to_z w64 (of_z w64 (to_z w64 v -ℤ to_z w64 p)) ≡ nearest p v
near_high p v h k l = rw (lt-leb (2 * v) p (omega arith), to_z-of_z w64 _ (sub_fits v p h k), word v (omega arith), word p k)

-- A signed number that is passed on or tested stands as its own bits read again.
pub tested : (z : ℤ) (b : Bool) → SFits w64 z → lt_z (to_z w64 (of_z w64 z)) (pos 0) ≡ b → lt_z z (pos 0) ≡ b
tested z b f e = rw (to_z-of_z w64 z f) at e

-- The text of a whole number: a sign below zero, and the digits of its distance.
text_below_zero : (z : ℤ) → lt_z z (pos 0) ≡ true → whole_text z ≡ 45 ∷ decimal (nat_abs z)
unfolding whole_text
text_below_zero (pos n) e = absurd (omega (arith, ltb-true n 0 e))
text_below_zero (negsuc n) e = refl

text_not_below_zero : (z : ℤ) → lt_z z (pos 0) ≡ false → whole_text z ≡ decimal (nat_abs z)
unfolding whole_text
text_not_below_zero (pos n) e = refl
text_not_below_zero (negsuc n) e = absurd (subst T e tt)

-- The same from what the code tests.
pub signed_text : (z : ℤ) (m : ℕ) → SFits w64 z → m ≡ nat_abs (to_z w64 (of_z w64 z)) → lt_z (to_z w64 (of_z w64 z)) (pos 0) ≡ true
    → whole_text z ≡ 45 ∷ decimal m
signed_text z m f e t = text_below_zero z (tested z true f t) ∙ rw (e, to_z-of_z w64 z f)

pub plain_text : (z : ℤ) (m : ℕ) → SFits w64 z → m ≡ nat_abs (to_z w64 (of_z w64 z)) → lt_z (to_z w64 (of_z w64 z)) (pos 0) ≡ false
    → whole_text z ≡ decimal m
plain_text z m f e t = text_not_below_zero z (tested z false f t) ∙ rw (e, to_z-of_z w64 z f)

-- A residue nearest to zero fits a word of 64 bits, and so stays what it is when it is passed on.
near_fits : (p v : ℕ) (b : Bool) → leb (2 * v) p ≡ b → v < p → p < 65536 → SFits w64 (nearest p v)
near_fits p v true e h l = rw e (record { sfits = omega arith })
near_fits p v false e h l = rw (e, sub_is v p h) (record { sfits = omega arith })

pub passed_on : (p v : ℕ) (z : ℤ) → v < p → p < 65536 → z ≡ nearest p v → to_z w64 (of_z w64 z) ≡ nearest p v
passed_on p v z h l e = ap (λ (z : ℤ). to_z w64 (of_z w64 z)) e ∙ to_z-of_z w64 (nearest p v) (near_fits p v (leb (2 * v) p) refl h l)
