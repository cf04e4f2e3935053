-- A number of w bytes and its bytes are the same: the bytes of a number add up to it, and each byte of a sum of bytes is that byte.
-- Assumes nothing.
use mathlib.Core.Path.{◌≡◌, sym, ap, subst⁻¹, ◌∙◌}
use mathlib.Core.Logic.{⊎_elim}
use Prim.Native.Nat.{ℕ, zero, suc, ◌<◌, ◌≤◌, ◌+◌, ◌-◌, ◌*◌, ◌/◌, ◌%◌, ◌^◌}
use native.Mathlib.Nat.{mod-lt, mod-eq_of_lt, mod-one, div-add-mod', div-eq_of_lt, mul-le-mul, one-le-pow, pow-suc}
use native.Mathlib.Nat.{add-mul-div_right, add-mul-mod_self_right, eq-or-lt_of_le, le_of_suc-le-suc, not-suc-le-zero}
use native.Mathlib.Omega.{arith}
use lib.Pow.{pow-add}
use Rattle.residue.proofs.Modulo.{mod_by}
use Rattle.format.specs.Format.{byte_of_lem, number_of}

pub byte_below : (x k : ℕ) → byte_of_lem x k < 256
byte_below x k = mod-lt (x / 256 ^ k) (omega arith)

power_positive : (k : ℕ) → 0 < 256 ^ k
power_positive k = one-le-pow k 256 (omega arith)

-- The remainder by a product, digit by digit.
mod_product : (x m b : ℕ) → 0 < m → 0 < b → x % (m * b) ≡ x % m + x / m % b * m
mod_product x m b lm lb =
    mod_by (m * b) x (x % m + x / m % b * m) 0 (x / m / b)
    (omega (arith, div-add-mod' x m, ap (λ (q : ℕ). q * m) (div-add-mod' (x / m) b)))
    ∙ mod-eq_of_lt small
  where
    small : x % m + x / m % b * m < m * b
    small =
        let h : suc (x / m % b) * m ≤ b * m = mul-le-mul {n₁ = suc (x / m % b)} {m₁ = m} {n₂ = b} {m₂ = m} (mod-lt (x / m) lb) (omega arith) in
        omega (arith, mod-lt x lm)

-- The first w bytes of any number.
pub number_low : (w x : ℕ) → number_of w (byte_of_lem x) ≡ x % 256 ^ w
number_low zero x = sym (mod-one x)
number_low (suc w) x = ap (λ (n : ℕ). n + byte_of_lem x w * 256 ^ w) (number_low w x)
    ∙ sym (mod_product x (256 ^ w) 256 (power_positive w) (omega arith)) ∙ ap (λ (m : ℕ). x % m) (sym (pow-suc 256 w))

pub number_bytes : (w x : ℕ) → x < 256 ^ w → number_of w (byte_of_lem x) ≡ x
number_bytes w x l = number_low w x ∙ mod-eq_of_lt l

pub number_below : (w : ℕ) (b : ℕ → ℕ) → ((k : ℕ) → k < w → b k < 256) → number_of w b < 256 ^ w
number_below zero b h = omega arith
number_below (suc w) b h =
    let l : number_of w b < 256 ^ w = number_below w b (λ k lk. h k (omega arith)) in
    let u : b w * 256 ^ w ≤ 255 * 256 ^ w = mul-le-mul {n₁ = b w} {m₁ = 256 ^ w} {n₂ = 255} {m₂ = 256 ^ w} (omega (arith, h w (omega arith)))
    (omega arith) in
    omega (arith, pow-suc 256 w)

-- What stands in the bytes from w on changes no byte below w ..
byte_low : (n z w k : ℕ) → k < w → byte_of_lem (n + z * 256 ^ w) k ≡ byte_of_lem n k
byte_low n z w k l =
    let q : 256 ^ w ≡ 256 ^ (w - suc k) * 256 ^ suc k = ap (λ (i : ℕ). 256 ^ i) whole ∙ pow-add 256 (w - suc k) (suc k) in
    let e : n + z * 256 ^ w ≡ n + z * 256 ^ (w - suc k) * 256 * 256 ^ k = omega (
      arith,
      ap (λ (x : ℕ). z * x) q,
      ap (λ (x : ℕ). z * 256 ^ (w - suc k) * x) (pow-suc 256 k),
    ) in
    ap (λ (x : ℕ). x / 256 ^ k % 256) e
    ∙ ap (λ (x : ℕ). x % 256) (add-mul-div_right n (z * 256 ^ (w - suc k) * 256) (power_positive k))
    ∙ add-mul-mod_self_right (n / 256 ^ k) (z * 256 ^ (w - suc k)) 256
  where
    whole : w ≡ w - suc k + suc k
    whole = omega arith

-- .. and what stands there is byte w.
byte_high : (n z w : ℕ) → n < 256 ^ w → z < 256 → byte_of_lem (n + z * 256 ^ w) w ≡ z
byte_high n z w l lz =
    let q : n / 256 ^ w ≡ 0 = div-eq_of_lt l in
    let e : (n + z * 256 ^ w) / 256 ^ w ≡ z = add-mul-div_right n z (power_positive w) ∙ omega arith in
    ap (λ (x : ℕ). x % 256) e ∙ mod-eq_of_lt lz

pub byte_number_lem : (w : ℕ) (b : ℕ → ℕ) → ((k : ℕ) → k < w → b k < 256) → (k : ℕ) → k < w → byte_of_lem (number_of w b) k ≡ b k
byte_number_lem zero b h k l = absurd (not-suc-le-zero l)
byte_number_lem (suc w) b h k l = ⊎_elim
    (λ (q : k ≡ w). subst⁻¹ (λ (i : ℕ). byte_of_lem (number_of (suc w) b) i ≡ b i) q
    (byte_high (number_of w b) (b w) w (number_below w b (λ i li. h i (omega arith))) (h w (omega arith))))
    (λ (q : k < w). byte_low (number_of w b) (b w) w k q ∙ byte_number_lem w b (λ i li. h i (omega arith)) k q)
    (eq-or-lt_of_le (le_of_suc-le-suc l))
