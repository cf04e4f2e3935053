-- Laws of numbers that the code's proofs cite: the quotient that `reduce` guesses, and the loop that inverts.
-- Assumes nothing.
use mathlib.Core.Path.{◌≡◌, sym, ap, ◌∙◌}
use Prim.Native.Nat.{ℕ, ◌+◌, ◌-◌, ◌*◌, ◌%◌, ◌/◌, ◌≤◌, ◌<◌}
use native.Mathlib.Nat.{mod-lt, div-add-mod', mul-le-mul, div-le_self, sub-add_cancel, mod-eq_of_lt, le_refl}
use native.Mathlib.Omega.{arith}
use Rattle.residue.specs.Prime.{Prime}
use Rattle.residue.proofs.Modulo.{mod_by, mod_mul_mod, mul_mod_mod}

-- A quotient times its divisor is at most what was divided.
pub quotient_low : (x d : ℕ) → x / d * d ≤ x
quotient_low x d = omega (arith, div-add-mod' x d)

-- The quotient of x by p that inv, a ratio of p, gives is not too large.
pub guess_low : (p inv x : ℕ) → inv * p ≤ 8796093022208 → x * inv / 8796093022208 * p ≤ x
guess_low p inv x h =
    let a : x * inv / 8796093022208 * 8796093022208 * p ≤ x * inv * p = mul-le-mul (quotient_low (x * inv) 8796093022208) (le_refl p) in
    let b : x * (inv * p) ≤ x * 8796093022208 = mul-le-mul (le_refl x) h in
    omega arith

-- Nor does the product that it is taken from wrap.
pub guess_fits : (p inv x : ℕ) → inv * p ≤ 8796093022208 → x < p * 1048576 → x * inv ≤ 9223372036854775808
guess_fits p inv x h l =
    let a : x * inv ≤ p * 1048576 * inv = mul-le-mul {n₁ = x} {m₁ = inv} {n₂ = p * 1048576} {m₂ = inv} (omega arith) (le_refl inv) in
    omega arith

-- What is left of x after q times p was taken off is x modulo p once it is below p.
pub rest_is : (p x q : ℕ) → q * p ≤ x → x - q * p < p → x - q * p ≡ x % p
rest_is p x q h l = sym (mod-eq_of_lt l) ∙ mod_by p (x - q * p) x q 0 (omega arith)

-- The loop of `inverse`: acc times x is y modulo p, and y is a residue that is not 0.
pub record Inverting (p x acc y : ℕ) : Type 0 where
  pub pos : 1 ≤ y
  pub low : y < p
  pub small : acc < p
  pub is : acc * x % p ≡ y

-- One turn: p = (p / y) y + r with r = p % y, so (p - p / y) y is r modulo p.
pub invert_turn : (p x acc y r : ℕ) → Prime p → 1 < y → Inverting p x acc y → r ≡ acc * (p - p / y) % p → r < p → Inverting p x r (p % y)
invert_turn p x acc y r P l h e s = record {
  pos = omega (arith, P.none y l h.low);
  low = omega (arith, lt, h.low);
  small = s;
  is = ap (λ (z : ℕ). z * x % p) e ∙ mod_mul_mod (acc * q) x p ∙ ap (λ (z : ℕ). z % p) (omega arith) ∙ sym (mul_mod_mod q (acc * x) p)
      ∙ ap (λ (z : ℕ). q * z % p) h.is ∙ mod_by p (q * y) (p % y) 1 y (omega (arith, whole, back))
      ∙ mod-eq_of_lt (omega (arith, lt, h.low));
}
  where
    q : ℕ
    q = p - p / y

    lt : p % y < y
    lt = mod-lt p (omega arith)

    whole : p / y * y + p % y ≡ p
    whole = div-add-mod' p y

    back : (q + p / y) * y ≡ p * y
    back = ap (λ (z : ℕ). z * y) (sub-add_cancel (div-le_self p y))
