-- Laws of the remainder. `mod_by` is the work horse: two numbers that differ by multiples of m, which are handed over, have one remainder.
-- Assumes nothing.
use mathlib.Core.Path.{◌≡◌, sym, ap, ◌∙◌}
use Prim.Native.Nat.{ℕ, ◌+◌, ◌-◌, ◌*◌, ◌%◌, ◌/◌, ◌≤◌, ◌<◌}
use native.Mathlib.Nat.{mul-add-mod_self_right, div-add-mod', mul_comm, mul-le-mul, mod-lt, zero-mod}
use native.Mathlib.Omega.{arith}

pub mod_by : (m a b k l : ℕ) → a + k * m ≡ b + l * m → a % m ≡ b % m
mod_by m a b k l e =
    let ea : (k * m + a) % m ≡ a % m = mul-add-mod_self_right k m a in
    let eb : (l * m + b) % m ≡ b % m = mul-add-mod_self_right l m b in
    sym ea ∙ ap (λ (x : ℕ). x % m) (omega arith) ∙ eb

pub mod_mul_mod : (a b m : ℕ) → (a % m * b) % m ≡ (a * b) % m
mod_mul_mod a b m = mod_by m (a % m * b) (a * b) (a / m * b) 0 (omega (arith, ap (λ (x : ℕ). x * b) (div-add-mod' a m)))

pub mul_mod_mod : (a b m : ℕ) → (a * (b % m)) % m ≡ (a * b) % m
mul_mod_mod a b m = rw (mul_comm a (b % m), mul_comm a b, mod_mul_mod)

-- What x adds up to 0 with, and back.
pub mod_neg : (p x s : ℕ) → 0 < p → (x + s) % p ≡ 0 → s % p ≡ (p - x % p) % p
mod_neg p x s l h = mod_by p s (p - x % p) (x / p + 1) ((x + s) / p) (omega (arith, div-add-mod' x p, div-add-mod' (x + s) p, mod-lt x l))

pub mod_neg_back : (p x s : ℕ) → 0 < p → s % p ≡ (p - x % p) % p → (x + s) % p ≡ 0
mod_neg_back p x s l h = mod_by p (x + s) 0 ((p - x % p) / p) (x / p + s / p + 1)
    (omega (arith, div-add-mod' x p, div-add-mod' s p, div-add-mod' (p - x % p) p, mod-lt x l, h)) ∙ zero-mod p

-- The product of two numbers of 32 bits fits 64 bits, with room for a third.
pub product_fits : (x y : ℕ) → x < 4294967296 → y < 4294967296 → x * y ≤ 18446744065119617025
product_fits x y h k = mul-le-mul {n₁ = x} {m₁ = y} {n₂ = 4294967295} {m₂ = 4294967295} (omega arith) (omega arith)
