-- A number built from its highest bit down: twice what there is and the next bit.
-- Assumes nothing.
use mathlib.Core.Path.{◌≡◌, sym, ap, ◌∙◌}
use mathlib.Core.Bool.{Bool, true, false, cond}
use Prim.Native.Nat.{ℕ, zero, suc, ◌<◌, ◌≤◌, ◌+◌, ◌-◌, ◌*◌, ◌/◌, ◌%◌, ◌^◌}
use native.Mathlib.Nat.{div-div-eq-div-mul, pow-succ', two-pow-succ}
use native.Mathlib.Omega.{arith}
use lib.Dec.{eqb}
use Rattle.linear.specs.Bits.{bit}

-- One or none.
abbrev pub one : Bool → ℕ
one b = cond b 1 0

one_small : (b : Bool) → one b ≤ 1
one_small true = omega arith
one_small false = omega arith

whole : (x : ℕ) → x / 2 ^ 0 ≡ x
whole x = omega arith

bit_first : (c : ℕ) (b : Bool) → bit (c * 2 + one b) 0 ≡ b
bit_first c true = let e : (c * 2 + 1) / 2 ^ 0 % 2 ≡ 1 = ap (λ (x : ℕ). x % 2) (whole (c * 2 + 1)) ∙ odd in ap (λ (x : ℕ). eqb x 1) e
  where
    odd : (c * 2 + 1) % 2 ≡ 1
    odd = omega arith
bit_first c false = let e : (c * 2 + 0) / 2 ^ 0 % 2 ≡ 0 = ap (λ (x : ℕ). x % 2) (whole (c * 2 + 0)) ∙ even in ap (λ (x : ℕ). eqb x 1) e
  where
    even : (c * 2 + 0) % 2 ≡ 0
    even = omega arith

bit_next : (c : ℕ) (b : Bool) (j : ℕ) → bit (c * 2 + one b) (suc j) ≡ bit c j
bit_next c b j = ap (λ (x : ℕ). eqb (x % 2) 1)
    (ap (λ (y : ℕ). (c * 2 + one b) / y) (pow-succ' 2 j) ∙ sym (div-div-eq-div-mul (c * 2 + one b) 2 (2 ^ j))
    ∙ ap (λ (y : ℕ). y / 2 ^ j) half)
  where
    half : (c * 2 + one b) / 2 ≡ c
    half = let s = one_small b in omega arith

-- c has the marks from k to n - 1 as its bits from 0 on.
pub record Built (mark : ℕ → Bool) (n k c : ℕ) : Type 0 where
  pub upto : k ≤ n
  pub small : c < 2 ^ (n - k)
  pub bits : (j : ℕ) → k + j < n → bit c j ≡ mark (k + j)

pub built_turn : (mark : ℕ → Bool) (n j k c x : ℕ) (b : Bool) → Built mark n j c → j ≡ k + 1 → b ≡ mark k → x ≡ one b
    → Built mark n k (c * 2 + x)
built_turn mark n j k c x b h next e q = record {
  upto = omega (arith, h.upto);
  small = let s = h.small in let u = h.upto in let o = one_small b in
      let w : n - k ≡ suc (n - j) = omega arith in
      let t : 2 ^ (n - k) ≡ 2 ^ (n - j) + 2 ^ (n - j) = ap (λ (y : ℕ). 2 ^ y) w ∙ two-pow-succ (n - j) in omega arith;
  bits = λ i li. ap (λ (y : ℕ). bit (c * 2 + y) i) q ∙ go i li;
}
  where
    go : (i : ℕ) → k + i < n → bit (c * 2 + one b) i ≡ mark (k + i)
    go zero li = bit_first c b ∙ e ∙ ap mark (omega arith)
    go (suc i) li = bit_next c b i ∙ h.bits i (omega arith) ∙ ap mark (omega arith)
