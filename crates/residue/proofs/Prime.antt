-- Trial division, as a test that is computed and as a law; and inverses modulo a prime.
-- Assumes nothing.
use mathlib.Core.Path.{◌≡◌, refl, ap, ◌∙◌}
use mathlib.Core.Logic.{◌⊎◌, inl, inr, ⊎_elim}
use mathlib.Core.Bool.{Bool, true, false, ◌&&◌}
use Prim.Native.Nat.{ℕ, zero, suc, ◌+◌, ◌-◌, ◌*◌, ◌%◌, ◌/◌, ◌≤◌, ◌<◌}
use native.Mathlib.Nat.{mod-lt, div-add-mod', mul-le-mul, zero-mod, div-le_self, sub-add_cancel, eq-or-lt_of_le, mod-eq_of_lt}
use native.Mathlib.Omega.{arith}
use lib.Dec.{T, leb, ltb, leb→le, ltb→lt}
use Rattle.algebra.proofs.Cases.{lt_or_ge}
use Rattle.residue.specs.Prime.{Prime}
use Rattle.residue.proofs.Modulo.{mod_by, mul_mod_mod}

-- No number from 2 to k + 1 divides p.
abbrev undivided : ℕ → ℕ → Bool
undivided p zero = true
undivided p (suc k) = elim (p % (suc (suc k))) [ zero ↦ false | suc r ↦ undivided p k ]

undivided_sound : (p k : ℕ) → T (undivided p k) → (d : ℕ) → 2 ≤ d → d ≤ suc k → p % d ≡ 0 → ⊥
undivided_sound p zero t d l u e = omega arith
undivided_sound p (suc k) t d l u e = go (p % suc (suc k)) refl t (eq-or-lt_of_le u) (λ t' v. undivided_sound p k t' d l v e)
  where
    go : (r : ℕ) → p % suc (suc k) ≡ r → T (elim r [ zero ↦ false | suc r ↦ undivided p k ]) → (d ≡ suc (suc k)) ⊎ (d < suc (suc k))
        → (T (undivided p k) → d ≤ suc k → ⊥) → ⊥
    go zero h t c ih = absurd t
    go (suc r) h t (inl c) ih = let z : p % d ≡ suc r = rw c h in omega arith
    go (suc r) h t (inr c) ih = ih t (omega arith)

-- The test of p by the numbers from 2 to b + 1: enough where p is below the square of b + 2.
abbrev pub is_prime : ℕ → ℕ → Bool
is_prime p b = leb 2 p && (ltb p ((b + 2) * (b + 2)) && undivided p b)

pub and_l : (a b : Bool) → T (a && b) → T a
and_l true b t = tt
and_l false b t = t

pub and_r : (a b : Bool) → T (a && b) → T b
and_r true b t = t
and_r false b t = absurd t

pub is_prime_sound : (p b : ℕ) → T (is_prime p b) → Prime p
is_prime_sound p b t = record { two = at_least; none = λ d l u e. go d (p / d) l u e (whole d e) }
  where
    rest : T (ltb p ((b + 2) * (b + 2)) && undivided p b)
    rest = and_r (leb 2 p) (ltb p ((b + 2) * (b + 2)) && undivided p b) t

    at_least : 2 ≤ p
    at_least = leb→le 2 p (and_l (leb 2 p) (ltb p ((b + 2) * (b + 2)) && undivided p b) t)

    square : p < (b + 2) * (b + 2)
    square = ltb→lt p ((b + 2) * (b + 2)) (and_l (ltb p ((b + 2) * (b + 2))) (undivided p b) rest)

    tried : T (undivided p b)
    tried = and_r (ltb p ((b + 2) * (b + 2))) (undivided p b) rest

    whole : (d : ℕ) → p % d ≡ 0 → p ≡ p / d * d
    whole d e = let s : p / d * d + p % d ≡ p = div-add-mod' p d in omega arith

    -- of d and its partner k the smaller one was tried
    go : (d k : ℕ) → 2 ≤ d → d < p → p % d ≡ 0 → p ≡ k * d → ⊥
    go d zero l u e f = omega arith
    go d (suc zero) l u e f = omega arith
    go d (suc (suc k)) l u e f = ⊎_elim
        (λ (c : d < b + 2). undivided_sound p b tried d l (omega arith) e)
        (λ (c : b + 2 ≤ d). ⊎_elim
        (λ (c2 : suc (suc k) < b + 2). undivided_sound p b tried (suc (suc k)) (omega arith) (omega arith)
        (mod_by (suc (suc k)) p 0 0 d (omega arith) ∙ zero-mod (suc (suc k))))
        (λ (c2 : b + 2 ≤ suc (suc k)). let m : (b + 2) * (b + 2) ≤ suc (suc k) * d = mul-le-mul c2 c in omega (arith, square))
        (lt_or_ge (suc (suc k)) (b + 2)))
        (lt_or_ge d (b + 2))

-- The inverse of x: with p = q x + r that of r, times - q. k bounds the number of steps.
abbrev pub inverse_of : ℕ → ℕ → ℕ → ℕ
inverse_of p zero x = 0
inverse_of p (suc k) zero = 0
inverse_of p (suc k) (suc zero) = 1
inverse_of p (suc k) (suc (suc x)) = ((p - p / suc (suc x)) * inverse_of p k (p % suc (suc x))) % p

step_back : (p x r i q : ℕ) → q * x + r ≡ p → q ≤ p → x * ((p - q) * i) + i * p ≡ r * i + (x * i) * p
step_back p x r i q e h =
    let e2 : (q * x + r) * i ≡ p * i = ap (λ (z : ℕ). z * i) e in
    let e3 : x * ((p - q + q) * i) ≡ x * (p * i) = ap (λ (z : ℕ). x * (z * i)) (sub-add_cancel h) in
    omega arith

pub inverse_times : (p : ℕ) → Prime p → (k x : ℕ) → 1 ≤ x → x < p → x ≤ k → (x * inverse_of p k x) % p ≡ 1
inverse_times p H zero x l u f = omega arith
inverse_times p H (suc k) zero l u f = omega arith
inverse_times p H (suc k) (suc zero) l u f = mod-eq_of_lt H.two
inverse_times p H (suc k) (suc (suc x)) l u f =
    mul_mod_mod (suc (suc x)) _ p
    ∙ mod_by p _ _ i (X * i) (step_back p X r i (p / X) (div-add-mod' p X) (div-le_self p X))
    ∙ inverse_times p H k r positive (omega (arith, small)) (omega (arith, small))
  where
    X : ℕ
    X = suc (suc x)

    r : ℕ
    r = p % suc (suc x)

    i : ℕ
    i = inverse_of p k r

    small : p % suc (suc x) < suc (suc x)
    small = mod-lt p (omega arith)

    positive : 1 ≤ p % suc (suc x)
    positive = omega (arith, H.none (suc (suc x)) (omega arith) u)
