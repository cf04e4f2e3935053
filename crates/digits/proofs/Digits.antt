-- Decimal digits: one digit, one digit more, and how many digits there are; how long the text of a residue is.
-- Assumes nothing.
use mathlib.Core.Path.{◌≡◌, refl, ap}
use mathlib.Core.Bool.{Bool, true, false}
use mathlib.Core.List.{List, [], ◌∷◌, ◌++◌}
use Prim.Native.Nat.{ℕ, zero, suc, ◌+◌, ◌*◌, ◌-◌, ◌/◌, ◌%◌, ◌^◌, ◌<◌, ◌≤◌}
use native.Mathlib.Nat.{pow-suc, pow-zero}
use native.Mathlib.Omega.{arith}
use lib.Dec.{leb, ltb}
use lib.ListN.{length, set, length-append}
use lib.IntN.{pos, negsuc, nat_abs, ◌-ℤ◌}
use borrow.Author.Tests.{lt-ltb, le-ltb, ltb-true, ltb-false}
use Rattle.digits.specs.Digits.{digits_in, decimal, nearest, whole_text}
use Rattle.digits.specs.Put.{Put}
use Rattle.digits.proofs.Puts.{put_before}

-- More steps than n are enough: any two such counts of steps give the same digits.
steps_by : (f g n : ℕ) (b : Bool) → ltb n 10 ≡ b → (10 ≤ n → digits_in f (n / 10) ≡ digits_in g (n / 10))
    → digits_in (suc f) n ≡ digits_in (suc g) n
unfolding digits_in
steps_by f g n true e h = rw e
steps_by f g n false e h = rw (e, h (ltb-false n 10 e))

steps : (f g n : ℕ) → n < f → n < g → digits_in f n ≡ digits_in g n
steps zero g n h k = absurd (omega arith)
steps (suc f) zero n h k = absurd (omega arith)
steps (suc f) (suc g) n h k = steps_by f g n (ltb n 10) refl (λ l. steps f g (n / 10) (omega arith) (omega arith))

pub decimal_one : (n : ℕ) → n < 10 → decimal n ≡ (48 + n) ∷ []
unfolding decimal digits_in
decimal_one n h = rw (lt-ltb n 10 h)

pub decimal_more : (n : ℕ) → 10 ≤ n → decimal n ≡ decimal (n / 10) ++ ((48 + n % 10) ∷ [])
unfolding decimal digits_in
decimal_more n h = rw (le-ltb n 10 h, steps n (suc (n / 10)) (n / 10) (omega arith) (omega arith))

pub one_length : (n : ℕ) → n < 10 → length (decimal n) ≡ 1
one_length n h = ap length (decimal_one n h)

pub more_length : (n : ℕ) → 10 ≤ n → length (decimal n) ≡ length (decimal (n / 10)) + 1
more_length n h = rw (decimal_more n h, length-append)

length_by : (k n : ℕ) (b : Bool) → ltb n 10 ≡ b → n < 10 ^ suc k → ((1 ≤ k) → n / 10 < 10 ^ k → length (decimal (n / 10)) ≤ k)
    → length (decimal n) ≤ suc k
length_by k n true e h ih = omega (arith, one_length n (ltb-true n 10 e))
length_by zero n false e h ih = absurd (omega (arith, ltb-false n 10 e, pow-suc 10 zero, pow-zero 10))
length_by (suc k) n false e h ih =
    let l : 10 ≤ n = ltb-false n 10 e in
    let p : 10 ^ suc (suc k) ≡ 10 ^ suc k * 10 = pow-suc 10 (suc k) in
    let s = ih (omega arith) (omega arith) in
    omega (arith, more_length n l)

-- A number below 10 ^ k has k digits at most.
pub decimal_length : (k n : ℕ) → n < 10 ^ k → 1 ≤ k → length (decimal n) ≤ k
decimal_length zero n h l = absurd (omega arith)
decimal_length (suc k) n h l = length_by k n (ltb n 10) refl h (λ m i. decimal_length k (n / 10) i m)

not_empty_by : (n : ℕ) (b : Bool) → ltb n 10 ≡ b → 0 < length (decimal n)
not_empty_by n true e = omega (arith, one_length n (ltb-true n 10 e))
not_empty_by n false e = omega (arith, more_length n (ltb-false n 10 e))

pub decimal_not_empty : (n : ℕ) → 0 < length (decimal n)
decimal_not_empty n = not_empty_by n (ltb n 10) refl

-- A difference below zero.
pub sub_is : (v p : ℕ) → v < p → pos v -ℤ pos p ≡ negsuc (p - suc v)
sub_is v zero h = absurd (omega arith)
sub_is v (suc k) h = rw (lt-ltb v (suc k))

-- A residue's text has a sign and five digits at most.
residue_by : (p v : ℕ) (b : Bool) → leb (2 * v) p ≡ b → v < p → p < 65536
    → (nat_abs (nearest p v) < 65536) × (length (whole_text (nearest p v)) ≤ 6)
unfolding whole_text
residue_by p v true e h l = let k = decimal_length 5 v (omega arith) (omega arith) in rw e (omega arith, omega arith)
residue_by p v false e h l =
    let k = decimal_length 5 (suc (p - suc v)) (omega arith) (omega arith) in rw (e, sub_is v p h) (omega arith, omega arith)

pub residue_near : (p v : ℕ) → v < p → p < 65536 → nat_abs (nearest p v) < 65536
residue_near p v h l = (residue_by p v (leb (2 * v) p) refl h l).0

pub residue_length : (p v : ℕ) → v < p → p < 65536 → length (whole_text (nearest p v)) ≤ 6
residue_length p v h l = (residue_by p v (leb (2 * v) p) refl h l).1

-- What the two ways through `put_decimal` leave.
pub put_one : (b : List ℕ) (at n : ℕ) → n < 10 → Put b at (decimal n) (at + 1) (set b at (48 + n))
put_one b at n h = rw (decimal_one n h) (refl, refl)

pub put_more : (b : List ℕ) (at n : ℕ) {a : List ℕ} {last : ℕ} → 10 ≤ n → Put b at (decimal (n / 10)) last a
    → Put b at (decimal n) (last + 1) (set a last (48 + n % 10))
put_more b at n h x = rw (decimal_more n h) (put_before b at (decimal (n / 10)) (48 + n % 10) x)
