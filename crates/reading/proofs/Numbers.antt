-- Numbers of some bytes.
-- Assumes nothing.
use mathlib.Core.Path.{◌≡◌, ap}
use mathlib.Core.List.{List}
use Prim.Native.Nat.{ℕ, ◌+◌, ◌*◌, ◌<◌, ◌^◌}
use native.Mathlib.Omega.{arith}
use Rattle.linear.specs.Flat.{place}
use Rattle.linear.proofs.Carry.{total_cong}
use Rattle.format.specs.Format.{number_of}

-- Two numbers with the same bytes.
pub number_same : (w : ℕ) (f g : ℕ → ℕ) → ((k : ℕ) → k < w → f k ≡ g k) → number_of w f ≡ number_of w g
number_same w f g h = total_cong w (λ k. f k * 256 ^ k) (λ k. g k * 256 ^ k) (λ k l. ap (λ (x : ℕ). x * 256 ^ k) (h k l))

pub number_shift : (w : ℕ) (bytes : List ℕ) (a o : ℕ) → number_of w (λ k. place bytes (a + o + k)) ≡ number_of w (λ k. place bytes (a + (o + k)))
number_shift w bytes a o = number_same w (λ k. place bytes (a + o + k)) (λ k. place bytes (a + (o + k)))
    (λ k l. let q : a + o + k ≡ a + (o + k) = omega arith in ap (place bytes) q)
