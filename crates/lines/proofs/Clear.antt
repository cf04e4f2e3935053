-- Nothing is left at a pivot: the factor of line j takes off what is there, and the lines after it are 0 there.
-- Assumes nothing.
use mathlib.Core.Path.{◌≡◌, sym, ap, ap₂, ◌∙◌}
use mathlib.Core.List.{List}
use mathlib.Core.Logic.{⊎_elim}
use Prim.Native.Nat.{ℕ, zero, suc, ◌+◌, ◌-◌, ◌*◌, ◌%◌, ◌<◌, ◌≤◌}
use native.Mathlib.Nat.{add-mod, zero-mod}
use native.Mathlib.Omega.{arith}
use lib.ListN.{get_or}
use Rattle.algebra.proofs.Cases.{lt_or_ge}
use Rattle.residue.proofs.Modulo.{mul_mod_mod, mod_neg_back}
use Rattle.linear.specs.Combination.{total}
use Rattle.lines.specs.Line.{at, col_sum, Pivots, Stepped, Factored, Cleared}

-- A multiple of a number that is 0 modulo p is 0 modulo p.
pub times_zero : (p g y : ℕ) → y % p ≡ 0 → g * y % p ≡ 0
times_zero p g y e = sym (mul_mod_mod g y p) ∙ ap (λ (z : ℕ). g * z % p) e ∙ ap (λ (z : ℕ). z % p) (omega arith) ∙ zero-mod p

-- The negative of x times a number that is 1 modulo p, added to x.
pub clears : (p x y : ℕ) → 0 < p → y % p ≡ 1 → (x + (p - x % p) * y) % p ≡ 0
clears p x y l e = mod_neg_back p x ((p - x % p) * y) l
    (sym (mul_mod_mod (p - x % p) y p) ∙ ap (λ (z : ℕ). (p - x % p) * z % p) e ∙ ap (λ (z : ℕ). z % p) (omega arith))

-- A sum that is 0 modulo p after its first j + 1 terms stays so where all terms after them are 0.
pub stays_zero : (p a j : ℕ) (f : ℕ → ℕ) → (a + total (suc j) f) % p ≡ 0 → (s : ℕ) → j < s → ((l : ℕ) → j < l → l < s → f l % p ≡ 0)
    → (a + total s f) % p ≡ 0
stays_zero p a j f h zero l z = absurd (omega arith)
stays_zero p a j f h (suc s) l z = ⊎_elim
    (λ (b : j < s). ap (λ (n : ℕ). n % p) {y = a + total s f + f s} (omega arith) ∙ add-mod (a + total s f) (f s) p
    ∙ ap₂ (λ (m n : ℕ). (m + n) % p) (stays_zero p a j f h s b (λ k lj lk. z k lj (omega arith))) (z s b (omega arith)) ∙ zero-mod p)
    (λ (b : s ≤ j). let q : suc s ≡ suc j = omega arith in ap (λ (n : ℕ). (a + total n f) % p) q ∙ h)
    (lt_or_ge j s)

pub cleared : {p s : ℕ} {t : List (List ℕ)} {v g : List ℕ} → 0 < p → Pivots t s → Stepped p t s → Factored p t v g s → Cleared p t g s
cleared {p} {s} {t} {v} {g} lp pivs st f j l = stays_zero p a j (λ k. get_or g (12 + k) 0 * at t k c) here s l
    (λ k lj lk. times_zero p (get_or g (12 + k) 0) (at t k c) ((st j l).1 k lj lk))
  where
    c : ℕ
    c = at t j 25

    a : ℕ
    a = get_or g c 0

    factor : get_or g (12 + j) 0 ≡ p - (a + col_sum g t j c) % p
    factor = f.facs j l ∙ ap (λ (z : ℕ). p - (z + col_sum g t j c) % p) (sym (f.vec c (pivs j l)))

    here : (a + (col_sum g t j c + get_or g (12 + j) 0 * at t j c)) % p ≡ 0
    here = ap (λ (z : ℕ). (a + (col_sum g t j c + z * at t j c)) % p) factor
        ∙ ap (λ (z : ℕ). z % p) {y = a + col_sum g t j c + (p - (a + col_sum g t j c) % p) * at t j c} (omega arith)
        ∙ clears p (a + col_sum g t j c) (at t j c) lp (st j l).0
