-- Laws of totals of numbers, exact ones and ones modulo p: factors, order of summation, unit lists, weights put on a combination.
-- Assumes nothing.
use mathlib.Core.Path.{◌≡◌, refl, sym, ap, ap₂, ◌∙◌}
use mathlib.Core.Bool.{cond}
use mathlib.Core.Logic.{⊎_elim}
use Prim.Native.Nat.{ℕ, zero, suc, ◌<◌, ◌+◌, ◌*◌, ◌%◌}
use native.Mathlib.Nat.{add-mod, eq-or-lt_of_le, le_of_suc-le-suc, not-suc-le-zero}
use native.Mathlib.Omega.{arith}
use lib.Dec.{eqb}
use borrow.Author.Tests.{eq-eqb, ne_eqb}
use Rattle.residue.proofs.Modulo.{mul_mod_mod}
use Rattle.linear.specs.Combination.{total, AddUpTo}
use Rattle.linear.proofs.Carry.{total_cong}
use Rattle.linear.proofs.Masked.{total_zero}

pub total_add : (n : ℕ) (f g : ℕ → ℕ) → total n (λ i. f i + g i) ≡ total n f + total n g
total_add zero f g = refl
total_add (suc n) f g = omega (arith, total_add n f g)

pub total_mul : (n a : ℕ) (f : ℕ → ℕ) → total n (λ i. a * f i) ≡ a * total n f
total_mul zero a f = omega arith
total_mul (suc n) a f = omega (arith, total_mul n a f)

pub total_swap : (n m : ℕ) (f : ℕ → ℕ → ℕ) → total n (λ i. total m (λ j. f i j)) ≡ total m (λ j. total n (λ i. f i j))
total_swap zero m f = sym (total_zero m (λ j. 0) (λ j l. refl))
total_swap (suc n) m f = ap (λ (z : ℕ). z + total m (λ j. f n j)) (total_swap n m f)
    ∙ sym (total_add m (λ j. total n (λ i. f i j)) (λ j. f n j))

-- The list with 1 at place c and 0 elsewhere.
abbrev pub unit : ℕ → ℕ → ℕ
unit c i = cond (eqb i c) 1 0

pub unit_same : (c : ℕ) → unit c c ≡ 1
unit_same c = ap (λ b. cond b 1 0) (eq-eqb c c refl)

pub unit_other : (c i : ℕ) → (i ≡ c → ⊥) → unit c i ≡ 0
unit_other c i h = ap (λ b. cond b 1 0) (ne_eqb i c h)

-- A list times a unit list is its number at that place.
pub total_unit : (n c : ℕ) (f : ℕ → ℕ) → c < n → total n (λ i. f i * unit c i) ≡ f c
total_unit zero c f h = absurd (not-suc-le-zero h)
total_unit (suc n) c f h = ⊎_elim
    (λ (e : c ≡ n). rw e
    (ap₂ ◌+◌ (total_zero n (λ i. f i * unit n i) (λ i l. ap (λ (z : ℕ). f i * z) (unit_other n i (λ q. omega arith)) ∙ omega arith))
    (ap (λ (z : ℕ). f n * z) (unit_same n)) ∙ omega arith))
    (λ (l : c < n). ap₂ ◌+◌ (total_unit n c f l) (ap (λ (z : ℕ). f n * z) (unit_other c n (λ q. omega arith))) ∙ omega arith)
    (eq-or-lt_of_le (le_of_suc-le-suc h))

pub total_same : (p n : ℕ) (f g : ℕ → ℕ) → ((i : ℕ) → f i ≡ g i) → total n f % p ≡ total n g % p
total_same p n f g h = ap (λ (z : ℕ). z % p) (total_cong n f g (λ i l. h i))

-- Weighted numbers count modulo p only.
pub total_mod : (p n : ℕ) (b x y : ℕ → ℕ) → ((i : ℕ) → i < n → x i % p ≡ y i % p)
    → total n (λ i. b i * x i) % p ≡ total n (λ i. b i * y i) % p
total_mod p zero b x y h = refl
total_mod p (suc n) b x y h = add-mod (total n (λ i. b i * x i)) (b n * x n) p
    ∙ ap₂ (λ (u w : ℕ). (u + w) % p) (total_mod p n b x y (λ i l. h i (omega arith)))
    (sym (mul_mod_mod (b n) (x n) p) ∙ ap (λ (z : ℕ). b n * z % p) (h n (omega arith)) ∙ mul_mod_mod (b n) (y n) p)
    ∙ sym (add-mod (total n (λ i. b i * y i)) (b n * y n) p)

-- Weights put on the rows' products with b are b's product with the weighted rows, ..
pub total_rows : (d e : ℕ) (y b : ℕ → ℕ) (E : ℕ → ℕ → ℕ)
    → total d (λ k. y k * total e (λ j. E k j * b j)) ≡ total e (λ j. b j * total d (λ k. y k * E k j))
total_rows d e y b E = total_cong d (λ k. y k * total e (λ j. E k j * b j)) (λ k. total e (λ j. y k * (E k j * b j)))
    (λ k l. sym (total_mul e (y k) (λ j. E k j * b j)))
    ∙ total_swap d e (λ k j. y k * (E k j * b j))
    ∙ total_cong e (λ j. total d (λ k. y k * (E k j * b j))) (λ j. b j * total d (λ k. y k * E k j))
    (λ j l. total_cong d (λ k. y k * (E k j * b j)) (λ k. b j * (y k * E k j)) (λ k m. omega arith)
    ∙ total_mul d (b j) (λ k. y k * E k j))

-- .. so where the weighted rows add up to t, they are b's product with t.
pub adds_rows : (p d e : ℕ) (E : ℕ → ℕ → ℕ) (y t b : ℕ → ℕ) → AddUpTo p e E d y t
    → total d (λ k. y k * total e (λ j. E k j * b j)) % p ≡ total e (λ j. b j * t j) % p
adds_rows p d e E y t b h = ap (λ (z : ℕ). z % p) (total_rows d e y b E) ∙ total_mod p e b (λ j. total d (λ k. y k * E k j)) t h
