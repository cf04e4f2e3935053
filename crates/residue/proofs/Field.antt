-- The residues modulo a prime are a field; sums of numbers modulo p are sums of residues.
-- Assumes nothing.
use mathlib.Core.Path.{◌≡◌, refl, sym, ap, ◌∙◌}
use mathlib.Core.HLevel.{Σ_prop_path}
use mathlib.Core.Logic.{◌⊎◌, inl, inr}
use Prim.Native.Nat.{ℕ, zero, suc, ◌+◌, ◌*◌, ◌%◌, ◌<◌}
use native.Mathlib.Nat.{mod-mod, mod-eq_of_lt, mod-add-mod, add-mod-mod, mul_comm, mod_self, zero-mod, le_refl}
use native.Mathlib.Bridge.{le_prop}
use native.Mathlib.Omega.{arith}
use Rattle.algebra.specs.Ring.{Ring, Field}
use Rattle.residue.specs.Prime.{Prime}
use Rattle.residue.specs.Residue.{F, res, ◌⊕◌, ◌⊗◌, neg}
use Rattle.residue.proofs.Modulo.{mod_mul_mod, mul_mod_mod}
use Rattle.residue.proofs.Prime.{inverse_of, inverse_times}

-- Residues are equal where their numbers are.
pub same : {p : ℕ} {a b : F p} → a.0 ≡ b.0 → a ≡ b
same e = Σ_prop_path (λ n. le_prop) e

module _ (p : ℕ) (H : Prime p) where
  pub positive : zero < p
  positive = omega (arith, H.two)

  pub res_val : (a : F p) → res p H a.0 ≡ a
  res_val a = same (mod-eq_of_lt a.1)

  pub res_same : (x y : ℕ) → x % p ≡ y % p → res p H x ≡ res p H y
  res_same x y e = same e

  pub res_mod : (x : ℕ) → res p H (x % p) ≡ res p H x
  res_mod x = res_same (x % p) x (mod-mod x p)

  pub res_add : (x y : ℕ) → ◌⊕◌ p H (res p H x) (res p H y) ≡ res p H (x + y)
  res_add x y = same (rw (mod-add-mod, add-mod-mod))

  pub res_mul : (x y : ℕ) → ◌⊗◌ p H (res p H x) (res p H y) ≡ res p H (x * y)
  res_mul x y = same (rw (mod_mul_mod, mul_mod_mod))

  -- A number below p is what its residue says.
  pub res_inj : (x y : ℕ) → x < p → y < p → res p H x ≡ res p H y → x ≡ y
  res_inj x y hx hy q = sym (mod-eq_of_lt hx) ∙ ap (λ a. a.0) q ∙ mod-eq_of_lt hy

  pub res_zero : (a : F p) → a ≡ res p H 0 → a.0 ≡ 0
  res_zero a q = ap (λ a. a.0) q ∙ zero-mod p

  pub zero_res : (x : ℕ) → x % p ≡ 0 → res p H x ≡ res p H 0
  zero_res x e = res_same x 0 (e ∙ sym (zero-mod p))

  abbrev pub residue_ring : Ring (F p)
  residue_ring = record {
    𝟘 = res p H 0;
    𝟙 = res p H 1;
    ◌⊕◌ = ◌⊕◌ p H;
    ◌⊗◌ = ◌⊗◌ p H;
    neg = neg p H;
    comm = λ a b. ap (res p H) (omega arith);
    assoc = λ a b c. same (rw (mod-add-mod, add-mod-mod) (ap (λ (x : ℕ). x % p) (omega arith)));
    zero_l = λ a. same (rw mod-add-mod (ap (λ (x : ℕ). x % p) (omega arith) ∙ mod-eq_of_lt a.1));
    neg_r = λ a. same (rw add-mod-mod (ap (λ (x : ℕ). x % p) {y = p} (omega (arith, a.1)) ∙ mod_self p ∙ sym (zero-mod p)));
    mcomm = λ a b. ap (res p H) (omega arith);
    massoc = λ a b c. same (rw (mod_mul_mod, mul_mod_mod) (ap (λ (x : ℕ). x % p) (omega arith)));
    one_l = λ a. same (rw mod_mul_mod (ap (λ (x : ℕ). x % p) (omega arith) ∙ mod-eq_of_lt a.1));
    dist_l = λ a b c. same (rw (mul_mod_mod, mod-add-mod, add-mod-mod) (ap (λ (x : ℕ). x % p) (omega arith)));
  }

  abbrev pub inverse : (a : F p) (n : ℕ) → a.0 ≡ n → (a ≡ res p H 0) ⊎ ((b : F p) × (◌⊗◌ p H b a ≡ res p H 1))
  inverse a zero e = inl (sym (res_val a) ∙ ap (res p H) e)
  inverse a (suc n) e = inr (
    res p H (inverse_of p a.0 a.0),
    same
        (mod_mul_mod (inverse_of p a.0 a.0) a.0 p ∙ ap (λ (x : ℕ). x % p) (mul_comm (inverse_of p a.0 a.0) a.0)
        ∙ inverse_times p H a.0 a.0 (omega arith) a.1 (le_refl a.0) ∙ sym (mod-eq_of_lt H.two)),
  )

  pub one_not_zero : res p H 1 ≡ res p H 0 → ⊥
  one_not_zero e = let q : 1 % p ≡ 0 % p = ap (λ a. a.0) e in omega (arith, mod-eq_of_lt H.two, zero-mod p)

  -- The field of the residues modulo the prime p.
  abbrev pub residues : Field (F p)
  residues = record { R = residue_ring; inverse? = λ a. inverse a a.0 refl; one≢zero = one_not_zero }
