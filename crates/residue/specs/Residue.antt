-- The residues modulo p: the numbers below p, with sum, product and negative taken modulo p.
-- That they are a field for a prime p is `residues` of proofs/Field.antt.
-- Assumes nothing.
use Rattle.std.specs.Prelude.{ℕ, ◌+◌, ◌-◌, ◌*◌, ◌%◌, ◌<◌}
use Rattle.std.proofs.Common.{mod-lt, arith}
use Rattle.residue.specs.Prime.{Prime}

-- A number below p, with the reason.
abbrev pub F : ℕ → Type 0
F p = (n : ℕ) × (n < p)

module _ (p : ℕ) (H : Prime p) where
  -- The residue of a number.
  abbrev pub res : ℕ → F p
  res n = (n % p, mod-lt n (omega (arith, H.two)))

  infixl 65 ◌⊕◌
  abbrev pub ◌⊕◌ : F p → F p → F p
  a ⊕ b = res (a.0 + b.0)

  infixl 70 ◌⊗◌
  abbrev pub ◌⊗◌ : F p → F p → F p
  a ⊗ b = res (a.0 * b.0)

  abbrev pub neg : F p → F p
  neg a = res (p - a.0)
