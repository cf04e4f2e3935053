-- 1 taken off modulo p, for p = 2 as well.
-- Assumes nothing.
use mathlib.Core.Path.{◌≡◌, sym, ap, ◌∙◌}
use Prim.Native.Nat.{ℕ, ◌+◌, ◌-◌, ◌%◌}
use native.Mathlib.Nat.{mod-eq_of_lt}
use Rattle.algebra.specs.Ring.{Field}
use Rattle.residue.specs.Prime.{Prime}
use Rattle.residue.specs.Residue.{F, res}
use Rattle.residue.proofs.Field.{residues, res_mod, res_add}

abbrev pub one_off : ℕ → ℕ → ℕ
one_off p a = (a + (p - 1)) % p

module _ (p : ℕ) (H : Prime p) where
  abbrev K : Field (F p)
  K = residues p H

  open K use {R}
  open R use {𝟙, ◌⊕◌, neg}

  infixl 65 ◌⊕◌
  pub off_one : (a : ℕ) → res p H (one_off p a) ≡ res p H a ⊕ neg 𝟙
  off_one a = res_mod p H (a + (p - 1)) ∙ sym (res_add p H a (p - 1))
      ∙ ap (λ (n : ℕ). res p H a ⊕ res p H (p - n)) (sym (mod-eq_of_lt H.two))
