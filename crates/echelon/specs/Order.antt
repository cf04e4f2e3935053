-- The order in which the working table holds the columns: 2, 3, .., e and then 1, so that a witness has its 1 at the last place and the
-- first place that is not 0 is a pivot. f is the number of columns after the first. No public contract cites this file.
-- Assumes nothing.
use Rattle.std.specs.Prelude.{Bool, ℕ, zero, suc}
use Rattle.algebra.specs.Ring.{Field}
use Rattle.algebra.proofs.Sum.{put}
use Rattle.residue.specs.Prime.{Prime}
use Rattle.residue.specs.Residue.{F, res}
use Rattle.linear.proofs.Masked.{rows_of}

module _ {A : Type 0} (K : Field A) (f : ℕ) where
  open K use {R}
  open R use {𝟘, 𝟙}

  -- The rows of M in that order.
  abbrev pub work : (ℕ → ℕ → A) → ℕ → ℕ → A
  work M k i = put R f (λ i. M k (suc i)) (M k zero) i

  -- The target in that order.
  abbrev pub goal : ℕ → A
  goal i = put R f (λ i. 𝟘) 𝟙 i

-- The chosen rows as residues.
abbrev pub matrix : (p : ℕ) → Prime p → (ℕ → ℕ → ℕ) → (ℕ → Bool) → ℕ → ℕ → F p
matrix p H E chosen k j = res p H (rows_of E chosen k j)
