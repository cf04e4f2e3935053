-- What is decided of the chosen rows (linear/proofs/Decided.antt) is what `Handed` permits, at least one column given.
-- Assumes nothing.
use mathlib.Core.Path.{◌≡◌, refl, subst}
use mathlib.Core.Bool.{Bool, true, false}
use mathlib.Core.List.{List}
use Prim.Native.Nat.{ℕ, ◌≤◌}
use Rattle.residue.specs.Prime.{Prime}
use Rattle.linear.specs.Rows.{Handed}
use Rattle.linear.proofs.Decided.{decided, Told, decided_told}

module _ (p : ℕ) (H : Prime p) (d e : ℕ) (l : 1 ≤ e) (E : ℕ → ℕ → ℕ) (chosen : ℕ → Bool) (v : List ℕ) where
  told : (opens : Bool) → decided p H d e E chosen ≡ (opens, v) → Told p d e E chosen opens v
  told opens q = subst (λ (a : Bool × List ℕ). Told p d e E chosen a.0 a.1) q (decided_told p H d e l E chosen)

  pub decided_opens : decided p H d e E chosen ≡ (true, v) → (r z : List ℕ) → Handed p d e E chosen r z true v z
  decided_opens q r z = let w = told true q in (w.0, w.1, refl)

  pub decided_closes : decided p H d e E chosen ≡ (false, v) → (r z : List ℕ) → Handed p d e E chosen r z false r v
  decided_closes q r z = let w = told false q in (w.0, w.1, refl)
