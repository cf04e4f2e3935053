-- The contract of `find` settles its outcome: any two that it permits have the same answer, and the same coefficients where it is yes.
-- Assumes nothing.
use mathlib.Core.Path.{◌≡◌, refl, sym, ◌∙◌}
use mathlib.Core.Bool.{Bool, true, false}
use mathlib.Core.List.{List}
use Prim.Native.Nat.{ℕ}
use native.Mathlib.Omega.{arith}
use lib.ListN.{length}
use lib.Seq.{ext_get_or}
use Rattle.residue.specs.Prime.{Prime}
use Rattle.linear.specs.Flat.{place, entry}
use Rattle.linear.proofs.Numbers.{never_both, coefficients_unique}
use Rattle.combination.specs.Found.{Found}

module _ (p : ℕ) (H : Prime p) (m n : ℕ) (vectors target : List ℕ) where
  same_answer : (b b' : Bool) (c c' : List ℕ) → Found p m n vectors target b c → Found p m n vectors target b' c' → b ≡ b'
  same_answer true true c c' a a' = refl
  same_answer true false c c' a a' = absurd (never_both p H n (entry n vectors) m (place target) (place c) (a.yes refl) (a'.no refl))
  same_answer false true c c' a a' = absurd (never_both p H n (entry n vectors) m (place target) (place c') (a'.yes refl) (a.no refl))
  same_answer false false c c' a a' = refl

  pub settled : (b b' : Bool) (c c' : List ℕ) → length c ≡ m → length c' ≡ m → Found p m n vectors target b c
      → Found p m n vectors target b' c'
      → (b ≡ b') × (b ≡ true → c ≡ c')
  settled b b' c c' l l' a a' =
      let e = same_answer b b' c c' a a' in (
        e,
        λ q. ext_get_or 0 c c' (l ∙ sym l') (λ k lk.
            coefficients_unique p H n (entry n vectors) m (place target) (place c) (place c') (a.yes q) (a'.yes (sym e ∙ q)) k
            (omega arith)),
      )
