-- New numbers over the first places of a list.
-- Assumes nothing.
use mathlib.Core.Path.{◌≡◌, sym, ap, ◌∙◌}
use mathlib.Core.List.{List}
use mathlib.Core.Logic.{⊎_elim}
use Prim.Native.Nat.{ℕ, ◌+◌, ◌-◌, ◌<◌, ◌≤◌}
use native.Mathlib.Omega.{arith}
use lib.ListN.{length, get_or, drop, take, length-append, length-drop, get_or-append}
use lib.Seq.{ext_get_or, get_or-append-add, get_or-drop, take_at}
use Rattle.algebra.proofs.Cases.{lt_or_ge}
use Rattle.scheme.specs.Outcome.{over}

-- New numbers that stand over the first places of a list.
pub over_is : (new old x : List ℕ) → length x ≡ length old → length new ≤ length old
    → ((i : ℕ) → i < length new → get_or x i 0 ≡ get_or new i 0) → ((i : ℕ) → length new ≤ i → get_or x i 0 ≡ get_or old i 0)
    → x ≡ over new old
over_is new old x size fits first rest = ext_get_or 0 x (over new old)
    (omega (arith, length-append new (drop (length new) old), length-drop (length new) old))
    (λ i l. ⊎_elim
    (λ m. first i m ∙ sym (get_or-append new (drop (length new) old) 0 i m))
    (λ m. rest i m ∙ sym (past i m))
    (lt_or_ge i (length new)))
  where
    past : (i : ℕ) → length new ≤ i → get_or (over new old) i 0 ≡ get_or old i 0
    past i m =
        let q : i ≡ length new + (i - length new) = omega arith in
        ap (λ (j : ℕ). get_or (over new old) j 0) q ∙ get_or-append-add new (drop (length new) old) (i - length new) 0
        ∙ get_or-drop (length new) old (i - length new) 0 ∙ ap (λ (j : ℕ). get_or old j 0) (sym q)

-- The first places are the new numbers.
pub take_over : (m : ℕ) (new old : List ℕ) → length new ≡ m → take m (over new old) ≡ new
take_over m new old e = take_at new (drop (length new) old) m e
