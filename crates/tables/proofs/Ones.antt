-- A list whose first number is 1: 1 followed by a list.
-- Assumes nothing.
use Rattle.std.proofs.Common.{◌≡◌, ℕ, ◌+◌, ◌-◌, List, [], ◌∷◌, ◌++◌, length, set, ap, ◌∙◌, arith, append-nil}
use Rattle.std.proofs.lemmas.List.{drop_all}
use borrow.Rule.Slice.PartMut.{put_mid}

pub one_before_lem : (c z y : List ℕ) → length z ≡ 1 + length c → y ≡ c → put_mid 1 (length (set z 0 1) - 1) (set z 0 1) y ≡ 1 ∷ c
one_before_lem c [] y q e = absurd (omega arith)
one_before_lem c (x ∷ z) y q e = ap (λ l. 1 ∷ l) (ap (λ l. y ++ l) (drop_all (length (1 ∷ z) - 1) z (omega arith)) ∙ append-nil y ∙ e)
