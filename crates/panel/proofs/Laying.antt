-- A participant's rows counted, and shares laid at them, by the row that a loop has come to.
-- Assumes nothing.
use mathlib.Core.Path.{◌≡◌, refl, ap, ◌∙◌}
use mathlib.Core.List.{List, [], ◌∷◌, ◌++◌, append_assoc}
use Prim.Native.Nat.{ℕ, ◌+◌, ◌≤◌, ◌<◌}
use native.Mathlib.Numerals.{add-one}
use native.Mathlib.Omega.{arith}
use lib.ListN.{length, take, drop, get_or, set, drop_of_length-le, take-append-drop}
use lib.Seq.{take-suc, take-suc-set, drop-set-lt}
use borrow.Author.Tests.{eq-eqb, ne_eqb}
use Rattle.residue.proofs.Moduli.{drop_next}
use Rattle.std.proofs.Common.{cond, eqb}
use Rattle.std.proofs.lemmas.List.Recursion.{is_sum_by}
use Rattle.std.specs.List.{count_by}
use Rattle.panel.specs.Cards.{rows_of, laid}

module _ (who : ℕ) (labels : List ℕ) (i : ℕ) (h : i < length labels) where
  pub own_here : get_or labels i 0 ≡ who → rows_of who (drop i labels) ≡ 1 + rows_of who (drop (i + 1) labels)
  unfolding rows_of
  own_here e = ap (rows_of who) (drop_next labels i h) ∙ rw (eq-eqb _ _ e)

  pub own_not : (get_or labels i 0 ≡ who → ⊥) → rows_of who (drop i labels) ≡ 0 + rows_of who (drop (i + 1) labels)
  unfolding rows_of
  own_not e = ap (rows_of who) (drop_next labels i h) ∙ rw (ne_eqb _ _ e)

  module _ (shares stored : List ℕ) (k : ℕ) (g : i < length stored) where
    pub lay_here : get_or labels i 0 ≡ who → k < length shares
        → take i stored ++ laid who (drop i labels) (drop k shares) (drop i stored)
        ≡ take (i + 1) (set stored i (get_or shares k 0))
        ++ laid who (drop (i + 1) labels) (drop (k + 1) shares) (drop (i + 1) (set stored i (get_or shares k 0)))
    unfolding laid
    lay_here e m =
        let t : take (i + 1) (set stored i (get_or shares k 0)) ≡ take i stored ++ (get_or shares k 0 ∷ []) =
        rw add-one (take-suc-set stored i (get_or shares k 0) g) in
        let u : drop (i + 1) (set stored i (get_or shares k 0)) ≡ drop (i + 1) stored =
        drop-set-lt (i + 1) stored i (get_or shares k 0) (omega arith) in
        rw (drop_next labels i h, drop_next stored i g, drop_next shares k m, eq-eqb _ _ e, t, u, append_assoc)

    pub lay_not : (get_or labels i 0 ≡ who → ⊥)
        → take i stored ++ laid who (drop i labels) (drop k shares) (drop i stored)
        ≡ take (i + 1) stored ++ laid who (drop (i + 1) labels) (drop k shares) (drop (i + 1) stored)
    unfolding laid
    lay_not e =
        let t : take (i + 1) stored ≡ take i stored ++ (get_or stored i 0 ∷ []) = rw add-one (take-suc stored i 0 g) in
        rw (drop_next labels i h, drop_next stored i g, t, append_assoc) (ap (λ l. take i stored ++ l) (skip (drop k shares)))
      where
        skip : (xs : List ℕ)
            → laid who (get_or labels i 0 ∷ drop (i + 1) labels) xs (get_or stored i 0 ∷ drop (i + 1) stored)
            ≡ get_or stored i 0 ∷ laid who (drop (i + 1) labels) xs (drop (i + 1) stored)
        skip [] = refl
        skip (x ∷ xs) = rw (ne_eqb _ _ e)

pub lay_end : (who : ℕ) (labels shares stored : List ℕ) (i k : ℕ) → length labels ≤ i
    → take i stored ++ laid who (drop i labels) (drop k shares) (drop i stored) ≡ stored
unfolding laid
lay_end who labels shares stored i k h = rw (drop_of_length-le labels h) (take-append-drop i stored)

pub rows_counted : (who : ℕ) (labels : List ℕ) → rows_of who labels ≡ count_by (λ x. eqb x who) labels
unfolding rows_of
rows_counted who labels = is_sum_by (rows_of who) (λ x. cond (eqb x who) 1 0) refl (λ x xs. refl) labels
