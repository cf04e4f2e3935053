-- The definitions tried: texts that are numbers and texts that are not; a list that was written at a place is found there.
-- Assumes nothing.
use mathlib.Core.Path.{◌≡◌, refl, ap, ◌∙◌}
use mathlib.Core.Bool.{true, false}
use mathlib.Core.List.{List, [], ◌∷◌, ◌++◌}
use Prim.Native.Nat.{ℕ, ◌+◌}
use lib.ListN.{length, take, drop}
use lib.Seq.{get_or-append_seam, drop-append-add, take-append_seam}
use Rattle.requests.specs.Parts.{list_at_lem}
use Rattle.requests.specs.Text.{are_numbers, numbers_of, goes_on, numbers_from}

-- `17 5`
two : (are_numbers (49 ∷ 55 ∷ 32 ∷ 53 ∷ []) ≡ true) × (numbers_of (49 ∷ 55 ∷ 32 ∷ 53 ∷ []) ≡ 17 ∷ 5 ∷ [])
unfolding goes_on numbers_from
two = (refl, refl)

-- `4294967295`, the largest, and `4294967296`
largest : (are_numbers (52 ∷ 50 ∷ 57 ∷ 52 ∷ 57 ∷ 54 ∷ 55 ∷ 50 ∷ 57 ∷ 53 ∷ []) ≡ true)
    × (numbers_of (52 ∷ 50 ∷ 57 ∷ 52 ∷ 57 ∷ 54 ∷ 55 ∷ 50 ∷ 57 ∷ 53 ∷ []) ≡ 4294967295 ∷ [])
    × (are_numbers (52 ∷ 50 ∷ 57 ∷ 52 ∷ 57 ∷ 54 ∷ 55 ∷ 50 ∷ 57 ∷ 54 ∷ []) ≡ false)
unfolding goes_on numbers_from
largest = (refl, refl, refl)

-- the empty text; a space before, after and beside a space; a sign
not_numbers : (are_numbers [] ≡ false) × (are_numbers (32 ∷ 53 ∷ []) ≡ false) × (are_numbers (53 ∷ 32 ∷ []) ≡ false)
    × (are_numbers (53 ∷ 32 ∷ 32 ∷ 53 ∷ []) ≡ false) × (are_numbers (45 ∷ 53 ∷ []) ≡ false)
unfolding goes_on
not_numbers = (refl, refl, refl, refl, refl)

-- A list that is written as its length and then its numbers, after `front` and before `back`.
list_found : (front xs back : List ℕ) → list_at_lem (front ++ length xs ∷ (xs ++ back)) (length front) ≡ xs
list_found front xs back =
    ap (λ k. take k (drop (length front + 1) (front ++ length xs ∷ (xs ++ back)))) (get_or-append_seam front (length xs) (xs ++ back) 0)
    ∙ ap (take (length xs)) (drop-append-add front (length xs ∷ (xs ++ back)) 1)
    ∙ take-append_seam xs back
