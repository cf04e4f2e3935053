-- What the steps of the panel's calls answer, over lists. No public contract cites this file.
-- Assumes nothing.
use Rattle.std.specs.Prelude.{Bool, not, ◌&&◌, ◌||◌, List, ℕ, ◌^◌, eqb, ltb, Result}
use Rattle.scheme.specs.declared.Shape.{Shape}
use Rattle.scheme.specs.declared.Refusal.{Refusal}
use Rattle.scheme.specs.declared.Refusal.TheVariants as R
use Rattle.scheme.specs.Tests.{within, unless, or_else}
use Rattle.scheme.specs.Refusal.{refusal_of, read_below_lem}
use Rattle.panel.specs.Cards.{rows_of}

-- As many shares as the participant has rows; not asked of a participant outside 1 to n.
abbrev pub places_right_lem : ℕ → ℕ → List ℕ → ℕ → Bool
places_right_lem n who labels places = not (within 1 n who) || eqb places (rows_of who labels)

module _ (s : Shape) (labels entries : List ℕ) (cards : ℕ) (stored : List ℕ) where
  -- 8 and 9, then what comes after them.
  abbrev pub cards_refusal : Bool → Bool → Result Unit Refusal → Result Unit Refusal
  cards_refusal who below more =
      or_else (unless (ltb cards (2 ^ s.n) && who) R.Outsider)
      (or_else (unless (read_below_lem s.p cards labels stored && below) R.NotBelowP)
      more)

  -- `state_refusal` with the panel's parts as lists.
  abbrev pub lists_refusal_lem : Bool → Bool → Bool → Result Unit Refusal → Result Unit Refusal
  lists_refusal_lem lengths who below more = refusal_of s labels entries lengths (cards_refusal who below more)
