-- Document 01, "The card panel", over runs of calls: which cards are in after them, and with which shares. Nothing here looks at a panel.
-- Assumes nothing.
use Rattle.std.specs.Prelude.{Bool, true, false, cond, ◌&&◌, List, [], ◌∷◌, ℕ, zero, suc, ◌+◌, ◌^◌, eqb, length, take}
use Rattle.std.proofs.Math.Option.{Option, none, some}
use Rattle.linear.specs.Flat.{place, list_of}
use Rattle.scheme.specs.declared.Shape.{Shape}
use Rattle.scheme.specs.Tests.{within, each_below}
use Rattle.panel.specs.Cards.{rows_of}

-- A card is put in with a participant and that participant's shares, or taken out; or the panel is asked for the code.
pub data Call : Type 0 where
  put : ℕ → List ℕ → Call
  out : ℕ → Call
  ask : Call

-- The shares that a participant's card, if it is in, was put in with.
abbrev pub Held : Type 0
Held = ℕ → Option (List ℕ)

abbrev pub no_cards : Held
no_cards who = none

-- One participant's card changed.
abbrev pub holding : Held → ℕ → Option (List ℕ) → Held
holding held who card i = cond (eqb i who) card (held i)

-- A good card comes in where none is in.
abbrev pub card_after : Option (List ℕ) → Bool → List ℕ → Option (List ℕ)
card_after none good shares = cond good (some shares) none
card_after (some old) good shares = some old

module _ (s : Shape) (labels : List ℕ) where
  -- A card that the participant may put in: one of the n, with a share for each of the participant's rows, each below p.
  abbrev pub good_card : ℕ → List ℕ → Bool
  good_card who shares = within 1 s.n who && (eqb (length shares) (rows_of who labels) && each_below s.p shares)

  -- What a call changes: a good card of someone whose card is not in comes in; a card that is in goes out; all else is refused.
  abbrev pub changed : Held → Call → Held
  changed held (put who shares) = holding held who (card_after (held who) (good_card who shares) shares)
  changed held (out who) = holding held who none
  changed held ask = held

  -- The cards after a run of calls, the first call first.
  unfoldable pub held_after : Held → List Call → Held
  held_after held [] = held
  held_after held (call ∷ calls) = held_after (changed held call) calls

-- The set of the cards that are in, of participants 1 to n.
abbrev pub is_in : Option (List ℕ) → Bool
is_in none = false
is_in (some shares) = true

unfoldable pub set_of : ℕ → Held → ℕ
set_of zero held = 0
set_of (suc n) held = set_of n held + cond (is_in (held (suc n))) (2 ^ n) 0

-- The share at row k, from the card of the row's participant: the one at the place of this row among the participant's rows. 0 for a card that
-- is out, which joining does not read.
abbrev pub share_from : Option (List ℕ) → ℕ → ℕ
share_from none i = 0
share_from (some shares) i = place shares i

abbrev pub shares_of : List ℕ → Held → List ℕ
shares_of labels held = list_of (length labels) (λ k. share_from (held (place labels k)) (rows_of (place labels k) (take k labels)))
