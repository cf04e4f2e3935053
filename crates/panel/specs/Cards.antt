-- Document 01, "The card panel": the calls on a panel's state, each as a function of the state.
-- Assumes nothing.
use Rattle.std.specs.Prelude.{Bool, true, cond, not, ◌&&◌, ◌||◌, List, [], ◌∷◌, ℕ, ◌+◌, ◌-◌, ◌*◌, ◌^◌, eqb, ltb, length, take, replicate, Result, Ok, Err}
use Rattle.scheme.specs.declared.Shape.{Shape}
use Rattle.scheme.specs.declared.Refusal.{Refusal}
use Rattle.scheme.specs.declared.Refusal.TheVariants as R
use Rattle.scheme.specs.Outcome.{over}
use Rattle.scheme.specs.Sets.{in_set}
use Rattle.scheme.specs.Tests.{within, each_below, unless, or_else}
use Rattle.scheme.specs.Refusal.{refusal_of, read_below_lem}
use Rattle.panel.specs.declared.Panel.{Panel}
use Rattle.panel.specs.declared.Told.{Told}

-- The panel's scheme: its numbers, and the lists in the first places of its own.
abbrev pub shape_of : Panel → Shape
shape_of a = record { p = a.p; n = a.n; d = a.d; e = a.e }

abbrev pub labels_of : Panel → List ℕ
labels_of a = take a.d a.labels

abbrev pub entries_of : Panel → List ℕ
entries_of a = take (a.d * a.e) a.entries

-- The shares that it stores, one for each row.
abbrev pub stored_of : Panel → List ℕ
stored_of a = take a.d a.stored

-- How many rows a participant has.
unfoldable pub rows_of : ℕ → List ℕ → ℕ
rows_of who [] = 0
rows_of who (label ∷ labels) = cond (eqb label who) 1 0 + rows_of who labels

-- "A panel state handed in is checked like any other input, by refusals 1 to 9; what it stores for a participant whose card is out is not
-- read." lengths: the call's own lists have their lengths; among: its participant is from 1 to n; below: its own shares are below p;
-- more: what it refuses after 9.
abbrev pub state_refusal : Panel → Bool → Bool → Bool → Result Unit Refusal → Result Unit Refusal
state_refusal a lengths among below more =
    refusal_of (shape_of a) (labels_of a) (entries_of a) lengths
    (or_else (unless (ltb a.cards (2 ^ a.n) && among) R.Outsider)
    (or_else (unless (read_below_lem a.p a.cards (labels_of a) (stored_of a) && below) R.NotBelowP)
    more))

-- 21: "card already in"; 22: "card not in". "where a length hangs on a participant outside 1 to n, that length is not tested".
abbrev pub put_refusal_lem : Panel → ℕ → List ℕ → Result Unit Refusal
put_refusal_lem a who shares =
    state_refusal a (not (within 1 a.n who) || eqb (length shares) (rows_of who (labels_of a))) (within 1 a.n who) (each_below a.p shares)
    (unless (not (in_set a.cards who)) R.CardIn)

abbrev pub take_refusal_lem : Panel → ℕ → Result Unit Refusal
take_refusal_lem a who = state_refusal a true (within 1 a.n who) true (unless (in_set a.cards who) R.CardNotIn)

-- The participant's shares laid at their rows, in row order; the other places stay.
unfoldable pub laid : ℕ → List ℕ → List ℕ → List ℕ → List ℕ
laid who [] shares stored = stored
laid who (label ∷ labels) shares [] = []
laid who (label ∷ labels) [] (x ∷ stored) = x ∷ laid who labels [] stored
laid who (label ∷ labels) (y ∷ shares) (x ∷ stored) =
    cond (eqb label who) (y ∷ laid who labels shares stored) (x ∷ laid who labels (y ∷ shares) stored)

-- "A refused call leaves the panel as it was."
abbrev pub told_at : Result Unit Refusal → Panel → Panel → Told
told_at (Ok u) old new = record { said = Ok tt; panel = new }
told_at (Err k) old new = record { said = Err k; panel = old }

-- "Putting in stores that participant's shares and marks the card". Meant where the card is out: 21 has been tried.
abbrev pub with_card : Panel → ℕ → List ℕ → Panel
with_card a who shares = record {
  p = a.p;
  n = a.n;
  d = a.d;
  e = a.e;
  cards = a.cards + 2 ^ (who - 1);
  labels = a.labels;
  entries = a.entries;
  stored = laid who (labels_of a) shares a.stored;
}

abbrev pub put_in : Panel → ℕ → List ℕ → Told
put_in a who shares = told_at (put_refusal_lem a who shares) a (with_card a who shares)

-- "taking out only removes the mark". Meant where the card is in: 22 has been tried.
abbrev pub without_card : Panel → ℕ → Panel
without_card a who = record {
  p = a.p;
  n = a.n;
  d = a.d;
  e = a.e;
  cards = a.cards - 2 ^ (who - 1);
  labels = a.labels;
  entries = a.entries;
  stored = a.stored;
}

abbrev pub taken_out : Panel → ℕ → Told
taken_out a who = told_at (take_refusal_lem a who) a (without_card a who)

-- "A fresh panel has a checked scheme and no card." "A fresh panel stores 0 for every share and in every unused place".
abbrev pub fresh_panel : Shape → List ℕ → List ℕ → Panel
fresh_panel s labels entries = record {
  p = s.p;
  n = s.n;
  d = s.d;
  e = s.e;
  cards = 0;
  labels = over labels (replicate 32 0);
  entries = over entries (replicate 384 0);
  stored = replicate 32 0;
}

-- Zeros in every place: what stands beside a refusal to make a panel. Every call refuses it.
abbrev pub blank_panel : Panel
blank_panel = record {
  p = 0;
  n = 0;
  d = 0;
  e = 0;
  cards = 0;
  labels = replicate 32 0;
  entries = replicate 384 0;
  stored = replicate 32 0;
}
