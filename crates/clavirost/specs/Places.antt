-- The card panel for C: its state is four numbers, the number of its cards, and three lists with places for 32 labels, 384 entries and 32
-- stored shares.
-- Assumes nothing.
use Rattle.std.specs.Prelude.{◌≡◌, Bool, ◌&&◌, List, ℕ, eqb, length, Result, Ok, Err}
use Rattle.scheme.specs.declared.Shape.{Shape}
use Rattle.scheme.specs.declared.Refusal.{Refusal}
use Rattle.scheme.specs.declared.Refusal.TheVariants as R
use Rattle.scheme.specs.Tests.{unless, or_else}
use Rattle.scheme.specs.Refusal.{numbers_refusal_lem, refusal_of}
use Rattle.scheme.specs.Outcome.{left_at}
use Rattle.join.specs.Says.{JoinSays}
use Rattle.panel.specs.declared.Panel.{Panel}
use Rattle.panel.specs.declared.Told as Panel
use Rattle.panel.specs.Cards.{shape_of, labels_of, entries_of, stored_of, put_in, taken_out, fresh_panel}
use Rattle.clavirost.specs.Numbers.{answer_number, after}
use Rattle.clavirost.specs.Told.{Told}

-- The panel that is handed over.
abbrev pub panel_of_lem : Shape → List ℕ → List ℕ → ℕ → List ℕ → Panel
panel_of_lem s labels entries cards stored = record {
  p = s.p;
  n = s.n;
  d = s.d;
  e = s.e;
  cards = cards;
  labels = labels;
  entries = entries;
  stored = stored;
}

-- The lists have the panel's places.
abbrev pub places_right_lem : List ℕ → List ℕ → List ℕ → Bool
places_right_lem labels entries stored = eqb (length labels) 32 && (eqb (length entries) 384 && eqb (length stored) 32)

-- 5, after 1 to 4, where they have not.
abbrev pub places_refusal_lem : Panel → Result Unit Refusal
places_refusal_lem a = or_else (numbers_refusal_lem (shape_of a)) (unless (places_right_lem a.labels a.entries a.stored) R.Length)

-- The call's own answer where the lists have their places.
abbrev pub told_in : Result Unit Refusal → Panel → Panel.Told → Panel.Told
told_in (Ok u) a told = told
told_in (Err k) a told = record { said = Err k; panel = a }

-- What C is told: the number of what the call says, the cards and the stored shares that are left.
pub record PanelTold (told : Panel.Told) (x cards' : ℕ) (stored' : List ℕ) : Type 0 where
  pub is : x ≡ answer_number told.said
  pub cards : cards' ≡ told.panel.cards
  pub stored : stored' ≡ told.panel.stored

abbrev pub PutTold : Panel → ℕ → List ℕ → ℕ → ℕ → List ℕ → Type 0
PutTold a who shares = PanelTold (told_in (places_refusal_lem a) a (put_in a who shares))

abbrev pub TakeTold : Panel → ℕ → ℕ → ℕ → List ℕ → Type 0
TakeTold a who = PanelTold (told_in (places_refusal_lem a) a (taken_out a who))

-- Asked for the code: nothing of the panel can change.
abbrev pub CodeIn : Result Unit Refusal → Panel → Result ℕ Refusal → Type 0
CodeIn (Ok u) a answer = JoinSays (shape_of a) (labels_of a) (entries_of a) a.cards (stored_of a) answer
CodeIn (Err k) a answer = answer ≡ Err k

abbrev pub CodeTold : Panel → ℕ → ℕ → ℕ → Type 0
CodeTold a code x code' = Told answer_number (λ (answer : Result ℕ Refusal). CodeIn (places_refusal_lem a) a answer × (code' ≡ after answer code)) x

-- "A refusal returns its number only and no lent list is altered": of a number.
abbrev pub number_left : Result Unit Refusal → ℕ → ℕ → ℕ
number_left (Ok u) old new = new
number_left (Err k) old new = old

-- A fresh panel, where the scheme has refusals 1 to 7 and `fits` says that the panel's places are right.
abbrev pub MadeSays : Shape → List ℕ → List ℕ → Bool → Result Panel Refusal → Type 0
MadeSays s labels entries fits (Ok a) = (refusal_of s labels entries fits (Ok tt) ≡ Ok tt) × (a ≡ fresh_panel s labels entries)
MadeSays s labels entries fits (Err k) = refusal_of s labels entries fits (Ok tt) ≡ Err k

-- What making a panel refuses: 1 to 7 for the scheme, 5 also for the panel's places.
abbrev pub new_refusal : Shape → List ℕ → List ℕ → List ℕ → List ℕ → List ℕ → Result Unit Refusal
new_refusal s labels entries l e stored = refusal_of s labels entries (places_right_lem l e stored) (Ok tt)

-- A panel made: the fresh panel's lists and no card.
pub record FreshTold (s : Shape) (labels entries : List ℕ) (l e : List ℕ) (cards : ℕ) (stored : List ℕ)
    (x : ℕ) (l' e' : List ℕ) (cards' : ℕ) (stored' : List ℕ) : Type 0 where
  pub is : x ≡ answer_number (new_refusal s labels entries l e stored)
  pub labels_left : l' ≡ left_at (new_refusal s labels entries l e stored) l (fresh_panel s labels entries).labels
  pub entries_left : e' ≡ left_at (new_refusal s labels entries l e stored) e (fresh_panel s labels entries).entries
  pub cards_left : cards' ≡ number_left (new_refusal s labels entries l e stored) cards (fresh_panel s labels entries).cards
  pub stored_left : stored' ≡ left_at (new_refusal s labels entries l e stored) stored (fresh_panel s labels entries).stored
