-- What a set's question hands out, from what the question of the chosen rows answers: the chosen rows are the set's. And what
-- `chosen_rows` asks of the labels.
-- Assumes nothing.
use mathlib.Core.Path.{◌≡◌, refl, subst}
use mathlib.Core.Bool.{Bool}
use mathlib.Core.List.{List}
use Prim.Native.Nat.{ℕ, ◌<◌, ◌≤◌}
use native.Mathlib.Omega.{arith}
use lib.ListN.{length, get_or}
use Rattle.linear.specs.Bits.{bit}
use Rattle.linear.specs.Flat.{entry}
use Rattle.linear.specs.Rows as Rows
use Rattle.linear.proofs.Handed.{handed_same}
use Rattle.rows.specs.declared.Answer.{Answer}
use Rattle.rows.specs.Answered.{Answered}
use Rattle.scheme.specs.declared.Shape.{Shape}
use Rattle.scheme.specs.Open as Set
use Rattle.scheme.specs.Sets.{of_set}

pub set_handed : (s : Shape) (labels entries : List ℕ) (set : ℕ) (r z r' z' : List ℕ) (a : Answer) (chosen : ℕ)
    → ((k : ℕ) → k < s.d → bit chosen k ≡ of_set set labels k) → Answered s.p s.d s.e chosen entries r z a r' z'
    → (o : Bool) → a.opens ≡ o → Set.Handed s labels entries set r z o r' z'
set_handed s labels entries set r z r' z' a chosen same an o q =
    handed_same s.p s.d s.e (entry s.e entries) (entry s.e entries) (bit chosen) (of_set set labels)
    (λ k j lk lj. refl) same r z o r' z'
    (subst (λ (o : Bool). Rows.Handed s.p s.d s.e (entry s.e entries) (bit chosen) r z o r' z') q an.handed)

-- The participants of the rows are 16 at most.
pub labels_right : (s : Shape) (labels : List ℕ) → s.n ≤ 16 → s.d ≤ 32 → length labels ≡ s.d
    → ((k : ℕ) → k < s.d → (1 ≤ get_or labels k 0) × (get_or labels k 0 ≤ s.n))
    → (length labels ≤ 32) × ((k : ℕ) → k < length labels → (1 ≤ get_or labels k 0) × (get_or labels k 0 ≤ 16))
labels_right s labels n d e h = (omega arith, λ k l. let w = h k (omega arith) in (w.0, omega (arith, w.1)))
