-- The threshold verdict computed for a scheme: whether a set keeps the threshold is a test, and one run over the sets gives what
-- `ThresholdSays` permits, and all that it permits.
-- Assumes nothing.
use Rattle.std.specs.Prelude.{Some, None, Ok, Err}
use mathlib.Core.Path.{◌≡◌, refl, ap}
use mathlib.Core.Bool.{Bool, true, false, beq, true≢false, false≢true}
use mathlib.Core.List.{List}
use Prim.Native.Nat.{ℕ, ◌<◌, ◌+◌, ◌^◌}
use native.Mathlib.Omega.{arith}
use lib.Dec.{leb}
use borrow.Author.Tests.{leb-true, leb-false}
use Rattle.scheme.specs.declared.Shape.{Shape}
use Rattle.scheme.specs.declared.Refusal.{Refusal}
use Rattle.scheme.specs.Open.{Open, Closed}
use Rattle.scheme.specs.Threshold.{size, Keeps}
use Rattle.scheme.specs.Refusal.{threshold_refusal_lem, IsScheme}
use Rattle.format.specs.Reading.{all_below}
use Rattle.format.proofs.Tests.{all_at}
use Rattle.threshold.specs.Says.{ThresholdSays}
use Rattle.threshold.proofs.Says.{threshold_answers, settled}
use Rattle.marked.specs.Only.{ThresholdIs}
use Rattle.marked.proofs.Parts.{only}
use Rattle.marked.proofs.Asked.{asked, asked_open, asked_closed}

pub threshold_refused : (s : Shape) (labels entries : List ℕ) (t : ℕ) (k : Refusal)
    → threshold_refusal_lem s labels entries t ≡ Err k → ThresholdIs s labels entries t (Err k)
unfolding ThresholdSays
threshold_refused s labels entries t k e = only (ThresholdSays s labels entries t) (settled s labels entries t) (Err k) e

module _ (s : Shape) (labels entries : List ℕ) (scheme : IsScheme s labels entries) (t : ℕ) where
  -- The set is open; it has at least t + 1 participants; and the one exactly if the other.
  abbrev opened : ℕ → Bool
  opened set = (asked s labels entries scheme set).0

  abbrev many : ℕ → Bool
  many set = leb (t + 1) (size s.n set)

  abbrev pub keeps : ℕ → Bool
  keeps set = beq (opened set) (many set)

  module _ (set : ℕ) where
    abbrev vector : List ℕ
    vector = (asked s labels entries scheme set).1

    is_open : opened set ≡ true → Open s labels entries set
    is_open q = asked_open s labels entries scheme set vector (ap {B = Bool × List ℕ} (λ o. (o, vector)) q)

    is_closed : opened set ≡ false → Closed s labels entries set
    is_closed q = asked_closed s labels entries scheme set vector (ap {B = Bool × List ℕ} (λ o. (o, vector)) q)

    tested : (o m : Bool) → opened set ≡ o → many set ≡ m
        → (beq o m ≡ true → Keeps s labels entries t set) × (beq o m ≡ false → Keeps s labels entries t set → ⊥)
    tested true true x y = (λ _. ((λ _. leb-true (t + 1) (size s.n set) y), λ _. is_open x), λ h. absurd (true≢false h))
    tested true false x y = (
      λ h. absurd (false≢true h),
      λ _ k. let f = leb-false (t + 1) (size s.n set) y in let l = k.0 (is_open x) in omega arith,
    )
    tested false true x y = (λ h. absurd (false≢true h), λ _ k. is_closed x (k.1 (leb-true (t + 1) (size s.n set) y)))
    tested false false x y = (
      λ _. ((λ o. absurd (is_closed x o)), λ l. let f = leb-false (t + 1) (size s.n set) y in absurd (omega arith)),
      λ h. absurd (true≢false h),
    )

    test_keeps : keeps set ≡ true → Keeps s labels entries t set
    test_keeps = (tested (opened set) (many set) refl refl).0

    test_breaks : keeps set ≡ false → Keeps s labels entries t set → ⊥
    test_breaks = (tested (opened set) (many set) refl refl).1

  module _ (inside : t < s.n) where
    pub threshold_yes : all_below (2 ^ s.n) keeps ≡ true → ThresholdIs s labels entries t (Ok None)
    unfolding ThresholdSays
    threshold_yes h = only (ThresholdSays s labels entries t) (settled s labels entries t) (Ok None)
        (threshold_answers s labels entries t scheme inside, λ set l. test_keeps set (all_at (2 ^ s.n) keeps h set l))

    pub threshold_no : (set : ℕ) → set < 2 ^ s.n → all_below set keeps ≡ true → keeps set ≡ false
        → ThresholdIs s labels entries t (Ok (Some set))
    unfolding ThresholdSays
    threshold_no set l h b = only (ThresholdSays s labels entries t) (settled s labels entries t) (Ok (Some set)) (
      threshold_answers s labels entries t scheme inside,
      record { inside = l; breaks = test_breaks set b; before = λ lower u. test_keeps lower (all_at set keeps h lower u) },
    )
