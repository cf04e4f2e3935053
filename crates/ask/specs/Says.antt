-- What the set question answers and leaves, for every input.
-- Assumes nothing.
use Rattle.std.specs.Prelude.{◌≡◌, true, false, List, ℕ, length, Result, Ok, Err}
use Rattle.scheme.specs.declared.Shape.{Shape}
use Rattle.scheme.specs.declared.Refusal.{Refusal}
use Rattle.scheme.specs.Open as Set
use Rattle.scheme.specs.Refusal.{ask_refusal_lem}
use Rattle.ask.specs.declared.Verdict.{Verdict}
use Rattle.ask.specs.declared.Verdict.TheVariants.{Open, Closed}

-- r and z are the lent lists before the call, r' and z' after it. Open: r' is the opening vector and z stays. Closed: z' is the witness and
-- r stays. Refused: both stay.
unfoldable pub AskSays : Shape → List ℕ → List ℕ → ℕ → List ℕ → List ℕ → Result Verdict Refusal → List ℕ → List ℕ → Type 0
AskSays s labels entries set r z (Ok Open) r' z' =
    (ask_refusal_lem s labels entries set (length r) (length z) ≡ Ok tt) × Set.Handed s labels entries set r z true r' z'
AskSays s labels entries set r z (Ok Closed) r' z' =
    (ask_refusal_lem s labels entries set (length r) (length z) ≡ Ok tt) × Set.Handed s labels entries set r z false r' z'
AskSays s labels entries set r z (Err k) r' z' =
    (ask_refusal_lem s labels entries set (length r) (length z) ≡ Err k) × (r' ≡ r) × (z' ≡ z)
