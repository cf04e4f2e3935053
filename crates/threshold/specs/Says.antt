-- What the threshold verdict answers, for every input.
-- Assumes nothing.
use Rattle.std.specs.Prelude.{◌≡◌, List, ℕ, Option, Some, None, Result, Ok, Err}
use Rattle.scheme.specs.declared.Shape.{Shape}
use Rattle.scheme.specs.Threshold.{IsThreshold, FirstBreaking}
use Rattle.scheme.specs.Refusal.{threshold_refusal_lem}
use Rattle.scheme.specs.declared.Refusal.{Refusal}

-- Labels and entries are lent for reading only and cannot change, and there is no result list.
-- Yes, where there is no set: each set is open exactly if it has at least t + 1 participants. No: with the first set number that breaks it.
unfoldable pub ThresholdSays : Shape → List ℕ → List ℕ → ℕ → Result (Option ℕ) Refusal → Type 0
ThresholdSays s labels entries t (Ok None) = (threshold_refusal_lem s labels entries t ≡ Ok tt) × IsThreshold s labels entries t
ThresholdSays s labels entries t (Ok (Some set)) = (threshold_refusal_lem s labels entries t ≡ Ok tt) × FirstBreaking s labels entries t set
ThresholdSays s labels entries t (Err k) = threshold_refusal_lem s labels entries t ≡ Err k
