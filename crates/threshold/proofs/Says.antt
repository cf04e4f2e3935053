-- What `threshold` answers, from what its search finds; and that the contract settles the answer.
-- Assumes nothing.
use Rattle.std.specs.Prelude.{Option, Some, None, Result, Ok, Err}
use mathlib.Core.Path.{◌≡◌, refl, sym, ap, ◌∙◌}
use mathlib.Core.Bool.{true}
use mathlib.Core.List.{List}
use mathlib.Core.Logic.{⊎_elim}
use Prim.Native.Nat.{ℕ, ◌<◌}
use borrow.Author.Tests.{lt-ltb}
use Rattle.algebra.proofs.Cases.{same?, apart}
use Rattle.scheme.specs.declared.Shape.{Shape}
use Rattle.scheme.specs.declared.Checked.{Checked}
use Rattle.scheme.specs.Checked.{IsOf}
use Rattle.scheme.specs.declared.Refusal.{Refusal}
use Rattle.scheme.specs.declared.Refusal.TheVariants as R
use Rattle.scheme.specs.Tests.{unless}
use Rattle.scheme.specs.Refusal.{refusal_of, threshold_refusal_lem, IsScheme}
use Rattle.scheme.specs.Threshold.{IsThreshold, FirstBreaking}
use Rattle.scheme.proofs.Refusals.{refusal_more, or_else_ok, Valid, valid, of_checked}
use Rattle.scheme.proofs.Outcomes.{not_both, one_refusal}
use Rattle.threshold.specs.Says.{ThresholdSays}
use Rattle.threshold.specs.First.{FirstOrNone}

module _ (s : Shape) (labels entries : List ℕ) (t : ℕ) where
  -- A call that is not refused is on a valid scheme.
  pub threshold_valid : threshold_refusal_lem s labels entries t ≡ Ok tt → Valid s labels entries
  threshold_valid h = valid s labels entries _ (or_else_ok _ _ (sym (refusal_more s labels entries _ _) ∙ h)).0

  pub says_refused : (a : Result (Option ℕ) Refusal) (k : Refusal) → threshold_refusal_lem s labels entries t ≡ Err k → a ≡ Err k
      → ThresholdSays s labels entries t a
  unfolding ThresholdSays
  says_refused a k h e = rw e h

  -- What the search finds in the checked scheme.
  pub says_first : (c : Checked) → IsOf s labels entries c → threshold_refusal_lem s labels entries t ≡ Ok tt → (first : Option ℕ)
      → FirstOrNone c.shape c.labels.now c.entries.now t first → ThresholdSays s labels entries t (Ok first)
  unfolding ThresholdSays FirstOrNone
  says_first c is h None f = (h, of_checked (λ s labels entries. IsThreshold s labels entries t) c is f)
  says_first c is h (Some set) f = (h, of_checked (λ s labels entries. FirstBreaking s labels entries t set) c is f)

  -- On a scheme, with t below n, the call is not refused.
  pub threshold_answers : IsScheme s labels entries → t < s.n → threshold_refusal_lem s labels entries t ≡ Ok tt
  threshold_answers h l = ap (λ b. refusal_of s labels entries true (unless b R.Threshold)) (lt-ltb t s.n l) ∙ h

  -- Of two set numbers that break the threshold only one is the first.
  first_unique : (a b : ℕ) → FirstBreaking s labels entries t a → FirstBreaking s labels entries t b → a ≡ b
  first_unique a b x y = ⊎_elim
      (λ e. e)
      (λ ne. ⊎_elim (λ l. absurd (x.breaks (y.before a l))) (λ l. absurd (y.breaks (x.before b l))) (apart a b ne))
      (same? a b)

  -- Two answers that the contract permits are equal.
  pub settled : (a b : Result (Option ℕ) Refusal) → ThresholdSays s labels entries t a → ThresholdSays s labels entries t b → a ≡ b
  unfolding ThresholdSays
  settled (Ok None) (Ok None) x y = refl
  settled (Ok None) (Ok (Some set)) x y = absurd (y.1.breaks (x.1 set y.1.inside))
  settled (Ok None) (Err k) x y = absurd (not_both _ x.0 y)
  settled (Ok (Some set)) (Ok None) x y = absurd (x.1.breaks (y.1 set x.1.inside))
  settled (Ok (Some set)) (Ok (Some other)) x y = ap (λ (n : ℕ). Ok (Some n)) (first_unique set other x.1 y.1)
  settled (Ok (Some set)) (Err k) x y = absurd (not_both _ x.0 y)
  settled (Err j) (Ok None) x y = absurd (not_both _ y.0 x)
  settled (Err j) (Ok (Some set)) x y = absurd (not_both _ y.0 x)
  settled (Err j) (Err k) x y = ap (λ (k : Refusal). Err k) (one_refusal j k x y)
