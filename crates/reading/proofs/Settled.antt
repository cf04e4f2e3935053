-- The contract of `read` settles what it answers and what it leaves in the lent lists: any two outcomes that it permits are equal.
-- Assumes nothing.
use Rattle.std.proofs.Common.{◌≡◌, sym, ap, ◌∙◌, List, ℕ}
use Rattle.std.specs.Prelude.{Result, Ok, Err}
use Rattle.scheme.specs.declared.Shape.{Shape}
use Rattle.scheme.specs.declared.Refusal.{Refusal}
use Rattle.scheme.specs.Outcome.{over}
use Rattle.scheme.proofs.Outcomes.{not_both, one_refusal}
use Rattle.format.specs.Reading.{labels_at, entries_at}
use Rattle.reading.specs.Says.{ReadSays}

module _ (file labels entries : List ℕ) where
  pub settled : (a a' : Result Shape Refusal) (l l' m m' : List ℕ) → ReadSays file labels entries a l m → ReadSays file labels entries a' l' m'
      → (a ≡ a') × (l ≡ l') × (m ≡ m')
  unfolding ReadSays
  settled (Ok s) (Ok s') l l' m m' x y =
      let q : s ≡ s' = x.1 ∙ sym y.1 in (
        ap Ok q,
        x.2 ∙ ap (λ (s : Shape). over (labels_at 1 file s.d) labels) q ∙ sym y.2,
        x.3 ∙ ap (λ (s : Shape). over (entries_at 1 file s.d s.e) entries) q ∙ sym y.3,
      )
  settled (Ok s) (Err k) l l' m m' x y = absurd (not_both k x.0 y.0)
  settled (Err k) (Ok s) l l' m m' x y = absurd (not_both k y.0 x.0)
  settled (Err j) (Err k) l l' m m' x y = (ap Err (one_refusal j k x.0 y.0), x.1 ∙ sym y.1, x.2 ∙ sym y.2)
