-- An outcome that is permitted and the only one: what this says of each call, for lent result lists of any content and the right length.
-- The lists named last are what the call leaves.
-- Assumes nothing.
use Rattle.std.specs.Prelude.{◌≡◌, List, ℕ, length, Option, Result, Ok}
use Rattle.linear.specs.Product.{pairs}
use Rattle.scheme.specs.declared.Shape.{Shape}
use Rattle.scheme.specs.declared.Refusal.{Refusal}
use Rattle.scheme.specs.Outcome.{over}
use Rattle.deal.specs.Says.{DealSays}
use Rattle.ask.specs.declared.Verdict.{Verdict}
use Rattle.ask.specs.declared.Verdict.TheVariants.{Open, Closed}
use Rattle.ask.specs.Says.{AskSays}
use Rattle.join.specs.Says.{JoinSays}
use Rattle.product.specs.declared.Verdict as Product
use Rattle.product.specs.declared.Verdict.TheVariants.{Yes, No}
use Rattle.product.specs.Says.{ProductSays}
use Rattle.threshold.specs.Says.{ThresholdSays}
use Rattle.rule.specs.Says.{RuleSays}
use Rattle.writing.specs.Says.{WriteSays}
use Rattle.sheets.specs.Says.{LineSays}

-- P permits x and nothing else.
pub record Only {A : Type 0} (P : A → Type 0) (x : A) : Type 0 where
  pub holds : P x
  pub alone : (y : A) → P y → y ≡ x

module _ (s : Shape) (labels entries : List ℕ) where
  -- Dealing is done, and leaves these shares.
  abbrev pub Deals : ℕ → List ℕ → List ℕ → Type 0
  Deals secret randoms dealt =
      (shares : List ℕ) → length shares ≡ s.d
      → Only (λ (o : Result Unit Refusal × List ℕ). DealSays s labels entries secret randoms shares o.0 o.1) (Ok tt, dealt)

  -- Asking of the set, with r and z lent, has only this outcome: an open set's r and the old z, or the old r and a closed set's z.
  abbrev pub Asks : ℕ → List ℕ → List ℕ → Result Verdict Refusal × List ℕ × List ℕ → Type 0
  Asks set r z = Only (λ (o : Result Verdict Refusal × List ℕ × List ℕ). AskSays s labels entries set r z o.0 o.1 o.2)

  abbrev pub Opens : ℕ → List ℕ → Type 0
  Opens set vector = (r z : List ℕ) → length r ≡ s.d → length z ≡ s.e → Asks set r z (Ok Open, vector, z)

  abbrev pub Closes : ℕ → List ℕ → Type 0
  Closes set witness = (r z : List ℕ) → length r ≡ s.d → length z ≡ s.e → Asks set r z (Ok Closed, r, witness)

  -- Joining these shares of the set answers this.
  abbrev pub JoinsTo : ℕ → List ℕ → Result ℕ Refusal → Type 0
  JoinsTo set shares = Only (JoinSays s labels entries set shares)

  -- The product verdict, with r and w lent, has only this outcome: yes with its r and the old w, no with the old r and its w.
  abbrev pub Products : List ℕ → List ℕ → Result Product.Verdict Refusal × List ℕ × List ℕ → Type 0
  Products r w = Only (λ (o : Result Product.Verdict Refusal × List ℕ × List ℕ). ProductSays s labels entries r w o.0 o.1 o.2)

  abbrev pub ProductYes : List ℕ → Type 0
  ProductYes vector = (r w : List ℕ) → length r ≡ s.d → length w ≡ pairs s.e → Products r w (Ok Yes, vector, w)

  abbrev pub ProductNo : List ℕ → Type 0
  ProductNo witness = (r w : List ℕ) → length r ≡ s.d → length w ≡ pairs s.e → Products r w (Ok No, r, witness)

  -- The threshold verdict for t is this: Ok None is yes, Ok (Some set) is no with that set.
  abbrev pub ThresholdIs : ℕ → Result (Option ℕ) Refusal → Type 0
  ThresholdIs t = Only (ThresholdSays s labels entries t)

  -- Writing the scheme to so many places is done, and leaves this file.
  abbrev pub Writes : ℕ → List ℕ → Type 0
  Writes places written =
      (file : List ℕ) → length file ≡ places
      → Only (λ (o : Result Unit Refusal × List ℕ). WriteSays s labels entries file o.0 o.1) (Ok tt, written)

  -- Printing the set's line into 256 places leaves this text.
  abbrev pub Prints : ℕ → List ℕ → Type 0
  Prints set text =
      (out : List ℕ) → length out ≡ 256
      → Only (λ (o : Result ℕ Refusal × List ℕ). LineSays s labels entries set out o.0 o.1) (Ok (length text), over text out)

-- The text is a rule, and building it gives this scheme, whose labels and entries stand in the first places of the lent lists.
abbrev pub Builds : ℕ → ℕ → List ℕ → Shape → List ℕ → List ℕ → Type 0
Builds p n text s labels entries =
    (l e : List ℕ) → length l ≡ 32 → length e ≡ 384
    → Only (λ (o : Result Shape Refusal × List ℕ × List ℕ). RuleSays p n text l e o.0 o.1 o.2) (Ok s, over labels l, over entries e)
