-- What C is told by each call, for every input: the number of an answer that the call's own contract permits, with the lists and numbers
-- that are left. Names with ' are after the call.
-- Assumes nothing.
use Rattle.std.specs.Prelude.{◌≡◌, List, ℕ, Option, Result}
use Rattle.scheme.specs.declared.Shape.{Shape}
use Rattle.scheme.specs.declared.Refusal.{Refusal}
use Rattle.deal.specs.Says.{DealSays}
use Rattle.ask.specs.declared.Verdict as Ask
use Rattle.ask.specs.Says.{AskSays}
use Rattle.join.specs.Says.{JoinSays}
use Rattle.product.specs.declared.Verdict as Product
use Rattle.product.specs.Says.{ProductSays}
use Rattle.threshold.specs.Says.{ThresholdSays}
use Rattle.rule.specs.Says.{RuleSays}
use Rattle.writing.specs.Says.{WriteSays}
use Rattle.reading.specs.Says.{ReadSays}
use Rattle.sheets.specs.Says.{LineSays, PartSays}
use Rattle.clavirost.specs.Numbers.{answer_number, ask_number_lem, product_number_lem, threshold_number, after, set_after}

-- The number of an answer that is permitted.
pub record Told {A : Type 0} (number : A → ℕ) (Permits : A → Type 0) (x : ℕ) : Type 0 where
  pub answer : A
  pub permits : Permits answer
  pub is : x ≡ number answer

-- The four numbers of a scheme as C hands them over.
abbrev pub shape_of : ℕ → ℕ → ℕ → ℕ → Shape
shape_of p n d e = record { p = p; n = n; d = d; e = e }

module _ (s : Shape) (labels entries : List ℕ) where
  abbrev pub DealTold : ℕ → List ℕ → List ℕ → ℕ → List ℕ → Type 0
  DealTold secret randoms shares x shares' =
      Told answer_number (λ (a : Result Unit Refusal). DealSays s labels entries secret randoms shares a shares') x

  abbrev pub AskTold : ℕ → List ℕ → List ℕ → ℕ → List ℕ → List ℕ → Type 0
  AskTold set r z x r' z' = Told ask_number_lem (λ (a : Result Ask.Verdict Refusal). AskSays s labels entries set r z a r' z') x

  abbrev pub JoinTold : ℕ → List ℕ → ℕ → ℕ → ℕ → Type 0
  JoinTold set shares code x code' =
      Told answer_number (λ (a : Result ℕ Refusal). JoinSays s labels entries set shares a × (code' ≡ after a code)) x

  abbrev pub ProductTold : List ℕ → List ℕ → ℕ → List ℕ → List ℕ → Type 0
  ProductTold r w x r' w' = Told product_number_lem (λ (a : Result Product.Verdict Refusal). ProductSays s labels entries r w a r' w') x

  abbrev pub ThresholdTold : ℕ → ℕ → ℕ → ℕ → Type 0
  ThresholdTold t set x set' =
      Told threshold_number (λ (a : Result (Option ℕ) Refusal). ThresholdSays s labels entries t a × (set' ≡ set_after a set)) x

  abbrev pub WriteTold : List ℕ → ℕ → List ℕ → Type 0
  WriteTold file x file' = Told answer_number (λ (a : Result Unit Refusal). WriteSays s labels entries file a file') x

  abbrev pub LineTold : ℕ → List ℕ → ℕ → ℕ → List ℕ → ℕ → Type 0
  LineTold set out size x out' size' =
      Told answer_number (λ (a : Result ℕ Refusal). LineSays s labels entries set out a out' × (size' ≡ after a size)) x

-- A rule made a scheme of p and n: its d and e are left in numbers lent for them.
abbrev pub RuleTold : ℕ → ℕ → List ℕ → List ℕ → List ℕ → ℕ → ℕ → ℕ → List ℕ → List ℕ → ℕ → ℕ → Type 0
RuleTold p n text labels entries d e x labels' entries' d' e' =
    Told answer_number (λ (a : Result Shape Refusal). RuleSays p n text labels entries a labels' entries'
    × (shape_of p n d' e' ≡ after a (shape_of p n d e))) x

-- A file read: all four numbers are left.
abbrev pub ReadTold : List ℕ → List ℕ → List ℕ → Shape → ℕ → List ℕ → List ℕ → Shape → Type 0
ReadTold file labels entries shape x labels' entries' shape' =
    Told answer_number (λ (a : Result Shape Refusal). ReadSays file labels entries a labels' entries' × (shape' ≡ after a shape)) x

abbrev pub PartTold : List ℕ → ℕ → List ℕ → ℕ → ℕ → List ℕ → ℕ → Type 0
PartTold file k out size x out' size' =
    Told answer_number (λ (a : Result ℕ Refusal). PartSays file k out a out' × (size' ≡ after a size)) x
