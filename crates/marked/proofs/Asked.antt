-- The set question computed for a scheme: the verdict with its list is what `AskSays` permits, and all that it permits.
-- Assumes nothing.
use Rattle.std.specs.Prelude.{Ok}
use mathlib.Core.Path.{◌≡◌, ap₂, ◌∙◌}
use mathlib.Core.Bool.{Bool, true, false}
use mathlib.Core.List.{List}
use Prim.Native.Nat.{ℕ, ◌<◌, ◌^◌}
use lib.ListN.{length}
use Rattle.linear.specs.Flat.{place, entry}
use Rattle.linear.proofs.Handed.{opening_opens, witness_closes}
use Rattle.scheme.specs.declared.Shape.{Shape}
use Rattle.scheme.specs.Open as Set
use Rattle.scheme.specs.Sets.{of_set}
use Rattle.scheme.specs.Refusal.{ask_refusal_lem, IsScheme}
use Rattle.scheme.proofs.Refusals.{Valid, valid}
use Rattle.ask.specs.declared.Verdict.TheVariants.{Open, Closed}
use Rattle.ask.specs.Says.{AskSays}
use Rattle.ask.proofs.Says.{ask_answers, settled}
use Rattle.marked.specs.Only.{Opens, Closes}
use Rattle.marked.proofs.Parts.{only_with_two}
use Rattle.linear.proofs.Decided.{decided}
use Rattle.marked.proofs.Decided.{decided_opens, decided_closes}

module _ (s : Shape) (labels entries : List ℕ) (scheme : IsScheme s labels entries) where
  pub given : Valid s labels entries
  given = valid s labels entries true scheme

  -- The question of a set.
  abbrev pub asked : ℕ → Bool × List ℕ
  asked set = decided s.p given.prime s.d s.e (entry s.e entries) (of_set set labels)

  module _ (set : ℕ) (v : List ℕ) where
    pub asked_opens : asked set ≡ (true, v) → (r z : List ℕ) → Set.Handed s labels entries set r z true v z
    asked_opens = decided_opens s.p given.prime s.d s.e given.e_low (entry s.e entries) (of_set set labels) v

    pub asked_closes : asked set ≡ (false, v) → (r z : List ℕ) → Set.Handed s labels entries set r z false r v
    asked_closes = decided_closes s.p given.prime s.d s.e given.e_low (entry s.e entries) (of_set set labels) v

    -- The verdict is the definition's.
    pub asked_open : asked set ≡ (true, v) → Set.Open s labels entries set
    asked_open q = opening_opens s.p given.prime s.d s.e given.e_low (entry s.e entries) (of_set set labels) (place v)
        (asked_opens q v v).0

    pub asked_closed : asked set ≡ (false, v) → Set.Closed s labels entries set
    asked_closed q = witness_closes s.p given.prime s.d s.e given.e_low (entry s.e entries) (of_set set labels) (place v)
        (asked_closes q v v).0

    module _ (inside : set < 2 ^ s.n) where
      free : (r z : List ℕ) → length r ≡ s.d → length z ≡ s.e → ask_refusal_lem s labels entries set (length r) (length z) ≡ Ok tt
      free r z lr lz = ap₂ (ask_refusal_lem s labels entries set) lr lz ∙ ask_answers s labels entries set scheme inside

      pub opens : asked set ≡ (true, v) → Opens s labels entries set v
      unfolding AskSays
      opens q r z lr lz = only_with_two (AskSays s labels entries set r z) (settled s labels entries set r z) (Ok Open) v z
          (free r z lr lz, asked_opens q r z)

      pub closes : asked set ≡ (false, v) → Closes s labels entries set v
      unfolding AskSays
      closes q r z lr lz = only_with_two (AskSays s labels entries set r z) (settled s labels entries set r z) (Ok Closed) r v
          (free r z lr lz, asked_closes q r z)
