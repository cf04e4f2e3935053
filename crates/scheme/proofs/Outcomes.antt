-- What an answer says through what it refuses, and what a refused call's lent list holds.
-- Assumes nothing.
use Rattle.std.proofs.Common.{◌≡◌, refl, sym, ap, ◌∙◌, List, [], ◌∷◌, get_or, ℕ, ◌≤◌, arith}
use Rattle.std.specs.Prelude.{Result, Ok, Err}
use Rattle.scheme.specs.declared.Refusal.{Refusal}
use Rattle.scheme.specs.declared.Refusal.TheVariants as R
use Rattle.scheme.specs.Numbers.{number_lem}
use Rattle.scheme.specs.Outcome.{left_at}

pub refused_left : (a : Result Unit Refusal) (k : Refusal) (old new : List ℕ) → a ≡ Err k → left_at a old new ≡ old
refused_left a k old new e = rw e refl

-- An answer refuses or not, and for one reason.
pub not_both : {a : Result Unit Refusal} (k : Refusal) → a ≡ Ok tt → a ≡ Err k → ⊥
not_both k x y = absurd (cc)

pub one_refusal : {a : Result Unit Refusal} (j k : Refusal) → a ≡ Err j → a ≡ Err k → j ≡ k
one_refusal j k x y = cc

-- A number belongs to one refusal alone.
abbrev table : List Refusal
table = R.Modulus ∷ R.Modulus ∷ R.Participants ∷ R.Rows ∷ R.Columns ∷ R.Length ∷ R.Label ∷ R.Entry ∷ R.Outsider ∷ R.NotBelowP ∷ R.Threshold ∷ R.SetClosed ∷ R.NoDealing ∷ R.NoRule ∷ R.RuleOutsider ∷ R.RuleRows ∷ R.RuleColumns ∷ R.FileLength ∷ R.BlockCheck ∷ R.BlockMark ∷ R.FileRest ∷ R.CardIn ∷ R.CardNotIn ∷ []

abbrev named : ℕ → Refusal
named n = get_or table n R.Modulus

named_back : (k : Refusal) → named (number_lem k) ≡ k
named_back R.Modulus = refl
named_back R.Participants = refl
named_back R.Rows = refl
named_back R.Columns = refl
named_back R.Length = refl
named_back R.Label = refl
named_back R.Entry = refl
named_back R.Outsider = refl
named_back R.NotBelowP = refl
named_back R.Threshold = refl
named_back R.SetClosed = refl
named_back R.NoDealing = refl
named_back R.NoRule = refl
named_back R.RuleOutsider = refl
named_back R.RuleRows = refl
named_back R.RuleColumns = refl
named_back R.FileLength = refl
named_back R.BlockCheck = refl
named_back R.BlockMark = refl
named_back R.FileRest = refl
named_back R.CardIn = refl
named_back R.CardNotIn = refl

pub same_number : (j k : Refusal) → number_lem j ≡ number_lem k → j ≡ k
same_number j k e = sym (named_back j) ∙ ap named e ∙ named_back k

-- 0 is no refusal's number, and none is 100 or more.
pub number_range : (k : Refusal) → (1 ≤ number_lem k) × (number_lem k ≤ 22)
number_range R.Modulus = (omega arith, omega arith)
number_range R.Participants = (omega arith, omega arith)
number_range R.Rows = (omega arith, omega arith)
number_range R.Columns = (omega arith, omega arith)
number_range R.Length = (omega arith, omega arith)
number_range R.Label = (omega arith, omega arith)
number_range R.Entry = (omega arith, omega arith)
number_range R.Outsider = (omega arith, omega arith)
number_range R.NotBelowP = (omega arith, omega arith)
number_range R.Threshold = (omega arith, omega arith)
number_range R.SetClosed = (omega arith, omega arith)
number_range R.NoDealing = (omega arith, omega arith)
number_range R.NoRule = (omega arith, omega arith)
number_range R.RuleOutsider = (omega arith, omega arith)
number_range R.RuleRows = (omega arith, omega arith)
number_range R.RuleColumns = (omega arith, omega arith)
number_range R.FileLength = (omega arith, omega arith)
number_range R.BlockCheck = (omega arith, omega arith)
number_range R.BlockMark = (omega arith, omega arith)
number_range R.FileRest = (omega arith, omega arith)
number_range R.CardIn = (omega arith, omega arith)
number_range R.CardNotIn = (omega arith, omega arith)
