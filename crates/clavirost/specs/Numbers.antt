-- The answers of the calls as numbers: a refusal is the paper's number; 0 is done; 100 is open or yes, and 101 closed or no, which are
-- above every refusal.
-- Assumes nothing.
use Rattle.std.specs.Prelude.{ℕ, Option, Some, None, Result, Ok, Err}
use Rattle.scheme.specs.declared.Refusal.{Refusal}
use Rattle.scheme.specs.Numbers.{number_lem}
use Rattle.ask.specs.declared.Verdict as Ask
use Rattle.ask.specs.declared.Verdict.TheVariants as AskVerdict
use Rattle.product.specs.declared.Verdict as Product
use Rattle.product.specs.declared.Verdict.TheVariants as ProductVerdict

abbrev pub answer_number : {A : Type 0} → Result A Refusal → ℕ
answer_number (Ok a) = 0
answer_number (Err k) = number_lem k

abbrev pub ask_number_lem : Result Ask.Verdict Refusal → ℕ
ask_number_lem (Ok AskVerdict.Open) = 100
ask_number_lem (Ok AskVerdict.Closed) = 101
ask_number_lem (Err k) = number_lem k

abbrev pub product_number_lem : Result Product.Verdict Refusal → ℕ
product_number_lem (Ok ProductVerdict.Yes) = 100
product_number_lem (Ok ProductVerdict.No) = 101
product_number_lem (Err k) = number_lem k

abbrev pub threshold_number : Result (Option ℕ) Refusal → ℕ
threshold_number (Ok None) = 100
threshold_number (Ok (Some set)) = 101
threshold_number (Err k) = number_lem k

-- What a place lent for a result holds after the call: the result where there is one, else what it held before.
abbrev pub after : {A : Type 0} → Result A Refusal → A → A
after (Ok a) old = a
after (Err k) old = old

abbrev pub set_after : Result (Option ℕ) Refusal → ℕ → ℕ
set_after (Ok None) set = set
set_after (Ok (Some first)) set = first
set_after (Err k) set = set
