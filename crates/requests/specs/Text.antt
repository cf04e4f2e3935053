-- The place of a byte in a text. The numbers of a text: decimal numbers below 2^32 with one space between.
-- Assumes nothing.
use Rattle.std.specs.Prelude.{◌≡◌, Bool, true, false, ◌&&◌, cond, List, [], ◌∷◌, ◌++◌, ℕ, ◌+◌, ◌*◌, ◌-◌, ◌≤◌, eqb, leb, ltb, length, take, Option, Some, None, is_some, unwrap_or}
use Rattle.std.specs.List.{position_or_len}

-- The place of the first such byte of a text; the text's length where there is none.
abbrev pub index_of : ℕ → List ℕ → ℕ
index_of byte text = position_or_len (λ x. eqb x byte) text

abbrev pub is_digit : ℕ → Bool
is_digit byte = leb 48 byte && leb byte 57

-- The value of a number's digits with one more digit.
abbrev pub grown : ℕ → ℕ → ℕ
grown value byte = value * 10 + (byte - 48)

-- A number that is being read, none where it has no digit yet, with one more byte; none where that is no digit or the number is too large.
abbrev pub with_digit_lem : Option ℕ → ℕ → Option ℕ
with_digit_lem value byte =
    cond (is_digit byte && ltb (grown (unwrap_or value 0) byte) 4294967296) (Some (grown (unwrap_or value 0) byte)) None

-- A number is being read: has it a digit, and its value so far. Does the rest of the text end it and go on with numbers?
unfoldable pub goes_on : Bool → ℕ → List ℕ → Bool
goes_on seen value [] = seen
goes_on seen value (byte ∷ rest) =
    cond (eqb byte 32)
    (seen && goes_on false 0 rest)
    (is_digit byte && (ltb (grown value byte) 4294967296 && goes_on true (grown value byte) rest))

-- That number, and those that the rest of the text goes on with.
unfoldable pub numbers_from : ℕ → List ℕ → List ℕ
numbers_from value [] = value ∷ []
numbers_from value (byte ∷ rest) = cond (eqb byte 32) (value ∷ numbers_from 0 rest) (numbers_from (grown value byte) rest)

-- Is the text one of numbers?
abbrev pub are_numbers : List ℕ → Bool
are_numbers text = goes_on false 0 text

-- The numbers of such a text.
abbrev pub numbers_of : List ℕ → List ℕ
numbers_of text = numbers_from 0 text

-- The text is one of numbers, and has at most `places` of them.
abbrev pub fits : List ℕ → ℕ → Bool
fits text places = are_numbers text && leb (length (numbers_of text)) places

-- What is said of a text, and what the first places hold then.
abbrev pub ReadSays : List ℕ → List ℕ → Option ℕ → Type 0
ReadSays text out (Some k) = (are_numbers text ≡ true) × (numbers_of text ≡ take k out) × (k ≤ length out)
ReadSays text out None = fits text (length out) ≡ false

-- A text read in part: the first `count` places and then `more` are its numbers, and it is one of numbers where `goes`; or it is bad.
unfoldable pub Stored : List ℕ → List ℕ → Option ℕ → List ℕ → Bool → Type 0
Stored text out (Some count) more goes = (take count out ++ more ≡ numbers_of text) × (goes ≡ are_numbers text) × (count ≤ length out)
Stored text out None more goes = fits text (length out) ≡ false

-- The same where `rest` is to be read, by the value of the number that is being read, none where it has no digit yet.
abbrev pub ReadsOn : List ℕ → List ℕ → Option ℕ → Option ℕ → List ℕ → Type 0
ReadsOn text out count value rest =
    Stored text out count (numbers_from (unwrap_or value 0) rest) (goes_on (is_some value) (unwrap_or value 0) rest)
