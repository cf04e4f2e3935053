-- Document 01, "The sheet": the texts of its lines.
-- Assumes nothing.
use Rattle.std.specs.Prelude.{Bool, true, false, List, [], ◌∷◌, ◌++◌, ℕ}
use Rattle.scheme.specs.declared.Shape.{Shape}
use Rattle.digits.specs.Digits.{decimal, nearest, whole_text}

-- The words, as bytes: SCHEME, OPEN, CLOSED, REFUSED.
abbrev pub scheme_word : List ℕ
scheme_word = 83 ∷ 67 ∷ 72 ∷ 69 ∷ 77 ∷ 69 ∷ []

abbrev pub open_word : List ℕ
open_word = 79 ∷ 80 ∷ 69 ∷ 78 ∷ []

abbrev pub closed_word : List ℕ
closed_word = 67 ∷ 76 ∷ 79 ∷ 83 ∷ 69 ∷ 68 ∷ []

abbrev pub refused_word : List ℕ
refused_word = 82 ∷ 69 ∷ 70 ∷ 85 ∷ 83 ∷ 69 ∷ 68 ∷ []

-- "One space between fields, byte 10 after each line."
abbrev pub field : List ℕ → List ℕ
field text = 32 ∷ text

abbrev pub line_end : List ℕ
line_end = 10 ∷ []

-- The heading, `SCHEME p n d e`.
unfoldable pub heading_text : Shape → List ℕ
heading_text s = scheme_word ++ field (decimal s.p) ++ field (decimal s.n) ++ field (decimal s.d) ++ field (decimal s.e) ++ line_end

-- "`OPEN` or `CLOSED`"
abbrev pub verdict_word : Bool → List ℕ
verdict_word true = open_word
verdict_word false = closed_word

-- "every number of the vector printed as the whole number nearest to zero"
unfoldable pub vector_text : ℕ → List ℕ → List ℕ
vector_text p [] = []
vector_text p (v ∷ vs) = field (whole_text (nearest p v)) ++ vector_text p vs

-- "a line for each set number from 0: the number, `OPEN` or `CLOSED`, and r or z"
unfoldable pub set_text : ℕ → ℕ → Bool → List ℕ → List ℕ
set_text p set opens vector = decimal set ++ field (verdict_word opens) ++ vector_text p vector ++ line_end

-- "a line that begins with the word REFUSED and has the number after a space"
unfoldable pub refused_text : ℕ → List ℕ
refused_text k = refused_word ++ field (decimal k) ++ line_end
