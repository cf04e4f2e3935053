-- How the readers of src/lib.rt go through a text, place by place. No public contract cites this file.
-- Assumes nothing.
use Rattle.std.specs.Prelude.{Bool, cond, ◌&&◌, List, ℕ, zero, suc, ◌+◌, ◌-◌, ◌<◌, eqb, leb, ltb, length, get_or, Option, Some, None}
use Rattle.rules.specs.Text.{bar, ampersand, opening, closing}
use Rattle.reader.specs.declared.Kind.{Kind}
use Rattle.reader.specs.declared.Kind.TheVariants.{Digit, Zero, Or, And, Open, Close, Other}

-- "At each place a byte of the text is a digit, a sign or neither."
unfoldable pub class_of : ℕ → Kind
class_of b =
    cond (leb 49 b) (cond (leb b 57) (Digit (b - 48)) (cond (eqb b bar) Or Other))
    (cond (eqb b 48) Zero (cond (eqb b ampersand) And (cond (eqb b opening) Open (cond (eqb b closing) Close Other))))

unfoldable pub kind_at : List ℕ → ℕ → Kind
kind_at s at = cond (ltb at (length s)) (class_of (get_or s at 0)) Other

-- The kinds by number, as they are listed.
abbrev pub tag : Kind → ℕ
tag (Digit d) = 0
tag Zero = 1
tag Or = 2
tag And = 3
tag Open = 4
tag Close = 5
tag Other = 6

abbrev pub is_digit : Kind → Bool
is_digit k = ltb (tag k) 2

abbrev pub is_or : Kind → Bool
is_or k = eqb (tag k) 2

abbrev pub is_and : Kind → Bool
is_and k = eqb (tag k) 3

abbrev pub is_open : Kind → Bool
is_open k = eqb (tag k) 4

abbrev pub is_close : Kind → Bool
is_close k = eqb (tag k) 5

-- What a digit counts; 0 for all that is none.
abbrev pub digit : Kind → ℕ
digit (Digit d) = d
digit Zero = 0
digit Or = 0
digit And = 0
digit Open = 0
digit Close = 0
digit Other = 0

-- The second digit, if there is one, makes 10 to 16.
abbrev pub number_by : Kind → ℕ → ℕ → Option ℕ
number_by k d at = cond (is_digit k) (cond (eqb d 1 && leb (digit k) 6) (Some (at + 2)) None) (Some (at + 1))

unfoldable pub number_end_lem : List ℕ → ℕ → ℕ → Option ℕ
number_end_lem s d at = number_by (kind_at s (at + 1)) d at

abbrev pub after : Option ℕ → (ℕ → Option ℕ) → Option ℕ
after (Some q) f = f q
after None f = None

-- A digit from 1 to 9 begins a number, an opening parenthesis a group.
abbrev pub on_atom : Kind → (ℕ → Option ℕ) → Option ℕ → Option ℕ
on_atom k number group = cond (eqb (tag k) 0) (number (digit k)) (cond (is_open k) group None)

-- The first number is fuel, d the parentheses that may still be opened.
unfoldable mutual
  pub rule_end : ℕ → List ℕ → ℕ → ℕ → Option ℕ
  rule_end zero s d at = None
  rule_end (suc n) s d at = after (term_end n s d at) (λ q. cond (is_or (kind_at s q)) (rule_end n s d (q + 1)) (Some q))

  pub term_end : ℕ → List ℕ → ℕ → ℕ → Option ℕ
  term_end zero s d at = None
  term_end (suc n) s d at = after (atom_end n s d at) (λ q. cond (is_and (kind_at s q)) (term_end n s d (q + 1)) (Some q))

  pub atom_end : ℕ → List ℕ → ℕ → ℕ → Option ℕ
  atom_end zero s d at = None
  atom_end (suc n) s d at =
      on_atom (kind_at s at) (λ v. number_end_lem s v at)
      (cond (eqb d 0) None (after (rule_end n s (d - 1) (at + 1)) (λ q. cond (is_close (kind_at s q)) (Some (q + 1)) None)))

-- A part that begins at a place ends past it.
abbrev pub Within : ℕ → Option ℕ → Type 0
Within at (Some q) = at < q
Within at None = Unit {0}
