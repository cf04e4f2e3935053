-- A text read byte by byte: each step keeps what is stored and what is left to read at the text's numbers.
-- Assumes nothing.
use mathlib.Core.Path.{◌≡◌, refl, sym, ap, ◌∙◌}
use mathlib.Core.Bool.{Bool, true, false, ◌&&◌}
use mathlib.Core.List.{List, [], ◌∷◌, ◌++◌, append-nil}
use Prim.Native.Nat.{ℕ, ◌+◌, ◌≤◌, ◌<◌}
use native.Mathlib.Numerals.{add-one}
use native.Mathlib.Omega.{arith}
use lib.Dec.{eqb, leb, ltb}
use lib.ListN.{length, take, drop, get_or, set, length-append, length-set, drop_of_length-le}
use lib.Seq.{length-take-le, take-suc-set, append_snoc, drop-cons}
use borrow.Author.Tests.{lt-leb, eq-eqb}
use Rattle.std.specs.Prelude.{Option, Some, None, is_some, unwrap_or, MatchOption, cond}
use Rattle.requests.specs.Text.{is_digit, grown, with_digit_lem, goes_on, numbers_from, are_numbers, numbers_of, fits, Stored, ReadsOn, ReadSays}

and-false : (a : Bool) → (a && false) ≡ false
and-false true = refl
and-false false = refl

and_right : (a : Bool) → (a && true) ≡ a
and_right true = refl
and_right false = refl

-- No text of numbers.
no_numbers : (text : List ℕ) (places : ℕ) → false ≡ are_numbers text → fits text places ≡ false
no_numbers text places e = ap (λ b. b && leb (length (numbers_of text)) places) (sym e)

-- A number ends: without a digit; where there is no place for it; and else it is stored.
module _ (text out : List ℕ) (count value : ℕ) (more : List ℕ) (seen goes : Bool)
    (s : Stored text out (Some count) (value ∷ more) (seen && goes)) where
  pub no_digits : seen ≡ false → (r : Option ℕ) → r ≡ None → Stored text out r more goes
  unfolding Stored
  no_digits e r n = rw n (no_numbers text (length out) (sym (ap (λ b. b && goes) e) ∙ s.1))

  pub no_place : length out ≤ count → Stored text out None more goes
  unfolding Stored
  no_place h =
      ap (λ b. are_numbers text && b) (lt-leb (length (numbers_of text)) (length out) long) ∙ and-false (are_numbers text)
    where
      long : length out < length (numbers_of text)
      long = omega (arith, h, length-take-le count out s.2, length-append (take count out) (value ∷ more), ap length s.0)

  pub stored : seen ≡ true → count < length out → Stored text (set out count value) (Some (count + 1)) more goes
  unfolding Stored
  stored e h = (
    ap (λ k. take k (set out count value) ++ more) (add-one count) ∙ ap (λ l. l ++ more) (take-suc-set out count value h)
        ∙ append_snoc (take count out) value more ∙ s.0,
    sym (ap (λ b. b && goes) e) ∙ s.1,
    omega (arith, h, length-set out count value),
  )

-- A byte that is no space is read: the text is bad, or the number has its value from now on.
digit_cases : (digit small : Bool) (text out rest : List ℕ) (count value : ℕ)
    → (take count out ++ numbers_from value rest ≡ numbers_of text) × ((digit && (small && goes_on true value rest)) ≡ are_numbers text)
    × (count ≤ length out)
    → MatchOption (cond (digit && small) (Some value) None) (ReadSays text out None) (λ v. ReadsOn text out (Some count) (Some v) rest)
unfolding Stored
digit_cases true true text out rest count value s = s
digit_cases true false text out rest count value s = no_numbers text (length out) s.1
digit_cases false small text out rest count value s = no_numbers text (length out) s.1

-- What stands at place i of the text is read next.
from_place : (text out : List ℕ) (i count : ℕ) (value : Option ℕ) → i < length text → ReadsOn text out (Some count) value (drop i text)
    → ReadsOn text out (Some count) value (get_or text i 0 ∷ drop (i + 1) text)
from_place text out i count value h s =
    let e : drop i text ≡ get_or text i 0 ∷ drop (i + 1) text
    = drop-cons text i 0 h ∙ ap (λ k. get_or text i 0 ∷ drop k text) (sym (add-one i)) in
    rw e at s

module _ (text out : List ℕ) (i count : ℕ) (value : Option ℕ) (s : ReadsOn text out (Some count) value (drop i text)) where
  pub read_digit : i < length text → eqb (get_or text i 0) 32 ≡ false → (r : Option ℕ) → r ≡ with_digit_lem value (get_or text i 0)
      → MatchOption r (ReadSays text out None) (λ v. ReadsOn text out (Some count) (Some v) (drop (i + 1) text))
  unfolding goes_on numbers_from Stored
  read_digit h other r e =
      let s' = from_place text out i count value h s in
      let byte = get_or text i 0 in
      let v = grown (unwrap_or value 0) byte in
      rw e
      (digit_cases (is_digit byte) (ltb v 4294967296) text out (drop (i + 1) text) count v
      (simp other at s'.0, simp other at s'.1, s'.2))

  -- A space ends the number that is being read, and so does the end of the text.
  pub read_space : i < length text → get_or text i 0 ≡ 32
      → Stored text out (Some count) (unwrap_or value 0 ∷ numbers_from 0 (drop (i + 1) text))
      (is_some value && goes_on false 0 (drop (i + 1) text))
  unfolding goes_on numbers_from Stored
  read_space h e =
      let s' = from_place text out i count value h s in
      let t = eq-eqb (get_or text i 0) 32 e in
      (simp t at s'.0, simp t at s'.1, s'.2)

  pub read_end : length text ≤ i → Stored text out (Some count) (unwrap_or value 0 ∷ []) (is_some value && true)
  unfolding goes_on numbers_from Stored
  read_end h = let s' = rw (drop_of_length-le text h) at s in (s'.0, and_right (is_some value) ∙ s'.1, s'.2)

-- The last number has ended.
pub says : (text out : List ℕ) (r : Option ℕ) → Stored text out r [] true → ReadSays text out r
unfolding Stored
says text out (Some count) s = (sym s.1, sym s.0 ∙ append-nil (take count out), s.2)
says text out None s = s

-- A number has ended for which there is no place, or that has no digit.
pub says_bad : (text out more : List ℕ) (goes : Bool) (r r' : Option ℕ) → r ≡ None → r' ≡ None → Stored text out r more goes
    → ReadSays text out r'
unfolding Stored
says_bad text out more goes r r' e e' s = rw e' (rw e at s)
