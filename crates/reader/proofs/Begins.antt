-- What a reader sees at a place is how the text that is left there begins.
-- Assumes nothing.
use mathlib.Core.Path.{◌≡◌, refl, sym, ap, subst, ◌∙◌}
use mathlib.Core.Bool.{Bool, true, false, cond}
use mathlib.Core.List.{List, [], ◌∷◌, ◌++◌, nil≢cons, head-eq_of_cons-eq}
use mathlib.Core.Logic.{⊎_elim}
use Prim.Native.Nat.{ℕ, ◌+◌, ◌-◌, ◌≤◌, ◌<◌}
use native.Mathlib.Omega.{arith}
use lib.Dec.{eqb, leb}
use lib.ListN.{length, drop, drop_of_length-le}
use lib.Seq.{drop-drop, drop-append_seam}
use borrow.Author.Tests.{leb-true, eqb-true, eq-eqb, ne_eqb, lt-ltb, le-ltb, le-leb, ltb-true}
use Rattle.algebra.proofs.Cases.{lt_or_ge, same?}
use Rattle.residue.proofs.Moduli.{drop_next}
use Rattle.rules.specs.Text.{bar, ampersand, opening, closing}
use Rattle.reader.specs.declared.Kind.{Kind}
use Rattle.reader.specs.declared.Kind.TheVariants.{Digit, Zero, Or, And, Open, Close, Other}
use Rattle.reader.specs.Grammar.{class_of, kind_at, tag, is_digit, digit}

-- What its kind says of a byte.
abbrev Class : ℕ → Kind → Type 0
Class b (Digit d) = (49 ≤ b) × (b ≤ 57) × (d ≡ b - 48)
Class b Zero = b ≡ 48
Class b Or = b ≡ bar
Class b And = b ≡ ampersand
Class b Open = b ≡ opening
Class b Close = b ≡ closing
Class b Other = Unit {0}

class_of_holds : (b : ℕ) → Class b (class_of b)
unfolding class_of
class_of_holds b = go (leb 49 b) (leb b 57) (eqb b bar) (eqb b 48) (eqb b ampersand) (eqb b opening) (eqb b closing) refl refl refl refl refl refl refl
  where
    go : (low high o z n p c : Bool) → leb 49 b ≡ low → leb b 57 ≡ high → eqb b bar ≡ o → eqb b 48 ≡ z → eqb b ampersand ≡ n → eqb b opening ≡ p
        → eqb b closing ≡ c
        → Class b (cond low (cond high (Digit (b - 48)) (cond o Or Other)) (cond z Zero (cond n And (cond p Open (cond c Close Other)))))
    go true true o z n p c e f g h i j k = (leb-true 49 b e, leb-true b 57 f, refl)
    go true false true z n p c e f g h i j k = eqb-true b bar g
    go true false false z n p c e f g h i j k = tt
    go false high o true n p c e f g h i j k = eqb-true b 48 h
    go false high o false true p c e f g h i j k = eqb-true b ampersand i
    go false high o false false true c e f g h i j k = eqb-true b opening j
    go false high o false false false true e f g h i j k = eqb-true b closing k
    go false high o false false false false e f g h i j k = tt

-- The kind of a text, by its first byte; what stands at a place is the kind of the text that is left there.
abbrev kind_of : List ℕ → Kind
kind_of [] = Other
kind_of (b ∷ s) = class_of b

kind_drop : (s : List ℕ) (q : ℕ) → kind_at s q ≡ kind_of (drop q s)
unfolding kind_at
kind_drop s q = ⊎_elim
    (λ l. rw (lt-ltb q (length s) l) (ap kind_of (sym (drop_next s q l))))
    (λ l. rw (le-ltb q (length s) l, drop_of_length-le s l))
    (lt_or_ge q (length s))

pub kind_of_holds : (s : List ℕ) (q b : ℕ) (z : List ℕ) → drop q s ≡ b ∷ z → kind_at s q ≡ class_of b
kind_of_holds s q b z e = kind_drop s q ∙ ap kind_of e

abbrev Seen : List ℕ → Kind → Type 0
Seen [] k = k ≡ Other
Seen (b ∷ s) k = Class b k

seen_of : (s : List ℕ) (q : ℕ) (z : List ℕ) → drop q s ≡ z → Seen z (kind_at s q)
seen_of s q z e = subst (Seen z) (sym (kind_drop s q ∙ ap kind_of e)) (go z)
  where
    go : (z : List ℕ) → Seen z (kind_of z)
    go [] = refl
    go (b ∷ z) = class_of_holds b

-- The text that is left past a part of it.
pub past : (s : List ℕ) (at : ℕ) (x z : List ℕ) → drop at s ≡ x ++ z → drop (at + length x) s ≡ z
past s at x z e = sym (drop-drop (length x) at s) ∙ ap (drop (length x)) e ∙ drop-append_seam x z

-- A kind that is no digit is known by its number.
abbrev kind_from : ℕ → Kind
kind_from g = cond (eqb g 1) Zero (cond (eqb g 2) Or (cond (eqb g 3) And (cond (eqb g 4) Open (cond (eqb g 5) Close Other))))

from_tag : (k : Kind) → 0 < tag k → kind_from (tag k) ≡ k
from_tag (Digit d) h = absurd (omega arith)
from_tag Zero h = refl
from_tag Or h = refl
from_tag And h = refl
from_tag Open h = refl
from_tag Close h = refl
from_tag Other h = refl

pub same_kind : (k j : Kind) → 0 < tag j → tag k ≡ tag j → k ≡ j
same_kind k j h e = sym (from_tag k (omega arith)) ∙ ap kind_from e ∙ from_tag j h

-- A sign and its byte.
pub record Sign (k : Kind) (byte : ℕ) : Type 0 where
  pub class : class_of byte ≡ k
  pub only : (b : ℕ) → Class b k → b ≡ byte
  pub low : 0 < tag k
  pub high : tag k < 6

pub or_sign : Sign Or bar
unfolding class_of
or_sign = record { class = refl; only = λ b e. e; low = omega arith; high = omega arith }

pub and_sign : Sign And ampersand
unfolding class_of
and_sign = record { class = refl; only = λ b e. e; low = omega arith; high = omega arith }

pub open_sign : Sign Open opening
unfolding class_of
open_sign = record { class = refl; only = λ b e. e; low = omega arith; high = omega arith }

pub close_sign : Sign Close closing
unfolding class_of
close_sign = record { class = refl; only = λ b e. e; low = omega arith; high = omega arith }

-- A text that does not begin with a byte.
abbrev pub Not : ℕ → List ℕ → Type 0
Not byte [] = Unit {0}
Not byte (b ∷ s) = b ≡ byte → ⊥

pub not_here : (byte : ℕ) (y z : List ℕ) → y ≡ byte ∷ z → Not byte y → ⊥
not_here byte [] z e n = nil≢cons e
not_here byte (b ∷ y) z e n = n (head-eq_of_cons-eq e)

-- A sign is seen just where the text that is left begins with its byte.
module _ {k : Kind} {byte : ℕ} (sign : Sign k byte) (s : List ℕ) (q : ℕ) where
  pub sign_true : (z : List ℕ) → drop q s ≡ byte ∷ z → eqb (tag (kind_at s q)) (tag k) ≡ true
  sign_true z e = eq-eqb (tag (kind_at s q)) (tag k) (ap tag (kind_of_holds s q byte z e ∙ sign.class))

  begins : (z : List ℕ) → drop q s ≡ z → tag (kind_at s q) ≡ tag k → drop q s ≡ byte ∷ drop (q + 1) s
  begins [] e f = absurd (let g = ap tag (seen_of s q [] e) in let l = sign.high in omega arith)
  begins (b ∷ z) e f =
      let here : b ≡ byte = sign.only b (subst (Class b) (same_kind (kind_at s q) k sign.low f) (seen_of s q (b ∷ z) e)) in
      e ∙ ap (λ (x : ℕ). x ∷ z) here ∙ ap (λ (y : List ℕ). byte ∷ y) (sym (past s q (b ∷ []) z e))

  pub sign_here : eqb (tag (kind_at s q)) (tag k) ≡ true → drop q s ≡ byte ∷ drop (q + 1) s
  sign_here e = begins (drop q s) refl (eqb-true (tag (kind_at s q)) (tag k) e)

  pub sign_false : (z : List ℕ) → drop q s ≡ z → Not byte z → eqb (tag (kind_at s q)) (tag k) ≡ false
  sign_false z e n = ne_eqb (tag (kind_at s q)) (tag k) (λ f. not_here byte z (drop (q + 1) s) (sym e ∙ begins z e f) n)

-- A text that does not begin with a digit.
abbrev pub NoDigit : List ℕ → Type 0
NoDigit [] = Unit {0}
NoDigit (b ∷ s) = 48 ≤ b → b ≤ 57 → ⊥

digit_byte : (b : ℕ) (k : Kind) → Class b k → tag k < 2 → (48 ≤ b) × (b ≤ 57) × (digit k ≡ b - 48) × (tag k ≡ 0 → 49 ≤ b)
digit_byte b (Digit d) c h = (omega (arith, c.0), c.1, c.2, λ e. c.0)
digit_byte b Zero c h = (omega arith, omega arith, omega arith, λ e. absurd (omega arith))
digit_byte b Or c h = absurd (omega arith)
digit_byte b And c h = absurd (omega arith)
digit_byte b Open c h = absurd (omega arith)
digit_byte b Close c h = absurd (omega arith)
digit_byte b Other c h = absurd (omega arith)

-- A digit that is seen at a place, and the text past it.
pub record DigitAt (s : List ℕ) (q d : ℕ) : Type 0 where
  pub most : d ≤ 9
  pub here : drop q s ≡ (48 + d) ∷ drop (q + 1) s

module _ (s : List ℕ) (q : ℕ) where
  digit_begins : (z : List ℕ) → drop q s ≡ z → tag (kind_at s q) < 2
      → DigitAt s q (digit (kind_at s q)) × (tag (kind_at s q) ≡ 0 → 1 ≤ digit (kind_at s q))
  digit_begins [] e f = absurd (let g = ap tag (seen_of s q [] e) in omega arith)
  digit_begins (b ∷ z) e f =
      let h = digit_byte b (kind_at s q) (seen_of s q (b ∷ z) e) f in
      let same : b ≡ 48 + digit (kind_at s q) = omega (arith, h.0, h.2) in (
        record {
          most = omega (arith, h.1, h.2);
          here = e ∙ ap (λ (x : ℕ). x ∷ z) same ∙ ap (λ (y : List ℕ). (48 + digit (kind_at s q)) ∷ y) (sym (past s q (b ∷ []) z e));
        },
        λ g. omega (arith, h.2, h.3 g),
      )

  pub digit_here : is_digit (kind_at s q) ≡ true → DigitAt s q (digit (kind_at s q))
  digit_here e = (digit_begins (drop q s) refl (ltb-true (tag (kind_at s q)) 2 e)).0

  -- One from 1 to 9.
  pub first_here : eqb (tag (kind_at s q)) 0 ≡ true → DigitAt s q (digit (kind_at s q)) × (1 ≤ digit (kind_at s q))
  first_here e =
      let z : tag (kind_at s q) ≡ 0 = eqb-true (tag (kind_at s q)) 0 e in
      let h = digit_begins (drop q s) refl (omega arith) in
      (h.0, h.1 z)

  pub digit_false : (z : List ℕ) → drop q s ≡ z → NoDigit z → is_digit (kind_at s q) ≡ false
  digit_false [] e n = ap is_digit (seen_of s q [] e)
  digit_false (b ∷ z) e n = le-ltb (tag (kind_at s q)) 2
      (⊎_elim
      (λ l. absurd (let h = digit_byte b (kind_at s q) (seen_of s q (b ∷ z) e) l in n h.0 h.1))
      (λ l. l)
      (lt_or_ge (tag (kind_at s q)) 2))

-- The kind of a digit.
pub class_digit : (b : ℕ) → 49 ≤ b → b ≤ 57 → class_of b ≡ Digit (b - 48)
unfolding class_of
class_digit b l u = rw (le-leb 49 b l, le-leb b 57 u)

pub digit_class : (b : ℕ) → 48 ≤ b → b ≤ 57 → (is_digit (class_of b) ≡ true) × (digit (class_of b) ≡ b - 48)
unfolding class_of
digit_class b l u = ⊎_elim
    (λ e. rw e (refl, refl))
    (λ n. rw (class_digit b (omega arith) u) (refl, refl))
    (same? b 48)
