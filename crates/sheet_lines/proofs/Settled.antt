-- A valid scheme has one line a set at most, and so one text of lines; lines join with the lines after them; no line is empty.
-- Assumes nothing.
use mathlib.Core.Path.{◌≡◌, refl, sym, ap, ap₂, ◌∙◌, subst⁻¹}
use mathlib.Core.Bool.{Bool, true, false, true≢false, false≢true}
use mathlib.Core.List.{List, [], ◌++◌, append_assoc, append-nil}
use Prim.Native.Nat.{ℕ, zero, suc, ◌+◌, ◌<◌}
use native.Mathlib.Nat.{add-zero, add-suc, add_assoc}
use native.Mathlib.Omega.{arith}
use lib.ListN.{length, length-append}
use Rattle.linear.specs.Flat.{entry}
use Rattle.linear.proofs.Handed.{handed_settled}
use Rattle.digits.specs.Digits.{decimal}
use Rattle.digits.proofs.Digits.{decimal_not_empty}
use Rattle.scheme.specs.declared.Shape.{Shape}
use Rattle.scheme.specs.Open as Set
use Rattle.scheme.specs.Sets.{of_set}
use Rattle.scheme.proofs.Refusals.{Valid}
use Rattle.sheet_lines.specs.Texts.{heading_text, refused_text, set_text, vector_text, verdict_word, field, line_end}
use Rattle.sheet_lines.specs.Lines.{Shows, IsLine, IsLines}

longer : (a b : List ℕ) → 0 < length a → 0 < length (a ++ b)
longer a b h = omega (arith, length-append a b)

text_not_empty : (p set : ℕ) (opens : Bool) (vector : List ℕ) → 0 < length (set_text p set opens vector)
unfolding set_text
text_not_empty p set opens vector =
    longer (decimal set ++ field (verdict_word opens) ++ vector_text p vector) line_end
    (longer (decimal set ++ field (verdict_word opens)) (vector_text p vector)
    (longer (decimal set) (field (verdict_word opens)) (decimal_not_empty set)))

pub heading_not_empty : (s : Shape) → 0 < length (heading_text s)
unfolding heading_text
heading_not_empty s = omega arith

pub refused_not_empty : (k : ℕ) → 0 < length (refused_text k)
unfolding refused_text
refused_not_empty k = omega arith

module _ (s : Shape) (labels entries : List ℕ) where
  -- "One r only meets this", "One z only meets this", and no set has both. No list is lent here.
  handed_one : Valid s labels entries → (set : ℕ) (a b : Bool) (r₁ z₁ r₂ z₂ : List ℕ) → Set.Handed s labels entries set [] [] a r₁ z₁
      → Set.Handed s labels entries set [] [] b r₂ z₂ → (a ≡ b) × (r₁ ≡ r₂) × (z₁ ≡ z₂)
  handed_one v set = handed_settled s.p v.prime s.d s.e v.e_low (entry s.e entries) (of_set set labels) [] []

  shows_settled : Valid s labels entries → (set : ℕ) (a b : Bool) (x y : List ℕ) → Shows s labels entries set a x
      → Shows s labels entries set b y → (a ≡ b) × (x ≡ y)
  shows_settled v set true true x y h g =
      (refl, (handed_one v set true true x [] y [] (h.0, h.1, refl) (g.0, g.1, refl)).1)
  shows_settled v set true false x y h g =
      absurd (true≢false (handed_one v set true false x [] [] y (h.0, h.1, refl) (g.0, g.1, refl)).0)
  shows_settled v set false true x y h g =
      absurd (false≢true (handed_one v set false true [] x y [] (h.0, h.1, refl) (g.0, g.1, refl)).0)
  shows_settled v set false false x y h g =
      (refl, (handed_one v set false false [] x [] y (h.0, h.1, refl) (g.0, g.1, refl)).2)

  pub line_settled : Valid s labels entries → (set : ℕ) (t u : List ℕ) → IsLine s labels entries set t → IsLine s labels entries set u
      → t ≡ u
  line_settled v set t u x y =
      let w = shows_settled v set x.opens y.opens x.vector y.vector x.shows y.shows in
      x.says ∙ ap₂ (set_text s.p set) w.0 w.1 ∙ sym y.says

  pub lines_settled : Valid s labels entries → (first count : ℕ) (t u : List ℕ) → IsLines s labels entries first count t
      → IsLines s labels entries first count u → t ≡ u
  lines_settled v first zero t u x y = x ∙ sym y
  lines_settled v first (suc count) t u x y =
      x.4 ∙ ap₂ ◌++◌ (lines_settled v first count x.0 y.0 x.2 y.2)
      (line_settled v (first + count) x.1 y.1 x.3 y.3) ∙ sym y.4

  -- Lines, and the lines after them.
  pub lines_join : (first m k : ℕ) (a b : List ℕ) → IsLines s labels entries first m a → IsLines s labels entries (first + m) k b
      → IsLines s labels entries first (m + k) (a ++ b)
  lines_join first m zero a b x y =
      subst⁻¹ (λ (i : ℕ). IsLines s labels entries first i (a ++ b)) (add-zero m)
      (subst⁻¹ (λ l. IsLines s labels entries first m l) (ap (λ l. a ++ l) y ∙ append-nil a) x)
  lines_join first m (suc k) a b x y =
      subst⁻¹ (λ (i : ℕ). IsLines s labels entries first i (a ++ b)) (add-suc m k) (
        a ++ y.0,
        y.1,
        lines_join first m k a y.0 x y.2,
        subst⁻¹ (λ (i : ℕ). IsLine s labels entries i y.1) (sym (add_assoc first m k)) y.3,
        ap (λ l. a ++ l) y.4 ∙ sym (append_assoc a y.0 y.1),
      )

  pub line_not_empty : (set : ℕ) (text : List ℕ) → IsLine s labels entries set text → 0 < length text
  line_not_empty set text x = omega (arith, ap length x.says, text_not_empty s.p set x.opens x.vector)

  pub lines_not_empty : (first count : ℕ) (text : List ℕ) → 0 < count → IsLines s labels entries first count text → 0 < length text
  lines_not_empty first zero text l x = absurd (omega arith)
  lines_not_empty first (suc count) text l x =
      omega (arith, ap length x.4, length-append x.0 x.1, line_not_empty (first + count) x.1 x.3)
