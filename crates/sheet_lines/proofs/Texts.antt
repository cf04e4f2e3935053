-- The texts of the lines put part by part; and a vector's text, one number more.
-- Assumes nothing.
use mathlib.Core.Path.{◌≡◌, refl, sym, ap, ◌∙◌}
use mathlib.Core.Bool.{Bool}
use mathlib.Core.List.{List, [], ◌∷◌, ◌++◌, append_assoc, append-nil}
use Prim.Native.Nat.{ℕ, ◌+◌, ◌<◌}
use native.Mathlib.Numerals.{add-one}
use lib.ListN.{length, get_or, take}
use lib.Seq.{take-suc, take-length}
use Rattle.scheme.specs.declared.Shape.{Shape}
use Rattle.digits.specs.Digits.{decimal, nearest, whole_text}
use Rattle.digits.specs.Put.{Put}
use Rattle.digits.proofs.Puts.{put_none, put_put}
use Rattle.sheet_lines.specs.Texts.{
  scheme_word,
  refused_word,
  field,
  line_end,
  verdict_word,
  heading_text,
  vector_text,
  set_text,
  refused_text,
}

put_three : (b : List ℕ) (at : ℕ) (t₁ t₂ t₃ : List ℕ) {a₁ a₂ a₃ : List ℕ} {m₁ m₂ end : ℕ}
    → Put b at t₁ m₁ a₁ → Put a₁ m₁ t₂ m₂ a₂ → Put a₂ m₂ t₃ end a₃ → Put b at (t₁ ++ t₂ ++ t₃) end a₃
put_three b at t₁ t₂ t₃ x y z = put_put b at (t₁ ++ t₂) t₃ (put_put b at t₁ t₂ x y) z

pub put_refusal_text : (b : List ℕ) (k : ℕ) {a₁ a₂ a₃ : List ℕ} {m₁ m₂ end : ℕ} → Put b 0 refused_word m₁ a₁
    → Put a₁ m₁ (field (decimal k)) m₂ a₂ → Put a₂ m₂ line_end end a₃ → Put b 0 (refused_text k) end a₃
unfolding refused_text
put_refusal_text b k x y z = put_three b 0 refused_word (field (decimal k)) line_end x y z

-- The heading: the word, and its four numbers.
pub put_head : (b : List ℕ) (s : Shape) {a₁ a₂ a₃ a₄ a₅ a₆ : List ℕ} {m₁ m₂ m₃ m₄ m₅ end : ℕ} → Put b 0 scheme_word m₁ a₁
    → Put a₁ m₁ (field (decimal s.p)) m₂ a₂ → Put a₂ m₂ (field (decimal s.n)) m₃ a₃
    → Put a₃ m₃ (field (decimal s.d)) m₄ a₄ → Put a₄ m₄ (field (decimal s.e)) m₅ a₅ → Put a₅ m₅ line_end end a₆
    → Put b 0 (heading_text s) end a₆
unfolding heading_text
put_head b s w p n d e l =
    let half = put_three b 0 scheme_word (field (decimal s.p)) (field (decimal s.n)) w p n in
    let half-text = scheme_word ++ field (decimal s.p) ++ field (decimal s.n) in
    let whole = put_three b 0 half-text (field (decimal s.d)) (field (decimal s.e)) half d e in
    put_put b 0 (half-text ++ field (decimal s.d) ++ field (decimal s.e)) line_end whole l

-- The line of a set: its number, its verdict, its vector.
pub put_set_text : (b : List ℕ) (at p set : ℕ) (opens : Bool) (vector : List ℕ) {a₁ a₂ a₃ a₄ : List ℕ} {m₁ m₂ m₃ end : ℕ}
    → Put b at (decimal set) m₁ a₁ → Put a₁ m₁ (field (verdict_word opens)) m₂ a₂ → Put a₂ m₂ (vector_text p vector) m₃ a₃
    → Put a₃ m₃ line_end end a₄ → Put b at (set_text p set opens vector) end a₄
unfolding set_text
put_set_text b at p set opens vector x v t l =
    put_put b at (decimal set ++ field (verdict_word opens) ++ vector_text p vector) line_end
    (put_three b at (decimal set) (field (verdict_word opens)) (vector_text p vector) x v t) l

-- A number as a field: a space, and the text behind it.
pub put_spaced : (b : List ℕ) (at : ℕ) (t : List ℕ) {a₁ a₂ : List ℕ} {m end : ℕ} → Put b at (32 ∷ []) m a₁ → Put a₁ m t end a₂
    → Put b at (field t) end a₂
put_spaced b at t x y = put_put b at (32 ∷ []) t x y

vector_append : (p : ℕ) (xs ys : List ℕ) → vector_text p (xs ++ ys) ≡ vector_text p xs ++ vector_text p ys
unfolding vector_text
vector_append p [] ys = refl
vector_append p (x ∷ xs) ys = ap (λ (t : List ℕ). field (whole_text (nearest p x)) ++ t) (vector_append p xs ys)
    ∙ sym (append_assoc (field (whole_text (nearest p x))) (vector_text p xs) (vector_text p ys))

vector_one : (p v : ℕ) → vector_text p (v ∷ []) ≡ field (whole_text (nearest p v))
unfolding vector_text
vector_one p v = append-nil (field (whole_text (nearest p v)))

vector_more : (p : ℕ) (vs : List ℕ) (i : ℕ) → i < length vs
    → vector_text p (take (i + 1) vs) ≡ vector_text p (take i vs) ++ field (whole_text (nearest p (get_or vs i 0)))
vector_more p vs i h = rw (add-one i, take-suc vs i 0 h, vector_append p (take i vs) (get_or vs i 0 ∷ []), vector_one p (get_or vs i 0))

-- The loop that prints a vector: before it, a turn, and its end.
pub vector_start : (b : List ℕ) (at p : ℕ) (vs : List ℕ) → Put b at (vector_text p (take 0 vs)) at b
unfolding vector_text
vector_start b at p vs = put_none b at

pub vector_turn : (b : List ℕ) (at p : ℕ) (vs : List ℕ) (i : ℕ) {a₁ a₂ a₃ : List ℕ} {m₁ m₂ end : ℕ} → i < length vs
    → Put b at (vector_text p (take i vs)) m₁ a₁ → Put a₁ m₁ (32 ∷ []) m₂ a₂ → Put a₂ m₂ (whole_text (nearest p (get_or vs i 0))) end a₃
    → Put b at (vector_text p (take (i + 1) vs)) end a₃
vector_turn b at p vs i {a₁ = a₁} {m₁ = m₁} h x s y = rw (vector_more p vs i h)
    (put_put b at (vector_text p (take i vs)) (field (whole_text (nearest p (get_or vs i 0)))) x
    (put_spaced a₁ m₁ (whole_text (nearest p (get_or vs i 0))) s y))

pub vector_end : (b : List ℕ) (at p : ℕ) (vs : List ℕ) (i : ℕ) {a : List ℕ} {end : ℕ} → i ≡ length vs
    → Put b at (vector_text p (take i vs)) end a → Put b at (vector_text p vs) end a
vector_end b at p vs i e x = let q : take i vs ≡ vs = ap (λ (k : ℕ). take k vs) e ∙ take-length vs in rw q at x
