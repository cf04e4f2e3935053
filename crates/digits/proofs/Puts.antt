-- Texts put one after another: two that follow each other are one, and a text put first lies over the old list.
-- Assumes nothing.
use mathlib.Core.Path.{◌≡◌, refl, sym, ap, ◌∙◌}
use mathlib.Core.List.{List, [], ◌∷◌, ◌++◌}
use Prim.Native.Nat.{ℕ, suc, ◌+◌, ◌≤◌}
use native.Mathlib.Nat.{zero-add, add-zero, add-suc, suc-add}
use native.Mathlib.Omega.{arith}
use lib.ListN.{length, set, drop, length-append}
use lib.Seq.{sets, sets-eq, length-sets}
use borrow.Rule.Slice.PartMut.{put_mid}
use Rattle.std.proofs.lemmas.Grind.{common_steps}
use Rattle.digits.specs.Put.{Put}

sets_append : (b : List ℕ) (at : ℕ) (xs ys : List ℕ) → sets b at (xs ++ ys) ≡ sets (sets b at xs) (at + length xs) ys
sets_append b at [] ys = ap (λ (k : ℕ). sets b k ys) (sym (add-zero at))
sets_append b at (x ∷ xs) ys = sets_append (set b at x) (suc at) xs ys
    ∙ ap (λ (k : ℕ). sets (sets (set b at x) (suc at) xs) k ys) (suc-add at (length xs) ∙ sym (add-suc at (length xs)))

pub put_none : (b : List ℕ) (at : ℕ) → Put b at [] at b
put_none b at = (sym (add-zero at), refl)

pub put_put : (b : List ℕ) (at : ℕ) (t₁ t₂ : List ℕ) {a₁ a₂ : List ℕ} {m end : ℕ}
    → Put b at t₁ m a₁ → Put a₁ m t₂ end a₂ → Put b at (t₁ ++ t₂) end a₂
put_put b at t₁ t₂ x y = (
  omega (arith, x.0, y.0, length-append t₁ t₂),
  rw (y.1, x.1, x.0, sets_append b at t₁ t₂),
)

pub put_length : (b : List ℕ) (at : ℕ) (t : List ℕ) {a : List ℕ} {end : ℕ} → Put b at t end a → length a ≡ length b
put_length b at t x = ap length x.1 ∙ length-sets b at t

-- `t ++ drop (length t) b` is `over t b` of scheme's specs/Outcome.antt.
pub put_first : (b t : List ℕ) {a : List ℕ} {end : ℕ} → Put b 0 t end a → length t ≤ length b → a ≡ t ++ drop (length t) b
put_first b t x h = x.1 ∙ sets-eq t b 0 (omega arith) ∙ ap (λ (k : ℕ). t ++ drop k b) (zero-add (length t))

-- A byte, and a text put behind it.
pub put_after : (b : List ℕ) (at x : ℕ) (t : List ℕ) {a : List ℕ} {end : ℕ} → Put (set b at x) (at + 1) t end a → Put b at (x ∷ t) end a
put_after b at x t h = put_put b at (x ∷ []) t (refl, refl) h

-- A byte stored behind a text that was put.
pub put_before : (b : List ℕ) (at : ℕ) (t : List ℕ) (x : ℕ) {a : List ℕ} {end : ℕ}
    → Put b at t end a → Put b at (t ++ (x ∷ [])) (end + 1) (set a end x)
put_before b at t x h = put_put b at t (x ∷ []) h (refl, refl)

-- A part of a list that is a text now.
pub put_part : (b : List ℕ) (at : ℕ) (t ys : List ℕ) (w : ℕ) → ys ≡ t → w ≡ length t → at + length t ≤ length b
    → put_mid at w b ys ≡ sets b at t
put_part b at t ys w e q l = grind (arith, common_steps, sets-eq)
