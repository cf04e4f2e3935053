-- The end of a loop that changed the first e places of a line, as a list of their own, to residues.
-- Assumes nothing.
use Rattle.std.proofs.Common.{◌≡◌, ℕ, ◌-◌, ◌<◌, ◌≤◌, List, ◌++◌, length, get_or, take, drop, arith, ap, ◌∙◌, length-append, length-drop, get_or-drop}
use Rattle.std.proofs.lemmas.List.{get_or_append_left, get_or-append_right, length-take-le}
use mathlib.Core.Logic.{⊎_elim}
use Rattle.algebra.proofs.Cases.{lt_or_ge}
use Rattle.lists.proofs.Fill.{Filled, filled_front}
use Rattle.lines.specs.Line.{Low, Changed}

pub changed_front : (p e : ℕ) (f : ℕ → ℕ) (v x : List ℕ) (i : ℕ) → Filled 0 e f (take e v) x i → length x ≤ i → e ≤ length v → length v ≡ 27 → Low p v
    → ((k : ℕ) → f k < p) → Changed p e f v (x ++ drop e v)
changed_front p e f v x i h l le n lo hf = record {
  len = omega (arith, length-append x (drop e v), length-drop e v, n, size);
  low = λ lp k. ⊎_elim
      (λ (a : k < e). rw (front k a) (omega (arith, hf k)))
      (λ (a : e ≤ k). rw (back k a) (lo lp k))
      (lt_or_ge k e);
  done = front;
  rest = back;
}
  where
    size : length x ≡ e
    size = h.size ∙ length-take-le e v le

    front : (k : ℕ) → k < e → get_or (x ++ drop e v) k 0 ≡ f k
    front k a = get_or_append_left x (drop e v) 0 k (omega (arith, size)) ∙ filled_front e f (take e v) x i h k (omega (arith, size))

    back : (k : ℕ) → e ≤ k → get_or (x ++ drop e v) k 0 ≡ get_or v k 0
    back k a = get_or-append_right x (drop e v) e k 0 size a ∙ get_or-drop e v (k - e) 0
        ∙ ap (λ (j : ℕ). get_or v j 0) (omega arith)
