-- A set's line from the verdict and the vector that it shows; the lines of the sets one after another, one line more and many more.
-- Assumes nothing.
use mathlib.Core.Path.{◌≡◌, refl}
use mathlib.Core.Bool.{Bool, true, false}
use mathlib.Core.List.{List, [], ◌++◌}
use Prim.Native.Nat.{ℕ, ◌+◌, ◌<◌}
use native.Mathlib.Numerals.{add-one}
use native.Mathlib.Omega.{arith}
use lib.ListN.{length}
use Rattle.linear.specs.Bits.{bit}
use Rattle.rows.specs.declared.Answer.{Answer}
use Rattle.rows.specs.Answered.{Answered}
use Rattle.scheme.specs.declared.Shape.{Shape}
use Rattle.scheme.specs.Sets.{of_set}
use Rattle.sets.proofs.Asked.{set_handed}
use Rattle.digits.specs.Put.{Put, PutSome}
use Rattle.digits.proofs.Puts.{put_none, put_put}
use Rattle.sheet_lines.specs.Texts.{set_text}
use Rattle.sheet_lines.specs.Lines.{Shows, IsLine, IsLines}
use Rattle.sheet_lines.proofs.Settled as Settled

module _ (s : Shape) (labels entries : List ℕ) (set : ℕ) where
  -- What the question of the set's rows hands out is what the line shows.
  module _ (r z r' z' : List ℕ) (a : Answer) (chosen : ℕ) (long : length labels ≡ s.d)
      (same : (k : ℕ) → k < length labels → bit chosen k ≡ of_set set labels k)
      (an : Answered s.p s.d s.e chosen entries r z a r' z') where
    pub shows_open : a.opens ≡ true → Shows s labels entries set true r'
    shows_open q =
        let h = set_handed s labels entries set r z r' z' a chosen (λ k l. same k (omega (arith, long))) an true q in (h.0, h.1)

    pub shows_closed : a.opens ≡ false → Shows s labels entries set false z'
    shows_closed q =
        let h = set_handed s labels entries set r z r' z' a chosen (λ k l. same k (omega (arith, long))) an false q in (h.0, h.1)

  pub line_put : (b : List ℕ) (at : ℕ) (opens : Bool) (vector : List ℕ) {a : List ℕ} {end : ℕ} → Shows s labels entries set opens vector
      → Put b at (set_text s.p set opens vector) end a → PutSome (IsLine s labels entries set) b at end a
  line_put b at opens vector h x = record {
    text = set_text s.p set opens vector;
    is = record { opens = opens; vector = vector; shows = h; says = refl };
    put = x;
  }

module _ (s : Shape) (labels entries : List ℕ) (first : ℕ) where
  pub lines_none : (b : List ℕ) (at : ℕ) → PutSome (IsLines s labels entries first 0) b at at b
  lines_none b at = record { text = []; is = refl; put = put_none b at }

  -- The last line stands behind those before it.
  pub lines_more : (b : List ℕ) (at i : ℕ) {a₁ a₂ : List ℕ} {m end : ℕ} → PutSome (IsLines s labels entries first i) b at m a₁
      → PutSome (IsLine s labels entries (first + i)) a₁ m end a₂ → PutSome (IsLines s labels entries first (i + 1)) b at end a₂
  lines_more b at i x y = rw (add-one i) (record {
    text = x.text ++ y.text;
    is = (x.text, y.text, x.is, y.is, refl);
    put = put_put b at x.text y.text x.put y.put;
  })

  -- Lines of more sets stand behind those before them.
  pub lines_join : (b : List ℕ) (at i count : ℕ) {a₁ a₂ : List ℕ} {m end : ℕ} → PutSome (IsLines s labels entries first i) b at m a₁
      → PutSome (IsLines s labels entries (first + i) count) a₁ m end a₂ → PutSome (IsLines s labels entries first (i + count)) b at end
      a₂
  lines_join b at i count x y = record {
    text = x.text ++ y.text;
    is = Settled.lines_join s labels entries first i count x.text y.text x.is y.is;
    put = put_put b at x.text y.text x.put y.put;
  }

  pub lines_end : (b : List ℕ) (at i count : ℕ) {a : List ℕ} {end : ℕ} → i ≡ count → PutSome (IsLines s labels entries first i) b at end a
      → PutSome (IsLines s labels entries first count) b at end a
  lines_end b at i count e x = rw e at x
