-- What the calls that print answer, from what the steps below them leave: a text put over the first places of the lent list.
-- Assumes nothing.
use Rattle.std.specs.Prelude.{Result, Ok, Err}
use mathlib.Core.Path.{◌≡◌, refl, sym, ap, ◌∙◌}
use mathlib.Core.Bool.{true}
use mathlib.Core.List.{List}
use Prim.Native.Nat.{ℕ, ◌+◌, ◌^◌, ◌≤◌}
use native.Mathlib.Omega.{arith}
use lib.Dec.{eqb}
use lib.ListN.{length}
use lib.Pow.{pow_mono}
use borrow.Author.Tests.{eqb-true, ltb-true}
use Rattle.scheme.specs.declared.Shape.{Shape}
use Rattle.scheme.specs.declared.Refusal.{Refusal}
use Rattle.scheme.specs.Refusal.{refusal_of, check_refusal, set_refusal_lem}
use Rattle.scheme.proofs.Refusals.{valid, Parts, parts, refusal_more, or_else_ok, unless_ok}
use Rattle.digits.specs.Put.{Put, PutSome}
use Rattle.digits.proofs.Puts.{put_first}
use Rattle.sheets.specs.Says.{PrintSays, line_refusal_lem}

-- A line that is not refused is of a scheme and one of its sets, in 256 places.
module _ (s : Shape) (labels entries : List ℕ) (set places : ℕ) (h : line_refusal_lem s labels entries set places ≡ Ok tt) where
  tests : Parts s labels entries (eqb places 256) (set_refusal_lem s.n set)
  tests = parts s labels entries (eqb places 256) (set_refusal_lem s.n set) h

  pub line_scheme : check_refusal s labels entries ≡ Ok tt
  line_scheme =
      ap (λ b. refusal_of s labels entries b (Ok tt)) (sym tests.own)
      ∙ (or_else_ok _ _ (sym (refusal_more s labels entries (eqb places 256) (set_refusal_lem s.n set)) ∙ h)).0

  pub line_right : (set + 1 ≤ 65536) × (256 ≤ places)
  line_right =
      let few : 2 ^ s.n ≤ 65536 = pow_mono {i = s.n} {j = 16} (valid s labels entries true line_scheme).n_high in
      let below = ltb-true set (2 ^ s.n) (unless_ok _ _ tests.after) in
      (omega (arith, few, below), omega (arith, eqb-true places 256 tests.own))

module _ (refusal : Result Unit Refusal) (Is : List ℕ → Type 0) (out : List ℕ) where
  pub print_bytes : {after : List ℕ} {end : ℕ} → refusal ≡ Ok tt → PutSome Is out 0 end after → end ≤ length out
      → PrintSays refusal Is out (Ok end) after
  unfolding PrintSays
  print_bytes h x room = (
    h,
    (x.text, x.is, omega (arith, x.put.0), room, put_first out x.text x.put (omega (arith, x.put.0, room))),
  )

  pub print_refused : (k : Refusal) → refusal ≡ Err k → PrintSays refusal Is out (Err k) out
  unfolding PrintSays
  print_refused k e = (e, refl)

-- The same text under another name.
pub put_as : (Is As : List ℕ → Type 0) {before after : List ℕ} {at end : ℕ} → ((text : List ℕ) → Is text → As text)
    → PutSome Is before at end after → PutSome As before at end after
put_as Is As f x = record { text = x.text; is = f x.text x.is; put = x.put }

-- A text that was put is some text.
pub put_is : (b t : List ℕ) {a : List ℕ} {end : ℕ} → Put b 0 t end a → PutSome (λ text. text ≡ t) b 0 end a
put_is b t x = record { text = t; is = refl; put = x }
