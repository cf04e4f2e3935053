-- The places of the answers: one more set's answer is put in its place.
-- Assumes nothing.
use Rattle.std.specs.Prelude.{Option, Some, None}
use mathlib.Core.Path.{◌≡◌, refl, ap, ◌∙◌, subst⁻¹}
use mathlib.Core.Bool.{Bool}
use mathlib.Core.List.{List, ◌++◌}
use mathlib.Core.Logic.{⊎_elim}
use Prim.Native.Nat.{ℕ, ◌<◌, ◌+◌}
use native.Mathlib.Omega.{arith}
use lib.ListN.{length, get_or, set, take, length-set}
use lib.Seq.{get_or-set_same, get_or-set_other, take_at}
use Rattle.algebra.proofs.Cases.{same?}
use Rattle.linear.specs.Bits.{bit}
use Rattle.linear.specs.Flat.{place, entry}
use Rattle.linear.specs.Rows as Rows
use Rattle.linear.proofs.Rows.{opening_same, witness_same}
use Rattle.lines.specs.Line.{Lows}
use Rattle.scheme.specs.declared.Shape.{Shape}
use Rattle.scheme.specs.Sets.{of_set}
use Rattle.walk.specs.Going.{Walked}
use Rattle.walk.specs.declared.Answer.{Answer}
use Rattle.walk.specs.declared.Answer.TheVariants.{Open, Closed}
use Rattle.walk.specs.Answers.{Told, Says, Kept}

module _ (s : Shape) (labels entries : List ℕ) where
  pub kept_put : (base : ℕ) (slots : List (Option Answer)) (x : ℕ) (own : Option Answer) → Kept s labels entries base slots → x < 4096
      → Says s labels entries (base + x) own → Kept s labels entries base (set slots x own)
  kept_put base slots x own k l says = (
    length-set slots x own ∙ k.0,
    λ y ly. ⊎_elim
        (λ (q : y ≡ x). subst⁻¹ (λ (y : ℕ). Says s labels entries (base + y) (get_or (set slots x own) y None)) q
        (subst⁻¹ (Says s labels entries (base + x)) (get_or-set_same slots x own None (omega (arith, k.0))) says))
        (λ ne. subst⁻¹ (Says s labels entries (base + y)) (get_or-set_other slots x y own None ne) (k.1 y ly))
        (same? y x),
  )

  -- What the walk over a set's rows answers is what its place says.
  module _ (number chosen row : ℕ) (counts : List ℕ) (t : List (List ℕ)) (r : List ℕ) (long : length labels ≡ s.d)
      (bits : (k : ℕ) → k < length labels → bit chosen k ≡ of_set number labels k) (n : length r ≡ 32)
      (w : Walked s.p s.d s.e (entry s.e entries) (bit chosen) row counts t (take s.d r)) where
    same : (k : ℕ) → k < s.d → bit chosen k ≡ of_set number labels k
    same k l = bits k (omega arith)

    pub says_answer : (own : Answer) → Told s.p s.d s.e row (place counts s.d) t r own → Says s labels entries number (Some own)
    says_answer (Open own) h = (
      ap length h.1 ∙ n,
      opening_same s.p s.d s.e (entry s.e entries) (entry s.e entries) (bit chosen) (of_set number labels) (λ k j lk lj. refl) same
          (place (take s.d own))
          (subst⁻¹ (λ (l : List ℕ). Rows.OpeningVector s.p s.d s.e (entry s.e entries) (bit chosen) (place (take s.d l))) h.1
          (w.opens h.0 (bit chosen) (λ j l. refl))),
    )
    says_answer (Closed own) h = (
      h.1.len,
      witness_same s.p s.d s.e (entry s.e entries) (entry s.e entries) (bit chosen) (of_set number labels) (λ k j lk lj. refl) same
          (place (take s.e own)) (h.1.is s.d entries (bit chosen) (w.marks.unmet s.d h.0)),
    )

-- A part of r lent from its first place on, and come back.
module _ (p d e : ℕ) (E : ℕ → ℕ → ℕ) (chosen : ℕ → Bool) (row : ℕ) (counts : List ℕ) (t : List (List ℕ)) where
  pub walked_back : (z rest : List ℕ) → length z ≡ d → Walked p d e E chosen row counts t z
      → Walked p d e E chosen row counts t (take d (z ++ rest))
  walked_back z rest n w = subst⁻¹ (λ (l : List ℕ). Walked p d e E chosen row counts t l) (take_at z rest d n) w

  -- What the answer asks of the table.
  pub walked_lows : {r : List ℕ} → Walked p d e E chosen row counts t r → Lows p t
  walked_lows w = (w.marks.unmet 0 (omega arith)).state.lows

-- A turn: the set at place x has its answer.
pub kept_turn : (s : Shape) (labels entries : List ℕ) (base x chosen row : ℕ) (counts : List ℕ) (t : List (List ℕ)) (r : List ℕ)
    (own : Answer) (slots : List (Option Answer)) → length labels ≡ s.d
    → ((k : ℕ) → k < length labels → bit chosen k ≡ of_set (base + x) labels k) → length r ≡ 32
    → Walked s.p s.d s.e (entry s.e entries) (bit chosen) row counts t (take s.d r) → Told s.p s.d s.e row (place counts s.d) t r own
    → x < 4096 → Kept s labels entries base slots → Kept s labels entries base (set slots x (Some own))
kept_turn s labels entries base x chosen row counts t r own slots long bits n w a l k =
    kept_put s labels entries base slots x (Some own) k l
    (says_answer s labels entries (base + x) chosen row counts t r long bits n w own a)
