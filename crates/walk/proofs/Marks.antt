-- What a turn of the walk over the rows does to the marks of a table, and what the row gives at which the target turns up.
-- Assumes nothing.
use mathlib.Core.Path.{◌≡◌, refl, sym, ◌∙◌, subst, subst⁻¹}
use mathlib.Core.Bool.{Bool, true, false, ◌&&◌, true≢false}
use mathlib.Core.List.{List, ◌++◌}
use mathlib.Core.Logic.{⊎_elim}
use Prim.Native.Nat.{ℕ, zero, suc, ◌<◌, ◌≤◌, ◌+◌, ◌-◌}
use native.Mathlib.Omega.{arith}
use lib.Dec.{eqb, ltb}
use lib.ListN.{length, get_or, set, take, drop, replicate, length-set, length-append, length-drop, get_or-replicate, get_or-eq_default}
use lib.Seq.{get_or-set_same, get_or-set_other, take_at, length-take-le}
use borrow.Author.Tests.{eqb-true, eq-eqb}
use Rattle.algebra.proofs.Cases.{lt_or_ge}
use Rattle.residue.specs.Prime.{Prime}
use Rattle.linear.specs.Flat.{place, entry}
use Rattle.linear.specs.Rows.{OpeningVector, Witness}
use Rattle.lines.specs.Line.{Low}
use Rattle.backward.specs.Solution.{Opened, Killed}
use Rattle.rows.specs.State.{Unmet, Next}
use Rattle.rows.proofs.Turns.{Stored, store_room, opening_end, witness_end, next_out}
use Rattle.rows.proofs.Verdict.{unmet_next}
use Rattle.walk.specs.Going.{Marks, Agree, Opens, Walked, Kills}
use Rattle.walk.proofs.Same.{unmet_same, unmet_set}

module _ (p f : ℕ) (E : ℕ → ℕ → ℕ) where
  pub marks_start : (chosen : ℕ → Bool) (counts : List ℕ) (t : List (List ℕ)) → length counts ≡ 33 → place counts 0 ≡ 0
      → Unmet p f E chosen 0 0 t → Marks p f E chosen 0 counts t
  marks_start chosen counts t n z u = record {
    len = n;
    unmet = first;
    rising = λ j k l lk. let q : j ≡ k = omega arith in rw q (omega arith);
  }
    where
      first : (k : ℕ) → k ≤ 0 → Unmet p f E chosen k (place counts k) t
      first zero l = subst⁻¹ (λ (s : ℕ). Unmet p f E chosen 0 s t) z u
      first (suc k) l = absurd (omega arith)

  -- Another choice that agrees up to row k can go on from there.
  pub marks_agree : (chosen other : ℕ → Bool) (at k : ℕ) (counts : List ℕ) (t : List (List ℕ)) → Agree k chosen other → k ≤ at
      → Marks p f E chosen at counts t → Marks p f E other k counts t
  marks_agree chosen other at k counts t e l m = record {
    len = m.len;
    unmet = λ j lj. unmet_same p f E chosen other j (place counts j) t (λ i li. e i (omega arith)) (m.unmet j (omega arith));
    rising = λ i j li lj. m.rising i j li (omega arith);
  }

  -- A table whose first lines are the same and a count more.
  pub marks_more : (chosen : ℕ → Bool) (k : ℕ) (counts : List ℕ) (t : List (List ℕ)) (s' : ℕ) (t' : List (List ℕ)) → k < 32
      → Marks p f E chosen k counts t → ((j : ℕ) → j ≤ k → Unmet p f E chosen j (place counts j) t') → Unmet p f E chosen (k + 1) s' t'
      → place counts k ≤ s'
      → Marks p f E chosen (k + 1) (set counts (k + 1) s') t'
  marks_more chosen k counts t s' t' l m olds u le = record {
    len = length-set counts (k + 1) s' ∙ m.len;
    unmet = λ j lj. ⊎_elim
        (λ (a : j < k + 1). subst⁻¹ (λ (s : ℕ). Unmet p f E chosen j s t') (old j (omega arith)) (olds j (omega arith)))
        (λ (a : k + 1 ≤ j). let q : j ≡ k + 1 = omega arith in
        subst⁻¹ (λ (j : ℕ). Unmet p f E chosen j (place (set counts (k + 1) s') j) t') q
        (subst⁻¹ (λ (s : ℕ). Unmet p f E chosen (k + 1) s t') new u))
        (lt_or_ge j (k + 1));
    rising = λ i j li lj. ⊎_elim
        (λ (a : j < k + 1). let x = old i (omega arith) in let y = old j (omega arith) in let z = m.rising i j li (omega arith) in omega
        arith)
        (λ (a : k + 1 ≤ j). ⊎_elim
        (λ (b : i < k + 1). let q : j ≡ k + 1 = omega arith in subst⁻¹ (λ (j : ℕ). place (set counts (k + 1) s') i ≤ place (set counts (k
        + 1) s') j) q
        (let x = old i (omega arith) in let z = m.rising i k (omega arith) (omega arith) in let w = new in omega arith))
        (λ (b : k + 1 ≤ i). let q : i ≡ j = omega arith in rw q (omega arith))
        (lt_or_ge i (k + 1)))
        (lt_or_ge j (k + 1));
  }
    where
      old : (j : ℕ) → j ≤ k → place (set counts (k + 1) s') j ≡ place counts j
      old j lj = get_or-set_other counts (k + 1) j s' 0 (λ q. omega arith)

      new : place (set counts (k + 1) s') (k + 1) ≡ s'
      new = get_or-set_same counts (k + 1) s' 0 (omega (arith, m.len))

-- A list that can stand for the line of a row that is not chosen.
alike_low : (p e : ℕ) → e ≤ 12 → Low p (replicate 27 e)
alike_low p e le lp i = ⊎_elim
    (λ (l : i < 27). rw (get_or-replicate 27 i e 0 l) (omega arith))
    (λ (l : 27 ≤ i). rw (get_or-eq_default (replicate 27 e) 0 l) (omega arith))
    (lt_or_ge i 27)

-- A row that is not chosen is passed.
pub marks_skip : (p e f d : ℕ) (E : List ℕ) (chosen : ℕ → Bool) → e ≡ suc f → Prime p → e ≤ 12 → (k s : ℕ) (counts : List ℕ)
    (t : List (List ℕ)) → Marks p f (entry e E) chosen k counts t → s ≡ place counts k → k < 32 → chosen k ≡ false
    → Marks p f (entry e E) chosen (k + 1) (set counts (k + 1) s) t
marks_skip p e f d E chosen q H le k s counts t m here l out = marks_more p f (entry e E) chosen k counts t s t l m m.unmet
    (unmet_next p e f d E chosen q k s t (subst⁻¹ (λ (s : ℕ). Unmet p f (entry e E) chosen k s t) here (m.unmet k (omega arith)))
    (replicate 27 e) H le
    (next_out p e k s (ltb s e && chosen k) E t (replicate 27 e) (unwanted (ltb s e) (chosen k) out) (refl, alike_low p e le) refl)
    s t (λ z. omega (arith, z)) ((λ z. absurd (omega (arith, z))), λ z. (refl, refl))) (omega arith)
  where
    unwanted : (a b : Bool) → b ≡ false → (a && b) ≡ false
    unwanted true b h = h
    unwanted false b h = refl

module _ (p e f d : ℕ) (E : List ℕ) (chosen : ℕ → Bool) (q : e ≡ suc f) (H : Prime p) (le : e ≤ 12) (k s : ℕ) (counts : List ℕ)
    (t : List (List ℕ))
    (m : Marks p f (entry e E) chosen k counts t) (here : s ≡ place counts k) (v : List ℕ)
    (nx : Next p e k s (ltb s e && chosen k) E t v) where
  pub unmet_here : Unmet p f (entry e E) chosen k s t
  unmet_here = subst⁻¹ (λ (s : ℕ). Unmet p f (entry e E) chosen k s t) here (m.unmet k (omega arith))

  -- A row that does not give the target.
  pub marks_next : (s' : ℕ) (t' : List (List ℕ)) → k < 32 → (get_or v 25 0 + 1 ≡ e → ⊥) → Stored e s v t s' t'
      → Marks p f (entry e E) chosen (k + 1) (set counts (k + 1) s') t'
  marks_next s' t' l ne so = marks_more p f (entry e E) chosen k counts t s' t' l m olds
      (unmet_next p e f d E chosen q k s t unmet_here v H le nx s' t' ne so) more
    where
      olds : (j : ℕ) → j ≤ k → Unmet p f (entry e E) chosen j (place counts j) t'
      olds j lj = ⊎_elim
          (λ (a : get_or v 25 0 < e).
          let room = store_room p e f d E chosen q k s t unmet_here.state v H le nx a in
          let r = m.rising j k lj (omega arith) in
          subst⁻¹ (λ (t : List (List ℕ)). Unmet p f (entry e E) chosen j (place counts j) t) (so.0 a).1
          (unmet_set p f (entry e E) chosen j (place counts j) t s v (omega (arith, here))
          (omega (arith, unmet_here.state.len)) nx.shape.low (m.unmet j lj)))
          (λ (a : e ≤ get_or v 25 0).
          subst⁻¹ (λ (t : List (List ℕ)). Unmet p f (entry e E) chosen j (place counts j) t) (so.1 a).1 (m.unmet j lj))
          (lt_or_ge (get_or v 25 0) e)

      more : place counts k ≤ s'
      more = ⊎_elim
          (λ (a : get_or v 25 0 < e). omega (arith, here, (so.0 a).0))
          (λ (a : e ≤ get_or v 25 0). omega (arith, here, (so.1 a).0))
          (lt_or_ge (get_or v 25 0) e)

  -- The row that gives the target.
  pub opens_here : get_or v 25 0 + 1 ≡ e → (r r' : List ℕ) → length r ≡ d → Opened p k s t v r r' → Opens p d e (entry e E) chosen k r'
  opens_here z r r' n o other agree = subst⁻¹ (λ (e' : ℕ). OpeningVector p d e' (entry e E) other (place r')) q
      (opening_end p e f d E other q k s t
      (unmet_same p f (entry e E) chosen other k s t (λ j l. agree j (omega arith)) unmet_here).state v H
      (subst (λ (b : Bool). Next p e k s (ltb s e && b) E t v) (agree k (omega arith)) nx) z r r' n o)

-- The first e of the numbers of an array of 32.
pub part_length : (e : ℕ) (own : List ℕ) → length own ≡ 32 → e ≤ 32 → length (take e own) ≡ e
part_length e own n l = length-take-le e own (omega arith)

-- A part that came back: the rest of the list is as it was.
pub part_whole : (e : ℕ) (own z : List ℕ) → length own ≡ 32 → e ≤ 32 → length z ≡ e → length (z ++ drop e own) ≡ 32
part_whole e own z n l lz = simp (length-append, length-drop) (omega arith)

pub kills_row : (p e lines : ℕ) (t : List (List ℕ)) (y z rest : List ℕ) → Prime p → 1 ≤ e → ((i : ℕ) → get_or y i 0 < p) → get_or y (e - 1) 0
    ≡ 1
    → Killed p lines t (e - 1) 0 y → length z ≡ e → length (z ++ rest) ≡ 32 → get_or z 0 0 ≡ get_or y (e - 1) 0
    → ((i : ℕ) → i < e - 1 → get_or z (1 + i) 0 ≡ get_or y i 0) → Kills p e lines t (z ++ rest)
kills_row p e lines t y z rest H l small one kills n whole z0 zs = record {
  len = whole;
  is = λ d m chosen u. subst⁻¹ (λ (l : List ℕ). Witness p d e (entry e m) chosen (place l)) (take_at z rest e n)
      (subst⁻¹ (λ (e' : ℕ). Witness p d e' (entry e m) chosen (place z)) q
      (witness_end p e (e - 1) d m chosen q lines t u.state H y z small one kills z0 zs));
}
  where
    q : e ≡ suc (e - 1)
    q = omega arith

-- The test of a line's pivot, where it holds and where it fails.
pub it_is_here : {here : Bool} {x y : ℕ} → here ≡ eqb x y → here ≡ true → x ≡ y
it_is_here {here} {x} {y} e h = eqb-true x y (sym e ∙ h)

pub it_is_not_here : {here : Bool} {x y : ℕ} → here ≡ eqb x y → here ≡ false → x ≡ y → ⊥
it_is_not_here {here} {x} {y} e h q = true≢false (sym (eq-eqb x y q) ∙ sym e ∙ h)

-- Where another choice agrees up to and with the row that gave the target, the walk over it ends there too.
pub walked_again : (p d e : ℕ) (E : ℕ → ℕ → ℕ) (chosen other : ℕ → Bool) (row k : ℕ) (counts : List ℕ) (t : List (List ℕ)) (r : List ℕ)
    → row < k → Agree k chosen other → Walked p d e E chosen row counts t r → Walked p d e E other row counts t r
walked_again p d e E chosen other row k counts t r l agree w = record {
  within = w.within;
  marks = marks_agree p (e - 1) E chosen other row row counts t (λ j lj. agree j (omega arith)) (omega arith) w.marks;
  opens = λ ld third more. w.opens ld third (λ j lj. agree j (omega arith) ∙ more j lj);
}
