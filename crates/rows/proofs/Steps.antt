-- From the numbers of a line to the field: what a row gives is a turn of the elimination.
-- Assumes nothing.
use mathlib.Core.Path.{◌≡◌, refl, sym, ap, ap₂, ◌∙◌}
use mathlib.Core.List.{List, []}
use mathlib.Core.Bool.{Bool, true, false, cond}
use Prim.Native.Nat.{ℕ, zero, suc, ◌<◌, ◌+◌, ◌-◌, ◌*◌}
use native.Mathlib.Omega.{arith}
use lib.Dec.{ltb}
use lib.ListN.{length, get_or, set}
use lib.Seq.{get_or-set_same, get_or-set_other}
use Rattle.algebra.specs.Sum.{sum}
use Rattle.residue.specs.Prime.{Prime}
use Rattle.residue.specs.Residue.{F, res, ◌⊕◌, ◌⊗◌, neg}
use Rattle.residue.proofs.Field.{residue_ring, residues, res_mod}
use Rattle.linear.specs.Flat.{entry}
use Rattle.echelon.specs.Basis.{Basis, Reduced}
use Rattle.echelon.proofs.Steps.{skip, keep}
use Rattle.echelon.proofs.Rank.{room}
use Rattle.lines.specs.Line.{at, col_sum, left, Lined}
use Rattle.backward.specs.Solution.{line_of, lines_of}
use Rattle.backward.proofs.Turns.{res_col, res_times}
use Rattle.rows.specs.State.{work_of, State, row_at}

module _ (p : ℕ) (H : Prime p) where
  module _ (f e k s : ℕ) (E : ℕ → ℕ → ℕ) (chosen : ℕ → Bool) (t : List (List ℕ)) (w : ℕ → ℕ) (v : List ℕ) (q : e ≡ suc f)
      (st : State p f E chosen k s t) (ln : Lined p e k s t w v)
      (row : (i : ℕ) → i < e → res p H (w i) ≡ work_of p H f E chosen k i) where
    abbrev g : ℕ → F p
    g l = res p H (get_or v (12 + l) 0)

    abbrev x : ℕ → F p
    x i = res p H (left p s t w v i)

    pub reduced : Reduced (residues p H) (suc f) (work_of p H f E chosen) s (lines_of p H t) (work_of p H f E chosen k) g x
    reduced = record {
      facs = λ j l. let u = st.pivs j l in ap (res p H) (ln.facs j l) ∙ ap (neg p H)
          (res_col p H (w (at t j 25)) j (λ l. get_or v (12 + l) 0) (λ l. at t l (at t j 25))
          ∙ ap (λ z. ◌⊕◌ p H z (sum (residue_ring p H) j (λ l. ◌⊗◌ p H (g l) (res p H (at t l (at t j 25))))))
          (row (at t j 25) (omega arith)));
      left = λ i l. res_mod p H (w i + col_sum v t s i) ∙ res_col p H (w i) s (λ l. get_or v (12 + l) 0) (λ l. at t l i)
          ∙ ap (λ z. ◌⊕◌ p H z (sum (residue_ring p H) s (λ l. ◌⊗◌ p H (g l) (res p H (at t l i))))) (row i (omega arith));
    }

    pub some_before : get_or v 25 0 < e → (i : ℕ) → i < get_or v 25 0 → x i ≡ res p H 0
    some_before l i li = ap (res p H) ((ln.some l).1 i li)

    pub some_unit : get_or v 25 0 < e → ◌⊗◌ p H (res p H (get_or v 24 0)) (x (get_or v 25 0)) ≡ res p H 1
    some_unit l = sym (res_times p H (get_or v 24 0) (left p s t w v (get_or v 25 0))) ∙ ap (res p H) (ln.some l).0

    pub basis_drop : get_or v 25 0 ≡ e → Basis (residues p H) (suc f) (work_of p H f E chosen) (suc k) s (lines_of p H t)
    basis_drop z = skip (residues p H) (suc f) (work_of p H f E chosen) k s (lines_of p H t) (st.basis H) g x reduced
        (λ i l. ap (res p H) (ln.none z i (omega arith)))

    -- The line that is to be kept has a place.
    pub space : get_or v 25 0 < e → s < suc f
    space l = room (residues p H) (suc f) (work_of p H f E chosen) k s (lines_of p H t) (st.basis H) g x (get_or v 25 0)
        (res p H (get_or v 24 0))
        reduced (omega arith) (some_before l) (some_unit l)

    pub basis_keep : get_or v 25 0 < e → s < length t
        → Basis (residues p H) (suc f) (work_of p H f E chosen) (suc k) (suc s) (lines_of p H (set t s v))
    basis_keep l fits = keep (residues p H) (suc f) (work_of p H f E chosen) k s (lines_of p H t) (st.basis H) (lines_of p H (set t s v)) g x
        (λ i. res p H (get_or v i 0)) g (get_or v 25 0) (res p H (get_or v 24 0)) reduced (omega arith) (some_before l) (some_unit l)
        (λ j lj. ap (line_of p H) (get_or-set_other t s j v [] (λ r. omega arith)))
        (ap (line_of p H) (get_or-set_same t s v [] fits)
        ∙ ap (λ (n : ℕ). record { vec = λ i. res p H (get_or v i 0); fac = g; inv = res p H (get_or v 24 0); piv = get_or v 25 0; src = n })
        ln.src)
        (λ i li. ap (res p H) ((ln.some l).2 i (omega arith)) ∙ res_times p H (get_or v 24 0) (left p s t w v i)) (λ i li. refl)

-- A chosen row of the entries in the working order, and one that is not chosen.
pub row_work : (p : ℕ) (H : Prime p) (e f k : ℕ) (m : List ℕ) (chosen : ℕ → Bool) → e ≡ suc f → chosen k ≡ true
    → (i : ℕ) → res p H (row_at e m k i) ≡ work_of p H f (entry e m) chosen k i
row_work p H e f k m chosen q h i =
    let z : e - 1 ≡ f = omega arith in
    ap (λ (a : ℕ). res p H (cond (ltb i a) (get_or m (k * e + (1 + i)) 0) (get_or m (k * e) 0))) z
    ∙ go (ltb i f)
  where
    go : (b : Bool) → res p H (cond b (get_or m (k * e + (1 + i)) 0) (get_or m (k * e) 0))
        ≡ cond b (res p H (cond (chosen k) (get_or m (k * e + suc i) 0) 0)) (res p H (cond (chosen k) (get_or m (k * e + zero) 0) 0))
    go true = ap₂ (λ b (n : ℕ). res p H (cond b (get_or m n 0) 0)) (sym h) (omega arith)
    go false = ap₂ (λ b (n : ℕ). res p H (cond b (get_or m n 0) 0)) (sym h) (omega arith)

pub row_out : (p : ℕ) (H : Prime p) (f k : ℕ) (E : ℕ → ℕ → ℕ) (chosen : ℕ → Bool) → chosen k ≡ false → (i : ℕ)
    → work_of p H f E chosen k i ≡ res p H 0
row_out p H f k E chosen h i = go (ltb i f)
  where
    go : (b : Bool) → cond b (res p H (cond (chosen k) (E k (suc i)) 0)) (res p H (cond (chosen k) (E k zero) 0)) ≡ res p H 0
    go true = ap (λ b. res p H (cond b (E k (suc i)) 0)) h
    go false = ap (λ b. res p H (cond b (E k zero) 0)) h
