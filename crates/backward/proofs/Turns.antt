-- The two backward loops: a turn over numbers is a turn over the field.
-- Assumes nothing.
use mathlib.Core.Path.{◌≡◌, refl, sym, ap, ◌∙◌, subst, subst⁻¹}
use mathlib.Core.Logic.{⊎_elim}
use mathlib.Core.List.{List}
use Prim.Native.Nat.{ℕ, suc, ◌<◌, ◌≤◌, ◌+◌, ◌-◌, ◌*◌, ◌%◌}
use native.Mathlib.Nat.{mod-eq_of_lt}
use native.Mathlib.Omega.{arith}
use lib.ListN.{length, get_or, set, length-set}
use lib.Seq.{get_or-set_same, get_or-set_other}
use Rattle.algebra.specs.Sum.{sum, dot}
use Rattle.algebra.proofs.Cases.{same?}
use Rattle.lists.proofs.Store.{below_set}
use Rattle.residue.specs.Prime.{Prime}
use Rattle.residue.specs.Residue.{res, ◌⊕◌, ◌⊗◌, neg}
use Rattle.residue.proofs.Field.{residue_ring, residues, res_mod, res_add, res_mul}
use Rattle.linear.specs.Combination.{total}
use Rattle.linear.proofs.Carry.{res_dot}
use Rattle.echelon.specs.Backward.{Solving, Killing}
use Rattle.echelon.proofs.Backward.{solve_start, solve_step, kill_start, kill_step}
use Rattle.lines.specs.Line.{at, col_sum, row_sum}
use Rattle.backward.specs.Solution.{lines_of, facs_of, vec_of, asked, Solved, Killed}

module _ (p : ℕ) (H : Prime p) where
  -- A sum of products with something before it, and a product, as residues.
  pub res_col : (a n : ℕ) (f g : ℕ → ℕ) → res p H (a + total n (λ l. f l * g l))
      ≡ ◌⊕◌ p H (res p H a) (dot (residue_ring p H) n (λ l. res p H (f l)) (λ l. res p H (g l)))
  res_col a n f g = sym (res_add p H a (total n (λ l. f l * g l))) ∙ ap (λ z. ◌⊕◌ p H (res p H a) z) (res_dot p H n f g)

  pub res_times : (a b : ℕ) → res p H (a * b % p) ≡ ◌⊗◌ p H (res p H a) (res p H b)
  res_times a b = res_mod p H (a * b) ∙ sym (res_mul p H a b)

res_minus : (p : ℕ) (H : Prime p) (x : ℕ) → x < p → res p H ((p - x) % p) ≡ neg p H (res p H x)
res_minus p H x l = res_mod p H (p - x) ∙ ap (λ (z : ℕ). res p H (p - z)) (sym (mod-eq_of_lt l))

pub kill_init : (p s f : ℕ) (t : List (List ℕ)) (y : List ℕ) → f < length y → ((i : ℕ) → get_or y i 0 ≡ 0) → Killed p s t f s (set y f 1)
kill_init p s f t y l z = record {
  is = λ H k W b. kill_start (residues p H) (suc f) W k s (lines_of p H t) b f (vec_of p H (set y f 1))
      (ap (res p H) (get_or-set_same y f 1 0 l)) (λ i li. ap (res p H) (get_or-set_other y f i 1 0 (λ q. omega arith) ∙ z i));
}

pub kill_go : (p e s f j j' x r : ℕ) (t : List (List ℕ)) (y : List ℕ) → e ≡ suc f → j ≡ suc j' → j ≤ s → at t j' 25 < f → f < length y
    → (x ≡ row_sum y t j' e % p) × (x < p) → r ≡ (p - x) % p → Killed p s t f j y → Killed p s t f j' (set y (at t j' 25) r)
kill_go p e s f j j' x r t y qe qj lj lc ly ex er o = record {
  is = λ H k W b.
      kill_step (residues p H) (suc f) W k s (lines_of p H t) b f j' (vec_of p H y) (vec_of p H (set y (at t j' 25) r)) (omega arith) lc
      (subst (λ (j : ℕ). Killing (residues p H) (suc f) W s (lines_of p H t) f j (vec_of p H y)) qj (o.is H k W b))
      (ap (res p H) (get_or-set_same y (at t j' 25) r 0 (omega arith) ∙ er) ∙ res_minus p H x ex.1
      ∙ ap (neg p H) (ap (res p H) (ex.0 ∙ ap (λ (n : ℕ). row_sum y t j' n % p) qe) ∙ res_mod p H (row_sum y t j' (suc f))
      ∙ res_dot p H (suc f) (λ i. get_or y i 0) (λ i. at t j' i)))
      (λ i ne. ap (res p H) (get_or-set_other y (at t j' 25) i r 0 ne));
}

-- r is 0 but for the inverse at row k, and no line is solved yet.
pub open_init : (p k s d q : ℕ) (t : List (List ℕ)) (v a r : List ℕ) → k < d → q ≡ get_or v 24 0 → ((i : ℕ) → get_or a i 0 ≡ 0)
    → get_or r k 0 ≡ q → ((i : ℕ) → (i ≡ k → ⊥) → get_or r i 0 ≡ 0) → Solved p k s t v d s a r
open_init p k s d q t v a r l eq za at-k zr = record {
  is = λ H n W goal fd.
      solve_start (residues p H) n W k s (lines_of p H t) fd.basis d goal (facs_of p H v) fd.x (asked p H v) (facs_of p H a)
      (vec_of p H r)
      fd.c (res p H (get_or v 24 0)) l fd.reduced fd.inside fd.unit fd.goals (λ l ll. refl) (λ l. ap (res p H) (za (12 + l)))
      (ap (res p H) (at-k ∙ eq)) (λ i ne. ap (res p H) (zr i ne));
}

-- The weight of line j: its inverse times what the goal and the lines solved so far ask of it.
abbrev pub weight_of : ℕ → ℕ → List (List ℕ) → List ℕ → List ℕ → ℕ → ℕ
weight_of p s t v a j = at t j 24 * ((get_or v 24 0 * get_or v (12 + j) 0 % p + col_sum a t s (12 + j)) % p) % p

pub open_go : (p k s d j j' x : ℕ) (t : List (List ℕ)) (v a r : List ℕ) → j ≡ suc j' → j ≤ s → k ≤ d → 12 + j' < length a
    → at t j' 26 < length r
    → x ≡ weight_of p s t v a j' → Solved p k s t v d j a r → Solved p k s t v d j' (set a (12 + j') x) (set r (at t j' 26) x)
open_go p k s d j j' x t v a r qj lj ld la lr ex o = record {
  is = λ H n W goal fd.
      solve_step (residues p H) n W k s (lines_of p H t) fd.basis d goal (asked p H v) j'
      (facs_of p H a) (vec_of p H r) (facs_of p H (set a (12 + j') x)) (vec_of p H (set r (at t j' 26) x)) ld (omega arith)
      (subst (λ (j : ℕ). Solving (residues p H) n W s (lines_of p H t) d goal (asked p H v) j (facs_of p H a) (vec_of p H r)) qj
      (o.is H n W goal fd))
      (ap (res p H) (get_or-set_same a (12 + j') x 0 la ∙ ex) ∙ res_times p H (at t j' 24) (h % p)
      ∙ ap (λ z. ◌⊗◌ p H (res p H (at t j' 24)) z)
      (res_mod p H h ∙ res_col p H b s (λ l. get_or a (12 + l) 0) (λ l. at t l (12 + j'))
      ∙ ap (λ z. ◌⊕◌ p H z (sum (residue_ring p H) s (λ l. ◌⊗◌ p H (facs_of p H a l) (res p H (at t l (12 + j'))))))
      (res_times p H (get_or v 24 0) (get_or v (12 + j') 0))))
      (λ l ne. ap (res p H) (get_or-set_other a (12 + j') (12 + l) x 0 (λ q. ne (omega arith))))
      (ap (res p H) (get_or-set_same r (at t j' 26) x 0 lr ∙ sym (get_or-set_same a (12 + j') x 0 la)))
      (λ i ne. ap (res p H) (get_or-set_other r (at t j' 26) i x 0 ne));
}
  where
    b : ℕ
    b = get_or v 24 0 * get_or v (12 + j') 0 % p

    h : ℕ
    h = b + col_sum a t s (12 + j')

-- What holds in the loop of `opening` while the lines below j are still to be solved.
pub record Openings (p k s : ℕ) (t : List (List ℕ)) (v : List ℕ) (d j : ℕ) (a r : List ℕ) : Type 0 where
  pub upto : j ≤ s
  pub lenr : length r ≡ d
  pub lena : length a ≡ 27
  pub smalla : (i : ℕ) → get_or a i 0 < p
  pub smallr : (i : ℕ) → get_or r i 0 < p
  pub solved : Solved p k s t v d j a r

pub openings_start : (p k s d q : ℕ) (t : List (List ℕ)) (v a r : List ℕ) → k < d → q ≡ get_or v 24 0 → q < p → length r ≡ d → length a ≡ 27
    → ((i : ℕ) → get_or a i 0 ≡ 0) → get_or r k 0 ≡ q → ((i : ℕ) → (i ≡ k → ⊥) → get_or r i 0 ≡ 0) → Openings p k s t v d s a r
openings_start p k s d q t v a r l eq lq nr na za at-k zr = record {
  upto = omega arith;
  lenr = nr;
  lena = na;
  smalla = λ i. rw (za i) (omega arith);
  smallr = λ i. ⊎_elim (λ (e : i ≡ k). subst⁻¹ (λ (i : ℕ). get_or r i 0 < p) e (subst⁻¹ (λ (x : ℕ). x < p) at-k lq))
      (λ ne. rw (zr i ne) (omega arith)) (same? i k);
  solved = open_init p k s d q t v a r l eq za at-k zr;
}

pub openings_turn : (p k s d j x : ℕ) (t : List (List ℕ)) (v a r : List ℕ) → 0 < j → s ≤ 12 → k < d → at t (j - 1) 26 < k
    → (x ≡ weight_of p s t v a (j - 1)) × (x < p) → Openings p k s t v d j a r
    → Openings p k s t v d (j - 1) (set a (12 + (j - 1)) x) (set r (at t (j - 1) 26) x)
openings_turn p k s d j x t v a r lj ls lk lr ex o = let u = o.upto in let na = o.lena in let nr = o.lenr in record {
  upto = omega arith;
  lenr = length-set r (at t (j - 1) 26) x ∙ o.lenr;
  lena = length-set a (12 + (j - 1)) x ∙ o.lena;
  smalla = below_set p a (12 + (j - 1)) x (omega arith) ex.1 o.smalla;
  smallr = below_set p r (at t (j - 1) 26) x (omega arith) ex.1 o.smallr;
  solved = open_go p k s d j (j - 1) x t v a r (omega arith) u (omega arith) (omega arith) (omega arith) ex.0 o.solved;
}

-- What holds in the loop of `killing` while the lines below j do not count yet.
pub record Killings (p s : ℕ) (t : List (List ℕ)) (f j : ℕ) (y : List ℕ) : Type 0 where
  pub upto : j ≤ s
  pub len : length y ≡ 27
  pub small : (i : ℕ) → get_or y i 0 < p
  pub one : get_or y f 0 ≡ 1
  pub killed : Killed p s t f j y

pub killings_start : (p s f : ℕ) (t : List (List ℕ)) (y : List ℕ) → 1 < p → f < 27 → length y ≡ 27 → ((i : ℕ) → get_or y i 0 ≡ 0)
    → Killings p s t f s (set y f 1)
killings_start p s f t y lp lf n z = record {
  upto = omega arith;
  len = length-set y f 1 ∙ n;
  small = below_set p y f 1 (omega arith) lp (λ i. rw (z i) (omega arith));
  one = get_or-set_same y f 1 0 (omega arith);
  killed = kill_init p s f t y (omega arith) z;
}

pub killings_turn : (p e s f j x r : ℕ) (t : List (List ℕ)) (y : List ℕ) → e ≡ suc f → e ≤ 12 → 0 < j → at t (j - 1) 25 < f
    → (x ≡ row_sum y t (j - 1) e % p) × (x < p) → (r ≡ (p - x) % p) × (r < p) → Killings p s t f j y
    → Killings p s t f (j - 1) (set y (at t (j - 1) 25) r)
killings_turn p e s f j x r t y qe le lj lc ex er o = let u = o.upto in let n = o.len in record {
  upto = omega arith;
  len = length-set y (at t (j - 1) 25) r ∙ o.len;
  small = below_set p y (at t (j - 1) 25) r (omega arith) er.1 o.small;
  one = get_or-set_other y (at t (j - 1) 25) f r 0 (λ q. omega arith) ∙ o.one;
  killed = kill_go p e s f j (j - 1) x r t y qe (omega arith) u lc (omega arith) ex er.0 o.killed;
}
