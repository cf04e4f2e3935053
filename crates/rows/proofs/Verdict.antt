-- Open or closed without r and z: the rows are gone through until a line has its pivot at the last place, and are open where one has.
-- Assumes nothing.
use mathlib.Core.Path.{◌≡◌, refl, sym, ap, ◌∙◌, subst, subst⁻¹}
use mathlib.Core.List.{List, []}
use mathlib.Core.Bool.{Bool, ◌&&◌}
use mathlib.Core.Logic.{⊎_elim}
use Prim.Native.Nat.{ℕ, suc, ◌<◌, ◌≤◌, ◌+◌}
use native.Mathlib.Nat.{not-suc-le-zero}
use native.Mathlib.Omega.{arith}
use lib.Dec.{ltb}
use lib.ListN.{length, get_or, set}
use lib.Seq.{get_or-set_same}
use Rattle.algebra.specs.Ring.{Field}
use Rattle.algebra.proofs.Cases.{lt_or_ge}
use Rattle.algebra.proofs.Ring.{zero_mul}
use Rattle.algebra.proofs.Sum.{sum_zero, put_lt, put_at}
use Rattle.residue.specs.Prime.{Prime}
use Rattle.residue.specs.Residue.{res}
use Rattle.residue.proofs.Field.{residue_ring, residues}
use Rattle.linear.specs.Flat.{entry}
use Rattle.linear.specs.Space.{Comb}
use Rattle.linear.specs.Combination.{Combination}
use Rattle.linear.specs.Rows.{target, Open, Closed}
use Rattle.linear.proofs.Carry.{comb_up, comb_down}
use Rattle.linear.proofs.Comb.{comb_over, comb_resp}
use Rattle.linear.proofs.Masked.{rows_of, comb_mask}
use Rattle.linear.proofs.Numbers.{functional_none}
use Rattle.linear.proofs.Rows.{open_or_closed, opening_open, witness_functional}
use Rattle.echelon.specs.Basis.{Line, Basis}
use Rattle.echelon.specs.Order.{goal, matrix}
use Rattle.echelon.proofs.Order.{to_order, from_order}
use Rattle.echelon.proofs.Steps.{pinned}
use Rattle.lines.specs.Line.{Lows}
use Rattle.backward.specs.Solution.{lines_of}
use Rattle.rows.specs.State.{work_of, State, Unmet, Next}
use Rattle.rows.proofs.Turns.{Stored, state_start, state_next, pivots_next, store_room}

-- The target in the working order, over lines of which the last pivot place is f.
module _ {A : Type 0} (K : Field A) (f : ℕ) (w : ℕ → ℕ → A) (m s : ℕ) (S : ℕ → Line A) (b : Basis K (suc f) w m s S) where
  open K use {R}
  open R use {𝟘, 𝟙, ◌⊗◌}

  infixl 70 ◌⊗◌
  -- A line with its pivot at the last place is the target.
  goal_line : (j : ℕ) → j < s → (S j).piv ≡ f → Comb K (suc f) w m (goal K f)
  goal_line j lj e = comb_resp K (suc f) w m (S j).vec (goal K f) (λ i li. ⊎_elim
      (λ (a : i < f). b.lead j lj i (omega arith) ∙ sym (put_lt R f (λ i. 𝟘) 𝟙 i a))
      (λ (a : f ≤ i). let q : i ≡ f = omega arith in ap (S j).vec (q ∙ sym e) ∙ b.one j lj
      ∙ sym (put_at R f (λ i. 𝟘) 𝟙) ∙ ap (goal K f) (sym q))
      (lt_or_ge i f)) (b.made j lj)

  -- Without such a line the target is no combination: it is 0 at every pivot, so each line's weight is 0.
  goal_none : ((j : ℕ) → j < s → (S j).piv < f) → Comb K (suc f) w m (goal K f) → ⊥
  goal_none low c = K.one≢zero (sym (put_at R f (λ i. 𝟘) 𝟙) ∙ sym (d.1 f (omega arith))
      ∙ sum_zero R s (λ k. d.0 k ⊗ (S k).vec f) (λ k lk. ap (λ z. z ⊗ (S k).vec f) (weight k lk) ∙ zero_mul R ((S k).vec f)))
    where
      d : Comb K (suc f) (λ j. (S j).vec) s (goal K f)
      d = comb_over K (suc f) w (λ j. (S j).vec) m s (goal K f) b.rows c

      weight : (k : ℕ) → k < s → d.0 k ≡ 𝟘
      weight = pinned K (suc f) w m s S b d.0
          (λ j lj. d.1 (S j).piv (b.inside j lj) ∙ put_lt R f (λ i. 𝟘) 𝟙 (S j).piv (low j lj)) s (omega arith)

-- Between the working order and the chosen rows as document 01 has them.
module _ (p : ℕ) (H : Prime p) (d f : ℕ) (E : ℕ → ℕ → ℕ) (chosen : ℕ → Bool) where
  -- What some of the first rows give, all give.
  open_of : (m : ℕ) → m ≤ d → Comb (residues p H) (suc f) (work_of p H f E chosen) m (goal (residues p H) f) → Open p d (suc f) E chosen
  open_of m l c = ⊎_elim
      (λ r. opening_open p H d f E chosen r.0 r.1)
      (λ z. let u = witness_functional p H d f E chosen z.0 z.1 in
      absurd ((functional_none p H (suc f) (rows_of E chosen) m target z.0
      (record { kills = λ k lk. u.kills k (omega arith); one = u.one })).none given))
      (open_or_closed p H d f E chosen)
    where
      given : Combination p (suc f) (rows_of E chosen) m target
      given = comb_down p H (suc f) (rows_of E chosen) m target (
        c.0,
        from_order (residues p H) f (matrix p H E chosen) m c.0 (goal (residues p H) f) (λ j. res p H (target j)) c.1
            (put_at (residue_ring p H) f (λ i. res p H 0) (res p H 1)) (put_lt (residue_ring p H) f (λ i. res p H 0) (res p H 1)),
      )

  goal_of : Open p d (suc f) E chosen → Comb (residues p H) (suc f) (work_of p H f E chosen) d (goal (residues p H) f)
  goal_of o =
      let w = comb_mask p (suc f) E chosen chosen d (λ k l q. q) target o in
      let c = comb_up p H (suc f) (rows_of E chosen) d target (w.0, w.2) in (
        c.0,
        to_order (residues p H) f (matrix p H E chosen) d c.0 (λ j. res p H (target j)) (goal (residues p H) f) c.1
            (put_at (residue_ring p H) f (λ i. res p H 0) (res p H 1)) (put_lt (residue_ring p H) f (λ i. res p H 0) (res p H 1)),
      )

module _ (p e f d : ℕ) (m : List ℕ) (chosen : ℕ → Bool) (q : e ≡ suc f) where
  pub unmet_start : (t : List (List ℕ)) → length t ≡ 12 → Lows p t → Unmet p f (entry e m) chosen 0 0 t
  unmet_start t n l = record { state = state_start p e f d m chosen q t n l; below = λ j l. absurd (not-suc-le-zero l) }

  module _ (k s : ℕ) (t : List (List ℕ)) (g : Unmet p f (entry e m) chosen k s t) (v : List ℕ) (H : Prime p) (le : e ≤ 12)
      (nx : Next p e k s (ltb s e && chosen k) m t v) where
    pub unmet_next : (s' : ℕ) (t' : List (List ℕ)) → (get_or v 25 0 + 1 ≡ e → ⊥) → Stored e s v t s' t'
        → Unmet p f (entry e m) chosen (k + 1) s' t'
    unmet_next s' t' ne so = record {
      state = state_next p e f d m chosen q k s t g.state v s' t' H le nx so;
      below = pivots_next p e f d m chosen q k s t g.state v s' t' H le nx so ne g.below;
    }

    -- A pivot at the last place: the rows are open, whatever the rows after this one are.
    pub met_open : k < d → get_or v 25 0 + 1 ≡ e → Open p d e (entry e m) chosen
    met_open lk z = subst⁻¹ (λ (n : ℕ). Open p d n (entry e m) chosen) q (open_of p H d f (entry e m) chosen (k + 1) (omega arith)
        (goal_line (residues p H) f (work_of p H f (entry e m) chosen) (k + 1) (s + 1) (lines_of p H (set t s v)) (after.basis H) s
        (omega arith) (ap (λ (w : List ℕ). get_or w 25 0) (get_or-set_same t s v [] long) ∙ omega arith)))
      where
        long : s < length t
        long = omega (arith, store_room p e f d m chosen q k s t g.state v H le nx (omega arith), g.state.len)

        after : State p f (entry e m) chosen (k + 1) (s + 1) (set t s v)
        after = state_next p e f d m chosen q k s t g.state v (s + 1) (set t s v) H le nx ((λ l. (refl, refl)), λ l. absurd (omega arith))

  -- All rows gone through, and no pivot at the last place.
  pub unmet_closed : (s : ℕ) (t : List (List ℕ)) → Unmet p f (entry e m) chosen d s t → Prime p → Closed p d e (entry e m) chosen
  unmet_closed s t g H o = goal_none (residues p H) f (work_of p H f (entry e m) chosen) d s (lines_of p H t) (g.state.basis H) g.below
      (goal_of p H d f (entry e m) chosen (subst (λ (n : ℕ). Open p d n (entry e m) chosen) q o))
