-- The lines of the first rows depend on nothing else: a basis stays one for other rows, and for other lines, that are the same so far.
-- Assumes nothing.
use mathlib.Core.Path.{◌≡◌, refl, sym, ap, ap₂, ◌∙◌}
use mathlib.Core.Bool.{Bool, true, false, cond, true≢false}
use mathlib.Core.List.{List, []}
use Prim.Native.Nat.{ℕ, zero, suc, ◌<◌, ◌≤◌}
use native.Mathlib.Omega.{arith}
use lib.ListN.{length, set, length-set}
use lib.Seq.{get_or-set_other}
use Rattle.algebra.specs.Ring.{Field}
use Rattle.algebra.specs.Sum.{sum}
use Rattle.algebra.proofs.Sum.{sum_cong, put}
use Rattle.residue.specs.Prime.{Prime}
use Rattle.residue.specs.Residue.{F, res}
use Rattle.residue.proofs.Field.{residue_ring, residues}
use Rattle.linear.specs.Space.{Comb}
use Rattle.linear.proofs.Comb.{comb_resp, comb_same}
use Rattle.linear.proofs.Kept.{count_cong, kept, kept_false, unkept_depends}
use Rattle.echelon.specs.Basis.{Line, Basis}
use Rattle.lines.specs.Line.{Low}
use Rattle.backward.specs.Solution.{line_of, lines_of}
use Rattle.rows.specs.State.{work_of, Unmet}
use Rattle.rows.proofs.Turns.{lows_set}
use Rattle.walk.specs.Going.{Agree}

module _ {A : Type 0} (K : Field A) (n : ℕ) where
  open K use {R}
  open R use {◌⊕◌, ◌⊗◌}

  infixl 65 ◌⊕◌
  infixl 70 ◌⊗◌
  -- A vector depends on those before it, whatever comes after it.
  depends_same : (w w' : ℕ → ℕ → A) (k : ℕ) → ((j : ℕ) → j ≤ k → w' j ≡ w j) → Comb K n w k (w k) → Comb K n w' k (w' k)
  depends_same w w' k e c = comb_resp K n w' k (w k) (w' k) (λ i l. ap (λ (r : ℕ → A). r i) (sym (e k (omega arith))))
      (comb_same K n w w' k (w k) (λ j l. e j (omega arith)) c)

  kept_same : (w w' : ℕ → ℕ → A) (k : ℕ) → ((j : ℕ) → j ≤ k → w' j ≡ w j) → kept K n w' k ≡ kept K n w k
  kept_same w w' k e = go (kept K n w k) (kept K n w' k) refl refl
    where
      back : (j : ℕ) → j ≤ k → w j ≡ w' j
      back j l = sym (e j l)

      go : (x y : Bool) → kept K n w k ≡ x → kept K n w' k ≡ y → kept K n w' k ≡ kept K n w k
      go true true p q = q ∙ sym p
      go false false p q = q ∙ sym p
      go true false p q =
          absurd (true≢false (sym p ∙ kept_false K n w k (depends_same w' w k back (unkept_depends K n w' k q).0)))
      go false true p q =
          absurd (true≢false (sym q ∙ kept_false K n w' k (depends_same w w' k e (unkept_depends K n w k p).0)))

  pub basis_same : (w w' : ℕ → ℕ → A) (m s : ℕ) (S : ℕ → Line A) → ((k : ℕ) → k < m → w' k ≡ w k) → Basis K n w m s S
      → Basis K n w' m s S
  basis_same w w' m s S e b = record {
    inside = b.inside;
    one = b.one;
    low = b.low;
    lead = b.lead;
    form = λ j lj i li. b.form j lj i li
        ∙ ap (λ (r : ℕ → A). (S j).inv ⊗ (r i ⊕ sum R j (λ l. (S j).fac l ⊗ (S l).vec i))) (sym (e (S j).src (b.upto j lj)));
    upto = b.upto;
    rising = b.rising;
    fresh = λ j lj c. let u = b.upto j lj in b.fresh j lj (depends_same w' w (S j).src (λ k lk. sym (e k (omega arith))) c);
    rows = λ k lk. comb_resp K n (λ j. (S j).vec) s (w k) (w' k) (λ i li. ap (λ (r : ℕ → A). r i) (sym (e k lk))) (b.rows k lk);
    made = λ j lj. comb_same K n w w' m (S j).vec e (b.made j lj);
    rank = count_cong m (kept K n w') (kept K n w) (λ k lk. kept_same w w' k (λ j lj. e j (omega arith))) ∙ b.rank;
  }

  pub basis_lines : (w : ℕ → ℕ → A) (m s : ℕ) (S S' : ℕ → Line A) → ((j : ℕ) → j < s → S' j ≡ S j) → Basis K n w m s S
      → Basis K n w m s S'
  basis_lines w m s S S' old b = record {
    inside = λ j l. rw (old j l) (b.inside j l);
    one = λ j l. rw (old j l) (b.one j l);
    low = λ j lj l ll. rw (old j lj, old l (omega arith)) (b.low j lj l ll);
    lead = λ j lj. rw (old j lj) (b.lead j lj);
    form = λ j lj i li. ap (λ (z : Line A). z.vec i) (old j lj) ∙ b.form j lj i li
        ∙ sym (ap₂ (λ (z : Line A) y. z.inv ⊗ (w z.src i ⊕ y)) (old j lj)
        (sum_cong R j (λ l. (S' j).fac l ⊗ (S' l).vec i) (λ l. (S j).fac l ⊗ (S l).vec i)
        (λ l ll. ap₂ (λ (z y : Line A). z.fac l ⊗ y.vec i) (old j lj) (old l (omega arith)))));
    upto = λ j l. rw (old j l) (b.upto j l);
    rising = λ j lj l ll. rw (old j lj, old l (omega arith)) (b.rising j lj l ll);
    fresh = λ j l. rw (old j l) (b.fresh j l);
    rows = λ k l. comb_same K n (λ j. (S j).vec) (λ j. (S' j).vec) s (w k) (λ j lj. ap (λ (z : Line A). z.vec) (old j lj)) (b.rows k l);
    made = λ j l. rw (old j l) (b.made j l);
    rank = b.rank;
  }

module _ (p f : ℕ) (E : ℕ → ℕ → ℕ) where
  -- A row in the working order depends only on whether it is chosen.
  work_same : (H : Prime p) (chosen other : ℕ → Bool) (k : ℕ) → chosen k ≡ other k → work_of p H f E other k ≡ work_of p H f E chosen k
  work_same H chosen other k e = ap {B = ℕ → F p}
      (λ (b : Bool) (i : ℕ). put (residue_ring p H) f (λ i. res p H (cond b (E k (suc i)) 0)) (res p H (cond b (E k zero) 0)) i) (sym e)

  pub unmet_same : (chosen other : ℕ → Bool) (k s : ℕ) (t : List (List ℕ)) → Agree k chosen other → Unmet p f E chosen k s t
      → Unmet p f E other k s t
  unmet_same chosen other k s t e u = record {
    state = record {
      len = u.state.len;
      lows = u.state.lows;
      fits = u.state.fits;
      pivs = u.state.pivs;
      basis = λ H. basis_same (residues p H) (suc f) (work_of p H f E chosen) (work_of p H f E other) k s (lines_of p H t)
          (λ j l. work_same H chosen other j (e j l)) (u.state.basis H);
    };
    below = u.below;
  }

  -- The table is not read from line s on.
  pub unmet_set : (chosen : ℕ → Bool) (k s : ℕ) (t : List (List ℕ)) (j : ℕ) (v : List ℕ) → s ≤ j → j < length t → Low p v
      → Unmet p f E chosen k s t → Unmet p f E chosen k s (set t j v)
  unmet_set chosen k s t j v le l lv u = record {
    state = record {
      len = length-set t j v ∙ u.state.len;
      lows = lows_set p t j v l lv u.state.lows;
      fits = u.state.fits;
      pivs = λ i li. rw (get_or-set_other t j i v [] (λ q. omega arith)) (u.state.pivs i li);
      basis = λ H. basis_lines (residues p H) (suc f) (work_of p H f E chosen) k s (lines_of p H t) (lines_of p H (set t j v))
          (λ i li. ap (line_of p H) (get_or-set_other t j i v [] (λ q. omega arith))) (u.state.basis H);
    };
    below = λ i li. rw (get_or-set_other t j i v [] (λ q. omega arith)) (u.below i li);
  }
