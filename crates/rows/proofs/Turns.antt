-- A turn of the loop over the rows, and its two ends, on plain lists.
-- Assumes nothing.
use mathlib.Core.Path.{◌≡◌, refl, sym, ap, ◌∙◌, subst, subst⁻¹}
use mathlib.Core.List.{List, []}
use mathlib.Core.Bool.{Bool, true, false, ◌&&◌, true≢false, false≢true}
use mathlib.Core.Logic.{⊎_elim}
use Prim.Native.Nat.{ℕ, zero, suc, ◌<◌, ◌≤◌, ◌+◌}
use native.Mathlib.Nat.{not-suc-le-zero}
use native.Mathlib.Numerals.{add-one, one-add}
use native.Mathlib.Omega.{arith}
use lib.Dec.{ltb, eqb}
use lib.ListN.{length, get_or, set, length-set}
use lib.Seq.{get_or-set_same, get_or-set_other}
use borrow.Author.Tests.{ltb-false, eqb-true, eq-eqb}
use Rattle.algebra.proofs.Cases.{lt_or_ge, same?}
use Rattle.algebra.proofs.Ring.{mul-zero}
use Rattle.algebra.proofs.Sum.{put_lt, put_at}
use Rattle.residue.specs.Prime.{Prime}
use Rattle.residue.specs.Residue.{res, ◌⊗◌}
use Rattle.residue.proofs.Field.{residue_ring, residues}
use Rattle.linear.specs.Flat.{place, entry}
use Rattle.linear.specs.Rows.{OpeningVector, Witness, Rank}
use Rattle.linear.proofs.Masked.{rows_of, rank_unmask}
use Rattle.linear.proofs.Numbers.{kept_count}
use Rattle.echelon.specs.Order.{goal, matrix}
use Rattle.echelon.specs.Backward.{Solving, Killing}
use Rattle.echelon.proofs.Steps.{start, drop_zero}
use Rattle.echelon.proofs.Backward.{solve_end, kill_rows, kill_canon}
use Rattle.echelon.proofs.Order.{opening_of, witness_of}
use Rattle.echelon.proofs.Rank.{full, rank_rows}
use Rattle.lines.specs.Line.{Low, Lows, at, left, Shaped}
use Rattle.backward.specs.Solution.{lines_of, Found, asked, facs_of, vec_of, Opened, Killed}
use Rattle.rows.specs.State.{work_of, State, Going, RowLine, Next}
use Rattle.rows.proofs.Steps.{reduced, some_before, some_unit, basis_drop, basis_keep, space, row_work, row_out}

pub lows_set : (p : ℕ) (t : List (List ℕ)) (s : ℕ) (v : List ℕ) → s < length t → Low p v → Lows p t → Lows p (set t s v)
lows_set p t s v l lv lt lp j i = ⊎_elim
    (λ (q : j ≡ s). subst⁻¹ (λ (j : ℕ). at (set t s v) j i < 65536) q
    (subst⁻¹ (λ (w : List ℕ). get_or w i 0 < 65536) (get_or-set_same t s v [] l) (lv lp i)))
    (λ ne. subst⁻¹ (λ (w : List ℕ). get_or w i 0 < 65536) (get_or-set_other t s j v [] ne) (lt lp j i))
    (same? j s)

-- What holds of the pivots of the first s lines and of the new line's holds of s + 1.
pub pivots_set : (P : ℕ → Type 0) (t : List (List ℕ)) (s : ℕ) (v : List ℕ) → s < length t → ((j : ℕ) → j < s → P (at t j 25))
    → P (get_or v 25 0)
    → (j : ℕ) → j < s + 1 → P (at (set t s v) j 25)
pivots_set P t s v l h new j lj = ⊎_elim
    (λ (a : j < s). subst⁻¹ (λ (w : List ℕ). P (get_or w 25 0)) (get_or-set_other t s j v [] (λ r. omega arith)) (h j a))
    (λ (a : s ≤ j). let z : j ≡ s = omega arith in
    subst⁻¹ (λ (j : ℕ). P (at (set t s v) j 25)) z (subst⁻¹ (λ (w : List ℕ). P (get_or w 25 0)) (get_or-set_same t s v [] l) new))
    (lt_or_ge j s)

-- What `store` does with a line: it is line s where it has a pivot, and nothing happens where it has none.
abbrev pub Stored : ℕ → ℕ → List ℕ → List (List ℕ) → ℕ → List (List ℕ) → Type 0
Stored e s v t s' t' = (get_or v 25 0 < e → (s' ≡ s + 1) × (t' ≡ set t s v)) × (e ≤ get_or v 25 0 → (s' ≡ s) × (t' ≡ t))

-- What `ask` does with a line: r is filled where the line's pivot is at the last place, and else all is as it was.
abbrev pub Settled : ℕ → ℕ → ℕ → ℕ → List (List ℕ) → List ℕ → Bool → List ℕ → Bool → List ℕ → Type 0
Settled p e k s t v o r o' r' = (get_or v 25 0 + 1 ≡ e → (o' ≡ true) × Opened p k s t v r r') ×
    ((get_or v 25 0 + 1 ≡ e → ⊥) → (o' ≡ o) × (r' ≡ r))

pub settled_target : {p e k s : ℕ} {t : List (List ℕ)} {v r r' : List ℕ} {o o' : Bool} → true ≡ eqb (get_or v 25 0 + 1) e → o' ≡ true
    → Opened p k s t v r r' → Settled p e k s t v o r o' r'
settled_target {e = e} {v = v} z q h = ((λ _. (q, h)), λ ne. absurd (ne (eqb-true (get_or v 25 0 + 1) e (sym z))))

pub settled_other : {p e k s : ℕ} {t : List (List ℕ)} {v r r' : List ℕ} {o o' : Bool} → false ≡ eqb (get_or v 25 0 + 1) e → o' ≡ o
    → r' ≡ r → Settled p e k s t v o r o' r'
settled_other {e = e} {v = v} z q h = ((λ w. absurd (false≢true (z ∙ eq-eqb (get_or v 25 0 + 1) e w))), λ _. (q, h))

-- A line with a pivot is that of a wanted row.
pub made_chosen : (p e k s : ℕ) (w : Bool) (m : List ℕ) (t : List (List ℕ)) (v : List ℕ) → Next p e k s w m t v → get_or v 25 0 < e → w ≡ true
made_chosen p e k s false m t v nx l = let z = nx.out refl in absurd (omega arith)
made_chosen p e k s true m t v nx l = refl

module _ (p e f d : ℕ) (m : List ℕ) (chosen : ℕ → Bool) (q : e ≡ suc f) where
  pub state_start : (t : List (List ℕ)) → length t ≡ 12 → Lows p t → State p f (entry e m) chosen 0 0 t
  state_start t n l = record {
    len = n;
    lows = l;
    fits = omega arith;
    pivs = λ j l. absurd (not-suc-le-zero l);
    basis = λ H. start (residues p H) (suc f) (work_of p H f (entry e m) chosen) (lines_of p H t);
  }

  pub going_start : (t : List (List ℕ)) (r : List ℕ) → length t ≡ 12 → Lows p t → Going p f d (entry e m) chosen 0 0 t r false r
  going_start t r n l = record {
    state = state_start t n l;
    if_open = λ h. absurd (false≢true h);
    if_closed = λ h. (refl, λ j l. absurd (not-suc-le-zero l));
  }

  module _ (k s : ℕ) (t : List (List ℕ)) (st : State p f (entry e m) chosen k s t) (v : List ℕ) where
    rowed : (h : chosen k ≡ true) (rl : RowLine p e k s m t v) (H : Prime p) (i : ℕ) → i < e
        → res p H (get_or rl.0 i 0) ≡ work_of p H f (entry e m) chosen k i
    rowed h rl H i l = ap (res p H) (rl.1 i l) ∙ row_work p H e f k m chosen q h i

    state_out : chosen k ≡ false → State p f (entry e m) chosen (k + 1) s t
    state_out h = record {
      len = st.len;
      lows = st.lows;
      fits = st.fits;
      pivs = st.pivs;
      basis = λ H. rw (add-one k) (drop_zero (residues p H) (suc f) (work_of p H f (entry e m) chosen) k s (lines_of p H t) (st.basis H)
          (λ i l. row_out p H f k (entry e m) chosen h i));
    }

    state_full : e ≤ s → State p f (entry e m) chosen (k + 1) s t
    state_full h = let u = st.fits in let z : s ≡ suc f = omega arith in record {
      len = st.len;
      lows = st.lows;
      fits = st.fits;
      pivs = st.pivs;
      basis = λ H. rw (add-one k) (full (residues p H) (suc f) (work_of p H f (entry e m) chosen) k s (lines_of p H t) (st.basis H) z);
    }

    state_drop : chosen k ≡ true → RowLine p e k s m t v → get_or v 25 0 ≡ e → State p f (entry e m) chosen (k + 1) s t
    state_drop h rl z = record {
      len = st.len;
      lows = st.lows;
      fits = st.fits;
      pivs = st.pivs;
      basis = λ H. rw (add-one k) (basis_drop p H f e k s (entry e m) chosen t (λ i. get_or rl.0 i 0) v q st rl.2 (rowed h rl H) z);
    }

    roomy : Prime p → chosen k ≡ true → RowLine p e k s m t v → get_or v 25 0 < e → s < suc f
    roomy H h rl l = space p H f e k s (entry e m) chosen t (λ i. get_or rl.0 i 0) v q st rl.2 (rowed h rl H) l

    state_keep : Prime p → chosen k ≡ true → RowLine p e k s m t v → Shaped p e v → e ≤ 12 → get_or v 25 0 < e
        → State p f (entry e m) chosen (k + 1) (s + 1) (set t s v)
    state_keep H₀ h rl sh le l = record {
      len = length-set t s v ∙ st.len;
      lows = lows_set p t s v long sh.low st.lows;
      fits = omega (arith, free);
      pivs = pivots_set (λ (x : ℕ). x < suc f) t s v long st.pivs (omega arith);
      basis = λ H. rw (add-one k, add-one s)
          (basis_keep p H f e k s (entry e m) chosen t (λ i. get_or rl.0 i 0) v q st rl.2 (rowed h rl H) l long);
    }
      where
        free : s < suc f
        free = roomy H₀ h rl l

        long : s < length t
        long = omega (arith, st.len, free)

    -- A row is wanted where it is chosen and not every place is a pivot.
    wanted_chosen : (a b : Bool) → (a && b) ≡ true → b ≡ true
    wanted_chosen true b h = h
    wanted_chosen false b h = absurd (false≢true h)

    pub state_next : (s' : ℕ) (t' : List (List ℕ)) → Prime p → e ≤ 12 → Next p e k s (ltb s e && chosen k) m t v → Stored e s v t s' t'
        → State p f (entry e m) chosen (k + 1) s' t'
    state_next s' t' H le nx so = go (ltb s e) (chosen k) refl refl
      where
        same : get_or v 25 0 ≡ e → State p f (entry e m) chosen (k + 1) s t → State p f (entry e m) chosen (k + 1) s' t'
        same z st' = let w = so.1 (omega arith) in rw (w.0, w.1) st'

        go : (a b : Bool) → ltb s e ≡ a → chosen k ≡ b → State p f (entry e m) chosen (k + 1) s' t'
        go false b x y = same (nx.out (ap (λ z. z && chosen k) x)) (state_full (ltb-false s e x))
        go true false x y = same (nx.out (ap (λ z. z && chosen k) x ∙ y)) (state_out y)
        go true true x y = let rl : RowLine p e k s m t v = nx.made (ap (λ z. z && chosen k) x ∙ y) in ⊎_elim
            (λ (l : get_or v 25 0 < e). let w = so.0 l in rw (w.0, w.1) (state_keep H y rl nx.shape le l))
            (λ (l : e ≤ get_or v 25 0). let u = nx.shape.piv in let z : get_or v 25 0 ≡ e = omega arith in same z (state_drop y rl z))
            (lt_or_ge (get_or v 25 0) e)

    -- There is a place for a line with a pivot.
    pub store_room : Prime p → e ≤ 12 → Next p e k s (ltb s e && chosen k) m t v → get_or v 25 0 < e → s < 12
    store_room H le nx l = let w = made_chosen p e k s (ltb s e && chosen k) m t v nx l in
        let u = roomy H (wanted_chosen (ltb s e) (chosen k) w) (nx.made w) l in omega arith

    -- A line with its pivot elsewhere leaves no pivot at the last place.
    pub pivots_next : (s' : ℕ) (t' : List (List ℕ)) → Prime p → e ≤ 12 → Next p e k s (ltb s e && chosen k) m t v → Stored e s v t s' t'
        → (get_or v 25 0 + 1 ≡ e → ⊥) → ((j : ℕ) → j < s → at t j 25 < f) → (j : ℕ) → j < s' → at t' j 25 < f
    pivots_next s' t' H le nx so ne h j lj = ⊎_elim
        (λ (l : get_or v 25 0 < e). let w = so.0 l in let u = store_room H le nx l in
        subst⁻¹ (λ (t : List (List ℕ)). at t j 25 < f) w.1
        (pivots_set (λ (x : ℕ). x < f) t s v (omega (arith, st.len)) h (omega arith) j (omega (arith, w.0))))
        (λ (l : e ≤ get_or v 25 0). let w = so.1 l in subst⁻¹ (λ (t : List (List ℕ)). at t j 25 < f) w.1 (h j (omega (arith, w.0))))
        (lt_or_ge (get_or v 25 0) e)

    -- Where the pivot is at the last place, the line is the target.
    found : (H : Prime p) → chosen k ≡ true → RowLine p e k s m t v → get_or v 25 0 + 1 ≡ e
        → Found p k s t v H (suc f) (work_of p H f (entry e m) chosen) (goal (residues p H) f)
    found H h rl z = record {
      basis = st.basis H;
      x = λ i. res p H (left p s t (λ i. get_or rl.0 i 0) v i);
      reduced = reduced p H f e k s (entry e m) chosen t (λ i. get_or rl.0 i 0) v q st rl.2 (rowed h rl H);
      c = get_or v 25 0;
      inside = omega arith;
      unit = one;
      goals = λ i l. ⊎_elim
          (λ (a : i < f). put_lt (residue_ring p H) f (λ i. res p H 0) (res p H 1) i a
          ∙ sym (ap (λ y. ◌⊗◌ p H (res p H (get_or v 24 0)) y)
          (some_before p H f e k s (entry e m) chosen t (λ i. get_or rl.0 i 0) v q st rl.2 (rowed h rl H) (omega arith) i (omega arith))
          ∙ mul-zero (residue_ring p H) (res p H (get_or v 24 0))))
          (λ (a : f ≤ i). let w : i ≡ f = omega arith in let c : i ≡ get_or v 25 0 = omega arith in
          ap (goal (residues p H) f) w ∙ put_at (residue_ring p H) f (λ i. res p H 0) (res p H 1) ∙ sym one
          ∙ ap (λ (i : ℕ). ◌⊗◌ p H (res p H (get_or v 24 0)) (res p H (left p s t (λ i. get_or rl.0 i 0) v i))) (sym c))
          (lt_or_ge i f);
    }
      where
        one : ◌⊗◌ p H (res p H (get_or v 24 0)) (res p H (left p s t (λ i. get_or rl.0 i 0) v (get_or v 25 0))) ≡ res p H 1
        one = some_unit p H f e k s (entry e m) chosen t (λ i. get_or rl.0 i 0) v q st rl.2 (rowed h rl H) (omega arith)

    pub opening_end : Prime p → Next p e k s (ltb s e && chosen k) m t v → get_or v 25 0 + 1 ≡ e → (r r' : List ℕ) → length r ≡ d
        → Opened p k s t v r r'
        → OpeningVector p d (suc f) (entry e m) chosen (place r')
    opening_end H nx z r r' n o = opening_of p H d f (entry e m) chosen (place r') (λ k l. o.small k)
        (solve_end (residues p H) (suc f) (work_of p H f (entry e m) chosen) k s (lines_of p H t) (st.basis H) d (goal (residues p H) f)
        (asked p H v) (facs_of p H o.a) (vec_of p H r') solved)
        solved.canon
      where
        want : (ltb s e && chosen k) ≡ true
        want = made_chosen p e k s (ltb s e && chosen k) m t v nx (omega arith)

        solved : Solving (residues p H) (suc f) (work_of p H f (entry e m) chosen) s (lines_of p H t) d (goal (residues p H) f)
            (asked p H v) 0 (facs_of p H o.a) (vec_of p H r')
        solved = subst
            (λ (d : ℕ). Solving (residues p H) (suc f) (work_of p H f (entry e m) chosen) s (lines_of p H t) d (goal (residues p H) f)
            (asked p H v) 0 (facs_of p H o.a) (vec_of p H r')) n
            (o.solved.is H (suc f) (work_of p H f (entry e m) chosen) (goal (residues p H) f)
            (found H (wanted_chosen (ltb s e) (chosen k) want) (nx.made want) z))

  pub going_next : (k s : ℕ) (t : List (List ℕ)) (r₀ : List ℕ) (o : Bool) (r v : List ℕ) (o' : Bool) (r' : List ℕ) (s' : ℕ)
      (t' : List (List ℕ))
      → Going p f d (entry e m) chosen k s t r₀ o r → Prime p → e ≤ 12 → length r₀ ≡ d → length r ≡ d
      → Next p e k s (ltb s e && chosen k) m t v
      → Settled p e k s t v o r o' r' → Stored e s v t s' t' → Going p f d (entry e m) chosen (k + 1) s' t' r₀ o' r'
  going_next k s t r₀ o r v o' r' s' t' g H le n₀ n nx se so = record {
    state = state_next k s t g.state v s' t' H le nx so;
    if_open = λ h. ⊎_elim
        (λ (z : get_or v 25 0 + 1 ≡ e). (opening_end k s t g.state v H nx z r r' n (se.0 z).1, (se.0 z).1.len ∙ n ∙ sym n₀))
        (λ ne. let w = se.1 ne in let a = g.if_open (sym w.0 ∙ h) in
        (subst⁻¹ (λ (x : List ℕ). OpeningVector p d (suc f) (entry e m) chosen (place x)) w.1 a.0, ap length w.1 ∙ a.1))
        (same? (get_or v 25 0 + 1) e);
    if_closed = λ h. ⊎_elim
        (λ (z : get_or v 25 0 + 1 ≡ e). absurd (true≢false (sym (se.0 z).0 ∙ h)))
        (λ ne. let w = se.1 ne in let a = g.if_closed (sym w.0 ∙ h) in (w.1 ∙ a.0, pivots_next k s t g.state v s' t' H le nx so ne a.1))
        (same? (get_or v 25 0 + 1) e);
  }

  pub witness_end : (s : ℕ) (t : List (List ℕ)) → State p f (entry e m) chosen d s t → Prime p → (y z : List ℕ)
      → ((i : ℕ) → get_or y i 0 < p) → get_or y f 0 ≡ 1
      → Killed p s t f 0 y → get_or z 0 0 ≡ get_or y f 0 → ((i : ℕ) → i < f → get_or z (1 + i) 0 ≡ get_or y i 0)
      → Witness p d (suc f) (entry e m) chosen (place z)
  witness_end s t st H y z small last kn z0 zs = witness_of p H d f (entry e m) chosen (place z) (place y) low (z0 ∙ last) last next
      (kill_rows (residues p H) (suc f) (work_of p H f (entry e m) chosen) d s (lines_of p H t) (st.basis H) f (vec_of p H y) kill)
      (kill_canon (residues p H) (suc f) (work_of p H f (entry e m) chosen) d s (lines_of p H t) (st.basis H) f (vec_of p H y) kill)
    where
      kill : Killing (residues p H) (suc f) (work_of p H f (entry e m) chosen) s (lines_of p H t) f 0 (vec_of p H y)
      kill = kn.is H d (work_of p H f (entry e m) chosen) (st.basis H)

      next : (i : ℕ) → i < f → get_or z (suc i) 0 ≡ get_or y i 0
      next i l = ap (λ (n : ℕ). get_or z n 0) (sym (one-add i)) ∙ zs i l

      low : (j : ℕ) → j < suc f → get_or z j 0 < p
      low zero l = subst⁻¹ (λ (x : ℕ). x < p) z0 (small f)
      low (suc j) l = subst⁻¹ (λ (x : ℕ). x < p) (next j (omega arith)) (small j)

  pub rank_end : (s : ℕ) (t : List (List ℕ)) → State p f (entry e m) chosen d s t → Prime p → Rank p d (suc f) (entry e m) chosen s
  rank_end s t st H = rank_unmask p (suc f) (entry e m) chosen d s (kept_count p H (suc f) (rows_of (entry e m) chosen) d s
      (rank_rows (residues p H) f (matrix p H (entry e m) chosen) d s (lines_of p H t) (st.basis H)))

-- What a row gives that is not wanted.
pub next_out : (p e k s : ℕ) (w : Bool) (m : List ℕ) (t : List (List ℕ)) (v : List ℕ) → w ≡ false → (length v ≡ 27) × Low p v
    → get_or v 25 0 ≡ e
    → Next p e k s w m t v
next_out p e k s w m t v q sh z = record { shape = record { len = sh.0; low = sh.1; piv = omega arith }; out = λ f. z; made = λ h. absurd (false≢true (sym q ∙ h)) }
