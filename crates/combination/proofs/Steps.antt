-- The turns of the steps, on plain lists: from what the code computes to the turns of linear's proofs/Dual.antt.
-- Assumes nothing.
use mathlib.Core.Path.{◌≡◌, refl, sym, ap, ◌∙◌, subst}
use mathlib.Core.Bool.{Bool, true, false, not, true≢false, false≢true}
use mathlib.Core.List.{List, [], ◌∷◌}
use mathlib.Core.Logic.{inl, ⊎_elim}
use Prim.Native.Nat.{ℕ, suc, ◌≤◌, ◌<◌, ◌-◌, ◌*◌, ◌+◌, ◌%◌}
use native.Mathlib.Nat.{le_refl, eq-or-lt_of_le, mod-eq_of_lt}
use native.Mathlib.Numerals.{add-one}
use native.Mathlib.Omega.{arith}
use lib.ListN.{length, get_or, set, length-set}
use lib.Seq.{get_or-set_same, get_or-set_other}
use Rattle.std.specs.List.{between}
use Rattle.std.specs.Prelude.{Option, Some, None, is_some}
use Rattle.std.proofs.lemmas.List.Edits.{get_or-between}
use Rattle.algebra.specs.Sum.{dot}
use Rattle.algebra.proofs.Cases.{below_suc}
use Rattle.algebra.proofs.Ring.{neg_mul}
use Rattle.algebra.proofs.Normal.{v, c0, ◌:-◌, ◌:*◌, ring}
use Rattle.residue.specs.Prime.{Prime}
use Rattle.residue.specs.Residue.{F, res, ◌⊕◌, ◌⊗◌, neg}
use Rattle.residue.proofs.Field.{residue_ring, residues, res_same, res_mod, res_add, res_mul, res_zero, zero_res}
use Rattle.linear.specs.Combination.{total}
use Rattle.linear.specs.Flat.{place, entry, list_of}
use Rattle.linear.proofs.Carry.{total_cong, res_dot, comb_up, coeffs_numbers}
use Rattle.linear.proofs.Kept.{canon_coeffs}
use Rattle.linear.proofs.Flat.{filled_list}
use Rattle.linear.proofs.Dual.{Dual, Down, down_start, down_turn, found, refused, up_start, up_turn, next_none, next_some, dual_cong}
use Rattle.combination.specs.Found.{Found}
use Rattle.combination.specs.Steps.{row, vec, TakenOff, Cancelled, FirstNonzero}
use Rattle.combination.specs.Steps.{DualsOf, Downed, Raised, Seeded, Separated}
use Rattle.lists.proofs.Fill.{Filled}
use Rattle.lists.proofs.Store.{row_fits}

-- x - r b, as the code computes it
res_less : (p : ℕ) (H : Prime p) (x r b : ℕ) → r < p
    → res p H ((x + (p - r) * b) % p) ≡ ◌⊕◌ p H (res p H x) (neg p H (◌⊗◌ p H (res p H r) (res p H b)))
res_less p H x r b l =
    res_mod p H (x + (p - r) * b) ∙ sym (res_add p H x ((p - r) * b))
    ∙ ap (◌⊕◌ p H (res p H x))
    (sym (res_mul p H (p - r) b) ∙ ap (λ (z : ℕ). ◌⊗◌ p H (res p H (p - z)) (res p H b)) (sym (mod-eq_of_lt l))
    ∙ neg_mul (residue_ring p H) (res p H r) (res p H b))

-- a vector of a table, as the code cuts it out
pub row_at : (k n : ℕ) (a : List ℕ) (i : ℕ) → i < n → place (between (k * n) (k * n + n) a) i ≡ entry n a k i
row_at k n a i l = get_or-between a (k * n) (k * n + n) i 0 (omega arith)

-- what `dot` answers for a vector of a table
pub row_times : (p k n : ℕ) (a x : List ℕ) (r : ℕ) → length x ≡ n
    → r ≡ total (length x) (λ i. place (between (k * n) (k * n + n) a) i * place x i) % p
    → r ≡ total n (λ i. entry n a k i * place x i) % p
row_times p k n a x r len e = e ∙ ap (λ z. z % p) (rw len (total_cong n _ _ (λ i l. ap (λ z. z * place x i) (row_at k n a i l))))

module _ (p k n : ℕ) (a b x₀ : List ℕ) (r : ℕ) (is : r ≡ total n (λ i. entry n a k i * place x₀ i) % p) (lt : r < p) where
  factor : (H : Prime p) → res p H r ≡ dot (residue_ring p H) n (row p H n a k) (vec p H x₀)
  factor H = ap (res p H) is ∙ res_mod p H (total n (λ i. entry n a k i * place x₀ i)) ∙ res_dot p H n (entry n a k) (place x₀)

  pub cancelled : (x : List ℕ) → TakenOff p k n r b x₀ x → Cancelled p k n a b x₀ x r
  cancelled x o = record {
    len = o.len;
    below = lt;
    factor = factor;
    rest = λ H i l. ap (res p H) (o.is i l) ∙ res_less p H (place x₀ i) r (entry n b k i) lt;
  }

  -- where the factor is 0 nothing is taken off
  pub cancelled_none : r ≡ 0 → length x₀ ≡ n → Cancelled p k n a b x₀ x₀ 0
  cancelled_none z len = record {
    len = len;
    below = omega arith;
    factor = λ H. ap (res p H) (sym z) ∙ factor H;
    rest = λ H i l. ring (residue_ring p H) (v 0) (v 0 :- c0 :* v 1) refl (λ j. get_or (vec p H x₀ i ∷ row p H n b k i ∷ []) j (res p H 0));
  }

module _ (p n : ℕ) (t u : List ℕ) (len : length u ≡ n) (zeros : (i : ℕ) → place u i ≡ 0) where
  pub seeded_no : FirstNonzero p n t None → Seeded p n t u false
  seeded_no f = record {
    len = len;
    yes = λ q. absurd (false≢true q);
    no = λ q H. ((λ i li. zero_res p H (place t i) (f i li)), λ i li. ap (res p H) (zeros i));
  }

  pub seeded_yes : (b c : ℕ) → c < n → b * place t c % p ≡ 1 → Seeded p n t (set u c b) true
  seeded_yes b c l one = record {
    len = length-set u c b ∙ len;
    yes = λ q H. (up_start (residues p H) n (λ j. vec p H t) (λ j. vec p H t) (vec p H t) (vec p H (set u c b)) c (res p H b) l
        (ap (res p H) (get_or-set_same u c b 0 (omega arith)))
        (λ i li ne. ap (res p H) (get_or-set_other u c i b 0 ne ∙ zeros i))
        (res_mul p H b (place t c) ∙ res_same p H (b * place t c) 1 (one ∙ sym (mod-eq_of_lt H.two)))).one;
    no = λ q. absurd (true≢false q);
  }

module _ (p m n : ℕ) (vectors duals : List ℕ) where
  abbrev w : Prime p → ℕ → ℕ → F p
  w H = row p H n vectors

  abbrev y : Prime p → ℕ → ℕ → F p
  y H = row p H n duals

  pub downed_start : (t c : List ℕ) → length t ≡ n → Downed p m n vectors duals t c t c m
  downed_start t c e = record {
    upto = le_refl m;
    len = e;
    size = refl;
    below = λ j lo hi. absurd (omega arith);
    is = λ H. down_start (residues p H) n (w H) (y H) m (vec p H t) (vec p H c);
  }

  downed_step : (t₀ c₀ t c x : List ℕ) (k r : ℕ) → DualsOf p m n vectors duals → m ≤ length c₀
      → Downed p m n vectors duals t₀ c₀ t c (suc k) → Cancelled p k n duals vectors t x r
      → Downed p m n vectors duals t₀ c₀ x (set c k r) k
  downed_step t₀ c₀ t c x k r D room h l = record {
    upto = omega (arith, h.upto);
    len = l.len;
    size = length-set c k r ∙ h.size;
    below = λ j lo hi. ⊎_elim
        (λ (q : k ≡ j). rw (← q) (rw here l.below))
        (λ (q : k < j). rw (there j q) (h.below j q hi))
        (eq-or-lt_of_le lo);
    is = λ H. down_turn (residues p H) n (w H) (y H) m k (vec p H t₀) (vec p H t) (vec p H x) (vec p H c) (vec p H (set c k r)) (res p H r)
        (D.is H) h.upto (h.is H) (l.factor H) (l.rest H) (λ j lo hi. ap (res p H) (there j lo)) (ap (res p H) here);
  }
    where
      here : place (set c k r) k ≡ r
      here = get_or-set_same c k r 0 (omega (arith, h.size, h.upto))

      there : (j : ℕ) → k < j → place (set c k r) j ≡ place c j
      there j lo = get_or-set_other c k j r 0 (λ e. omega arith)

  -- the code counts down before it takes a vector off
  pub downed_turn : (t₀ c₀ t c x : List ℕ) (k r : ℕ) → DualsOf p m n vectors duals → m ≤ length c₀ → 0 < k
      → Downed p m n vectors duals t₀ c₀ t c k → Cancelled p (k - 1) n duals vectors t x r
      → Downed p m n vectors duals t₀ c₀ x (set c (k - 1) r) (k - 1)
  downed_turn t₀ c₀ t c x k r D room l h =
      let e : k ≡ suc (k - 1) = omega arith in
      downed_step t₀ c₀ t c x (k - 1) r D room (subst (Downed p m n vectors duals t₀ c₀ t c) e h)

  -- only the places of t₀ count
  target_is : (t₀ c₀ t c : List ℕ) (s : ℕ → ℕ) → ((i : ℕ) → i < n → place t₀ i ≡ s i) → Downed p m n vectors duals t₀ c₀ t c 0
      → (H : Prime p) → Down (residues p H) n (w H) (y H) m (λ i. res p H (s i)) (vec p H t) (vec p H c) 0
  target_is t₀ c₀ t c s e h H =
      let d = h.is H in
      record { gone = d.gone; sums = λ i l. d.sums i l ∙ ap (res p H) (e i l); only = d.only }

  pub raised_turn : (u₀ u x : List ℕ) (k r : ℕ) → DualsOf p m n vectors duals → k < m → Raised p m n vectors duals u₀ u k
      → Cancelled p k n vectors duals u x r → Raised p m n vectors duals u₀ x (k + 1)
  raised_turn u₀ u x k r D lk h l = record {
    upto = omega arith;
    len = l.len;
    is = λ H t g one. rw (add-one k)
        (up_turn (residues p H) n (w H) (y H) m k t (vec p H u) (vec p H x) (res p H r)
        (D.is H) lk g (h.is H t g one) (l.factor H) (l.rest H));
  }

  pub separated_no : (t u : List ℕ) (r : Bool) → Seeded p n t u r → r ≡ false → Separated p m n vectors duals t u
  separated_no t u r h q = record { len = h.len; is = λ H. inl (h.no q H) }

  -- The dual of vector m: t₀ is the vector, t what `down` leaves of it, u what separates t, and u is stored as the next dual.
  pub duals_next : (duals' t₀ c₀ t c u : List ℕ) → DualsOf p m n vectors duals → ((i : ℕ) → i < n → place t₀ i ≡ entry n vectors m i)
      → Downed p m n vectors duals t₀ c₀ t c 0 → Separated p m n vectors duals t u
      → ((i : ℕ) → i < n → entry n duals' m i ≡ place u i) → ((j : ℕ) → j < m * n → place duals' j ≡ place duals j)
      → DualsOf p (m + 1) n vectors duals'
  duals_next duals' t₀ c₀ t c u D e d s here before = record {
    is = λ H. rw (add-one m) (below_suc (λ k. Dual (residues p H) n (w H) (row p H n duals') k (row p H n duals' k)) m
        (λ k l. dual_cong (residues p H) n (w H) (y H) k (y H k) (row p H n duals' k)
        (λ i li. ap (res p H) (before (k * n + i) (omega (arith, row_fits k m n l)))) (D.is H k l))
        (dual_cong (residues p H) n (w H) (y H) m (vec p H u) (row p H n duals' m) (λ i li. ap (res p H) (here i li)) (next H)));
  }
    where
      down : (H : Prime p) → Down (residues p H) n (w H) (y H) m (w H m) (vec p H t) (vec p H c) 0
      down = target_is t₀ c₀ t c (entry n vectors m) e d

      next : (H : Prime p) → Dual (residues p H) n (w H) (y H) m (vec p H u)
      next H = ⊎_elim
          (λ o. next_none (residues p H) n (w H) (y H) m (vec p H t) (vec p H c) (vec p H u) (down H) o.0 o.1)
          (λ g. next_some (residues p H) n (w H) (y H) m (vec p H t) (vec p H c) (vec p H u) (down H)
          (g (λ j l. (down H).gone j (omega arith) l)))
          (s.is H)

  down_to : (target t₀ c₀ t c : List ℕ) → t₀ ≡ target → Downed p m n vectors duals t₀ c₀ t c 0
      → (H : Prime p) → Down (residues p H) n (w H) (y H) m (vec p H target) (vec p H t) (vec p H c) 0
  down_to target t₀ c₀ t c e = target_is t₀ c₀ t c (place target) (λ j l. ap (λ (l : List ℕ). place l j) e)

  -- The answer: r is the first place that is not 0 of what `down` leaves of the target, and yes that there is none.
  pub answered : (target t₀ c₀ t c : List ℕ) (r : Option ℕ) (yes : Bool) → Prime p → DualsOf p m n vectors duals → t₀ ≡ target
      → Downed p m n vectors duals t₀ c₀ t c 0 → FirstNonzero p n t r → is_some r ≡ not yes → Found p m n vectors target yes c
  answered target t₀ c₀ t c None true H D e d f q = record {
    yes = λ o. coeffs_numbers p H n (entry n vectors) m (place target) (place c) (λ k l. d.below k (omega arith) l)
        (canon_coeffs (residues p H) n (w H) m (vec p H target) (
          vec p H c,
          found (residues p H) n (w H) (y H) m (vec p H target) (vec p H t) (vec p H c) (down_to target t₀ c₀ t c e d H)
              (λ j l. zero_res p H (place t j) (f j l)),
        )
        (λ k l g. (down_to target t₀ c₀ t c e d H).only k (omega arith) l g));
    no = λ o. absurd (true≢false o);
  }
  answered target t₀ c₀ t c (Some i) false H D e d f q = record {
    yes = λ o. absurd (false≢true o);
    no = λ o. record {
      none = λ g. f.2 (res_zero p H (vec p H t i)
          (refused (residues p H) n (w H) (y H) m (vec p H target) (vec p H t) (vec p H c) (D.is H) (down_to target t₀ c₀ t c e d H)
          (comb_up p H n (entry n vectors) m (place target) g) i f.0));
    };
  }
  answered target t₀ c₀ t c None false H D e d f q = absurd (false≢true q)
  answered target t₀ c₀ t c (Some i) true H D e d f q = absurd (true≢false q)

-- A list is the list of its places; so one that is filled with all numbers of another is that other list.
listed : (xs : List ℕ) → list_of (length xs) (λ j. place xs j) ≡ xs
listed [] = refl
listed (x ∷ xs) = ap (λ (ys : List ℕ). x ∷ ys) (listed xs)

pub copied : (from x₀ x : List ℕ) (i : ℕ) → Filled 0 (length from) (λ j. place from j) x₀ x i → length from ≤ i → length from ≡ length x₀ → x ≡ from
copied from x₀ x i h l e = filled_list (length from) (λ j. place from j) x₀ x i h l (sym e) ∙ listed from
