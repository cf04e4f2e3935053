-- What the builder leaves where a rule, a term or an atom is written: the rows of the construction, and the place and the column past them.
-- Assumes nothing.
use mathlib.Core.Path.{◌≡◌, refl, ap, ◌∙◌}
use mathlib.Core.Bool.{Bool, true, false, cond}
use mathlib.Core.List.{List, [], ◌∷◌, ◌++◌, append_assoc}
use Prim.Native.Nat.{ℕ, zero, suc, ◌+◌, ◌-◌, ◌*◌, ◌<◌, ◌≤◌}
use native.Mathlib.Numerals.{add-one}
use native.Mathlib.Nat.{not-suc-le-zero, add_assoc, add-zero}
use native.Mathlib.Omega.{arith}
use lib.Dec.{ltb}
use lib.ListN.{length, length-append, length-drop, set, drop}
use borrow.Author.Tests.{le-leb, ltb-true, ltb-false, lt-ltb, le-ltb, ne_eqb}
use Rattle.rules.specs.Tree.{Rule, Term, Atom, term, ◌or◌, atom, ◌and◌, number, group, choice, rule_names, term_names, atom_names}
use Rattle.rules.specs.Text.{bar, ampersand, opening, closing, numeral, rule_text, term_text, atom_text, WellRule, WellTerm, WellAtom}
use Rattle.rules.specs.Construction.{ands, rule_takes, inside_takes, atom_takes, less_all, rule_rows, term_rows, atom_rows}
use Rattle.rules.proofs.Counting.{term_count, atom_count}
use Rattle.std.specs.Prelude.{Some}
use Rattle.reader.specs.Grammar.{class_of, kind_at, is_or, is_and, is_close, digit, number_end_lem}
use Rattle.reader.proofs.Begins.{
  kind_of_holds,
  past,
  or_sign,
  and_sign,
  open_sign,
  close_sign,
  sign_true,
  sign_false,
  NoDigit,
  digit_false,
  class_digit,
  digit_class,
}
use Rattle.reader.proofs.Ends.{AfterTerm, AfterRule, ampersand_follows, bar_follows, closing_follows, atom_ends}
use Rattle.builder.specs.Building.{
  vectors,
  number_value,
  ands_from,
  ands_at,
  Out,
  standing,
  well,
  chain,
  atoms_built,
  rule_built,
  term_built,
  atom_built,
}

past_one : (s : List ℕ) (at b : ℕ) (z : List ℕ) → drop at s ≡ b ∷ z → drop (at + 1) s ≡ z
past_one s at b z e = past s at (b ∷ []) z e

-- The signs & of a term.
ands_counted : (s : List ℕ) (t : Term) (n d at : ℕ) (z : List ℕ) → drop at s ≡ term_text t ++ z → WellTerm t d → AfterTerm z
    → 3 * length (term_text t) + 1 < n → ands_from n s d at ≡ ands t
unfolding ands_from ands term_text
ands_counted s (atom a) zero d at z e w f l = refl
ands_counted s (atom a) (suc n) d at z e w f l =
    rw (
      atom_ends s a n d at z e w f.no_digit (omega arith),
      sign_false and_sign s (at + length (atom_text a)) z (past s at (atom_text a) z e) f.no_and,
    )
ands_counted s (a and t) zero d at z e w f l = absurd (not-suc-le-zero l)
ands_counted s (a and t) (suc n) d at z e w f l =
    let m = length-append (atom_text a) (ampersand ∷ term_text t) in
    let here : drop at s ≡ atom_text a ++ (ampersand ∷ (term_text t ++ z)) = e ∙ append_assoc (atom_text a) (ampersand ∷ term_text t) z in
    let next : drop (at + length (atom_text a)) s ≡ ampersand ∷ (term_text t ++ z) = past s at (atom_text a) (ampersand ∷ (term_text t ++ z)) here in
    rw (
      atom_ends s a n d at (ampersand ∷ (term_text t ++ z)) here w.0 (ampersand_follows (term_text t ++ z)) (omega (arith, m)),
      sign_true and_sign s (at + length (atom_text a)) (term_text t ++ z) next,
    )
    (ap suc (ands_counted s t n d (at + length (atom_text a) + 1) z (past_one s (at + length (atom_text a)) ampersand (term_text t ++ z) next) w.1
    f (omega (arith, m))))

-- Rows written one after another from row i on.
module _ {A : Type 0} (what : ℕ × List ℕ → A) where
  unfoldable pub written : List A → ℕ → List (ℕ × List ℕ) → List A
  written xs i [] = xs
  written xs i (r ∷ rs) = written (set xs i (what r)) (suc i) rs

  written_then : (xs : List A) (i : ℕ) (L M : List (ℕ × List ℕ)) → written (written xs i L) (i + length L) M ≡ written xs i (L ++ M)
  unfolding written
  written_then xs i [] M = ap (λ (n : ℕ). written xs n M) (add-zero i)
  written_then xs i (r ∷ L) M =
      let e : i + suc (length L) ≡ suc i + length L = omega arith in
      ap (λ (n : ℕ). written (written (set xs i (what r)) (suc i) L) n M) e ∙ written_then (set xs i (what r)) (suc i) L M

abbrev pub rows_in : List (List ℕ) → ℕ → List (ℕ × List ℕ) → List (List ℕ)
rows_in es i L = written (λ r. r.1) es i L

abbrev pub labels_in : List ℕ → ℕ → List (ℕ × List ℕ) → List ℕ
labels_in ls i L = written (λ r. r.0) ls i L

-- The rows L are written from row on, q is the place past them and col the next column.
abbrev pub done : List (List ℕ) → List ℕ → ℕ → List (ℕ × List ℕ) → ℕ → ℕ → Out
done es ls row L q col = well (standing (rows_in es row L) (labels_in ls row L) q (row + length L) col)

done_then : (es : List (List ℕ)) (ls : List ℕ) (row : ℕ) (L M : List (ℕ × List ℕ)) (q c q' c' : ℕ) → q ≡ q' → c ≡ c'
    → done (rows_in es row L) (labels_in ls row L) (row + length L) M q c ≡ done es ls row (L ++ M) q' c'
done_then es ls row L M q c q' c' e f =
    rw (
      written_then (λ r. r.1) es row L M,
      written_then (λ r. r.0) ls row L M,
      e,
      f,
      add_assoc row (length L) (length M),
      ← length-append L M,
    ) refl

-- A number of one digit, and one of two: where it ends and what it counts.
module _ (s : List ℕ) (at : ℕ) where
  one_digit : (v : ℕ) (z : List ℕ) → drop (at + 1) s ≡ z → NoDigit z → (number_end_lem s v at ≡ Some (at + 1)) × (number_value s v at ≡ v)
  unfolding number_end_lem number_value
  one_digit v z e h = rw (digit_false s (at + 1) z e h) (refl, refl)

  two_digits : (i : ℕ) (z : List ℕ) → drop (at + 1) s ≡ (38 + i) ∷ z → 10 ≤ i → i ≤ 16 → (number_end_lem s 1 at ≡ Some (at + 2)) × (number_value s 1 at ≡ i)
  unfolding number_end_lem number_value
  two_digits i z e l u =
      let second = digit_class (38 + i) (omega arith) (omega arith) in
      let small : digit (class_of (38 + i)) ≤ 6 = omega (arith, second.1) in
      let value : 10 + digit (class_of (38 + i)) ≡ i = omega (arith, second.1) in
      rw (kind_of_holds s (at + 1) (38 + i) z e, second.0, le-leb (digit (class_of (38 + i))) 6 small) (refl, value)

module _ (s : List ℕ) (p : ℕ) where
  -- One step of each kind, where the parts are known.
  term_step : (t : Term) (n d : ℕ) (v : List ℕ) (es : List (List ℕ)) (ls : List ℕ) (at row col : ℕ) (z : List ℕ)
      → drop at s ≡ term_text t ++ z → WellTerm t d → AfterTerm z → col + ands t ≤ 12 → (x : Out)
      → chain (atoms_built (λ u x. atom_built n s p d u x) p s (ands t) col (standing es ls at row (col + ands t)))
      (λ r. atom_built n s p d (less_all (vectors p) col (ands t) v) r) ≡ x
      → term_built (suc n) s p d v (standing es ls at row col) ≡ x
  unfolding term_built ands_at
  term_step t n d v es ls at row col z e w f c x h =
      rw (
        ands_counted s t (3 * length s + 3) d at z e w f (omega (arith, ap length e, length-drop at s, length-append (term_text t) z)),
        le-ltb 12 col (omega arith),
        le-ltb 256 (ands t) (omega arith),
      ) h

  only_step : (n d : ℕ) (v : List ℕ) (es : List (List ℕ)) (ls : List ℕ) (at row col : ℕ) (L : List (ℕ × List ℕ)) (q c C : ℕ)
      → term_built n s p d v (standing es ls at row col) ≡ done es ls row L q c → is_or (kind_at s q) ≡ false → c ≡ C
      → rule_built (suc n) s p d v (standing es ls at row col) ≡ done es ls row L q C
  unfolding rule_built
  only_step n d v es ls at row col L q c C e f g = rw (e, f, g) refl

  or_step : (n d : ℕ) (v : List ℕ) (es : List (List ℕ)) (ls : List ℕ) (at row col : ℕ) (L M : List (ℕ × List ℕ)) (q c q' c' Q C : ℕ)
      → term_built n s p d v (standing es ls at row col) ≡ done es ls row L q c → is_or (kind_at s q) ≡ true
      → rule_built n s p d v (standing (rows_in es row L) (labels_in ls row L) (q + 1) (row + length L) c)
      ≡ done (rows_in es row L) (labels_in ls row L) (row + length L) M q' c'
      → q' ≡ Q → c' ≡ C → rule_built (suc n) s p d v (standing es ls at row col) ≡ done es ls row (L ++ M) Q C
  unfolding rule_built
  or_step n d v es ls at row col L M q c q' c' Q C e f g h k = rw (e, f) (g ∙ done_then es ls row L M q' c' Q C h k)

  and_step : (n d : ℕ) (x : List ℕ) (m own : ℕ) (es : List (List ℕ)) (ls : List ℕ) (at row col : ℕ) (L M : List (ℕ × List ℕ)) (q c q' c' Q C : ℕ)
      → atom_built n s p d ((vectors p).unit own) (standing es ls at row col) ≡ done es ls row L q c → is_and (kind_at s q) ≡ true
      → chain
      (atoms_built (λ u x. atom_built n s p d u x) p s m (suc own) (standing (rows_in es row L) (labels_in ls row L) (q + 1) (row + length L) c))
      (λ r. atom_built n s p d x r)
      ≡ done (rows_in es row L) (labels_in ls row L) (row + length L) M q' c'
      → q' ≡ Q → c' ≡ C
      → chain (atoms_built (λ u x. atom_built n s p d u x) p s (suc m) own (standing es ls at row col)) (λ r. atom_built n s p d x r)
      ≡ done es ls row (L ++ M) Q C
  unfolding atoms_built
  and_step n d x m own es ls at row col L M q c q' c' Q C e f g h j = rw (e, f, add-one own) (g ∙ done_then es ls row L M q' c' Q C h j)

  group_step : (n d : ℕ) (v : List ℕ) (es : List (List ℕ)) (ls : List ℕ) (at row col : ℕ) (L : List (ℕ × List ℕ)) (z : List ℕ) (q c Q : ℕ)
      → drop at s ≡ opening ∷ z → (d ≡ 0 → ⊥)
      → rule_built n s p (d - 1) v (standing es ls (at + 1) row col) ≡ done es ls row L q c → is_close (kind_at s q) ≡ true → q + 1 ≡ Q
      → atom_built (suc n) s p d v (standing es ls at row col) ≡ done es ls row L Q c
  unfolding atom_built
  group_step n d v es ls at row col L z q c Q e f g h k =
      rw (kind_of_holds s at opening z e, open_sign.class, ne_eqb d 0 f, g, h, k) refl

  number_step : (n d : ℕ) (v : List ℕ) (es : List (List ℕ)) (ls : List ℕ) (at row c i : ℕ) (z : List ℕ)
      → drop at s ≡ numeral i ++ z → 1 ≤ i → i ≤ 16 → NoDigit z → row < 32
      → atom_built (suc n) s p d v (standing es ls at row c) ≡ done es ls row ((i, v) ∷ []) (at + length (numeral i)) (c + 0)
  unfolding atom_built written numeral
  number_step n d v es ls at row c i z e l u h m = go (ltb i 10) refl e
    where
      go : (t : Bool) → ltb i 10 ≡ t → drop at s ≡ cond t ((48 + i) ∷ []) (49 ∷ (38 + i) ∷ []) ++ z
          → atom_built (suc n) s p d v (standing es ls at row c)
          ≡ well (standing (set es row v) (set ls row i) (at + length (cond (ltb i 10) ((48 + i) ∷ []) (49 ∷ (38 + i) ∷ []))) (row + 1) (c + 0))
      go true t e =
          let k = ltb-true i 10 t in
          let q : 48 + i - 48 ≡ i = omega arith in
          let read = one_digit s at i z (past_one s at (48 + i) z e) h in
          rw (t, kind_of_holds s at (48 + i) z e, class_digit (48 + i) (omega arith) (omega arith), q, read.0, read.1, lt-ltb row 32 m, add-zero c)
      go false t e =
          let read = two_digits s at i z (past_one s at 49 ((38 + i) ∷ z) e) (ltb-false i 10 t) u in
          rw (
            t,
            kind_of_holds s at 49 ((38 + i) ∷ z) e,
            class_digit 49 (omega arith) (omega arith),
            read.0,
            read.1,
            lt-ltb row 32 m,
            add-zero c,
          )

  mutual
    unfolding rule_text rule_rows rule_takes rule_names ands atoms_built

    pub rule_builds : (r : Rule) (n d : ℕ) (v : List ℕ) (es : List (List ℕ)) (ls : List ℕ) (at row col : ℕ) (z : List ℕ)
        → drop at s ≡ rule_text r ++ z → WellRule r d → AfterRule z → 3 * length (rule_text r) + 2 < n
        → row + length (rule_names r) ≤ 32 → col + rule_takes r ≤ 12
        → rule_built n s p d v (standing es ls at row col)
        ≡ done es ls row (rule_rows (vectors p) r v col) (at + length (rule_text r)) (col + rule_takes r)
    rule_builds (term t) zero d v es ls at row col z e w a l m k = absurd (not-suc-le-zero l)
    rule_builds (term t) (suc zero) d v es ls at row col z e w a l m k = absurd (omega arith)
    rule_builds (term t) (suc (suc n)) d v es ls at row col z e w a l m k =
        let x = less_all (vectors p) col (ands t) v in
        let L = term_rows (vectors p) t x col (col + ands t) in
        only_step (suc n) d v es ls at row col L (at + length (term_text t)) (col + ands t + inside_takes t) (col + (ands t + inside_takes t))
        (term_step t n d v es ls at row col z e w a.as_term (omega arith)
        (done es ls row L (at + length (term_text t)) (col + ands t + inside_takes t))
        (term_builds t n d x col es ls at row (col + ands t) z e w a.as_term (omega arith) m (omega arith)))
        (sign_false or_sign s (at + length (term_text t)) z (past s at (term_text t) z e) a.no_or) (omega arith)
    rule_builds (t or r) zero d v es ls at row col z e w a l m k = absurd (not-suc-le-zero l)
    rule_builds (t or r) (suc zero) d v es ls at row col z e w a l m k = absurd (omega arith)
    rule_builds (t or r) (suc (suc n)) d v es ls at row col z e w a l m k =
        let i = length-append (term_text t) (bar ∷ rule_text r) in
        let j = length-append (term_names t) (rule_names r) in
        let here : drop at s ≡ term_text t ++ (bar ∷ (rule_text r ++ z)) = e ∙ append_assoc (term_text t) (bar ∷ rule_text r) z in
        let next : drop (at + length (term_text t)) s ≡ bar ∷ (rule_text r ++ z) = past s at (term_text t) (bar ∷ (rule_text r ++ z)) here in
        let x = less_all (vectors p) col (ands t) v in
        let L = term_rows (vectors p) t x col (col + ands t) in
        let c = col + (ands t + inside_takes t) in
        let same : col + ands t + inside_takes t ≡ c = omega arith in
        let o = term_count (vectors p) t x col (col + ands t) in
        or_step (suc n) d v es ls at row col L (rule_rows (vectors p) r v c) (at + length (term_text t)) c
        (at + length (term_text t) + 1 + length (rule_text r)) (c + rule_takes r) (at + length (term_text t ++ (bar ∷ rule_text r))) (col + (ands t + inside_takes t + rule_takes r))
        (term_step t n d v es ls at row col (bar ∷ (rule_text r ++ z)) here w.0 (bar_follows (rule_text r ++ z)) (omega arith)
        (done es ls row L (at + length (term_text t)) c)
        (term_builds t n d x col es ls at row (col + ands t) (bar ∷ (rule_text r ++ z)) here w.0 (bar_follows (rule_text r ++ z)) (omega (arith, i))
        (omega (arith, j)) (omega arith)
        ∙ ap (λ (c : ℕ). done es ls row L (at + length (term_text t)) c) same))
        (sign_true or_sign s (at + length (term_text t)) (rule_text r ++ z) next)
        (rule_builds r (suc n) d v (rows_in es row L) (labels_in ls row L) (at + length (term_text t) + 1) (row + length L) c z
        (past_one s (at + length (term_text t)) bar (rule_text r ++ z) next) w.1 a (omega (arith, i)) (omega (arith, j, o)) (omega arith))
        (omega (arith, i)) (omega arith)

    term_builds : (t : Term) (n d : ℕ) (x : List ℕ) (own : ℕ) (es : List (List ℕ)) (ls : List ℕ) (at row c : ℕ) (z : List ℕ)
        → drop at s ≡ term_text t ++ z → WellTerm t d → AfterTerm z → 3 * length (term_text t) < n
        → row + length (term_names t) ≤ 32 → c + inside_takes t ≤ 12
        → chain (atoms_built (λ u x. atom_built n s p d u x) p s (ands t) own (standing es ls at row c)) (λ r. atom_built n s p d x r)
        ≡ done es ls row (term_rows (vectors p) t x own c) (at + length (term_text t)) (c + inside_takes t)
    term_builds (atom b) n d x own es ls at row c z e w a l m i = atom_builds b n d x es ls at row c z e w a.no_digit l m i
    term_builds (b and t) n d x own es ls at row c z e w a l m i =
        let u = length-append (atom_text b) (ampersand ∷ term_text t) in
        let j = length-append (atom_names b) (term_names t) in
        let here : drop at s ≡ atom_text b ++ (ampersand ∷ (term_text t ++ z)) = e ∙ append_assoc (atom_text b) (ampersand ∷ term_text t) z in
        let next : drop (at + length (atom_text b)) s ≡ ampersand ∷ (term_text t ++ z) = past s at (atom_text b) (ampersand ∷ (term_text t ++ z)) here in
        let L = atom_rows (vectors p) b ((vectors p).unit own) c in
        let o = atom_count (vectors p) b ((vectors p).unit own) c in
        and_step n d x (ands t) own es ls at row c L (term_rows (vectors p) t x (suc own) (c + atom_takes b))
        (at + length (atom_text b)) (c + atom_takes b) (at + length (atom_text b) + 1 + length (term_text t)) (c + atom_takes b + inside_takes t)
        (at + length (atom_text b ++ (ampersand ∷ term_text t))) (c + (atom_takes b + inside_takes t))
        (atom_builds b n d ((vectors p).unit own) es ls at row c (ampersand ∷ (term_text t ++ z)) here w.0 (ampersand_follows (term_text t ++ z))
        (omega (arith, u)) (omega (arith, j)) (omega arith))
        (sign_true and_sign s (at + length (atom_text b)) (term_text t ++ z) next)
        (term_builds t n d x (suc own) (rows_in es row L) (labels_in ls row L) (at + length (atom_text b) + 1) (row + length L) (c + atom_takes b) z
        (past_one s (at + length (atom_text b)) ampersand (term_text t ++ z) next) w.1 a (omega (arith, u)) (omega (arith, j, o)) (omega arith))
        (omega (arith, u)) (omega arith)

    atom_builds : (b : Atom) (n d : ℕ) (v : List ℕ) (es : List (List ℕ)) (ls : List ℕ) (at row c : ℕ) (z : List ℕ)
        → drop at s ≡ atom_text b ++ z → WellAtom b d → NoDigit z → 3 * length (atom_text b) < n
        → row + length (atom_names b) ≤ 32 → c + atom_takes b ≤ 12
        → atom_built n s p d v (standing es ls at row c)
        ≡ done es ls row (atom_rows (vectors p) b v c) (at + length (atom_text b)) (c + atom_takes b)
    atom_builds (number i) zero d v es ls at row c z e w a l m k = absurd (not-suc-le-zero l)
    atom_builds (number i) (suc n) d v es ls at row c z e w a l m k = number_step n d v es ls at row c i z e w.0 w.1 a (omega arith)
    atom_builds (group r) zero d v es ls at row c z e w a l m k = absurd (not-suc-le-zero l)
    atom_builds (group r) (suc n) d v es ls at row c z e w a l m k =
        let u = length-append (rule_text r) (closing ∷ []) in
        let inside : drop (at + 1) s ≡ rule_text r ++ (closing ∷ z)
        = past_one s at opening ((rule_text r ++ (closing ∷ [])) ++ z) e ∙ append_assoc (rule_text r) (closing ∷ []) z in
        group_step n d v es ls at row c (rule_rows (vectors p) r v c) ((rule_text r ++ (closing ∷ [])) ++ z) (at + 1 + length (rule_text r)) (c + rule_takes r)
        (at + suc (length (rule_text r ++ (closing ∷ [])))) e (λ q. omega (arith, w.0))
        (rule_builds r n (d - 1) v es ls (at + 1) row c (closing ∷ z) inside w.1 (closing_follows z) (omega (arith, u)) m k)
        (sign_true close_sign s (at + 1 + length (rule_text r)) z (past s (at + 1) (rule_text r) (closing ∷ z) inside)) (omega (arith, u))
    atom_builds (choice k b) n d v es ls at row c z e w a l m i = absurd w
