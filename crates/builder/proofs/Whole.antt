-- The whole text: what the builder leaves for a rule that is not too large is what `Left` says.
-- Assumes nothing.
use mathlib.Core.Path.{◌≡◌, refl, sym, ap, ap₂, ◌∙◌}
use mathlib.Core.List.{List, [], ◌∷◌, append-nil}
use Prim.Native.Nat.{ℕ, zero, suc, ◌+◌, ◌-◌, ◌*◌, ◌%◌, ◌<◌, ◌≤◌}
use native.Mathlib.Nat.{not-suc-le-zero, le_of_suc-le-suc, zero-add}
use native.Mathlib.Omega.{arith}
use lib.ListN.{length, get_or, set, take, replicate, length-set}
use lib.Seq.{take-set-lt, get_or-take, get_or-set_same, get_or-set_other}
use Rattle.rules.specs.Tree.{Rule, rule_names}
use Rattle.rules.specs.Text.{rule_text, IsRule}
use Rattle.rules.specs.Construction.{modulo, rule_rows, columns, rows}
use Rattle.rules.proofs.Same.{AllRel, Match, rule_same}
use Rattle.rules.proofs.Counting.{rule_count, label_at}
use Rattle.reader.proofs.Ends.{nothing_follows}
use Rattle.std.specs.Prelude.{Option, Some}
use Rattle.builder.specs.declared.Place.{Place}
use Rattle.builder.specs.Building.{vectors, out, standing, rule_built}
use Rattle.builder.specs.Left.{Held, Left}
use Rattle.builder.proofs.Trees.{written, done, rule_builds}

-- The rows of the rule as the builder has them, in vectors of 12 numbers.
abbrev wide : ℕ → Rule → List (ℕ × List ℕ)
wide p r = rule_rows (vectors p) r ((vectors p).unit 0) 1

whole_builds : (t : List ℕ) (r : Rule) → IsRule t r → length (rule_names r) ≤ 32 → columns r ≤ 12 → (p n : ℕ) (es : List (List ℕ)) (ls : List ℕ)
    → 3 * length t + 2 < n → rule_built n t p 8 ((vectors p).unit 0) (standing es ls 0 0 1) ≡ done es ls 0 (wide p r) (length t) (columns r)
whole_builds t r i d c p n es ls l =
    rule_builds t p r n 8 ((vectors p).unit 0) es ls 0 0 1 [] (i.text ∙ sym (append-nil (rule_text r))) i.well nothing_follows
    (omega (arith, ap length i.text)) (omega arith) (omega arith)
    ∙ ap₂ (λ (q c : ℕ). done es ls 0 (wide p r) q c) (omega (arith, ap length i.text)) (omega arith)

-- A vector of 12 numbers cut to e of them.
abbrev Cut : ℕ → List ℕ → List ℕ → Type 0
Cut e x y = take e x ≡ y

zeros_cut : (e n : ℕ) → e ≤ n → take e (replicate {A = ℕ} n 0) ≡ replicate e 0
zeros_cut zero zero l = refl
zeros_cut zero (suc n) l = refl
zeros_cut (suc e) zero l = absurd (not-suc-le-zero l)
zeros_cut (suc e) (suc n) l = ap (λ z. 0 ∷ z) (zeros_cut e n (le_of_suc-le-suc l))

cut_change : (e c : ℕ) (x y : List ℕ) (f : ℕ → ℕ) → c < e → take e x ≡ y → take e (set x c (f (get_or x c 0))) ≡ set y c (f (get_or y c 0))
cut_change e c x y f l h =
    take-set-lt e x c (f (get_or x c 0)) l ∙ ap (λ (n : ℕ). set (take e x) c (f n)) (sym (get_or-take e x c 0 l))
    ∙ ap (λ z. set z c (f (get_or z c 0))) h

cut_match : (p e : ℕ) → e ≤ 12 → Match (modulo p 12) (modulo p e) (Cut e) 0 e
unfolding modulo
cut_match p e l = record {
  units = λ k a b. take-set-lt e (replicate 12 0) k 1 b ∙ ap (λ z. set z k 1) (zeros_cut e 12 l);
  lesses = λ k x y a b h. cut_change e k x y (λ n. (n + (p - 1)) % p) b h;
  pluses = λ k w x y a b h. cut_change e k x y (λ n. (n + w) % p) b h;
}

-- The builder's rows, cut to the columns of the rule, are the rule's, with the same labels.
rows_cut : (p : ℕ) (r : Rule) → columns r ≤ 12 → AllRel (Cut (columns r)) (wide p r) (rows p r)
unfolding rows modulo
rows_cut p r l =
    let M = cut_match p (columns r) l in
    rule_same (modulo p 12) (modulo p (columns r)) (Cut (columns r)) 0 (columns r) M r (set (replicate 12 0) 0 1)
    (set (replicate (columns r) 0) 0 1) 1 (omega arith) (omega arith) (M.units 0 (omega arith) (omega arith))

cut_at : (e : ℕ) (rs qs : List (ℕ × List ℕ)) → AllRel (Cut e) rs qs → (k : ℕ) → k < length rs
    → ((get_or rs k (0, [])).0 ≡ (get_or qs k (0, [])).0) × (take e (get_or rs k (0, [])).1 ≡ (get_or qs k (0, [])).1)
cut_at e [] qs h k l = absurd (not-suc-le-zero l)
cut_at e (r ∷ rs) [] h k l = absurd h
cut_at e (r ∷ rs) (q ∷ qs) h zero l = (h.0, h.1)
cut_at e (r ∷ rs) (q ∷ qs) h (suc k) l = cut_at e rs qs h.2 k (le_of_suc-le-suc l)

-- Rows that are written, read back.
module _ {A : Type 0} (what : ℕ × List ℕ → A) (z : A) where
  before : (xs : List A) (i : ℕ) (L : List (ℕ × List ℕ)) (j : ℕ) → j < i → get_or (written what xs i L) j z ≡ get_or xs j z
  unfolding written
  before xs i [] j l = refl
  before xs i (r ∷ L) j l =
      before (set xs i (what r)) (suc i) L j (omega arith) ∙ get_or-set_other xs i j (what r) z (λ e. omega arith)

  read_back : (xs : List A) (i : ℕ) (L : List (ℕ × List ℕ)) (k : ℕ) → k < length L → i + length L ≤ length xs
      → get_or (written what xs i L) (i + k) z ≡ what (get_or L k (0, []))
  unfolding written
  read_back xs i [] k l u = absurd (not-suc-le-zero l)
  read_back xs i (r ∷ L) zero l u =
      let e : i + 0 ≡ i = omega arith in
      ap (λ (n : ℕ). get_or (written what (set xs i (what r)) (suc i) L) n z) e
      ∙ before (set xs i (what r)) (suc i) L i (omega arith) ∙ get_or-set_same xs i (what r) z (omega arith)
  read_back xs i (r ∷ L) (suc k) l u =
      let e : i + suc k ≡ suc i + k = omega arith in
      ap (λ (n : ℕ). get_or (written what (set xs i (what r)) (suc i) L) n z) e
      ∙ read_back (set xs i (what r)) (suc i) L k (le_of_suc-le-suc l) (omega (arith, length-set xs i (what r)))

  -- From the first place on.
  read_first : (xs : List A) (L : List (ℕ × List ℕ)) (k : ℕ) → k < length L → length L ≤ length xs
      → get_or (written what xs 0 L) k z ≡ what (get_or L k (0, []))
  read_first xs L k l u = ap (λ (n : ℕ). get_or (written what xs 0 L) n z) (sym (zero-add k)) ∙ read_back xs 0 L k l (omega arith)

held : (p : ℕ) (r : Rule) (es : List (List ℕ)) (ls : List ℕ) (result : Option Place) (es' : List (List ℕ)) (ls' : List ℕ) (q : ℕ)
    → out es' ls' result ≡ done es ls 0 (wide p r) q (columns r) → length (rule_names r) ≤ 32 → columns r ≤ 12 → 32 ≤ length es → 32 ≤ length ls
    → (place : Place) × (result ≡ Some place) × Held p r place es' ls'
held p r es ls result es' ls' q o d c a b =
    let L = wide p r in
    let n = rule_count (vectors p) r ((vectors p).unit 0) 1 in
    let w = rows_cut p r c in (
      record { at = q; row = 0 + length L; col = columns r },
      ap (λ x. x.place) o,
      record {
        row = zero-add (length L) ∙ n;
        col = refl;
        labels = λ k l. ap (λ x. get_or x.labs k 0) o ∙ read_first (λ r. r.0) 0 ls L k (omega (arith, n)) (omega (arith, n))
            ∙ (cut_at (columns r) L (rows p r) w k (omega (arith, n))).0 ∙ sym (label_at (rows p r) k);
        entries = λ k l. ap (λ x. take (columns r) (get_or x.ents k [])) o
            ∙ ap (take (columns r)) (read_first (λ r. r.1) [] es L k (omega (arith, n)) (omega (arith, n)))
            ∙ (cut_at (columns r) L (rows p r) w k (omega (arith, n))).1;
      },
    )

pub made_by : (p : ℕ) (t : List ℕ) (es : List (List ℕ)) (ls : List ℕ) (v : List ℕ) (result : Option Place) (es' : List (List ℕ)) (ls' : List ℕ)
    → v ≡ (vectors p).unit 0 → ((n : ℕ) → 3 * (length t - 0) + 2 < n → out es' ls' result ≡ rule_built n t p 8 v (standing es ls 0 0 1))
    → Left p t es ls result es' ls'
made_by p t es ls v result es' ls' e h = record {
  is = λ r i d c. held p r es ls result es' ls' (length t)
      (h (3 * length t + 3) (omega arith) ∙ ap (λ w. rule_built (3 * length t + 3) t p 8 w (standing es ls 0 0 1)) e
      ∙ whole_builds t r i d c p (3 * length t + 3) es ls (omega arith)) d c;
}
