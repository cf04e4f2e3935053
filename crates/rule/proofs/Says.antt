-- That the contract of `build` settles the outcome; that what it writes is a scheme, which opens for exactly the sets for which the rule is
-- true.
-- Assumes nothing.
use Rattle.std.specs.Prelude.{Result, Ok, Err}
use mathlib.Core.Path.{◌≡◌, refl, sym, ap, subst, subst⁻¹, ◌∙◌}
use mathlib.Core.Bool.{Bool, true, false, true≢false}
use mathlib.Core.List.{List}
use mathlib.Core.Logic.{◌⊎◌, inl, inr, ◌↔◌}
use Prim.Native.Nat.{ℕ, ◌*◌, ◌<◌}
use native.Mathlib.Omega.{arith}
use lib.Dec.{leb, ltb}
use lib.ListN.{length, get_or, take}
use borrow.Author.Tests.{eqb-true, eq-eqb, leb-true, lt-ltb}
use Rattle.residue.specs.Prime.{Prime}
use Rattle.residue.specs.Moduli.{is_modulus_lem}
use Rattle.residue.proofs.Moduli.{modulus_prime}
use Rattle.linear.specs.Flat.{entry}
use Rattle.linear.specs.Rows as Rows
use Rattle.linear.proofs.Rows.{open_same}
use Rattle.scheme.specs.declared.Shape.{Shape}
use Rattle.scheme.specs.declared.Refusal.{Refusal}
use Rattle.scheme.specs.Outcome.{over}
use Rattle.scheme.specs.Open as Set
use Rattle.scheme.specs.Sets.{in_set, of_set}
use Rattle.scheme.specs.Tests.{within, each, each_below}
use Rattle.scheme.specs.Refusal.{numbers_refusal_lem, content_refusal_lem, refusal_of, IsScheme}
use Rattle.scheme.proofs.Tests.{and-true, within_is, each_at, each_by}
use Rattle.scheme.proofs.Outcomes.{not_both, one_refusal}
use Rattle.scheme.proofs.Over.{take_over}
use Rattle.scheme.proofs.Refusals.{or_else_ok, unless_ok}
use Rattle.rules.specs.Tree.{Rule, rule_names, rule_holds}
use Rattle.rules.specs.Text.{IsRule}
use Rattle.rules.specs.Construction.{columns, rows, labels_of, entries_of}
use Rattle.rules.proofs.Numbers.{row_label, row_entry, well_opens}
use Rattle.rules.proofs.Counting.{label_at, labels_are, rows_count, entries_at, names_well}
use Rattle.rules.proofs.Signs.{names_joins}
use Rattle.reader.specs.Refusal.{rule_refusal, TextRefusal}
use Rattle.reader.proofs.OneTree.{one_tree}
use Rattle.reader.proofs.Refused.{text_refusal_one}
use Rattle.rule.specs.Says.{front_refusal_lem, shape_of, RuleSays}
use Rattle.rule.specs.Copied.{Written}
use Rattle.rule.proofs.Scheme.{rule_fits, entries_size, entries_below}

-- What holds where p, n and the lengths are not refused.
pub record Front (p n labelPlaces entryPlaces : ℕ) : Type 0 where
  pub modulus : is_modulus_lem p ≡ true
  pub participants : within 1 16 n ≡ true
  pub label_places : labelPlaces ≡ 32
  pub entry_places : entryPlaces ≡ 384
  pub prime : Prime p

pub front_parts : (p n labelPlaces entryPlaces : ℕ) → front_refusal_lem p n labelPlaces entryPlaces ≡ Ok tt → Front p n labelPlaces entryPlaces
front_parts p n labelPlaces entryPlaces h =
    let a = or_else_ok _ _ h in
    let b = or_else_ok _ _ a.1 in
    let c = and-true _ _ (unless_ok _ _ b.1) in
    let modulus = unless_ok _ _ a.0 in
    record {
      modulus = modulus;
      participants = unless_ok _ _ b.0;
      label_places = eqb-true labelPlaces 32 c.0;
      entry_places = eqb-true entryPlaces 384 c.1;
      prime = modulus_prime p modulus;
    }

module _ (p n : ℕ) (t labels entries : List ℕ) where
  abbrev front : Result Unit Refusal
  front = front_refusal_lem p n (length labels) (length entries)

  -- Why a text is refused.
  abbrev Why : Refusal → Type 0
  Why k = (front ≡ Err k) ⊎ ((front ≡ Ok tt) × TextRefusal n t (Err k))

  why_one : (j k : Refusal) → Why j → Why k → j ≡ k
  why_one j k (inl a) (inl b) = one_refusal j k a b
  why_one j k (inl a) (inr b) = absurd (not_both j b.0 a)
  why_one j k (inr a) (inl b) = absurd (not_both k a.0 b)
  why_one j k (inr a) (inr b) = one_refusal j k (text_refusal_one n t (Err k) (Err j) b.1 a.1) refl

  not_refused : (r : Rule) (k : Refusal) → front ≡ Ok tt → IsRule t r → rule_refusal n r ≡ Ok tt → Why k → ⊥
  not_refused r k e i h (inl a) = not_both k e a
  not_refused r k e i h (inr a) = not_both k (text_refusal_one n t (Err k) (Ok tt) a.1 (inr (r, i, h))) refl

  -- Two outcomes that the contract permits are equal.
  pub settled : (a b : Result Shape Refusal) (labels₁ entries₁ labels₂ entries₂ : List ℕ) → RuleSays p n t labels entries a labels₁ entries₁
      → RuleSays p n t labels entries b labels₂ entries₂ → (a ≡ b) × (labels₁ ≡ labels₂) × (entries₁ ≡ entries₂)
  unfolding RuleSays
  settled (Ok s) (Ok s') labels₁ entries₁ labels₂ entries₂ x y =
      let v = x.1 in
      let w = y.1 in
      let q = one_tree t v.0 w.0 v.1 w.1 in (
        ap Ok (v.3 ∙ ap (shape_of p n) q ∙ sym w.3),
        v.4 ∙ ap (λ r. over (labels_of (rows p r)) labels) q ∙ sym w.4,
        v.5 ∙ ap (λ r. over (entries_of (rows p r)) entries) q ∙ sym w.5,
      )
  settled (Ok s) (Err k) labels₁ entries₁ labels₂ entries₂ x y =
      let v = x.1 in
      absurd (not_refused v.0 k x.0 v.1 v.2 y.0)
  settled (Err j) (Ok s) labels₁ entries₁ labels₂ entries₂ x y =
      let w = y.1 in
      absurd (not_refused w.0 j y.0 w.1 w.2 x.0)
  settled (Err j) (Err k) labels₁ entries₁ labels₂ entries₂ x y =
      (ap Err (why_one j k x.0 y.0), x.1 ∙ sym y.1, x.2 ∙ sym y.2)

-- The scheme of a rule of which nothing is refused.
module _ (p n : ℕ) (t : List ℕ) (r : Rule) (i : IsRule t r) (h : rule_refusal n r ≡ Ok tt) (modulus : is_modulus_lem p ≡ true) (people : within 1 16 n ≡ true) where
  labels_right : each (within 1 n) (rule_names r) ≡ true
  labels_right =
      each_by (within 1 n) (rule_names r)
      (λ k l. within_is 1 n (get_or (rule_names r) k 0) (names_well r 8 i.well k l).0
      (leb-true (get_or (rule_names r) k 0) n (each_at (λ x. leb x n) (rule_names r) (rule_fits n r h).named k l)))

  entries_right_lem : each_below p (entries_of (rows p r)) ≡ true
  entries_right_lem =
      each_by (λ x. ltb x p) (entries_of (rows p r))
      (λ k l. lt-ltb (get_or (entries_of (rows p r)) k 0) p (entries_below p r (modulus_prime p modulus).two k (omega (arith, entries_size p r))))

  rule_scheme : IsScheme (shape_of p n r) (labels_of (rows p r)) (entries_of (rows p r))
  unfolding refusal_of numbers_refusal_lem content_refusal_lem
  rule_scheme =
      let fits = rule_fits n r h in
      rw (
        labels_are p r,
        modulus,
        people,
        within_is 1 32 (length (rule_names r)) (omega (arith, names_joins r 8 i.well)) fits.few_rows,
        within_is 1 12 (columns r) (omega arith) fits.few_columns,
        eq-eqb (length (rule_names r)) (length (rule_names r)) refl,
        eq-eqb (length (entries_of (rows p r))) (length (rule_names r) * columns r) (entries_size p r),
        labels_right,
        entries_right_lem,
      )

  -- "A set is open exactly when the rule is true for it".
  rule_opens : (set : ℕ) → Set.Open (shape_of p n r) (labels_of (rows p r)) (entries_of (rows p r)) set ↔ (rule_holds (in_set set) r ≡ true)
  rule_opens set = ((λ o. truth.0 (subst⁻¹ Opens (rows_count p r) (to o))), λ e. from (subst Opens (rows_count p r) (truth.1 e)))
    where
      d : ℕ
      d = length (rule_names r)

      Opens : ℕ → Type 0
      Opens m = Rows.Open p m (columns r) (row_entry (rows p r)) (λ k. in_set set (row_label (rows p r) k))

      truth : Opens (length (rows p r)) ↔ (rule_holds (in_set set) r ≡ true)
      truth = well_opens p (modulus_prime p modulus) r 8 i.well (in_set set)

      same : (k j : ℕ) → k < d → j < columns r → entry (columns r) (entries_of (rows p r)) k j ≡ row_entry (rows p r) k j
      same k j lk lj = entries_at p r k j (omega (arith, rows_count p r)) lj

      marks : (k : ℕ) → k < d → of_set set (labels_of (rows p r)) k ≡ in_set set (row_label (rows p r) k)
      marks k l = ap (in_set set) (label_at (rows p r) k)

      to : Set.Open (shape_of p n r) (labels_of (rows p r)) (entries_of (rows p r)) set → Opens d
      to o = open_same p d (columns r) (entry (columns r) (entries_of (rows p r))) (row_entry (rows p r)) (of_set set (labels_of (rows p r)))
          (λ k. in_set set (row_label (rows p r) k)) same marks o

      from : Opens d → Set.Open (shape_of p n r) (labels_of (rows p r)) (entries_of (rows p r)) set
      from o = open_same p d (columns r) (row_entry (rows p r)) (entry (columns r) (entries_of (rows p r))) (λ k. in_set set (row_label (rows p r) k))
          (of_set set (labels_of (rows p r))) (λ k j lk lj. sym (same k j lk lj)) (λ k l. sym (marks k l)) o

-- What is written, as a scheme.
module _ (p n : ℕ) (t labels entries : List ℕ) (s : Shape) (labels' entries' : List ℕ) (x : RuleSays p n t labels entries (Ok s) labels' entries') where
  parts : (front_refusal_lem p n (length labels) (length entries) ≡ Ok tt) × Written p n t labels entries s labels' entries'
  unfolding RuleSays
  parts = x

  abbrev its : Rule
  its = parts.1.0

  -- What holds of the rule's own scheme holds of what the call leaves.
  carried : (P : Shape → List ℕ → List ℕ → Type 0) → P (shape_of p n its) (labels_of (rows p its)) (entries_of (rows p its))
      → P s (take s.d labels') (take (s.d * s.e) entries')
  carried P h =
      let w = parts.1 in
      let d = length (rule_names its) in
      let e = columns its in
      subst⁻¹ (λ s. P s (take s.d labels') (take (s.d * s.e) entries')) w.3
      (subst⁻¹ (λ l. P (shape_of p n its) l (take (d * e) entries'))
      (ap (take d) w.4 ∙ take_over d (labels_of (rows p its)) labels (ap length (labels_are p its)))
      (subst⁻¹ (λ l. P (shape_of p n its) (labels_of (rows p its)) l)
      (ap (take (d * e)) w.5 ∙ take_over (d * e) (entries_of (rows p its)) entries (entries_size p its)) h))

  pub built_scheme : IsScheme s (take s.d labels') (take (s.d * s.e) entries')
  built_scheme =
      let f = front_parts p n (length labels) (length entries) parts.0 in
      carried IsScheme (rule_scheme p n t its parts.1.1 parts.1.2 f.modulus f.participants)

  -- "A set is open exactly when the rule is true for it", and closed exactly when it is false.
  pub built_opens : (r : Rule) → IsRule t r → (set : ℕ)
      → Set.Open s (take s.d labels') (take (s.d * s.e) entries') set ↔ (rule_holds (in_set set) r ≡ true)
  built_opens r i set =
      let f = front_parts p n (length labels) (length entries) parts.0 in
      let q : its ≡ r = one_tree t its r parts.1.1 i in
      carried (λ s labels entries. Set.Open s labels entries set ↔ (rule_holds (in_set set) r ≡ true))
      (subst (λ z. Set.Open (shape_of p n its) (labels_of (rows p its)) (entries_of (rows p its)) set ↔ (rule_holds (in_set set) z ≡ true)) q
      (rule_opens p n t its parts.1.1 parts.1.2 f.modulus f.participants set))

  pub built_closes : (r : Rule) → IsRule t r → (set : ℕ)
      → Set.Closed s (take s.d labels') (take (s.d * s.e) entries') set ↔ (rule_holds (in_set set) r ≡ false)
  built_closes r i set = ((λ c. go (rule_holds (in_set set) r) refl c), λ q o. true≢false (sym ((built_opens r i set).0 o) ∙ q))
    where
      go : (b : Bool) → rule_holds (in_set set) r ≡ b → Set.Closed s (take s.d labels') (take (s.d * s.e) entries') set
          → rule_holds (in_set set) r ≡ false
      go true q c = absurd (c ((built_opens r i set).1 q))
      go false q c = q

-- A rule that fits is built: no refusal is permitted.
pub fitting_built : (p n : ℕ) (t labels entries : List ℕ) → front_refusal_lem p n (length labels) (length entries) ≡ Ok tt → (r : Rule) → IsRule t r
    → rule_refusal n r ≡ Ok tt → (a : Result Shape Refusal) (labels' entries' : List ℕ) → RuleSays p n t labels entries a labels' entries'
    → a ≡ Ok (shape_of p n r)
unfolding RuleSays
fitting_built p n t labels entries h r i q a labels' entries' x =
    (settled p n t labels entries a (Ok (shape_of p n r)) labels' entries' (over (labels_of (rows p r)) labels)
    (over (entries_of (rows p r)) entries) x (h, (r, i, q, refl, refl, refl))).0
