-- A choice "k of these m rules" and its k - 1 columns, for one functional: what it gives the i-th rule is the value at i of the polynomial
-- whose lowest coefficient is what it gives the choice and whose others are its numbers at the columns. So where k of the values are 0,
-- the polynomial is 0, and where fewer rules than k are true, numbers for the columns make the value of each true rule 0.
-- Assumes nothing.
use mathlib.Core.Path.{◌≡◌, refl, sym, ap, ap₂, ◌∙◌}
use mathlib.Core.Bool.{Bool, true, false, cond, true≢false}
use mathlib.Core.Logic.{⊎_elim}
use mathlib.Core.List.{List, [], ◌∷◌}
use Prim.Native.Nat.{ℕ, zero, suc, ◌+◌, ◌-◌, ◌^◌, ◌<◌, ◌≤◌}
use native.Mathlib.Nat.{not-suc-le-zero, le_of_suc-le-suc}
use native.Mathlib.Omega.{arith}
use lib.Dec.{leb}
use lib.ListN.{get_or, length}
use borrow.Author.Tests.{leb-true, leb-false}
use Rattle.algebra.specs.Ring.{Field}
use Rattle.algebra.proofs.Normal.{v, c0, ◌:+◌, ◌:-◌, ◌:*◌, ring}
use Rattle.rules.specs.Tree.{Rules, rule, ◌comma◌, rule_holds, how_many, branches}
use Rattle.rules.specs.Construction.{plus_powers}
use Rattle.rules.proofs.Polynomial.{nat, nat_add, nat_pow, pow_one, eval, Roots, Other, Distinct, vanish}
use Rattle.rules.proofs.Polynomial.{step, step_length, step_root, step_keep}
use Rattle.rules.proofs.Functional.{values, put, put_same, put_other, Outside, Inside, plus_keep}

module _ {A : Type 0} (K : Field A) where
  open K use {R}
  open R use {𝟘, 𝟙, ◌⊕◌, ◌⊗◌, neg}

  infixl 65 ◌⊕◌
  infixl 70 ◌⊗◌
  -- The numbers 1 to m are not 0 in the field.
  abbrev pub Above : ℕ → Type 0
  Above m = (n : ℕ) → 0 < n → n ≤ m → nat K n ≡ 𝟘 → ⊥

  -- What the theorem asks of a choice "k of m rules".
  abbrev pub Fit : ℕ → ℕ → Type 0
  Fit k m = (0 < k) × Above m

  -- The numbers of y at the q columns from c on, as coefficients.
  unfoldable coefs : (ℕ → A) → ℕ → ℕ → List A
  coefs y c zero = []
  coefs y c (suc q) = y c ∷ coefs y (suc c) q

  coefs_length : (y : ℕ → A) (c q : ℕ) → length (coefs y c q) ≡ q
  unfolding coefs
  coefs_length y c zero = refl
  coefs_length y c (suc q) = ap suc (coefs_length y (suc c) q)

  powers : (y : ℕ → A) (i j c q : ℕ) (x : A)
      → plus_powers (values K y) i j c q x ≡ x ⊕ nat K (i ^ j) ⊗ eval K (coefs y c q) (nat K i)
  unfolding plus_powers values coefs eval
  powers y i j c zero x = ring R (v 0) (v 0 :+ v 1 :* c0) refl (λ n. get_or (x ∷ nat K (i ^ j) ∷ []) n 𝟘)
  powers y i j c (suc q) x = powers y i (suc j) (suc c) q (x ⊕ nat K (i ^ j) ⊗ y c)
      ∙ ap (λ z. x ⊕ nat K (i ^ j) ⊗ y c ⊕ z ⊗ eval K (coefs y (suc c) q) (nat K i)) (nat_pow K i j)
      ∙ ring R (v 0 :+ v 1 :* v 2 :+ v 1 :* v 3 :* v 4) (v 0 :+ v 1 :* (v 2 :+ v 3 :* v 4)) refl
      (λ n. get_or (x ∷ nat K (i ^ j) ∷ y c ∷ nat K i ∷ eval K (coefs y (suc c) q) (nat K i) ∷ []) n 𝟘)

  branch : (y : ℕ → A) (i c q : ℕ) (x : A) → plus_powers (values K y) i 1 c q x ≡ eval K (x ∷ coefs y c q) (nat K i)
  unfolding eval
  branch y i c q x = powers y i 1 c q x ∙ ap (λ (z : ℕ). x ⊕ nat K z ⊗ eval K (coefs y c q) (nat K i)) (pow_one i)

  module _ (member : ℕ → Bool) where
    -- P j for each true rule, where the first rule is the i-th.
    abbrev EachTrue : (ℕ → Type 0) → Rules → ℕ → Type 0
    EachTrue P (rule r) i = rule_holds member r ≡ true → P i
    EachTrue P (r comma b) i = (rule_holds member r ≡ true → P i) × EachTrue P b (suc i)

    each_all : (P : ℕ → Type 0) (b : Rules) (i : ℕ) → ((j : ℕ) → P j) → EachTrue P b i
    each_all P (rule r) i h = λ t. h i
    each_all P (r comma b) i h = ((λ t. h i), each_all P b (suc i) h)

    each_map : (P Q : ℕ → Type 0) (b : Rules) (i : ℕ) → ((j : ℕ) → P j → Q j) → EachTrue P b i → EachTrue Q b i
    each_map P Q (rule r) i h e = λ t. h i (e t)
    each_map P Q (r comma b) i h e = ((λ t. h i (e.0 t)), each_map P Q b (suc i) h e.1)

    -- The value of each true rule is 0; x is what y gives the choice, whose q columns begin at c.
    abbrev pub Zero : (ℕ → A) → Rules → ℕ → ℕ → ℕ → A → Type 0
    Zero y b i q c x = EachTrue (λ j. plus_powers (values K y) j 1 c q x ≡ 𝟘) b i

    pub zero_keep : (b : Rules) (i q c : ℕ) (x : A) (y z : ℕ → A) → Inside K c q y z → Zero y b i q c x → Zero z b i q c x
    zero_keep b i q c x y z h o = each_map (λ j. plus_powers (values K y) j 1 c q x ≡ 𝟘) (λ j. plus_powers (values K z) j 1 c q x ≡ 𝟘) b i
        (λ j e. plus_keep K j c q x y z h ∙ e) o

    -- The points at which true rules have their values.
    abbrev pick : Bool → A → List A → List A
    pick true x xs = x ∷ xs
    pick false x xs = xs

    unfoldable points : Rules → ℕ → List A
    points (rule r) i = pick (rule_holds member r) (nat K i) []
    points (r comma b) i = pick (rule_holds member r) (nat K i) (points b (suc i))

    pick_length : (t : Bool) (x : A) (xs : List A) → length (pick t x xs) ≡ cond t 1 0 + length xs
    pick_length true x xs = omega arith
    pick_length false x xs = omega arith

    points_length : (b : Rules) (i : ℕ) → length (points b i) ≡ how_many member b
    unfolding points how_many
    points_length (rule r) i = pick_length (rule_holds member r) (nat K i) [] ∙ omega arith
    points_length (r comma b) i = pick_length (rule_holds member r) (nat K i) (points b (suc i))
        ∙ ap (λ (n : ℕ). cond (rule_holds member r) 1 0 + n) (points_length b (suc i))

    pick_roots : (f : List A) (t : Bool) (x : A) (xs : List A) → (t ≡ true → eval K f x ≡ 𝟘) → Roots K f xs → Roots K f (pick t x xs)
    pick_roots f true x xs h r = (h refl, r)
    pick_roots f false x xs h r = r

    points_roots : (f : List A) (b : Rules) (i : ℕ) → EachTrue (λ j. eval K f (nat K j) ≡ 𝟘) b i → Roots K f (points b i)
    unfolding points
    points_roots f (rule r) i z = pick_roots f (rule_holds member r) (nat K i) [] z tt
    points_roots f (r comma b) i z =
        pick_roots f (rule_holds member r) (nat K i) (points b (suc i)) z.0 (points_roots f b (suc i) z.1)

    pick_other : (a : A) (t : Bool) (x : A) (xs : List A) → (x ⊕ neg a ≡ 𝟘 → ⊥) → Other K a xs → Other K a (pick t x xs)
    pick_other a true x xs h o = (h, o)
    pick_other a false x xs h o = o

    -- i + n is not i.
    apart : (i n m : ℕ) → Above m → 0 < n → n ≤ m → nat K (i + n) ⊕ neg (nat K i) ≡ 𝟘 → ⊥
    apart i n m h l u e = h n l u
        (ring R (v 0) (v 1 :+ v 0 :- v 1) refl (λ j. get_or (nat K n ∷ nat K i ∷ []) j 𝟘)
        ∙ ap (λ z. z ⊕ neg (nat K i)) (sym (nat_add K i n)) ∙ e)

    points_other : (i n m : ℕ) (b : Rules) (j : ℕ) → i + n ≡ j → 0 < n → n + branches b ≤ suc m → Above m → Other K (nat K i) (points b j)
    unfolding points branches
    points_other i n m (rule r) j e l u h =
        pick_other (nat K i) (rule_holds member r) (nat K j) [] (rw (← e) (apart i n m h l (omega arith))) tt
    points_other i n m (r comma b) j e l u h =
        pick_other (nat K i) (rule_holds member r) (nat K j) (points b (suc j)) (rw (← e) (apart i n m h l (omega arith)))
        (points_other i (suc n) m b (suc j) (omega arith) (omega arith) (omega arith) h)

    pick_distinct : (t : Bool) (x : A) (xs : List A) → Other K x xs → Distinct K xs → Distinct K (pick t x xs)
    pick_distinct true x xs o d = (o, d)
    pick_distinct false x xs o d = d

    points_distinct : (m : ℕ) (b : Rules) (i : ℕ) → branches b ≤ m → Above m → Distinct K (points b i)
    unfolding points branches
    points_distinct m (rule r) i l h = pick_distinct (rule_holds member r) (nat K i) [] tt tt
    points_distinct m (r comma b) i l h = pick_distinct (rule_holds member r) (nat K i) (points b (suc i))
        (points_other i 1 m b (suc i) (omega arith) (omega arith) (omega arith) h) (points_distinct m b (suc i) (omega arith) h)

    -- True: as many values are 0 as there are coefficients, so the polynomial is 0 at 0 as well, where it is x.
    pub choice_zero : (y : ℕ → A) (k : ℕ) (b : Rules) (c : ℕ) (x : A) → Fit k (branches b) → Zero y b 1 (k - 1) c x
        → leb k (how_many member b) ≡ true → x ≡ 𝟘
    unfolding eval
    choice_zero y k b c x f z h =
        let l : k ≤ how_many member b = leb-true k (how_many member b) h in
        let g : List A = x ∷ coefs y c (k - 1) in
        let roots = points_roots g b 1 (each_map (λ j. plus_powers (values K y) j 1 c (k - 1) x ≡ 𝟘) (λ j. eval K g (nat K j) ≡ 𝟘) b 1
        (λ j e. sym (branch y j c (k - 1) x) ∙ e) z) in
        ring R (v 0) (v 0 :+ c0 :* v 1) refl (λ j. get_or (x ∷ eval K (coefs y c (k - 1)) 𝟘 ∷ []) j 𝟘)
        ∙ vanish K (points b 1) g (omega (arith, coefs_length y c (k - 1), points_length b 1, l, f.0))
        (points_distinct (branches b) b 1 (omega arith) f.1) roots 𝟘

    -- False: x and then g is 0 at each true rule.
    abbrev ZeroAt : List A → Rules → ℕ → A → Type 0
    ZeroAt g b i x = EachTrue (λ j. eval K (x ∷ g) (nat K j) ≡ 𝟘) b i

    inverse : (i m : ℕ) → Above m → 0 < i → i ≤ m → (w : A) × (w ⊗ nat K i ≡ 𝟙)
    inverse i m h l u = ⊎_elim (λ e. absurd (h i l u e)) (λ u. u) (K.inverse? (nat K i))

    -- There is such a g with no more coefficients than rules are true: one step for each of them.
    through : (b : Rules) (i m : ℕ) (x : A) → Above m → 0 < i → i + branches b ≤ suc m
        → (g : List A) × (length g ≤ how_many member b) × ZeroAt g b i x
    unfolding branches how_many
    through (rule r) i m x h l u = go (rule_holds member r) refl
      where
        go : (t : Bool) → rule_holds member r ≡ t → (g : List A) × (length g ≤ cond (rule_holds member r) 1 0) × ZeroAt g (rule r) i x
        go true e = let w = inverse i m h l (omega arith) in
            (step K w.0 x [], rw e (omega (arith, step_length K w.0 x [])), λ q. step_root K w.0 x [] (nat K i) w.1)
        go false e = ([], rw e (omega arith), λ q. absurd (true≢false (sym q ∙ e)))
    through (r comma b) i m x h l u = go (rule_holds member r) refl (through b (suc i) m x h (omega arith) (omega arith))
      where
        go : (t : Bool) → rule_holds member r ≡ t → (g : List A) × (length g ≤ how_many member b) × ZeroAt g b (suc i) x
            → (g : List A) × (length g ≤ cond (rule_holds member r) 1 0 + how_many member b) × ZeroAt g (r comma b) i x
        go true e (g, n, z) = let w = inverse i m h l (omega arith) in (
          step K w.0 x g,
          rw e (omega (arith, step_length K w.0 x g)),
          (
            (λ q. step_root K w.0 x g (nat K i) w.1),
            each_map (λ j. eval K (x ∷ g) (nat K j) ≡ 𝟘) (λ j. eval K (x ∷ step K w.0 x g) (nat K j) ≡ 𝟘) b (suc i)
                (λ j. step_keep K w.0 x g (nat K j)) z,
          ),
        )
        go false e (g, n, z) = (g, rw e (omega arith), ((λ q. absurd (true≢false (sym q ∙ e))), z))

    -- y with the numbers g at the q columns from c on, and 0 at those after them.
    unfoldable write : ℕ → ℕ → List A → (ℕ → A) → ℕ → A
    write c zero g y = y
    write c (suc q) [] y = put K c 𝟘 (write (suc c) q [] y)
    write c (suc q) (a ∷ g) y = put K c a (write (suc c) q g y)

    put_out : (c q : ℕ) (a : A) (y z : ℕ → A) → Outside K (suc c) q y z → Outside K c (suc q) y (put K c a z)
    put_out c q a y z o j h = put_other K c a z j (λ e. h (omega arith) (omega arith)) ∙ o j (λ l u. h (omega arith) (omega arith))

    write_out : (c q : ℕ) (g : List A) (y : ℕ → A) → Outside K c q y (write c q g y)
    unfolding write
    write_out c zero g y = λ j o. refl
    write_out c (suc q) [] y = put_out c q 𝟘 y (write (suc c) q [] y) (write_out (suc c) q [] y)
    write_out c (suc q) (a ∷ g) y = put_out c q a y (write (suc c) q g y) (write_out (suc c) q g y)

    coefs_put : (k : ℕ) (a : A) (y : ℕ → A) (c q : ℕ) → k < c → coefs (put K k a y) c q ≡ coefs y c q
    unfolding coefs
    coefs_put k a y c zero l = refl
    coefs_put k a y c (suc q) l = ap₂ ◌∷◌ (put_other K k a y c (λ e. omega arith)) (coefs_put k a y (suc c) q (omega arith))

    put_eval : (c q : ℕ) (a : A) (g : List A) (z : ℕ → A) (x : A) → eval K (coefs z (suc c) q) x ≡ eval K g x
        → eval K (coefs (put K c a z) c (suc q)) x ≡ eval K (a ∷ g) x
    unfolding coefs eval
    put_eval c q a g z x e =
        ap₂ (λ p f. p ⊕ x ⊗ eval K f x) (put_same K c a z) (coefs_put c a z (suc c) q (omega arith)) ∙ ap (λ u. a ⊕ x ⊗ u) e

    write_eval : (c q : ℕ) (g : List A) (y : ℕ → A) (x : A) → length g ≤ q → eval K (coefs (write c q g y) c q) x ≡ eval K g x
    unfolding write coefs eval
    write_eval c zero [] y x l = refl
    write_eval c zero (a ∷ g) y x l = absurd (not-suc-le-zero l)
    write_eval c (suc q) [] y x l = put_eval c q 𝟘 [] (write (suc c) q [] y) x (write_eval (suc c) q [] y x (omega arith))
        ∙ ring R (c0 :+ v 0 :* c0) c0 refl (λ i. x)
    write_eval c (suc q) (a ∷ g) y x l =
        put_eval c q a g (write (suc c) q g y) x (write_eval (suc c) q g y x (le_of_suc-le-suc l))

    written : (b : Rules) (i q c : ℕ) (x : A) (g : List A) (y : ℕ → A) → length g ≤ q → ZeroAt g b i x → Zero (write c q g y) b i q c x
    unfolding eval
    written b i q c x g y l z =
        each_map (λ j. eval K (x ∷ g) (nat K j) ≡ 𝟘) (λ j. plus_powers (values K (write c q g y)) j 1 c q x ≡ 𝟘) b i
        (λ j e. branch (write c q g y) j c q x ∙ ap (λ u. x ⊕ nat K j ⊗ u) (write_eval c q g y (nat K j) l) ∙ e) z

    all_zero : (b : Rules) (i : ℕ) (x : A) → x ≡ 𝟘 → ZeroAt [] b i x
    unfolding eval
    all_zero b i x e = each_all (λ j. eval K (x ∷ []) (nat K j) ≡ 𝟘) b i
        (λ j. ap (λ z. z ⊕ nat K j ⊗ 𝟘) e ∙ ring R (c0 :+ v 0 :* c0) c0 refl (λ n. nat K j))

    -- Numbers for a choice's columns: 0 where the choice is true, else those of the polynomial.
    pub choice_columns : (b : Rules) (k c : ℕ) (y : ℕ → A) (x : A) → Fit k (branches b) → (leb k (how_many member b) ≡ true → x ≡ 𝟘)
        → (z : ℕ → A) × Outside K c (k - 1) y z × Zero z b 1 (k - 1) c x
    choice_columns b k c y x f h = go (leb k (how_many member b)) refl
      where
        of : (g : List A) → length g ≤ k - 1 → ZeroAt g b 1 x → (z : ℕ → A) × Outside K c (k - 1) y z × Zero z b 1 (k - 1) c x
        of g l z = (write c (k - 1) g y, write_out c (k - 1) g y, written b 1 (k - 1) c x g y l z)

        go : (t : Bool) → leb k (how_many member b) ≡ t → (z : ℕ → A) × Outside K c (k - 1) y z × Zero z b 1 (k - 1) c x
        go true e = of [] (omega arith) (all_zero b 1 x (h e))
        go false e = let u = through b 1 (branches b) x f.1 (omega arith) (omega arith) in
            of u.0 (omega (arith, u.1, leb-false k (how_many member b) e)) u.2
