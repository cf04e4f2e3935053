-- The product verdict is the question of the product rows: r multiplies exactly if it weighs each pair of columns right, and that exactly
-- if the product rows, weighted by r, add up to the target. All is exact in numbers, so no field is needed, and each pair of columns, in
-- either order, is one place of a product row, so p = 2 is no special case.
-- Assumes nothing.
use mathlib.Core.Path.{◌≡◌, sym, ap, ap₂, ◌∙◌}
use mathlib.Core.Bool.{true≢false}
use mathlib.Core.Logic.{◌↔◌, ⊎_elim}
use Prim.Native.Nat.{ℕ, zero, suc, ◌<◌, ◌≤◌, ◌+◌, ◌-◌, ◌*◌, ◌%◌}
use native.Mathlib.Nat.{mod-mod, not-suc-le-zero}
use native.Mathlib.Omega.{arith}
use Rattle.algebra.proofs.Cases.{lt_or_ge}
use Rattle.residue.specs.Prime.{Prime}
use Rattle.linear.specs.Combination.{total, AddUpTo}
use Rattle.linear.specs.Rows.{target, Open, OpeningVector, Witness}
use Rattle.linear.specs.Product.{Multiplies, HasProduct, pairs, products, product_rows_lem, every}
use Rattle.linear.proofs.Carry.{total_cong}
use Rattle.linear.proofs.Handed.{witness_closes}
use Rattle.linear.proofs.Rows.{times_target}
use Rattle.products.specs.Weighs.{Weighs}
use Rattle.products.proofs.Pairs.{PairAt, product_at, pair_at, place_of, place_inside, pairs_some, target_at}
use Rattle.products.proofs.Totals.{unit, unit_same, unit_other, total_unit, total_mul, total_same, total_mod, adds_rows}

unit_first : (j : ℕ) → unit j 0 ≡ target j
unit_first zero = unit_same 0
unit_first (suc j) = unit_other (suc j) 0 (λ q. omega arith)

-- A list times a multiple of the target.
times_multiple : (e a : ℕ) (c : ℕ → ℕ) → 1 ≤ e → total e (λ l. c l * (a * target l)) ≡ a * c 0
times_multiple zero a c h = absurd (not-suc-le-zero h)
times_multiple (suc f) a c h = total_cong (suc f) (λ l. c l * (a * target l)) (λ l. a * (c l * target l)) (λ l m. omega arith)
    ∙ total_mul (suc f) a (λ l. c l * target l) ∙ ap (λ (z : ℕ). a * z) (times_target f c)

module _ (p d e : ℕ) (E : ℕ → ℕ → ℕ) where
  -- Row k times x.
  abbrev times : ℕ → (ℕ → ℕ) → ℕ
  times k x = total e (λ j. E k j * x j)

  -- Unit lists b and c pick two columns.
  multiplies_weighs : (r : ℕ → ℕ) → Multiplies p d e E r → Weighs p d e E r
  multiplies_weighs r h j l a m = total_same p d (λ k. r k * (E k j * E k l)) (λ k. r k * (times k (unit j) * times k (unit l)))
      (λ k. ap₂ (λ (x y : ℕ). r k * (x * y)) (sym (total_unit e j (E k) (omega arith))) (sym (total_unit e l (E k) m)))
      ∙ h (unit j) (unit l) ∙ ap₂ (λ (x y : ℕ). x * y % p) (unit_first j) (unit_first l)

  -- A place of the weighted product rows is the weighted products of its pair of columns.
  place_weighs : (r : ℕ → ℕ) (j l i : ℕ) → PairAt e j l i
      → total d (λ k. r k * product_rows_lem p e E k i) % p ≡ total d (λ k. r k * (E k j * E k l)) % p
  place_weighs r j l i w = total_mod p d r (λ k. product_rows_lem p e E k i) (λ k. E k j * E k l)
      (λ k s. mod-mod (products e (E k) i) p ∙ ap (λ (z : ℕ). z % p) (product_at e (E k) j l i w.0 w.1 w.2))

  weighs_adds : (r : ℕ → ℕ) → Weighs p d e E r → AddUpTo p (pairs e) (product_rows_lem p e E) d r target
  weighs_adds r h i m = let w = pair_at e i m in at w.0 w.1 w.2
    where
      at : (j l : ℕ) → PairAt e j l i → total d (λ k. r k * product_rows_lem p e E k i) % p ≡ target i % p
      at j l w = place_weighs r j l i w ∙ h j l w.0 w.1 ∙ ap (λ (z : ℕ). z % p) (sym (target_at e j l i w))

  adds_weighs : (r : ℕ → ℕ) → AddUpTo p (pairs e) (product_rows_lem p e E) d r target → Weighs p d e E r
  adds_weighs r h j l a m = at (pairs e - pairs (e - j) + (l - j)) (place_of e j l a m)
    where
      at : (i : ℕ) → PairAt e j l i → total d (λ k. r k * (E k j * E k l)) % p ≡ target j * target l % p
      at i w = sym (place_weighs r j l i w) ∙ h i (place_inside e j l i w) ∙ ap (λ (z : ℕ). z % p) (target_at e j l i w)

  -- The pair (l, j) has the products of (j, l).
  weighs_any : (r : ℕ → ℕ) → Weighs p d e E r → (j l : ℕ) → j < e → l < e
      → total d (λ k. r k * (E k j * E k l)) % p ≡ target j * target l % p
  weighs_any r h j l a m = ⊎_elim
      (λ (s : l < j). total_same p d (λ k. r k * (E k j * E k l)) (λ k. r k * (E k l * E k j)) (λ k. omega arith)
      ∙ h l j (omega arith) a ∙ ap (λ (z : ℕ). z % p) (omega arith))
      (λ (s : j ≤ l). h j l s m)
      (lt_or_ge l j)

  pub multiplies_adds : (r : ℕ → ℕ) → Multiplies p d e E r → AddUpTo p (pairs e) (product_rows_lem p e E) d r target
  multiplies_adds r h = weighs_adds r (multiplies_weighs r h)

  -- The way back, where there is a first column.
  module _ (some : 1 ≤ e) where
    -- Weighted by r, column j times the rows' products with c: the rows with the weights r k * E k j add up to target j times the target.
    weighs_column : (r : ℕ → ℕ) → Weighs p d e E r → (c : ℕ → ℕ) (j : ℕ) → j < e
        → total d (λ k. r k * E k j * times k c) % p ≡ target j * c 0 % p
    weighs_column r h c j a = adds_rows p d e E (λ k. r k * E k j) (λ l. target j * target l) c
        (λ l m. total_same p d (λ k. r k * E k j * E k l) (λ k. r k * (E k j * E k l)) (λ k. omega arith) ∙ weighs_any r h j l a m)
        ∙ ap (λ (z : ℕ). z % p) (times_multiple e (target j) c some)

    -- The rows with the weights r k * times k c add up to c 0 times the target.
    weighs_times : (r : ℕ → ℕ) → Weighs p d e E r → (c : ℕ → ℕ) → AddUpTo p e E d (λ k. r k * times k c) (λ j. c 0 * target j)
    weighs_times r h c j a = total_same p d (λ k. r k * times k c * E k j) (λ k. r k * E k j * times k c) (λ k. omega arith)
        ∙ weighs_column r h c j a ∙ ap (λ (z : ℕ). z % p) (omega arith)

    weighs_multiplies : (r : ℕ → ℕ) → Weighs p d e E r → Multiplies p d e E r
    weighs_multiplies r h b c =
        total_same p d (λ k. r k * (times k b * times k c)) (λ k. r k * times k c * times k b) (λ k. omega arith)
        ∙ adds_rows p d e E (λ k. r k * times k c) (λ j. c 0 * target j) b (weighs_times r h c)
        ∙ ap (λ (z : ℕ). z % p) (times_multiple e (c 0) b some ∙ omega arith)

    pub adds_multiplies : (r : ℕ → ℕ) → AddUpTo p (pairs e) (product_rows_lem p e E) d r target → Multiplies p d e E r
    adds_multiplies r h = weighs_multiplies r (adds_weighs r h)

    -- There is a product exactly if the product rows, all in the set, are open.
    pub product_open : HasProduct p d e E ↔ Open p d (pairs e) (product_rows_lem p e E) every
    product_open = (
      (λ h. (h.0, (λ k l q. absurd (true≢false q)), multiplies_adds h.0 h.1)),
      λ o. (o.0, adds_multiplies o.0 o.2),
    )

    pub yes_multiplies : (r : ℕ → ℕ) → OpeningVector p d (pairs e) (product_rows_lem p e E) every r → Multiplies p d e E r
    yes_multiplies r o = adds_multiplies r o.gives

    pub no_product : Prime p → (w : ℕ → ℕ) → Witness p d (pairs e) (product_rows_lem p e E) every w → HasProduct p d e E → ⊥
    no_product H w c h = witness_closes p H d (pairs e) (pairs_some e some) (product_rows_lem p e E) every w c (product_open.0 h)
