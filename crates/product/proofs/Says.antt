-- What `product` answers, from what the question of the product rows answers: its yes and no are those of the definition with any two lists
-- b and c. And that it settles the outcome.
-- Assumes nothing.
use Rattle.std.specs.Prelude.{Result, Ok, Err}
use mathlib.Core.Path.{◌≡◌, refl, sym, ap, ap₂, ◌∙◌, subst}
use mathlib.Core.Bool.{Bool, true, false, ◌&&◌}
use mathlib.Core.List.{List}
use Prim.Native.Nat.{ℕ}
use lib.ListN.{length}
use borrow.Author.Tests.{eq-eqb}
use Rattle.linear.specs.Flat.{place, entry}
use Rattle.linear.specs.Rows as Rows
use Rattle.linear.specs.Product.{pairs, product_rows_lem, every, Multiplies}
use Rattle.linear.proofs.Handed.{handed_settled, handed_same}
use Rattle.products.proofs.Pairs.{pairs_some}
use Rattle.products.proofs.Product.{yes_multiplies, no_product}
use Rattle.scheme.specs.declared.Shape.{Shape}
use Rattle.scheme.specs.Refusal.{refusal_of, product_refusal_lem, IsScheme}
use Rattle.scheme.proofs.Refusals.{Valid, valid, of_checked}
use Rattle.scheme.proofs.Outcomes.{not_both, one_refusal}
use Rattle.scheme.specs.declared.Checked.{Checked}
use Rattle.scheme.specs.declared.Refusal.{Refusal}
use Rattle.scheme.specs.Checked.{IsOf}
use Rattle.product.specs.declared.Verdict.{Verdict}
use Rattle.product.specs.declared.Verdict.TheVariants.{Yes, No}
use Rattle.product.specs.Says.{ProductHanded, ProductSays}
use Rattle.product.specs.Steps.{RowsOfProducts}

-- A call that is not refused is on a valid scheme.
pub product_valid : (s : Shape) (labels entries : List ℕ) (m n : ℕ) → product_refusal_lem s labels entries m n ≡ Ok tt → Valid s labels entries
product_valid s labels entries m n h = valid s labels entries _ h

-- On a scheme, with lists of their lengths, the call is not refused.
pub product_answers : (s : Shape) (labels entries : List ℕ) → IsScheme s labels entries
    → product_refusal_lem s labels entries s.d (pairs s.e) ≡ Ok tt
product_answers s labels entries h =
    ap (λ b. refusal_of s labels entries b (Ok tt)) (ap₂ ◌&&◌ (eq-eqb s.d s.d refl) (eq-eqb (pairs s.e) (pairs s.e) refl)) ∙ h

pub says_refused : (s : Shape) (labels entries r w : List ℕ) (a : Result Verdict Refusal) (k : Refusal)
    → product_refusal_lem s labels entries (length r) (length w) ≡ Err k → a ≡ Err k → ProductSays s labels entries r w a r w
unfolding ProductSays
says_refused s labels entries r w a k h e = rw e (h, refl, refl)

-- What the table of the product rows answers is what the product rows answer.
pub table_answers : (p d e q : ℕ) (entries a₀ a r w : List ℕ) (o : Bool) (r' w' : List ℕ) → q ≡ pairs e → RowsOfProducts p d e entries a₀ a
    → Rows.Handed p d q (entry q a) every r w o r' w' → Rows.Handed p d (pairs e) (product_rows_lem p e (entry e entries)) every r w o r' w'
table_answers p d e q entries a₀ a r w o r' w' e₁ t h =
    handed_same p d (pairs e) (entry (pairs e) a) (product_rows_lem p e (entry e entries)) every every t.rows (λ k l. refl) r w o r' w'
    (subst (λ (n : ℕ). Rows.Handed p d n (entry n a) every r w o r' w') e₁ h)

-- What the product rows of the checked scheme answer.
module _ (s : Shape) (labels entries r w r' w' : List ℕ) (c : Checked) (is : IsOf s labels entries c)
    (h : product_refusal_lem s labels entries (length r) (length w) ≡ Ok tt) (o : Bool)
    (x : ProductHanded c.shape c.entries.now r w o r' w') where
  given : Valid s labels entries
  given = product_valid s labels entries (length r) (length w) h

  at : (b : Bool) → o ≡ b → ProductHanded s entries r w b r' w'
  at b q = of_checked (λ s labels entries. ProductHanded s entries r w b r' w') c is
      (subst (λ (b : Bool). ProductHanded c.shape c.entries.now r w b r' w') q x)

  -- The r handed out has what the definition asks, for any two lists b and c; with the w handed out no r has it.
  pub says_yes : o ≡ true → ProductSays s labels entries r w (Ok Yes) r' w'
  unfolding ProductSays
  says_yes q = (
    h,
    (place r', yes_multiplies s.p s.d s.e (entry s.e entries) given.e_low (place r') (at true q).0),
    at true q,
  )

  pub says_no : o ≡ false → ProductSays s labels entries r w (Ok No) r' w'
  unfolding ProductSays
  says_no q = (
    h,
    no_product s.p s.d s.e (entry s.e entries) given.e_low given.prime (place w') (at false q).0,
    at false q,
  )

-- Two outcomes that the contract permits are equal.
module _ (s : Shape) (labels entries r w : List ℕ) where
  -- A call that is not refused.
  abbrev Free : Type 0
  Free = product_refusal_lem s labels entries (length r) (length w) ≡ Ok tt

  same : Free → (b : Bool) (r₁ w₁ r₂ w₂ : List ℕ) → ProductHanded s entries r w b r₁ w₁ → ProductHanded s entries r w b r₂ w₂
      → (b ≡ b) × (r₁ ≡ r₂) × (w₁ ≡ w₂)
  same h b = let v = product_valid s labels entries (length r) (length w) h in
      handed_settled s.p v.prime s.d (pairs s.e) (pairs_some s.e v.e_low)
      (product_rows_lem s.p s.e (entry s.e entries)) every r w b b

  pub settled : (a b : Result Verdict Refusal) (r₁ w₁ r₂ w₂ : List ℕ) → ProductSays s labels entries r w a r₁ w₁
      → ProductSays s labels entries r w b r₂ w₂ → (a ≡ b) × (r₁ ≡ r₂) × (w₁ ≡ w₂)
  unfolding ProductSays
  settled (Ok Yes) (Ok Yes) r₁ w₁ r₂ w₂ x y = let q = same x.0 true r₁ w₁ r₂ w₂ x.2 y.2 in (refl, q.1, q.2)
  settled (Ok Yes) (Ok No) r₁ w₁ r₂ w₂ x y = absurd (y.1 x.1)
  settled (Ok Yes) (Err k) r₁ w₁ r₂ w₂ x y = absurd (not_both k x.0 y.0)
  settled (Ok No) (Ok Yes) r₁ w₁ r₂ w₂ x y = absurd (x.1 y.1)
  settled (Ok No) (Ok No) r₁ w₁ r₂ w₂ x y = let q = same x.0 false r₁ w₁ r₂ w₂ x.2 y.2 in (refl, q.1, q.2)
  settled (Ok No) (Err k) r₁ w₁ r₂ w₂ x y = absurd (not_both k x.0 y.0)
  settled (Err j) (Ok Yes) r₁ w₁ r₂ w₂ x y = absurd (not_both j y.0 x.0)
  settled (Err j) (Ok No) r₁ w₁ r₂ w₂ x y = absurd (not_both j y.0 x.0)
  settled (Err j) (Err k) r₁ w₁ r₂ w₂ x y = (ap (λ (k : Refusal). Err k) (one_refusal j k x.0 y.0), x.1 ∙ sym y.1, x.2 ∙ sym y.2)

  -- The r handed out is one that the definition asks for.
  pub vector_multiplies : (r₁ w₁ : List ℕ) → ProductSays s labels entries r w (Ok Yes) r₁ w₁
      → Multiplies s.p s.d s.e (entry s.e entries) (place r₁)
  unfolding ProductSays
  vector_multiplies r₁ w₁ x = let v = product_valid s labels entries (length r) (length w) x.0 in
      yes_multiplies s.p s.d s.e (entry s.e entries) v.e_low (place r₁) x.2.0
