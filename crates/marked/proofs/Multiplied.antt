-- The product verdict computed for a scheme: the question of the product rows, all rows in the set, gives what `ProductSays` permits, and
-- all that it permits.
-- Assumes nothing.
use Rattle.std.specs.Prelude.{Ok}
use mathlib.Core.Path.{◌≡◌, ap₂, ◌∙◌}
use mathlib.Core.Bool.{Bool, true, false}
use mathlib.Core.List.{List}
use Prim.Native.Nat.{ℕ}
use lib.ListN.{length}
use Rattle.linear.specs.Flat.{place, entry}
use Rattle.linear.specs.Product.{pairs, product_rows_lem, every}
use Rattle.products.proofs.Pairs.{pairs_some}
use Rattle.products.proofs.Product.{yes_multiplies, no_product}
use Rattle.scheme.specs.declared.Shape.{Shape}
use Rattle.scheme.specs.Refusal.{product_refusal_lem, IsScheme}
use Rattle.product.specs.declared.Verdict.TheVariants.{Yes, No}
use Rattle.product.specs.Says.{ProductHanded, ProductSays}
use Rattle.product.proofs.Says.{product_answers, settled}
use Rattle.marked.specs.Only.{ProductYes, ProductNo}
use Rattle.marked.proofs.Parts.{only_with_two}
use Rattle.linear.proofs.Decided.{decided}
use Rattle.marked.proofs.Decided.{decided_opens, decided_closes}
use Rattle.marked.proofs.Asked.{given}

module _ (s : Shape) (labels entries : List ℕ) (scheme : IsScheme s labels entries) where
  abbrev rows : ℕ → ℕ → ℕ
  rows = product_rows_lem s.p s.e (entry s.e entries)

  -- The question of the product rows.
  abbrev pub multiplied : Bool × List ℕ
  multiplied = decided s.p (given s labels entries scheme).prime s.d (pairs s.e) rows every

  free : (r w : List ℕ) → length r ≡ s.d → length w ≡ pairs s.e → product_refusal_lem s labels entries (length r) (length w) ≡ Ok tt
  free r w lr lw = ap₂ (product_refusal_lem s labels entries) lr lw ∙ product_answers s labels entries scheme

  module _ (v : List ℕ) where
    handed_yes : multiplied ≡ (true, v) → (r w : List ℕ) → ProductHanded s entries r w true v w
    handed_yes q = let g = given s labels entries scheme in
        decided_opens s.p g.prime s.d (pairs s.e) (pairs_some s.e g.e_low) rows every v q

    handed_no : multiplied ≡ (false, v) → (r w : List ℕ) → ProductHanded s entries r w false r v
    handed_no q = let g = given s labels entries scheme in
        decided_closes s.p g.prime s.d (pairs s.e) (pairs_some s.e g.e_low) rows every v q

    pub product_yes : multiplied ≡ (true, v) → ProductYes s labels entries v
    unfolding ProductSays
    product_yes q r w lr lw =
        let g = given s labels entries scheme in
        let h = handed_yes q r w in
        only_with_two (ProductSays s labels entries r w) (settled s labels entries r w) (Ok Yes) v w
        (free r w lr lw, (place v, yes_multiplies s.p s.d s.e (entry s.e entries) g.e_low (place v) h.0), h)

    pub product_no : multiplied ≡ (false, v) → ProductNo s labels entries v
    unfolding ProductSays
    product_no q r w lr lw =
        let g = given s labels entries scheme in
        let h = handed_no q r w in
        only_with_two (ProductSays s labels entries r w) (settled s labels entries r w) (Ok No) r v
        (free r w lr lw, no_product s.p s.d s.e (entry s.e entries) g.e_low g.prime (place v) h.0, h)
