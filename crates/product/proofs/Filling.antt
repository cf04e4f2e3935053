-- The product rows as the loops fill them in.
-- Assumes nothing.
use mathlib.Core.Path.{◌≡◌, sym, ap, ◌∙◌}
use mathlib.Core.List.{List}
use mathlib.Core.Logic.{⊎_elim}
use Prim.Native.Nat.{ℕ, ◌<◌, ◌≤◌, ◌+◌, ◌-◌, ◌*◌, ◌%◌}
use native.Mathlib.Numerals.{add-one}
use native.Mathlib.Omega.{arith}
use lib.ListN.{length}
use Rattle.algebra.proofs.Cases.{lt_or_ge, below_suc}
use Rattle.lists.proofs.Store.{row_fits}
use Rattle.linear.specs.Flat.{place, entry}
use Rattle.linear.specs.Product.{pairs, products, product_rows_lem}
use Rattle.products.proofs.Pairs.{product_at, next_row}
use Rattle.product.specs.Steps.{Multiples, RowOfProducts}

-- The products that begin with the first j numbers of row k are in their places, which end before b.
pub record Rowing (p e k at : ℕ) (entries a₀ a : List ℕ) (b j : ℕ) : Type 0 where
  pub upto : j ≤ e
  pub size : length a ≡ length a₀
  pub from : at ≤ b
  pub next : b + pairs (e - j) ≡ at + pairs e
  pub done : (i : ℕ) → at + i < b → place a (at + i) ≡ products e (entry e entries k) i % p
  pub before : (i : ℕ) → i < at → place a i ≡ place a₀ i

module _ (p e k at : ℕ) (entries a₀ : List ℕ) where
  pub rowing_turn : (a a' : List ℕ) (b j : ℕ) → Rowing p e k at entries a₀ a b j → j < e → Multiples p e k j b entries a a'
      → Rowing p e k at entries a₀ a' (b + (e - j)) (j + 1)
  rowing_turn a a' b j h l m = record {
    upto = omega arith;
    size = m.size ∙ h.size;
    from = omega (arith, h.from);
    next = let w = h.next in let u = h.from in
        let q = next_row e j (b - at + (e - j)) l (omega arith) in omega arith;
    done = λ i li. ⊎_elim
        (λ (s : at + i < b). m.before (at + i) s ∙ h.done i s)
        (λ (s : b ≤ at + i). here i (at + i - b) (omega arith) (omega arith))
        (lt_or_ge (at + i) b);
    before = λ i li. m.before i (omega (arith, h.from)) ∙ h.before i li;
  }
    where
      here : (i n : ℕ) → n < e - j → at + i ≡ b + n → place a' (at + i) ≡ products e (entry e entries k) i % p
      here i n ln q = ap (place a') q ∙ m.here n ln
          ∙ ap (λ (x : ℕ). x % p)
          (sym (product_at e (entry e entries k) j (j + n) i (omega arith) (omega arith) (omega (arith, h.next, h.from))))

-- The product rows of the first k rows are in their places.
pub record Filling (p d e : ℕ) (entries a₀ a : List ℕ) (k : ℕ) : Type 0 where
  pub upto : k ≤ d
  pub size : length a ≡ length a₀
  pub done : (l : ℕ) → l < k → (i : ℕ) → i < pairs e → entry (pairs e) a l i ≡ product_rows_lem p e (entry e entries) l i

module _ (p d e : ℕ) (entries a₀ : List ℕ) where
  pub filling_turn : (a a' : List ℕ) (k q : ℕ) → Filling p d e entries a₀ a k → k < d → q ≡ pairs e → RowOfProducts p e k (k * q) entries a a'
      → Filling p d e entries a₀ a' (k + 1)
  filling_turn a a' k q h l s r = record {
    upto = omega arith;
    size = r.size ∙ h.size;
    done = rw (add-one k) (below_suc (λ l. (i : ℕ) → i < pairs e → entry (pairs e) a' l i ≡ product_rows_lem p e (entry e entries) l i) k
        (λ n ln i li. ap (λ (x : ℕ). place a' (n * x + i)) (sym s)
        ∙ r.before (n * q + i) (omega (arith, row_fits n k q ln))
        ∙ ap (λ (x : ℕ). place a (n * x + i)) s ∙ h.done n ln i li)
        (λ i li. ap (λ (x : ℕ). place a' (k * x + i)) (sym s) ∙ r.here i li));
  }
