-- Laws of the copies: rows one after another.
-- Assumes nothing.
use mathlib.Core.Path.{◌≡◌, ap, ◌∙◌}
use mathlib.Core.List.{List, []}
use Prim.Native.Nat.{ℕ, ◌+◌, ◌*◌, ◌≤◌}
use native.Mathlib.Omega.{arith}
use lib.ListN.{length, get_or, take}
use lib.Seq.{get_or-take, length-take-le}
use borrow.Rule.Slice.PartMut.{put_mid}
use Rattle.algebra.proofs.Cases.{below_suc}
use Rattle.lists.proofs.Fill.{Filled, filled_part}
use Rattle.lists.proofs.Store.{row_fits}
use Rattle.linear.specs.Flat.{place}
use Rattle.rule.specs.Copied.{Copied}

module _ (e : ℕ) (table : List (List ℕ)) (x₀ : List ℕ) where
  -- The first e numbers of row k are copied to place k * e.
  pub copied_turn : (x y : List ℕ) (k : ℕ) → Copied k e table x₀ x → Filled (k * e) e (place (get_or table k [])) x y e
      → Copied (k + 1) e table x₀ y
  copied_turn x y k h f = record {
    size = f.size ∙ h.size;
    done = λ i j l m. below_suc (λ i. get_or y (i * e + j) 0 ≡ get_or (get_or table i []) j 0) k
        (λ i li. f.before (i * e + j) (omega (arith, row_fits i k e li)) ∙ h.done i j li m)
        (f.done j m) i (omega arith);
    after = λ i l. f.after i (omega arith) ∙ h.after i (omega arith);
  }

-- The first e numbers of a row, copied over a part of a list.
pub row_copied : (at e w : ℕ) (row x₀ ys : List ℕ) → ys ≡ take e row → e ≤ length row → w ≡ e → at + e ≤ length x₀
    → Filled at e (place row) x₀ (put_mid at w x₀ ys) e
row_copied at e w row x₀ ys q long same fits =
    filled_part at e w (place row) x₀ ys (ap length q ∙ length-take-le e row long) same fits
    (λ k l. ap (λ y. get_or y k 0) q ∙ get_or-take e row k 0 l)
