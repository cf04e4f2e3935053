-- Parts of a list: its first numbers; the rows of a table after the first.
-- Assumes nothing.
use mathlib.Core.Path.{◌≡◌, refl, ap, subst⁻¹, ◌∙◌}
use mathlib.Core.Bool.{Bool}
use mathlib.Core.List.{List, ◌++◌}
use Prim.Native.Nat.{ℕ, suc, ◌+◌, ◌-◌, ◌*◌, ◌<◌, ◌≤◌}
use native.Mathlib.Omega.{arith}
use lib.ListN.{length, take, drop, length-take}
use lib.Seq.{get_or-take, get_or-drop, take_at}
use Rattle.lists.proofs.Store.{row_fits}
use Rattle.linear.specs.Flat.{place, entry}
use Rattle.linear.proofs.Numbers.{coefficients_same, none_same}
use Rattle.combination.specs.Found.{Found}
use Rattle.tables.specs.Steps.{OthersGive}

-- The first n places of a list.
pub part_length : (n a : ℕ) (xs : List ℕ) → length xs ≡ a → n ≤ a → length (take (n - 0) xs) ≡ n
part_length n a xs q l = length-take (n - 0) xs ∙ omega arith

-- The rows after the first.
others_size : (d e : ℕ) → 1 ≤ e → (e - 1) * d + d ≡ e * d
others_size d e l = let q : e - 1 + 1 ≡ e = omega arith in omega (arith, ap (λ (x : ℕ). x * d) q)

module _ (d e : ℕ) (rows : List ℕ) (some : 1 ≤ e) (size : length rows ≡ e * d) where
  abbrev others : List ℕ
  others = take (length rows - d) (drop d rows)

  others_at : (j k : ℕ) → j < e - 1 → k < d → entry d others j k ≡ entry d rows (suc j) k
  others_at j k lj lk = get_or-take (length rows - d) (drop d rows) (j * d + k) 0 (omega (arith, others_size d e some, row_fits j (e - 1) d lj))
      ∙ get_or-drop d rows (j * d + k) 0 ∙ ap (place rows) (omega arith)

  first_at : (k : ℕ) → k < d → place (take d rows) k ≡ place rows k
  first_at k l = get_or-take d rows k 0 (omega arith)

  -- c is lent as the front of a list, which goes on with `rest`.
  pub others_give_lem : (p : ℕ) (r : Bool) (c rest : List ℕ) → length c ≡ e - 1 → Found p (e - 1) d others (take d rows) r c
      → OthersGive p d e rows r (take (e - 1) (c ++ rest))
  others_give_lem p r c rest q f = subst⁻¹ (OthersGive p d e rows r) (take_at c rest (e - 1) q) (record {
    yes = λ w. coefficients_same p d (e - 1) (entry d others) (λ j. entry d rows (suc j)) others_at (place (take d rows)) (place rows)
        (place c) (place c) first_at (λ k l. refl) (f.yes w);
    no = λ w. none_same p d (e - 1) (entry d others) (λ j. entry d rows (suc j)) others_at (place (take d rows)) (place rows) first_at
        (f.no w);
  })
