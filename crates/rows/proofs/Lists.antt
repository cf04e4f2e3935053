-- Laws of the lists that the functions of this crate fill.
-- Assumes nothing.
use Rattle.std.proofs.Common.{◌≡◌, refl, sym, ap, ◌∙◌, cond, List, [], ◌++◌, take, drop, length-append, length-drop, get_or-drop, get_or-take}
use Rattle.std.proofs.lemmas.List.{get_or_append_left, get_or-append_right, length-take-le}
use mathlib.Core.Logic.{⊎_elim}
use Prim.Native.Nat.{ℕ, zero, suc, ◌<◌, ◌≤◌, ◌+◌, ◌-◌, ◌*◌}
use native.Mathlib.Omega.{arith}
use lib.ListN.{length, get_or, set, replicate}
use lib.Seq.{get_or-set_same, get_or-set_other}
use borrow.Author.Tests.{lt-ltb, le-ltb}
use Rattle.algebra.proofs.Cases.{lt_or_ge}
use Rattle.lists.proofs.Store.{set_at, zeros_at}
use Rattle.lines.specs.Line.{Low}
use Rattle.rows.specs.State.{row_at}

-- A blank table.
pub none_rows : (n j i : ℕ) → ◌≡◌ {A = ℕ} (get_or (get_or (replicate n (replicate 27 0)) j []) i 0) 0
none_rows zero j i = refl
none_rows (suc n) zero i = zeros_at 27 i
none_rows (suc n) (suc j) i = none_rows n j i

-- A row that was loaded: columns 2 to e, copied to the front of a blank line, then the first.
module _ (p e k : ℕ) (m x : List ℕ) (le : 1 ≤ e) (l12 : e ≤ 12) (fits : k * e + e ≤ length m)
    (copied : x ≡ take (k * e + e - (k * e + 1)) (drop (k * e + 1) m)) where
  abbrev row : ℕ → ℕ
  row j = get_or m (k * e + (1 + j)) 0

  abbrev v : List ℕ
  v = x ++ drop (e - 1) (replicate 27 0)

  size : length x ≡ e - 1
  size = ap length copied ∙ length-take-le _ (drop (k * e + 1) m) (omega (arith, length-drop (k * e + 1) m)) ∙ omega arith

  front : (j : ℕ) → j < e - 1 → get_or v j 0 ≡ row j
  front j l = get_or_append_left x (drop (e - 1) (replicate 27 0)) 0 j (omega (arith, size)) ∙ ap (λ (w : List ℕ). get_or w j 0) copied
      ∙ get_or-take _ (drop (k * e + 1) m) j 0 (omega arith) ∙ get_or-drop (k * e + 1) m j 0 ∙ ap (λ (n : ℕ). get_or m n 0) (omega arith)

  back : (j : ℕ) → e - 1 ≤ j → get_or v j 0 ≡ 0
  back j l = get_or-append_right x (drop (e - 1) (replicate 27 0)) (e - 1) j 0 size l ∙ get_or-drop (e - 1) (replicate 27 0) (j - (e - 1)) 0
      ∙ zeros_at 27 (e - 1 + (j - (e - 1)))

  long : e - 1 < length v
  long = omega (arith, size, length-append x (drop (e - 1) (replicate 27 0)), length-drop {A = ℕ} (e - 1) (replicate 27 0))

  pub loaded_low : Low p m → Low p (set v (e - 1) (get_or m (k * e) 0))
  loaded_low lo lp j = set_at v (e - 1) (get_or m (k * e) 0) j (λ y. y < 65536) long (lo lp (k * e))
      (λ ne. ⊎_elim (λ a. rw (front j a) (lo lp (k * e + (1 + j)))) (λ a. rw (back j a) (omega arith)) (lt_or_ge j (e - 1)))

  pub loaded_row : (j : ℕ) → j < e → get_or (set v (e - 1) (get_or m (k * e) 0)) j 0 ≡ row_at e m k j
  loaded_row j l = ⊎_elim
      (λ (a : j < e - 1). get_or-set_other v (e - 1) j (get_or m (k * e) 0) 0 (λ r. omega arith) ∙ front j a
      ∙ ap (λ b. cond b (row j) (get_or m (k * e) 0)) (sym (lt-ltb j (e - 1) a)))
      (λ (a : e - 1 ≤ j). let q : j ≡ e - 1 = omega arith in
      ap (λ (n : ℕ). get_or (set v (e - 1) (get_or m (k * e) 0)) n 0) q ∙ get_or-set_same v (e - 1) (get_or m (k * e) 0) 0 long
      ∙ ap (λ b. cond b (row j) (get_or m (k * e) 0)) (sym (le-ltb j (e - 1) a)))
      (lt_or_ge j (e - 1))
