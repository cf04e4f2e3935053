-- The witness pairs the random lists for one code with those for another: a map, its inverse, both compositions the identity, and the
-- shares at the chosen rows are the same in each pair.
-- Assumes nothing.
use mathlib.Core.Path.{◌≡◌, sym, ap, ◌∙◌}
use mathlib.Core.Bool.{Bool, true}
use mathlib.Core.List.{List, ◌∷◌}
use Prim.Native.Nat.{ℕ, zero, suc, ◌<◌, ◌+◌, ◌-◌, ◌*◌, ◌%◌, ◌/◌}
use native.Mathlib.Nat.{mod-lt, mod-eq_of_lt, mod-add-mod, add-mod-mod, zero-mod, div-add-mod'}
use native.Mathlib.Omega.{arith}
use lib.ListN.{length, get_or}
use lib.Seq.{ext_get_or}
use Rattle.algebra.specs.Sum.{dot}
use Rattle.algebra.proofs.Ring.{mul-zero, zero_r}
use Rattle.algebra.proofs.Sum.{sum_cong, sum_lin, dot_comm}
use Rattle.residue.specs.Prime.{Prime}
use Rattle.residue.specs.Residue.{F, res, ◌⊕◌, ◌⊗◌}
use Rattle.residue.proofs.Modulo.{mod_by}
use Rattle.residue.proofs.Field.{residue_ring, positive, res_mod, res_add, res_mul, res_same}
use Rattle.linear.specs.Combination.{total}
use Rattle.linear.specs.Flat.{place}
use Rattle.linear.specs.Rows.{Witness}
use Rattle.linear.proofs.Flat.{list_length, list_at}
use Rattle.linear.proofs.Carry.{dot_iff, res_dot}
use Rattle.secrecy.specs.Pairing.{RandomList, minus, partner_at, partner}

module _ (p : ℕ) (H : Prime p) where
  -- second - first and first - second add up to 0.
  minus_back : (a b : ℕ) → a < p → b < p → (minus p b a + minus p a b) % p ≡ 0
  minus_back a b la lb = mod-add-mod (b + (p - a)) p (minus p a b) ∙ add-mod-mod (b + (p - a)) (a + (p - b)) p
      ∙ mod_by p (b + (p - a) + (a + (p - b))) 0 0 2 (omega arith) ∙ zero-mod p

  step_back : (x z a b : ℕ) → x < p → (a + b) % p ≡ 0 → ((x + z * a) % p + z * b) % p ≡ x
  step_back x z a b lx h = mod-add-mod (x + z * a) p (z * b)
      ∙ mod_by p (x + z * a + z * b) x 0 (z * ((a + b) / p))
      (omega (arith, ap (λ (y : ℕ). z * y) (div-add-mod' (a + b) p), ap (λ (y : ℕ). z * y) h))
      ∙ mod-eq_of_lt lx

  module _ (e : ℕ) (z : ℕ → ℕ) where
    partner_length : (first second : ℕ) (xs : List ℕ) → length (partner p z first second xs) ≡ length xs
    unfolding partner
    partner_length first second xs = list_length (length xs) (partner_at p z first second xs)

    partner_at_holds : (first second : ℕ) (xs : List ℕ) (j : ℕ) → j < length xs
        → get_or (partner p z first second xs) j 0 ≡ partner_at p z first second xs j
    unfolding partner
    partner_at_holds first second xs j l = list_at (length xs) (partner_at p z first second xs) j l

    -- The partner of a random list is a random list.
    pub partner_random : (first second : ℕ) (xs : List ℕ) → RandomList p e xs → RandomList p e (partner p z first second xs)
    partner_random first second xs h = record {
      len = ap suc (partner_length first second xs) ∙ h.len;
      below = λ j l. let n = partner_length first second xs in
          rw (partner_at_holds first second xs j (omega arith)) (mod-lt (place xs j + z (suc j) * minus p second first) (positive p H));
    }

    -- The partner's partner is the list itself: the map with the codes exchanged is the inverse.
    pub partner_back : (first second : ℕ) (xs : List ℕ) → first < p → second < p → RandomList p e xs
        → partner p z second first (partner p z first second xs) ≡ xs
    partner_back first second xs lf ls h = ext_get_or 0 (partner p z second first ys) xs
        (partner_length second first ys ∙ partner_length first second xs)
        (λ j l. let n = partner_length second first ys in let m = partner_length first second xs in
        partner_at_holds second first ys j (omega arith)
        ∙ ap (λ (y : ℕ). (y + z (suc j) * minus p first second) % p) (partner_at_holds first second xs j (omega arith))
        ∙ step_back (place xs j) (z (suc j)) (minus p second first) (minus p first second) (h.below j (omega arith))
        (minus_back first second lf ls))
      where
        ys : List ℕ
        ys = partner p z first second xs

  module _ (d f : ℕ) (E : ℕ → ℕ → ℕ) (chosen : ℕ → Bool) (z : ℕ → ℕ) (c : Witness p d (suc f) E chosen z) where
    -- The second list b is the first one and (second - first) times the witness, place by place modulo p.
    moved : (first second : ℕ) (xs : List ℕ) → first < p → second < p → RandomList p (suc f) xs → (j : ℕ) → j < suc f
        → res p H (place (second ∷ partner p z first second xs) j) ≡ ◌⊕◌ p H (res p H (place (first ∷ xs) j))
        (◌⊗◌ p H (res p H (minus p second first)) (res p H (z j)))
    moved first second xs lf ls h zero l = res_same p H second (first + minus p second first * z 0)
        (sym (ap (λ (y : ℕ). (first + minus p second first * y) % p) c.first ∙ ap (λ (y : ℕ). (first + y) % p) (omega arith)
        ∙ add-mod-mod first (second + (p - first)) p ∙ mod_by p (first + (second + (p - first))) second 0 1 (omega arith)))
        ∙ sym (res_add p H first (minus p second first * z 0))
        ∙ ap (λ w. ◌⊕◌ p H (res p H first) w) (sym (res_mul p H (minus p second first) (z 0)))
    moved first second xs lf ls h (suc j) l = ap (res p H) (partner_at_holds (suc f) z first second xs j (omega (arith, h.len)))
        ∙ res_mod p H (place xs j + z (suc j) * minus p second first)
        ∙ sym (res_add p H (place xs j) (z (suc j) * minus p second first))
        ∙ ap (λ w. ◌⊕◌ p H (res p H (place xs j)) w) (ap (res p H) (omega arith) ∙ sym (res_mul p H (minus p second first) (z (suc j))))

    pub same_shares : (first second : ℕ) (xs : List ℕ) → first < p → second < p → RandomList p (suc f) xs → (k : ℕ) → k < d
        → chosen k ≡ true
        → total (suc f) (λ j. E k j * place (second ∷ partner p z first second xs) j) % p ≡ total (suc f)
        (λ j. E k j * place (first ∷ xs) j) % p
    same_shares first second xs lf ls h k lk q = ap (λ a. a.0)
        (res_dot p H (suc f) (E k) (place (second ∷ partner p z first second xs))
        ∙ dot_comm (residue_ring p H) (suc f) row (λ j. res p H (place (second ∷ partner p z first second xs) j))
        ∙ sum_cong (residue_ring p H) (suc f) (λ j. ◌⊗◌ p H (res p H (place (second ∷ partner p z first second xs) j)) (row j))
        (λ j. ◌⊗◌ p H (◌⊕◌ p H (res p H (place (first ∷ xs) j)) (◌⊗◌ p H a (res p H (z j)))) (row j))
        (λ j l. ap (λ w. ◌⊗◌ p H w (row j)) (moved first second xs lf ls h j l))
        ∙ sum_lin (residue_ring p H) (suc f) a (λ j. res p H (place (first ∷ xs) j)) (λ j. res p H (z j)) row
        ∙ ap (λ w. ◌⊕◌ p H (dot (residue_ring p H) (suc f) (λ j. res p H (place (first ∷ xs) j)) row) (◌⊗◌ p H a w)) killed
        ∙ ap (λ w. ◌⊕◌ p H (dot (residue_ring p H) (suc f) (λ j. res p H (place (first ∷ xs) j)) row) w) (mul-zero (residue_ring p H) a)
        ∙ zero_r (residue_ring p H) (dot (residue_ring p H) (suc f) (λ j. res p H (place (first ∷ xs) j)) row)
        ∙ dot_comm (residue_ring p H) (suc f) (λ j. res p H (place (first ∷ xs) j)) row
        ∙ sym (res_dot p H (suc f) (E k) (place (first ∷ xs))))
      where
        a : F p
        a = res p H (minus p second first)

        row : ℕ → F p
        row j = res p H (E k j)

        killed : dot (residue_ring p H) (suc f) (λ j. res p H (z j)) row ≡ res p H 0
        killed = dot_comm (residue_ring p H) (suc f) (λ j. res p H (z j)) row
            ∙ (dot_iff p H (suc f) (E k) z 0).0 (c.kills k lk q ∙ sym (zero-mod p))
