-- The set of the cards that are in: its bits, and what one card changes of it.
-- Assumes nothing.
use mathlib.Core.Path.{◌≡◌, refl, sym, ap, ap₂, ◌∙◌}
use mathlib.Core.Bool.{Bool, true, false, cond}
use Prim.Native.Nat.{ℕ, zero, suc, ◌+◌, ◌-◌, ◌*◌, ◌/◌, ◌%◌, ◌^◌, ◌<◌, ◌≤◌}
use native.Mathlib.Nat.{add-mul-div_right, add-mul-mod_self_right, div-eq_of_lt, one-le-pow, two-pow-succ, not-suc-le-zero}
use native.Mathlib.Omega.{arith}
use lib.Dec.{eqb}
use lib.Pow.{pow-add}
use Rattle.algebra.proofs.Cases.{below_suc}
use Rattle.linear.specs.Bits.{bit}
use Rattle.scheme.specs.Sets.{in_set}
use Rattle.panel.specs.History.{Held, no_cards, is_in, set_of}

-- 2 to the n, or 0.
abbrev part : ℕ → Bool → ℕ
part n b = cond b (2 ^ n) 0

part_small : (n : ℕ) (b : Bool) → part n b ≤ 2 ^ n
part_small n true = omega arith
part_small n false = omega arith

positive : (n : ℕ) → 1 ≤ 2 ^ n
positive n = one-le-pow n 2 (omega arith)

-- A part above a number that is below it is the number's highest bit, and changes no lower one.
high_bit : (x n : ℕ) (b : Bool) → x < 2 ^ n → bit (x + part n b) n ≡ b
high_bit x n true l = ap (λ (q : ℕ). eqb (q % 2) 1) one
  where
    once : 2 ^ n ≡ 1 * 2 ^ n
    once = omega arith

    one : (x + 2 ^ n) / 2 ^ n ≡ 1
    one = ap (λ (y : ℕ). (x + y) / 2 ^ n) once ∙ add-mul-div_right x 1 (positive n) ∙ ap (λ (q : ℕ). q + 1) (div-eq_of_lt l)
high_bit x n false l = ap (λ (q : ℕ). eqb (q % 2) 1) none
  where
    same : x + 0 ≡ x
    same = omega arith

    none : (x + 0) / 2 ^ n ≡ 0
    none = ap (λ (y : ℕ). y / 2 ^ n) same ∙ div-eq_of_lt l

low_bit : (x n j : ℕ) (b : Bool) → j < n → bit (x + part n b) j ≡ bit x j
low_bit x n j true l = ap (λ (q : ℕ). eqb q 1)
    (ap (λ (y : ℕ). (x + y) / 2 ^ j % 2) even ∙ ap (λ (q : ℕ). q % 2) (add-mul-div_right x (2 ^ (n - 1 - j) * 2) (positive j))
    ∙ add-mul-mod_self_right (x / 2 ^ j) (2 ^ (n - 1 - j)) 2)
  where
    even : 2 ^ n ≡ 2 ^ (n - 1 - j) * 2 * 2 ^ j
    even =
        let q : n ≡ n - 1 - j + suc j = omega arith in
        ap (λ (m : ℕ). 2 ^ m) q ∙ pow-add 2 (n - 1 - j) (suc j) ∙ ap (λ (y : ℕ). 2 ^ (n - 1 - j) * y) (two-pow-succ j) ∙ omega arith
low_bit x n j false l = let q : x + 0 ≡ x = omega arith in ap (λ (y : ℕ). bit y j) q

pub set_small : (n : ℕ) (held : Held) → set_of n held < 2 ^ n
unfolding set_of
set_small zero held = omega arith
set_small (suc n) held = omega (arith, set_small n held, two-pow-succ n, part_small n (is_in (held (suc n))), positive n)

bit_is : (n : ℕ) (held : Held) (j : ℕ) → j < n → bit (set_of n held) j ≡ is_in (held (suc j))
unfolding set_of
bit_is zero held j l = absurd (not-suc-le-zero l)
bit_is (suc n) held j l = below_suc (λ j. bit (set_of n held + part n (is_in (held (suc n)))) j ≡ is_in (held (suc j))) n
    (λ j l. low_bit (set_of n held) n j (is_in (held (suc n))) l ∙ bit_is n held j l)
    (high_bit (set_of n held) n (is_in (held (suc n))) (set_small n held))
    j l

-- A participant is in the set whose card is in.
pub set_has : (n : ℕ) (held : Held) (who : ℕ) → 1 ≤ who → who ≤ n → in_set (set_of n held) who ≡ is_in (held who)
set_has n held who l u = let q : suc (who - 1) ≡ who = omega arith in
    bit_is n held (who - 1) (omega arith) ∙ ap (λ (i : ℕ). is_in (held i)) q

-- The same cards of participants 1 to n are the same set.
pub set_same : (n : ℕ) (held held' : Held) → ((i : ℕ) → 1 ≤ i → i ≤ n → is_in (held i) ≡ is_in (held' i)) → set_of n held ≡ set_of n held'
unfolding set_of
set_same zero held held' h = refl
set_same (suc n) held held' h = ap₂ ◌+◌ (set_same n held held' (λ i l u. h i l (omega arith)))
    (ap (part n) (h (suc n) (omega arith) (omega arith)))

-- One participant's card changed: the sets differ by that participant's mark.
change : (n : ℕ) (held held' : Held) → (i : ℕ) → i < n → ((j : ℕ) → (j ≡ suc i → ⊥) → is_in (held j) ≡ is_in (held' j))
    → set_of n held' + part i (is_in (held (suc i))) ≡ set_of n held + part i (is_in (held' (suc i)))
unfolding set_of
change zero held held' i l h = absurd (not-suc-le-zero l)
change (suc n) held held' i l h = below_suc
    (λ i. ((j : ℕ) → (j ≡ suc i → ⊥) → is_in (held j) ≡ is_in (held' j))
    → set_of n held' + part n (is_in (held' (suc n))) + part i (is_in (held (suc i)))
    ≡ set_of n held + part n (is_in (held (suc n))) + part i (is_in (held' (suc i))))
    n
    (λ i l h. let q : part n (is_in (held (suc n))) ≡ part n (is_in (held' (suc n))) = ap (part n) (h (suc n) (λ e. omega arith)) in
    omega (arith, change n held held' i l h, q))
    (λ h. omega (arith, set_same n held held' (λ j lj uj. h j (λ e. omega arith))))
    i l h

pub set_change : (n : ℕ) (held held' : Held) (who : ℕ) → 1 ≤ who → who ≤ n → ((j : ℕ) → (j ≡ who → ⊥) → is_in (held j) ≡ is_in (held' j))
    → set_of n held' + part (who - 1) (is_in (held who)) ≡ set_of n held + part (who - 1) (is_in (held' who))
set_change n held held' who l u h =
    let q : suc (who - 1) ≡ who = omega arith in
    ap (λ (i : ℕ). set_of n held' + part (who - 1) (is_in (held i))) (sym q)
    ∙ change n held held' (who - 1) (omega arith) (λ j ne. h j (λ e. ne (e ∙ sym q)))
    ∙ ap (λ (i : ℕ). set_of n held + part (who - 1) (is_in (held' i))) q

-- No cards, no marks.
pub set_none : (n : ℕ) → set_of n no_cards ≡ 0
unfolding set_of
set_none zero = refl
set_none (suc n) = omega (arith, set_none n)
