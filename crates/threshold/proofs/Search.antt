-- The search for the first set number that breaks a threshold: what a turn finds of its set, and how the search goes on or ends.
-- Assumes nothing.
use mathlib.Core.Path.{◌≡◌, refl, sym, ap₂, ◌∙◌, subst}
use mathlib.Core.Bool.{Bool, true, false, beq, true≢false, false≢true}
use mathlib.Core.List.{List}
use Prim.Native.Nat.{ℕ, ◌<◌, ◌≤◌, ◌+◌, ◌^◌}
use native.Mathlib.Omega.{arith}
use lib.Count.{ones}
use lib.Dec.{eqb, leb}
use lib.ListN.{length}
use Rattle.std.specs.Prelude.{Some, None}
use borrow.Author.Tests.{eqb-true, eq-eqb, leb-true, leb-false}
use Rattle.algebra.proofs.Cases.{below_suc}
use Rattle.linear.specs.Bits.{bit}
use Rattle.linear.specs.Flat.{entry}
use Rattle.linear.proofs.Rows.{open_same, closed_same}
use Rattle.scheme.specs.declared.Shape.{Shape}
use Rattle.linear.specs.Rows as Rows
use Rattle.scheme.specs.Open.{Open, Closed}
use Rattle.scheme.specs.Sets.{of_set}
use Rattle.scheme.specs.Threshold.{size, Keeps}
use Rattle.threshold.specs.First.{FirstOrNone}
use Rattle.threshold.proofs.Ones.{ones_size}

-- Every set number below `set` keeps the threshold.
pub record KeptBelow (s : Shape) (labels entries : List ℕ) (t set : ℕ) : Type 0 where
  pub keep : (lower : ℕ) → lower < set → Keeps s labels entries t lower

-- What was found of a set.
pub record Told (s : Shape) (labels entries : List ℕ) (set : ℕ) (opens : Bool) : Type 0 where
  pub if_open : opens ≡ true → Open s labels entries set
  pub if_closed : opens ≡ false → Closed s labels entries set

-- The test of a line's pivot, where it holds and where it fails.
pub is_here : {here : Bool} {x y : ℕ} → here ≡ eqb x y → here ≡ true → x ≡ y
is_here {here} {x} {y} e h = eqb-true x y (sym e ∙ h)

pub not_here : {here : Bool} {x y : ℕ} → here ≡ eqb x y → here ≡ false → x ≡ y → ⊥
not_here {here} {x} {y} e h q = true≢false (sym (eq-eqb x y q) ∙ sym e ∙ h)

-- What was found of the set's rows.
module _ (s : Shape) (labels entries : List ℕ) (set chosen : ℕ) (n : length labels ≡ s.d)
    (bits : (k : ℕ) → k < length labels → bit chosen k ≡ of_set set labels k) (opens : Bool) where
  same : (k : ℕ) → k < s.d → bit chosen k ≡ of_set set labels k
  same k l = bits k (omega arith)

  pub told : {p : ℕ} → p ≡ s.p → (opens ≡ true → Rows.Open p s.d s.e (entry s.e entries) (bit chosen))
      → (opens ≡ false → Rows.Closed p s.d s.e (entry s.e entries) (bit chosen)) → Told s labels entries set opens
  told q o c = record {
    if_open = λ h. open_same s.p s.d s.e (entry s.e entries) (entry s.e entries) (bit chosen) (of_set set labels) (λ k j lk lj. refl) same
        (subst (λ (p : ℕ). Rows.Open p s.d s.e (entry s.e entries) (bit chosen)) q (o h));
    if_closed = λ h. closed_same s.p s.d s.e (entry s.e entries) (entry s.e entries) (of_set set labels) (bit chosen)
        (λ k j lk lj. refl) (λ k l. sym (same k l))
        (subst (λ (p : ℕ). Rows.Closed p s.d s.e (entry s.e entries) (bit chosen)) q (c h));
  }

-- What the test of the size says of the set.
module _ (s : Shape) (labels entries : List ℕ) (t set : ℕ) (inside : set < 2 ^ s.n) (opens broken : Bool)
    (told : Told s labels entries set opens) (test : broken ≡ beq opens (leb (ones set) t)) where
  at_most : leb (ones set) t ≡ true → size s.n set ≤ t
  at_most e = let o = ones_size s.n set inside in let l = leb-true (ones set) t e in omega arith

  more : leb (ones set) t ≡ false → t + 1 ≤ size s.n set
  more e = let o = ones_size s.n set inside in let l = leb-false (ones set) t e in omega arith

  set_keeps : broken ≡ false → Keeps s labels entries t set
  set_keeps h = go opens (leb (ones set) t) refl refl
    where
      go : (o few : Bool) → opens ≡ o → leb (ones set) t ≡ few → Keeps s labels entries t set
      go true true x y = absurd (true≢false (sym (test ∙ ap₂ beq x y) ∙ h))
      go true false x y = ((λ _. more y), λ _. told.if_open x)
      go false true x y = ((λ o. absurd (told.if_closed x o)), λ l. let f = at_most y in absurd (omega arith))
      go false false x y = absurd (true≢false (sym (test ∙ ap₂ beq x y) ∙ h))

  set_breaks : broken ≡ true → Keeps s labels entries t set → ⊥
  set_breaks h k = go opens (leb (ones set) t) refl refl
    where
      go : (o few : Bool) → opens ≡ o → leb (ones set) t ≡ few → ⊥
      go true true x y = let l = k.0 (told.if_open x) in let f = at_most y in omega arith
      go true false x y = false≢true (sym (test ∙ ap₂ beq x y) ∙ h)
      go false true x y = false≢true (sym (test ∙ ap₂ beq x y) ∙ h)
      go false false x y = told.if_closed x (k.1 (more y))

-- A turn of the search: it goes on after a set that keeps the threshold, and ends with one that breaks it.
pub record Turn (s : Shape) (labels entries : List ℕ) (t set : ℕ) (broken : Bool) : Type 0 where
  pub on : broken ≡ false → KeptBelow s labels entries t (set + 1)
  pub found : broken ≡ true → FirstOrNone s labels entries t (Some set)

pub turn : (s : Shape) (labels entries : List ℕ) (t set : ℕ) → set < 2 ^ s.n → KeptBelow s labels entries t set → (opens broken : Bool)
    → Told s labels entries set opens → broken ≡ beq opens (leb (ones set) t) → Turn s labels entries t set broken
unfolding FirstOrNone
turn s labels entries t set inside below opens broken told test = record {
  on = λ h. record {
    keep = λ lower l. below_suc (Keeps s labels entries t) set below.keep
        (set_keeps s labels entries t set inside opens broken told test h) lower (omega arith);
  };
  found = λ h. record {
    inside = inside;
    breaks = set_breaks s labels entries t set inside opens broken told test h;
    before = below.keep;
  };
}

pub search_ended : (s : Shape) (labels entries : List ℕ) (t end : ℕ) → 2 ^ s.n ≤ end → KeptBelow s labels entries t end
    → FirstOrNone s labels entries t None
unfolding FirstOrNone
search_ended s labels entries t end e b set l = b.keep set (omega arith)
