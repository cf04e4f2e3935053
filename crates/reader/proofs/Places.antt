-- Laws of the readers on places, of which the proofs of the code cite one at each return.
-- Assumes nothing.
use mathlib.Core.Path.{◌≡◌, refl, subst, ◌∙◌}
use mathlib.Core.Bool.{Bool, true, false, not, cond, ◌&&◌}
use mathlib.Core.List.{List, [], ◌∷◌}
use Prim.Native.Nat.{ℕ, zero, suc, ◌+◌, ◌-◌, ◌<◌, ◌≤◌}
use native.Mathlib.Omega.{arith}
use lib.Dec.{T, ltb, eqb, leb}
use lib.ListN.{length}
use mir.Val.{has_key}
use types.Run.{OneOf, hit}
use denote.Enum.Declared.{tag_of}
use borrow.Author.Tests.{ltb-true, ne_eqb}
use Rattle.std.specs.Prelude.{Some, None}
use Rattle.reader.specs.contracts.Kind.{the_type}
use Rattle.reader.specs.declared.Kind.{Kind}
use Rattle.reader.specs.declared.Kind.TheVariants.{Digit, Zero, Or, And, Open, Close, Other}
use Rattle.reader.specs.Grammar.{kind_at, tag, is_digit, is_or, is_and, is_close, digit, number_end_lem, after, on_atom, rule_end, term_end, atom_end, Within}
use Rattle.reader.proofs.Begins.{same_kind}

-- A place at which something is seen lies in the text.
pub seen : (s : List ℕ) (q : ℕ) {k : Kind} → k ≡ kind_at s q → T (not (eqb (tag k) 6)) → q < length s
unfolding kind_at
seen s q {k} e f = go (ltb q (length s)) refl
  where
    go : (b : Bool) → ltb q (length s) ≡ b → q < length s
    go true h = ltb-true q (length s) h
    go false h = let o : k ≡ Other = e ∙ rw h in absurd (subst (λ (x : Kind). T (not (eqb (tag x) 6))) o f)

-- A kind that is not the sign j, or no digit from 1 to 9, has another number.
pub not_sign : (k j : Kind) → 0 < tag j → (k ≡ j → ⊥) → eqb (tag k) (tag j) ≡ false
not_sign k j l n = ne_eqb (tag k) (tag j) (λ e. n (same_kind k j l e))

pub not_number : (k : Kind) → ((d : ℕ) → k ≡ Digit d → ⊥) → eqb (tag k) 0 ≡ false
not_number (Digit d) n = absurd (n d refl)
not_number Zero n = refl
not_number Or n = refl
not_number And n = refl
not_number Open n = refl
not_number Close n = refl
not_number Other n = refl

-- The arm of `_` says which kinds it has not: the tags of the others are left.
left : (tags : List ℕ) (k : Kind)
    → ((d : ℕ) → k ≡ Digit d → T (has_key tags 0))
    → (k ≡ Zero → T (has_key tags 1))
    → (k ≡ Or → T (has_key tags 2))
    → (k ≡ And → T (has_key tags 3))
    → (k ≡ Open → T (has_key tags 4))
    → (k ≡ Close → T (has_key tags 5))
    → (k ≡ Other → T (has_key tags 6))
    → OneOf tags (tag_of the_type k)
left tags (Digit e) d z o a p c x = hit tags 0 (d e refl)
left tags Zero d z o a p c x = hit tags 1 (z refl)
left tags Or d z o a p c x = hit tags 2 (o refl)
left tags And d z o a p c x = hit tags 3 (a refl)
left tags Open d z o a p c x = hit tags 4 (p refl)
left tags Close d z o a p c x = hit tags 5 (c refl)
left tags Other d z o a p c x = hit tags 6 (x refl)

module _ (k : Kind) where
  pub left_or : (k ≡ Or → ⊥) → OneOf (0 ∷ 1 ∷ 3 ∷ 4 ∷ 5 ∷ 6 ∷ []) (tag_of the_type k)
  left_or o = left (0 ∷ 1 ∷ 3 ∷ 4 ∷ 5 ∷ 6 ∷ []) k (λ _ _. tt) (λ _. tt) o (λ _. tt) (λ _. tt) (λ _. tt) (λ _. tt)

  pub left_and : (k ≡ And → ⊥) → OneOf (0 ∷ 1 ∷ 2 ∷ 4 ∷ 5 ∷ 6 ∷ []) (tag_of the_type k)
  left_and a = left (0 ∷ 1 ∷ 2 ∷ 4 ∷ 5 ∷ 6 ∷ []) k (λ _ _. tt) (λ _. tt) (λ _. tt) a (λ _. tt) (λ _. tt) (λ _. tt)

  pub left_close : (k ≡ Close → ⊥) → OneOf (0 ∷ 1 ∷ 2 ∷ 3 ∷ 4 ∷ 6 ∷ []) (tag_of the_type k)
  left_close c = left (0 ∷ 1 ∷ 2 ∷ 3 ∷ 4 ∷ 6 ∷ []) k (λ _ _. tt) (λ _. tt) (λ _. tt) (λ _. tt) (λ _. tt) c (λ _. tt)

  pub left_digit : ((d : ℕ) → k ≡ Digit d → ⊥) → (k ≡ Zero → ⊥) → OneOf (2 ∷ 3 ∷ 4 ∷ 5 ∷ 6 ∷ []) (tag_of the_type k)
  left_digit d z = left (2 ∷ 3 ∷ 4 ∷ 5 ∷ 6 ∷ []) k d z (λ _. tt) (λ _. tt) (λ _. tt) (λ _. tt) (λ _. tt)

  pub left_atom : ((d : ℕ) → k ≡ Digit d → ⊥) → (k ≡ Open → ⊥) → OneOf (1 ∷ 2 ∷ 3 ∷ 5 ∷ 6 ∷ []) (tag_of the_type k)
  left_atom d p = left (1 ∷ 2 ∷ 3 ∷ 5 ∷ 6 ∷ []) k d (λ _. tt) (λ _. tt) (λ _. tt) p (λ _. tt) (λ _. tt)

-- More fuel than the measure m is not 0.
pub above : {m : ℕ} (P : ℕ → Type 0) → ((n : ℕ) → m ≤ n → P (suc n)) → (n : ℕ) → m < n → P n
above P f zero h = absurd (omega arith)
above P f (suc n) h = f n (omega arith)

-- One step of each reader.
pub rule_step : (n : ℕ) (s : List ℕ) (d at : ℕ) → rule_end (suc n) s d at
    ≡ after (term_end n s d at) (λ q. cond (is_or (kind_at s q)) (rule_end n s d (q + 1)) (Some q))
unfolding rule_end
rule_step n s d at = refl

pub term_step : (n : ℕ) (s : List ℕ) (d at : ℕ) → term_end (suc n) s d at
    ≡ after (atom_end n s d at) (λ q. cond (is_and (kind_at s q)) (term_end n s d (q + 1)) (Some q))
unfolding term_end
term_step n s d at = refl

pub atom_step : (n : ℕ) (s : List ℕ) (d at : ℕ) → atom_end (suc n) s d at
    ≡ on_atom (kind_at s at) (λ v. number_end_lem s v at)
    (cond (eqb d 0) None (after (rule_end n s (d - 1) (at + 1)) (λ q. cond (is_close (kind_at s q)) (Some (q + 1)) None)))
unfolding atom_end
atom_step n s d at = refl

-- A group is read from its opening parenthesis on.
pub group_step : (n : ℕ) (s : List ℕ) (d at : ℕ) → Open ≡ kind_at s at → 1 ≤ d → atom_end (suc n) s d at
    ≡ after (rule_end n s (d - 1) (at + 1)) (λ q. cond (is_close (kind_at s q)) (Some (q + 1)) None)
group_step n s d at e l = rw (atom_step, ← e, ne_eqb d 0 (omega arith))

-- A number ends past its start.
pub number_within : (s : List ℕ) (d at : ℕ) → Within at (number_end_lem s d at)
unfolding number_end_lem
number_within s d at = go (is_digit (kind_at s (at + 1))) (eqb d 1 && leb (digit (kind_at s (at + 1))) 6)
  where
    go : (two fits : Bool) → Within at (cond two (cond fits (Some (at + 2)) None) (Some (at + 1)))
    go true true = omega arith
    go true false = tt
    go false fits = omega arith
