-- Joining computed for a scheme and shares: whether they fit a dealing, and the code or the refusal that `JoinSays` permits, and all that
-- it permits.
-- Assumes nothing.
use Rattle.std.specs.Prelude.{Ok, Err}
use mathlib.Core.Path.{◌≡◌, refl, sym, ap, ◌∙◌}
use mathlib.Core.Bool.{Bool, true, false, cond, not, ◌||◌}
use mathlib.Core.List.{List}
use mathlib.Core.Logic.{◌⊎◌, inl, inr}
use Prim.Native.Nat.{ℕ, ◌*◌, ◌%◌}
use native.Mathlib.Nat.{mod-mod, mul_comm}
use native.Mathlib.Omega.{arith}
use lib.Dec.{eqb}
use borrow.Author.Tests.{eqb-true}
use Rattle.linear.specs.Combination.{total, Combination}
use Rattle.linear.specs.Flat.{place, entry}
use Rattle.linear.specs.Question.{Coefficients, Functional}
use Rattle.linear.proofs.Carry.{total_cong}
use Rattle.linear.proofs.Masked.{total_zero}
use Rattle.linear.proofs.Numbers.{answer, functional_none}
use Rattle.scheme.specs.declared.Shape.{Shape}
use Rattle.scheme.specs.declared.Refusal.TheVariants as R
use Rattle.scheme.specs.Dealing.{share_of, Fits, joined}
use Rattle.scheme.specs.Sets.{of_set}
use Rattle.scheme.specs.Refusal.{join_refusal_lem, IsScheme}
use Rattle.format.specs.Reading.{all_below}
use Rattle.format.proofs.Tests.{all_at}
use Rattle.join.specs.Says.{JoinSays}
use Rattle.join.proofs.Settled.{settled}
use Rattle.marked.specs.Only.{JoinsTo}
use Rattle.marked.proofs.Parts.{only}
use Rattle.marked.proofs.Asked.{given, asked, asked_opens, asked_open, asked_closed}

module _ (s : Shape) (labels entries : List ℕ) (scheme : IsScheme s labels entries) (set : ℕ) (shares : List ℕ) where
  abbrev E : ℕ → ℕ → ℕ
  E = entry s.e entries

  -- The list b gives these shares at the set's rows.
  abbrev pub fitting : List ℕ → Bool
  fitting b = all_below s.d (λ k. not (of_set set labels k) || eqb (share_of s entries (place b) k) (place shares k))

  pub fits : (b : List ℕ) → fitting b ≡ true → Fits s labels entries set shares
  fits b h = (place b, λ k l q. at k q (of_set set labels k) refl (all_at s.d _ h k l))
    where
      at : (k : ℕ) → of_set set labels k ≡ true → (o : Bool) → of_set set labels k ≡ o
          → (not (of_set set labels k) || eqb (share_of s entries (place b) k) (place shares k)) ≡ true
          → share_of s entries (place b) k ≡ place shares k
      at k q true e w = eqb-true _ _ (sym (ap (λ o. not o || eqb (share_of s entries (place b) k) (place shares k)) e) ∙ w)
      at k q false e w = absurd (cc)

  -- Whether some list does is the one question for the columns over the set's rows: a row outside the set is 0 on both sides.
  abbrev columns : ℕ → ℕ → ℕ
  columns j k = cond (of_set set labels k) (E k j) 0

  abbrev goal : ℕ → ℕ
  goal k = cond (of_set set labels k) (place shares k) 0

  fits_combination : Fits s labels entries set shares → Combination s.p s.d columns s.e goal
  fits_combination f = (f.0, λ k l. at k (of_set set labels k) refl (f.1 k l))
    where
      at : (k : ℕ) (o : Bool) → of_set set labels k ≡ o → (of_set set labels k ≡ true → share_of s entries f.0 k ≡ place shares k)
          → total s.e (λ j. f.0 j * columns j k) % s.p ≡ goal k % s.p
      at k true e h =
          ap (λ (x : ℕ). x % s.p) (total_cong s.e (λ j. f.0 j * columns j k) (λ j. E k j * f.0 j)
          (λ j l. ap (λ o. f.0 j * cond o (E k j) 0) e ∙ mul_comm (f.0 j) (E k j)))
          ∙ sym (mod-mod (total s.e (λ j. E k j * f.0 j)) s.p)
          ∙ ap (λ (x : ℕ). x % s.p) (h e ∙ sym (ap (λ o. cond o (place shares k) 0) e))
      at k false e h =
          ap (λ (x : ℕ). x % s.p) (total_zero s.e (λ j. f.0 j * columns j k)
          (λ j l. ap (λ o. f.0 j * cond o (E k j) 0) e ∙ omega arith)
          ∙ sym (ap (λ o. cond o (place shares k) 0) e))

  abbrev Answer : Type 0
  Answer =
      ((c : ℕ → ℕ) × Coefficients s.p s.d columns s.e goal c)
      ⊎ ((y : ℕ → ℕ) × Functional s.p s.d columns s.e goal y)

  abbrev is_none : Answer → Bool
  is_none (inl c) = false
  is_none (inr y) = true

  none : (a : Answer) → is_none a ≡ true → Fits s labels entries set shares → ⊥
  none (inl c) q f = absurd (cc)
  none (inr y) q f = (functional_none s.p (given s labels entries scheme).prime s.d columns s.e goal y.0 y.1).none
      (fits_combination f)

  -- No list gives them.
  abbrev pub unfit : Bool
  unfit = is_none (answer s.p (given s labels entries scheme).prime s.d columns s.e goal)

  module _ (free : join_refusal_lem s labels entries set shares ≡ Ok tt) (v : List ℕ) where
    pub joins_code : (b : List ℕ) → fitting b ≡ true → asked s labels entries scheme set ≡ (true, v)
        → JoinsTo s labels entries set shares (Ok (joined s shares (place v)))
    unfolding JoinSays
    joins_code b h q = only (JoinSays s labels entries set shares) (settled s labels entries set shares) (Ok (joined s shares (place v)))
        (free, fits b h, (place v, (asked_opens s labels entries scheme set v q v v).0, refl))

    pub joins_closed : asked s labels entries scheme set ≡ (false, v) → JoinsTo s labels entries set shares (Err R.SetClosed)
    unfolding JoinSays
    joins_closed q = only (JoinSays s labels entries set shares) (settled s labels entries set shares) (Err R.SetClosed) (inr (inl (free, refl, asked_closed s labels entries scheme set v q)))

    pub joins_unfit : asked s labels entries scheme set ≡ (true, v) → unfit ≡ true → JoinsTo s labels entries set shares (Err R.NoDealing)
    unfolding JoinSays
    joins_unfit q h = only (JoinSays s labels entries set shares) (settled s labels entries set shares) (Err R.NoDealing) (inr (inr (
      free,
      refl,
      asked_open s labels entries scheme set v q,
      none (answer s.p (given s labels entries scheme).prime s.d columns s.e goal) h,
    )))
