-- The question of the chosen rows decided, as a verdict and a list of numbers: it computes, and says what the definitions say.
-- Assumes nothing.
use mathlib.Core.Path.{◌≡◌, refl, sym, ap, ◌∙◌, subst⁻¹}
use mathlib.Core.Bool.{Bool, true, false}
use mathlib.Core.List.{List, []}
use mathlib.Core.Logic.{◌⊎◌, inl, inr}
use Prim.Native.Nat.{ℕ, zero, suc, ◌*◌, ◌%◌, ◌<◌, ◌≤◌}
use native.Mathlib.Omega.{arith}
use lib.ListN.{length}
use Rattle.residue.specs.Prime.{Prime}
use Rattle.linear.specs.Flat.{place, list_of}
use Rattle.linear.specs.Rows.{target, OpeningVector, Witness}
use Rattle.linear.proofs.Carry.{total_cong}
use Rattle.linear.proofs.Flat.{list_length, list_at}
use Rattle.linear.proofs.Numbers.{adds_same}
use Rattle.linear.proofs.Rows.{open_or_closed}

-- Only the first d numbers of an opening vector, and the first e of a witness, count: they may be taken from a list.
opening_listed : (p d e : ℕ) (E : ℕ → ℕ → ℕ) (chosen : ℕ → Bool) (r : ℕ → ℕ) → OpeningVector p d e E chosen r
    → OpeningVector p d e E chosen (place (list_of d r))
opening_listed p d e E chosen r o = record {
  kept = o.kept;
  rule = o.rule;
  below = λ k l. subst⁻¹ (λ (x : ℕ). x < p) (list_at d r k l) (o.below k l);
  only = λ k l q. list_at d r k l ∙ o.only k l q;
  gives = adds_same p e d E E (λ k i lk li. refl) r (place (list_of d r)) target target d (omega arith) (λ k l. sym (list_at d r k l))
      (λ i l. refl) o.gives;
}

witness_listed : (p d f : ℕ) (E : ℕ → ℕ → ℕ) (chosen : ℕ → Bool) (z : ℕ → ℕ) → Witness p d (suc f) E chosen z
    → Witness p d (suc f) E chosen (place (list_of (suc f) z))
witness_listed p d f E chosen z w = record {
  kept = w.kept;
  rule = w.rule;
  below = λ j l. subst⁻¹ (λ (x : ℕ). x < p) (list_at (suc f) z j l) (w.below j l);
  first = w.first;
  kills = λ k l q. ap (λ (x : ℕ). x % p)
      (total_cong (suc f) (λ j. E k j * place (list_of (suc f) z) j) (λ j. E k j * z j)
      (λ j lj. ap (λ (x : ℕ). E k j * x) (list_at (suc f) z j lj))) ∙ w.kills k l q;
  only = λ j l q. list_at (suc f) z (suc j) (omega arith) ∙ w.only j l q;
}

-- The answer to the question as a verdict and a list.
module _ (p d f : ℕ) (E : ℕ → ℕ → ℕ) (chosen : ℕ → Bool) where
  abbrev pub Answer : Type 0
  Answer = ((r : ℕ → ℕ) × OpeningVector p d (suc f) E chosen r) ⊎ ((z : ℕ → ℕ) × Witness p d (suc f) E chosen z)

  abbrev pub listed : Answer → Bool × List ℕ
  listed (inl r) = (true, list_of d r.0)
  listed (inr z) = (false, list_of (suc f) z.0)

abbrev pub decided : (p : ℕ) → Prime p → (d e : ℕ) → (ℕ → ℕ → ℕ) → (ℕ → Bool) → Bool × List ℕ
decided p H d zero E chosen = (false, [])
decided p H d (suc f) E chosen = listed p d f E chosen (open_or_closed p H d f E chosen)

-- What it says, by the definitions for the chosen rows.
abbrev pub Told : (p d e : ℕ) → (ℕ → ℕ → ℕ) → (ℕ → Bool) → Bool → List ℕ → Type 0
Told p d e E chosen true v = OpeningVector p d e E chosen (place v) × (length v ≡ d)
Told p d e E chosen false v = Witness p d e E chosen (place v) × (length v ≡ e)

listed_told : (p d f : ℕ) (E : ℕ → ℕ → ℕ) (chosen : ℕ → Bool) (a : Answer p d f E chosen)
    → Told p d (suc f) E chosen (listed p d f E chosen a).0 (listed p d f E chosen a).1
listed_told p d f E chosen (inl r) = (opening_listed p d (suc f) E chosen r.0 r.1, list_length d r.0)
listed_told p d f E chosen (inr z) = (witness_listed p d f E chosen z.0 z.1, list_length (suc f) z.0)

pub decided_told : (p : ℕ) (H : Prime p) (d e : ℕ) → 1 ≤ e → (E : ℕ → ℕ → ℕ) (chosen : ℕ → Bool)
    → Told p d e E chosen (decided p H d e E chosen).0 (decided p H d e E chosen).1
decided_told p H d zero l E chosen = absurd (omega arith)
decided_told p H d (suc f) l E chosen = listed_told p d f E chosen (open_or_closed p H d f E chosen)
