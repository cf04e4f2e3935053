-- What the loop over the rows leaves is what `ask` answers; and what its calls need of it.
-- Assumes nothing.
use mathlib.Core.Path.{◌≡◌, refl, ap, ◌∙◌, subst, subst⁻¹}
use mathlib.Core.List.{List}
use mathlib.Core.Bool.{Bool, true, false}
use Prim.Native.Nat.{ℕ, suc, ◌<◌, ◌+◌}
use native.Mathlib.Nat.{mod-eq_of_lt}
use lib.ListN.{length, get_or}
use Rattle.residue.specs.Prime.{Prime}
use Rattle.residue.specs.Residue.{res}
use Rattle.residue.proofs.Field.{res_zero}
use Rattle.linear.specs.Flat.{place, entry}
use Rattle.linear.specs.Rows.{OpeningVector, Witness, Rank}
use Rattle.lines.specs.Line.{at, Stepped}
use Rattle.backward.specs.Solution.{Killed}
use Rattle.linear.specs.Bits.{bit}
use Rattle.rows.specs.Answered.{Answered}
use Rattle.rows.specs.State.{State, Going}
use Rattle.rows.proofs.Turns.{witness_end, rank_end}

-- r has the length that it had.
pub going_length : (p f d : ℕ) (E : ℕ → ℕ → ℕ) (chosen : ℕ → Bool) (k s : ℕ) (t : List (List ℕ)) (r₀ : List ℕ) (o : Bool) (r : List ℕ)
    → Going p f d E chosen k s t r₀ o r → length r ≡ length r₀
going_length p f d E chosen k s t r₀ true r g = (g.if_open refl).1
going_length p f d E chosen k s t r₀ false r g = ap length (g.if_closed refl).0

-- The rows of the lines come before row k.
pub sources : (p f : ℕ) (E : ℕ → ℕ → ℕ) (chosen : ℕ → Bool) (k s : ℕ) (t : List (List ℕ)) → Prime p → State p f E chosen k s t → (j : ℕ)
    → j < s → at t j 26 < k
sources p f E chosen k s t H st j l = (st.basis H).upto j l

-- Each line is 1 at its own pivot and 0 at those of the lines before it.
pub state_stepped : (p f : ℕ) (E : ℕ → ℕ → ℕ) (chosen : ℕ → Bool) (k s : ℕ) (t : List (List ℕ)) → Prime p → State p f E chosen k s t
    → Stepped p t s
state_stepped p f E chosen k s t H st j l = (
  ap (λ a. a.0) ((st.basis H).one j l) ∙ mod-eq_of_lt H.two,
  λ i lj li. res_zero p H (res p H (at t i (at t j 25))) ((st.basis H).low i li j lj),
)

module _ (p e f d chosen : ℕ) (m : List ℕ) (q : e ≡ suc f) (H : Prime p) (k s : ℕ) (t : List (List ℕ)) (r₀ z r : List ℕ) (o : Bool)
    (n₀ : length r₀ ≡ d) (kd : k ≡ d) (g : Going p f d (entry e m) (bit chosen) k s t r₀ o r) where
  rank : Rank p d e (entry e m) (bit chosen) s
  rank = subst⁻¹ (λ (e' : ℕ). Rank p d e' (entry e m) (bit chosen) s) q
      (rank_end p e f d m (bit chosen) q s t (subst (λ (k : ℕ). State p f (entry e m) (bit chosen) k s t) kd g.state) H)

  pub answered_open : o ≡ true → Answered p d e chosen m r₀ z (record { opens = o; rank = s }) r z
  answered_open h = subst⁻¹ (λ o. Answered p d e chosen m r₀ z (record { opens = o; rank = s }) r z) h (record {
    handed =
        (subst⁻¹ (λ (e' : ℕ). OpeningVector p d e' (entry e m) (bit chosen) (place r)) q (g.if_open h).0, (g.if_open h).1 ∙ n₀, refl);
    rank = rank;
  })

  pub answered_closed : o ≡ false → (y z' : List ℕ) → ((i : ℕ) → get_or y i 0 < p) → get_or y f 0 ≡ 1 → Killed p s t f 0 y → length z' ≡ e
      → get_or z' 0 0 ≡ get_or y f 0 → ((i : ℕ) → i < f → get_or z' (1 + i) 0 ≡ get_or y i 0)
      → Answered p d e chosen m r₀ z (record { opens = o; rank = s }) r z'
  answered_closed h y z' small one kills n z0 zs = subst⁻¹ (λ o. Answered p d e chosen m r₀ z (record { opens = o; rank = s }) r z') h (record {
    handed = (
      subst⁻¹ (λ (e' : ℕ). Witness p d e' (entry e m) (bit chosen) (place z')) q
          (witness_end p e f d m (bit chosen) q s t
          (subst (λ (k : ℕ). State p f (entry e m) (bit chosen) k s t) kd g.state) H y z' small one kills z0 zs),
      n,
      (g.if_closed h).0,
    );
    rank = rank;
  })
