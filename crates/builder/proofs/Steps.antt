-- Laws of the builder's steps, of which the proofs of the code cite one at each return.
-- Assumes nothing.
use mathlib.Core.Path.{◌≡◌, refl}
use mathlib.Core.Bool.{cond}
use mathlib.Core.List.{List}
use mathlib.Core.Logic.{◌⊎◌, inl, inr}
use Prim.Native.Nat.{ℕ, suc, ◌+◌, ◌*◌, ◌-◌, ◌<◌, ◌≤◌}
use native.Mathlib.Numerals.{add-one}
use native.Mathlib.Omega.{arith}
use lib.Dec.{eqb}
use lib.ListN.{length}
use borrow.Author.Tests.{lt-ltb, le-ltb, ne_eqb}
use Rattle.rules.specs.Construction.{less_all}
use Rattle.reader.specs.declared.Kind.TheVariants.{Digit, Open}
use Rattle.reader.specs.Grammar.{kind_at, tag, is_or, is_and, is_open, is_close, digit, atom_end}
use Rattle.builder.specs.Building.{
  vectors,
  on_end,
  ands_from,
  ands_at,
  Stand,
  Out,
  standing,
  moved,
  well,
  failed,
  chain,
  numbered,
  atoms_built,
  rule_built,
  term_built,
  atom_built,
}

-- The signs & of a term.
pub ands_step : (n : ℕ) (s : List ℕ) (d at : ℕ) → ands_from (suc n) s d at
    ≡ on_end (atom_end n s d at) (λ q. cond (is_and (kind_at s q)) (suc (ands_from n s d (q + 1))) 0) 0
unfolding ands_from
ands_step n s d at = refl

-- The fuel of the whole text is enough.
pub ands_all : (s : List ℕ) (d at m : ℕ) → ((n : ℕ) → 3 * (length s - at) + 1 < n → m ≡ ands_from n s d at) → m ≡ ands_at s d at
unfolding ands_at
ands_all s d at m f = f (3 * length s + 3) (omega arith)

-- One step of each builder.
module _ (n : ℕ) (s : List ℕ) (p d : ℕ) (v : List ℕ) (o : Stand) where
  pub rule_step : rule_built (suc n) s p d v o
      ≡ chain (term_built n s p d v o)
      (λ r. cond (is_or (kind_at s r.place.at)) (rule_built n s p d v (moved r (r.place.at + 1))) (well r))
  unfolding rule_built
  rule_step = refl

  -- A term of m signs.
  module _ (m : ℕ) (e : m ≡ ands_at s d o.place.at) where
    pub term_step : o.place.col ≤ 12 → m ≤ 256 → term_built (suc n) s p d v o
        ≡ chain
        (atoms_built (λ u x. atom_built n s p d u x) p s m o.place.col
        (standing o.ents o.labs o.place.at o.place.row (o.place.col + m)))
        (λ r. atom_built n s p d (less_all (vectors p) o.place.col m v) r)
    unfolding term_built
    term_step c l = rw (← e, le-ltb 12 o.place.col c, le-ltb 256 m l)

    pub term_large : (12 < o.place.col) ⊎ ((o.place.col ≤ 12) × (256 < m)) → failed o ≡ term_built (suc n) s p d v o
    unfolding term_built
    term_large (inl c) = rw (lt-ltb 12 o.place.col c)
    term_large (inr h) = rw (le-ltb 12 o.place.col h.0, ← e, lt-ltb 256 m h.1)

  pub atom_step : atom_built (suc n) s p d v o
      ≡ cond (eqb (tag (kind_at s o.place.at)) 0) (numbered s (digit (kind_at s o.place.at)) v o)
      (cond (is_open (kind_at s o.place.at))
      (cond (eqb d 0) (failed o)
      (chain (rule_built n s p (d - 1) v (moved o (o.place.at + 1)))
      (λ r. cond (is_close (kind_at s r.place.at)) (well (moved r (r.place.at + 1))) (failed r))))
      (failed o))
  unfolding atom_built
  atom_step = refl

  pub number_step : (x : ℕ) → Digit x ≡ kind_at s o.place.at → atom_built (suc n) s p d v o ≡ numbered s x v o
  number_step x k = rw (atom_step, ← k)

  pub group_step : Open ≡ kind_at s o.place.at → 1 ≤ d → atom_built (suc n) s p d v o
      ≡ chain (rule_built n s p (d - 1) v (moved o (o.place.at + 1)))
      (λ r. cond (is_close (kind_at s r.place.at)) (well (moved r (r.place.at + 1))) (failed r))
  group_step k l = rw (atom_step, ← k, ne_eqb d 0 (omega arith))

-- Atoms with a sign after each, of which j are left: none, or suc m, of which the first leaves r.
module _ (n : ℕ) (s : List ℕ) (p d own : ℕ) (o : Stand) (j : ℕ) where
  pub none_step : j ≡ 0 → atoms_built (λ u x. atom_built n s p d u x) p s j own o ≡ well o
  unfolding atoms_built
  none_step e = rw e

  pub more_step : (m : ℕ) → j ≡ suc m → (u : List ℕ) → u ≡ (vectors p).unit own → (r : Out) → r ≡ atom_built n s p d u o
      → atoms_built (λ u x. atom_built n s p d u x) p s j own o
      ≡ chain r
      (λ r. cond (is_and (kind_at s r.place.at))
      (atoms_built (λ u x. atom_built n s p d u x) p s m (own + 1) (moved r (r.place.at + 1)))
      (failed r))
  unfolding atoms_built
  more_step m e u f r g = rw (e, ← f, ← g)

-- A last atom's vector, column by column.
module _ (p c j : ℕ) where
  pub last_step : (m : ℕ) (v : List ℕ) → j ≡ suc m → less_all (vectors p) (c + 1) m ((vectors p).less c v) ≡ less_all (vectors p) c j v
  unfolding less_all
  last_step m v e = rw (e, add-one c)

  pub last_end : (v : List ℕ) → j ≡ 0 → less_all (vectors p) c j v ≡ v
  unfolding less_all
  last_end v e = rw e
