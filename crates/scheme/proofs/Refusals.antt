-- What an answer that refuses, and one that does not, says of the tests behind it; and what holds of a scheme that is not refused.
-- Assumes nothing.
use mathlib.Core.Path.{◌≡◌, ap, refl, sym, subst, subst⁻¹, ◌∙◌}
use mathlib.Core.Bool.{Bool, true, false, ◌&&◌}
use mathlib.Core.List.{List}
use mathlib.Core.Logic.{⊎_elim}
use Prim.Native.Nat.{ℕ, ◌*◌, ◌/◌, ◌^◌, ◌≤◌, ◌<◌}
use native.Mathlib.Nat.{mul-le-mul, div-eq_of_lt, div-lt_iff_lt-mul, one-le-pow}
use native.Mathlib.Omega.{arith}
use lib.Dec.{eqb, ltb, ltb→lt}
use lib.ListN.{length, get_or}
use borrow.Author.Tests.{eqb-true, eq-eqb, ne_eqb, ltb-true, lt-ltb, le-ltb}
use Rattle.algebra.proofs.Cases.{lt_or_ge}
use Rattle.lists.proofs.Store.{past}
use Rattle.residue.specs.Moduli.{moduli, is_modulus_lem}
use Rattle.residue.proofs.Moduli.{all_lift, modulus_prime}
use Rattle.std.specs.Prelude.{Result, Ok, Err}
use Rattle.scheme.specs.declared.Shape.{Shape}
use Rattle.scheme.specs.declared.Checked.{Checked}
use Rattle.scheme.specs.declared.Refusal.{Refusal}
use Rattle.scheme.specs.declared.Refusal.TheVariants as R
pub use Rattle.scheme.specs.Valid.{Valid}
use Rattle.scheme.specs.Checked.{IsOf}
use Rattle.scheme.specs.Tests.{within, each, each_below, unless, or_else}
use Rattle.scheme.specs.Refusal.{numbers_refusal_lem, content_refusal_lem, refusal_of}
use Rattle.scheme.proofs.Tests.{within_true, each_at}
pub use Rattle.scheme.proofs.Tests.{and-true}

-- An answer that refuses stands, whatever comes after it.
pub stands : (a b : Result Unit Refusal) (k : Refusal) → a ≡ Err k → or_else a b ≡ Err k
stands a b k e = rw e refl

pub or_else_ok : (a b : Result Unit Refusal) → or_else a b ≡ Ok tt → (a ≡ Ok tt) × (b ≡ Ok tt)
or_else_ok (Ok u) b h = (refl, h)
or_else_ok (Err k) b h = absurd (cc)

pub or_else_assoc : (a b c : Result Unit Refusal) → or_else a (or_else b c) ≡ or_else (or_else a b) c
or_else_assoc (Ok u) b c = refl
or_else_assoc (Err k) b c = refl

pub or_else_none : (a : Result Unit Refusal) → or_else a (Ok tt) ≡ a
or_else_none (Ok u) = refl
or_else_none (Err k) = refl

pub unless_ok : (t : Bool) (k : Refusal) → unless t k ≡ Ok tt → t ≡ true
unless_ok true k h = refl
unless_ok false k h = absurd (cc)

-- A set number has no bit from n up just where dividing it by 2 ^ n leaves 0.
pub set_test : (n set : ℕ) → eqb (set / 2 ^ n) 0 ≡ ltb set (2 ^ n)
set_test n set = let low : 1 ≤ 2 ^ n = one-le-pow n 2 (omega arith) in ⊎_elim
    (λ l. eq-eqb (set / 2 ^ n) 0 (div-eq_of_lt l) ∙ sym (lt-ltb set (2 ^ n) l))
    (λ l. ne_eqb (set / 2 ^ n) 0 (λ z. let below : set < 1 * 2 ^ n = (div-lt_iff_lt-mul {k = 2 ^ n} {x = set} {y = 1} low).0 (omega arith) in
    omega arith) ∙ sym (le-ltb set (2 ^ n) l))
    (lt_or_ge set (2 ^ n))

-- What a call refuses after 7 comes last, and can be taken by itself.
pub refusal_more : (s : Shape) (labels entries : List ℕ) (fits : Bool) (more : Result Unit Refusal)
    → refusal_of s labels entries fits more ≡ or_else (refusal_of s labels entries fits (Ok tt)) more
unfolding refusal_of
refusal_more s labels entries fits more = simp (or_else_none, or_else_assoc)

-- Each modulus has 16 bits.
pub modulus_below : (p : ℕ) → is_modulus_lem p ≡ true → p < 65536
modulus_below p h = ltb→lt p 65536 (all_lift (λ q. ltb q 65536) p moduli tt h)

-- What the four numbers have where nothing is refused of them.
pub record Numbers (s : Shape) : Type 0 where
  pub modulus : is_modulus_lem s.p ≡ true
  pub n_right : within 1 16 s.n ≡ true
  pub d_right : within 1 32 s.d ≡ true
  pub e_right : within 1 12 s.e ≡ true

pub numbers : (s : Shape) → numbers_refusal_lem s ≡ Ok tt → Numbers s
unfolding numbers_refusal_lem
numbers s h =
    let a = or_else_ok _ _ h in
    let b = or_else_ok _ _ a.1 in
    let c = or_else_ok _ _ b.1 in
    record {
      modulus = unless_ok _ _ a.0;
      n_right = unless_ok _ _ b.0;
      d_right = unless_ok _ _ c.0;
      e_right = unless_ok _ _ c.1;
    }

pub rows_few : (s : Shape) → numbers_refusal_lem s ≡ Ok tt → s.d * s.e ≤ 384
rows_few s h =
    let q = numbers s h in
    mul-le-mul {n₁ = s.d} {m₁ = s.e} {n₂ = 32} {m₂ = 12} (within_true 1 32 _ q.d_right).1 (within_true 1 12 _ q.e_right).1

-- What it says of the two lists.
content : (p n : ℕ) (labels entries : List ℕ) → content_refusal_lem p n labels entries ≡ Ok tt
    → (each (within 1 n) labels ≡ true) × (each_below p entries ≡ true)
unfolding content_refusal_lem
content p n labels entries h = let a = or_else_ok _ _ h in (unless_ok _ _ a.0, unless_ok _ _ a.1)

-- 0 past the end of a list is below p too.
pub below_at : (p : ℕ) (xs : List ℕ) → 0 < p → each_below p xs ≡ true → (i : ℕ) → get_or xs i 0 < p
below_at p xs l h i = ⊎_elim
    (λ u. ltb-true _ _ (each_at _ xs h i u))
    (λ u. subst⁻¹ (λ (x : ℕ). x < p) (past xs i u) l)
    (lt_or_ge i (length xs))

-- What it says of all.
pub record Parts (s : Shape) (labels entries : List ℕ) (fits : Bool) (more : Result Unit Refusal) : Type 0 where
  pub first : numbers_refusal_lem s ≡ Ok tt
  pub lengths : (eqb (length labels) s.d ≡ true) × (eqb (length entries) (s.d * s.e) ≡ true)
  pub own : fits ≡ true
  pub lists : content_refusal_lem s.p s.n labels entries ≡ Ok tt
  pub after : more ≡ Ok tt

pub parts : (s : Shape) (labels entries : List ℕ) (fits : Bool) (more : Result Unit Refusal) → refusal_of s labels entries fits more ≡ Ok tt
    → Parts s labels entries fits more
unfolding refusal_of
parts s labels entries fits more h =
    let a = or_else_ok _ _ h in
    let b = or_else_ok _ _ a.1 in
    let c = or_else_ok _ _ b.1 in
    let l = and-true _ _ (unless_ok _ _ b.0) in
    let m = and-true _ _ l.1 in
    record { first = a.0; lengths = (l.0, m.0); own = m.1; lists = c.0; after = c.1 }

module _ (s : Shape) (labels entries : List ℕ) (fits : Bool) (h : refusal_of s labels entries fits (Ok tt) ≡ Ok tt) where
  pub valid_fits : fits ≡ true
  valid_fits = (parts s labels entries fits (Ok tt) h).own

  pub valid : Valid s labels entries
  valid =
      let t = parts s labels entries fits (Ok tt) h in
      let q = numbers s t.first in
      let prime = modulus_prime s.p q.modulus in
      let n = within_true 1 16 s.n q.n_right in
      let d = within_true 1 32 s.d q.d_right in
      let e = within_true 1 12 s.e q.e_right in
      let l = eqb-true _ _ t.lengths.0 in
      let c = content s.p s.n labels entries t.lists in
      record {
        prime = prime;
        p_low = prime.two;
        p_high = modulus_below s.p q.modulus;
        n_low = n.0;
        n_high = n.1;
        d_low = d.0;
        d_high = d.1;
        e_low = e.0;
        e_high = e.1;
        labels_length = l;
        entries_length = eqb-true _ _ t.lengths.1;
        label = λ k u. within_true 1 s.n _ (each_at _ labels c.0 k (omega arith));
        entry = below_at s.p entries (omega arith) c.1;
      }

-- A scheme of which nothing is refused, whatever the lists of the call.
pub checked_scheme : (s : Shape) (labels entries : List ℕ) (fits : Bool) → refusal_of s labels entries fits (Ok tt) ≡ Ok tt
    → refusal_of s labels entries true (Ok tt) ≡ Ok tt
checked_scheme s labels entries fits h = sym (ap (λ b. refusal_of s labels entries b (Ok tt)) (valid_fits s labels entries fits h)) ∙ h

-- A call's refusal from its two parts: what every call refuses, and what comes after 7.
module _ (s : Shape) (labels entries : List ℕ) (fits : Bool) (more : Result Unit Refusal) where
  pub call_stands : (k : Refusal) → refusal_of s labels entries fits (Ok tt) ≡ Err k → refusal_of s labels entries fits more ≡ Err k
  call_stands k h = refusal_more s labels entries fits more ∙ stands _ more k h

  pub call_more : refusal_of s labels entries fits (Ok tt) ≡ Ok tt → refusal_of s labels entries fits more ≡ more
  call_more h = refusal_more s labels entries fits more ∙ ap (λ (k : Result Unit Refusal). or_else k more) h

-- The lengths of a call's own lists count only where d is at most 32 and e at most 12: a larger d or e is refused before them.
pub refusal_lengths : (s : Shape) (labels entries : List ℕ) (a b : Bool) (more : Result Unit Refusal) → (s.d ≤ 32 → s.e ≤ 12 → a ≡ b)
    → refusal_of s labels entries a more ≡ refusal_of s labels entries b more
unfolding refusal_of
refusal_lengths s labels entries a b more same = cases (numbers_refusal_lem s) refl
  where
    tests : Bool → Result Unit Refusal
    tests c = or_else (unless (eqb (length labels) s.d && (eqb (length entries) (s.d * s.e) && c)) R.Length)
        (or_else (content_refusal_lem s.p s.n labels entries) more)

    cases : (k : Result Unit Refusal) → numbers_refusal_lem s ≡ k
        → or_else (numbers_refusal_lem s) (tests a) ≡ or_else (numbers_refusal_lem s) (tests b)
    cases (Ok u) q =
        let n = numbers s q in
        ap (λ c. or_else (numbers_refusal_lem s) (tests c)) (same (within_true 1 32 s.d n.d_right).1 (within_true 1 12 s.e n.e_right).1)
    cases (Err k) q = stands _ (tests a) k q ∙ sym (stands _ (tests b) k q)

-- What holds of the checked scheme holds of the one that was handed over.
pub of_checked : (P : Shape → List ℕ → List ℕ → Type 0) {s : Shape} {labels entries : List ℕ} (c : Checked) → IsOf s labels entries c
    → P c.shape c.labels.now c.entries.now → P s labels entries
of_checked P {s} {labels} {entries} c is h =
    subst (λ (x : Shape). P x labels entries) is.0
    (subst (λ (x : List ℕ). P c.shape x entries) is.1
    (subst (λ (x : List ℕ). P c.shape c.labels.now x) is.2 h))
