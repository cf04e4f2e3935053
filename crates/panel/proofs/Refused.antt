-- The refusals of a call on a panel, number by number: what the tests that are passed leave of them; and what holds where none applies.
-- Assumes nothing.
use Rattle.std.specs.Prelude.{Result, Ok, Err}
use mathlib.Core.Path.{◌≡◌, sym, ap, ap₂, ◌∙◌}
use mathlib.Core.Bool.{Bool, true, not, ◌||◌}
use mathlib.Core.List.{List}
use mathlib.Core.Logic.{inl, ⊎_elim}
use Prim.Native.Nat.{ℕ, ◌+◌, ◌-◌, ◌/◌, ◌%◌, ◌^◌, ◌<◌, ◌≤◌}
use native.Mathlib.Nat.{div-eq_of_lt}
use native.Mathlib.Omega.{arith}
use lib.Dec.{eqb, ltb}
use lib.ListN.{length}
use lib.Pow.{pow_mono}
use borrow.Author.Tests.{eqb-true, ltb-true, lt-ltb}
use Rattle.algebra.proofs.Cases.{lt_or_ge}
use Rattle.linear.specs.Bits.{bit}
use Rattle.scheme.specs.declared.Shape.{Shape}
use Rattle.scheme.specs.declared.Refusal.{Refusal}
use Rattle.scheme.specs.declared.Refusal.TheVariants as R
use Rattle.scheme.specs.Refusal.{numbers_refusal_lem, refusal_of, read_below_lem, IsScheme}
use Rattle.scheme.specs.Sets.{in_set}
use Rattle.scheme.specs.Tests.{within, each_below, unless, or_else}
use Rattle.scheme.proofs.Refusals.{stands, or_else_ok, or_else_none, or_else_assoc, unless_ok, and-true, refusal_more, numbers, Valid, valid, valid_fits}
use Rattle.scheme.proofs.Tests.{within_true}
use Rattle.join.specs.Says.{JoinSays}
use Rattle.panel.specs.declared.Panel.{Panel}
use Rattle.panel.specs.Cards.{rows_of, shape_of, labels_of, entries_of, stored_of, put_refusal_lem, take_refusal_lem}
use Rattle.panel.specs.Steps.{places_right_lem, lists_refusal_lem, cards_refusal}

-- No answer both refuses and does not.
pub not_both : (a : Result Unit Refusal) (k : Refusal) → a ≡ Ok tt → a ≡ Err k → ⊥
not_both (Ok u) k x y = cc
not_both (Err j) k x y = cc

-- Refusals 1 to 4 stand before all others, in joining too.
pub joined_early : (s : Shape) (labels entries : List ℕ) (set : ℕ) (shares : List ℕ) (a : Result ℕ Refusal) (k : Refusal)
    → numbers_refusal_lem s ≡ Err k → a ≡ Err k → JoinSays s labels entries set shares a
unfolding refusal_of JoinSays
joined_early s labels entries set shares a k e q = rw q (inl (stands _ _ k e))

pub rows_at_most : (s : Shape) → numbers_refusal_lem s ≡ Ok tt → s.d ≤ 32
rows_at_most s h = (within_true 1 32 s.d (numbers s h).d_right).1

-- What the tests of a call say where nothing is refused.
pub record Accepted (s : Shape) (labels entries : List ℕ) (cards : ℕ) (stored : List ℕ) (lengths who below : Bool) (more : Result Unit Refusal) : Type 0 where
  pub scheme : Valid s labels entries
  pub fits : lengths ≡ true
  pub inside : cards < 2 ^ s.n
  pub among : who ≡ true
  pub read : read_below_lem s.p cards labels stored ≡ true
  pub own : below ≡ true
  pub after : more ≡ Ok tt

module _ (s : Shape) (labels entries : List ℕ) (cards : ℕ) (stored : List ℕ) (lengths who below : Bool) (more : Result Unit Refusal) where
  pub accepted : lists_refusal_lem s labels entries cards stored lengths who below more ≡ Ok tt
      → Accepted s labels entries cards stored lengths who below more
  accepted h =
      let a = or_else_ok _ _ (sym (refusal_more s labels entries lengths _) ∙ h) in
      let b = or_else_ok _ _ a.1 in
      let c = or_else_ok _ _ b.1 in
      let x = and-true _ _ (unless_ok _ _ b.0) in
      let y = and-true _ _ (unless_ok _ _ c.0) in
      record {
        scheme = valid s labels entries lengths a.0;
        fits = valid_fits s labels entries lengths a.0;
        inside = ltb-true _ _ x.0;
        among = x.1;
        read = y.0;
        own = y.1;
        after = c.1;
      }

  -- What a call refuses after 9 comes last, and can be taken by itself.
  lists_more : lists_refusal_lem s labels entries cards stored lengths who below more
      ≡ or_else (lists_refusal_lem s labels entries cards stored lengths who below (Ok tt)) more
  unfolding refusal_of
  lists_more = simp (or_else_none, or_else_assoc)

  pub lists_on : lists_refusal_lem s labels entries cards stored lengths who below (Ok tt) ≡ Ok tt
      → lists_refusal_lem s labels entries cards stored lengths who below more ≡ more
  lists_on h = lists_more ∙ ap (λ (k : Result Unit Refusal). or_else k more) h

-- The participant of a call that is not refused.
pub who_inside : (s : Shape) (labels entries : List ℕ) (cards : ℕ) (stored : List ℕ) (lengths : Bool) (who : ℕ) (below : Bool)
    (more : Result Unit Refusal) → lists_refusal_lem s labels entries cards stored lengths (within 1 s.n who) below more ≡ Ok tt
    → (1 ≤ who) × (who ≤ 16)
who_inside s labels entries cards stored lengths who below more z =
    let h = accepted s labels entries cards stored lengths (within 1 s.n who) below more z in
    let w = within_true 1 s.n who h.among in
    (w.0, omega (arith, w.1, h.scheme.n_high))

-- The length that a participant's rows ask for.
pub places_are : (n who : ℕ) (labels : List ℕ) (places : ℕ) → within 1 n who ≡ true → places_right_lem n who labels places ≡ true
    → places ≡ rows_of who labels
places_are n who labels places w h = eqb-true _ _ (sym (ap (λ b. not b || eqb places (rows_of who labels)) w) ∙ h)

-- A mark fits beside the others; one that is in can be taken off.
pub marks_few : (n cards who : ℕ) → n ≤ 16 → cards < 2 ^ n → who ≤ 16 → cards + 2 ^ (who - 1) < 4294967296
marks_few n cards who ln lc lw =
    let a : 2 ^ n ≤ 65536 = pow_mono {i = n} {j = 16} ln in
    let b : 2 ^ (who - 1) ≤ 65536 = pow_mono {i = who - 1} {j = 16} (omega arith) in
    omega arith

pub mark_in : (cards k : ℕ) → bit cards k ≡ true → 2 ^ k ≤ cards
mark_in cards k h = ⊎_elim
    (λ l. absurd (none (eqb-true ((cards / 2 ^ k) % 2) 1 h) (div-eq_of_lt l)))
    (λ l. l)
    (lt_or_ge cards (2 ^ k))
  where
    none : (cards / 2 ^ k) % 2 ≡ 1 → cards / 2 ^ k ≡ 0 → ⊥
    none odd gone = let e : (cards / 2 ^ k) % 2 ≡ 0 % 2 = ap (λ (x : ℕ). x % 2) gone in omega arith

-- What an accepted putting in needs of the panel, and an accepted taking out.
pub record PutFits (a : Panel) (who : ℕ) (shares : List ℕ) : Type 0 where
  pub rows : a.d ≤ 32
  pub low : 1 ≤ who
  pub high : who ≤ 16
  pub places : length shares ≡ rows_of who (labels_of a)
  pub fits : a.cards + 2 ^ (who - 1) < 4294967296

pub put_accepted : (a : Panel) (who : ℕ) (shares : List ℕ) → put_refusal_lem a who shares ≡ Ok tt → PutFits a who shares
put_accepted a who shares z =
    let h = accepted (shape_of a) (labels_of a) (entries_of a) a.cards (stored_of a) (places_right_lem a.n who (labels_of a) (length shares))
    (within 1 a.n who) (each_below a.p shares) (unless (not (in_set a.cards who)) R.CardIn) z in
    let w = who_inside (shape_of a) (labels_of a) (entries_of a) a.cards (stored_of a) _ who _ _ z in
    record {
      rows = h.scheme.d_high;
      low = w.0;
      high = w.1;
      places = places_are a.n who (labels_of a) (length shares) h.among h.fits;
      fits = marks_few a.n a.cards who h.scheme.n_high h.inside w.1;
    }

pub record TakeFits (a : Panel) (who : ℕ) : Type 0 where
  pub low : 1 ≤ who
  pub high : who ≤ 16
  pub fits : 2 ^ (who - 1) ≤ a.cards

pub take_accepted : (a : Panel) (who : ℕ) → take_refusal_lem a who ≡ Ok tt → TakeFits a who
take_accepted a who z =
    let h = accepted (shape_of a) (labels_of a) (entries_of a) a.cards (stored_of a) true (within 1 a.n who) true
    (unless (in_set a.cards who) R.CardNotIn) z in
    let w = who_inside (shape_of a) (labels_of a) (entries_of a) a.cards (stored_of a) _ who _ _ z in
    record { low = w.0; high = w.1; fits = mark_in a.cards (who - 1) (unless_ok _ _ h.after) }

-- Nothing is refused where each test of a call holds.
pub unrefused : (s : Shape) (labels entries : List ℕ) (cards : ℕ) (stored : List ℕ) (lengths who below : Bool)
    (more : Result Unit Refusal)
    → IsScheme s labels entries → lengths ≡ true → cards < 2 ^ s.n → who ≡ true → read_below_lem s.p cards labels stored ≡ true
    → below ≡ true → more ≡ Ok tt → lists_refusal_lem s labels entries cards stored lengths who below more ≡ Ok tt
unrefused s labels entries cards stored lengths who below more sound fits inside among read own after =
    refusal_more s labels entries lengths _
    ∙ ap₂ or_else (ap (λ b. refusal_of s labels entries b (Ok tt)) fits ∙ sound) (tests (lt-ltb _ _ inside))
  where
    tests : ltb cards (2 ^ s.n) ≡ true → cards_refusal s labels entries cards stored who below more ≡ Ok tt
    tests x = simp (x, among, read, own, after)
