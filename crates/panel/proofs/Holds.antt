-- A panel and the cards that are in it: each call on the panel changes the one as the call changes the other.
-- Assumes nothing.
use Rattle.std.specs.Prelude.{Ok, Err}
use mathlib.Core.Path.{◌≡◌, refl, sym, ap, ap₂, subst, subst⁻¹, ◌∙◌}
use mathlib.Core.Bool.{Bool, true, false, cond, not, ◌&&◌, ◌||◌, false≢true}
use mathlib.Core.List.{List, []}
use mathlib.Core.Logic.{⊎_elim}
use mathlib.Core.Option.{Option, none, some}
use Prim.Native.Nat.{ℕ, ◌-◌, ◌^◌, ◌<◌, ◌≤◌}
use native.Mathlib.Omega.{arith}
use lib.Dec.{eqb}
use lib.ListN.{length, take}
use lib.Seq.{get_or-take}
use borrow.Author.Tests.{eq-eqb, ne_eqb, not-true}
use Rattle.algebra.proofs.Cases.{same?}
use Rattle.linear.specs.Flat.{place}
use Rattle.scheme.specs.declared.Refusal.{Refusal}
use Rattle.scheme.specs.declared.Refusal.TheVariants as R
use Rattle.scheme.specs.Sets.{in_set}
use Rattle.scheme.specs.Tests.{within, each_below, unless}
use Rattle.scheme.specs.Refusal.{read_below_lem, IsScheme}
use Rattle.scheme.proofs.Refusals.{Valid, valid, below_at, and-true, unless_ok}
use Rattle.scheme.proofs.Tests.{within_true, within_is}
use Rattle.panel.specs.declared.Panel.{Panel}
use Rattle.panel.specs.Cards.{shape_of, labels_of, entries_of, stored_of, rows_of, put_refusal_lem, take_refusal_lem, with_card, without_card}
use Rattle.panel.specs.History.{Held, put, out, holding, card_after, good_card, changed, is_in, set_of}
use Rattle.panel.specs.Steps.{places_right_lem}
use Rattle.panel.proofs.Refused.{accepted, unrefused, places_are, not_both}
use Rattle.panel.proofs.Marks.{set_small, set_has, set_same, set_change}
use Rattle.panel.proofs.Stored.{laid_length, laid_own, laid_other, read_by}

-- The shares of a card that is in.
shares_in : Option (List ℕ) → List ℕ
shares_in none = []
shares_in (some shares) = shares

same_shares : {x y : List ℕ} → some x ≡ some y → x ≡ y
unfolding shares_in
same_shares e = ap shares_in e

pub some_of : (c : Option (List ℕ)) → is_in c ≡ true → (x : List ℕ) × (c ≡ some x)
some_of none h = absurd (false≢true h)
some_of (some x) h = (x, refl)

none_of : (c : Option (List ℕ)) → is_in c ≡ false → c ≡ none
none_of none h = refl
none_of (some x) h = absurd (false≢true (sym h))

-- One card changed: that card is the new one, the others are what they were.
module _ (held : Held) (who : ℕ) (card : Option (List ℕ)) (i : ℕ) where
  holding_own : i ≡ who → holding held who card i ≡ card
  holding_own e = ap (λ b. cond b card (held i)) (eq-eqb i who e)

  holding_other : (i ≡ who → ⊥) → holding held who card i ≡ held i
  holding_other e = ap (λ b. cond b card (held i)) (ne_eqb i who e)

  holding_same : card ≡ held who → holding held who card i ≡ held i
  holding_same q = ⊎_elim (λ e. holding_own e ∙ q ∙ ap held (sym e)) (λ e. holding_other e) (same? i who)

  -- A card taken out: what is in was in before.
  holding_less : card ≡ none → (x : List ℕ) → holding held who card i ≡ some x → held i ≡ some x
  holding_less q x h = ⊎_elim
      (λ e. absurd (false≢true (ap is_in (sym q ∙ sym (holding_own e) ∙ h))))
      (λ e. sym (holding_other e) ∙ h)
      (same? i who)

-- The panel holds these cards: they are marked, and each row of a card that is in stores the card's share for it.
pub record Holds (a : Panel) (held : Held) : Type 0 where
  pub cards : a.cards ≡ set_of a.n held
  pub long : a.d ≤ length a.stored
  pub at : (k : ℕ) (x : List ℕ) → k < a.d → held (place (labels_of a) k) ≡ some x
      → place a.stored k ≡ place x (rows_of (place (labels_of a) k) (take k (labels_of a)))
  pub below : (i : ℕ) (x : List ℕ) → held i ≡ some x → each_below a.p x ≡ true

-- Cards that are the same, or fewer with the same marks.
pub holds_fewer : (a : Panel) (held held' : Held) → Holds a held → ((i : ℕ) (x : List ℕ) → held' i ≡ some x → held i ≡ some x)
    → set_of a.n held ≡ set_of a.n held' → Holds a held'
holds_fewer a held held' h fewer same = record {
  cards = h.cards ∙ same;
  long = h.long;
  at = λ k x l e. h.at k x l (fewer _ x e);
  below = λ i x e. h.below i x (fewer i x e);
}

module _ (a : Panel) (held : Held) (sound : IsScheme (shape_of a) (labels_of a) (entries_of a)) (h : Holds a held) where
  v : Valid (shape_of a) (labels_of a) (entries_of a)
  v = valid (shape_of a) (labels_of a) (entries_of a) true sound

  pub in_is : (who : ℕ) → 1 ≤ who → who ≤ a.n → in_set a.cards who ≡ is_in (held who)
  in_is who l u = ap (λ (c : ℕ). in_set c who) h.cards ∙ set_has a.n held who l u

  inside : a.cards < 2 ^ a.n
  inside = subst⁻¹ (λ (c : ℕ). c < 2 ^ a.n) h.cards (set_small a.n held)

  -- At the rows of a card that is in stand its shares.
  pub row_share : (k : ℕ) → k < a.d → in_set a.cards (place (labels_of a) k) ≡ true
      → (x : List ℕ) × (held (place (labels_of a) k) ≡ some x)
      × (place (stored_of a) k ≡ place x (rows_of (place (labels_of a) k) (take k (labels_of a))))
  row_share k l q =
      let w = v.label k l in
      let s = some_of (held (place (labels_of a) k)) (sym (in_is (place (labels_of a) k) w.0 w.1) ∙ q) in
      (s.0, s.1, get_or-take a.d a.stored k 0 l ∙ h.at k s.0 l s.1)

  read : read_below_lem a.p a.cards (labels_of a) (stored_of a) ≡ true
  read = read_by a.p a.cards (labels_of a) (stored_of a) (λ k l m q.
      let r = row_share k (omega (arith, v.labels_length)) q in
      subst⁻¹ (λ (y : ℕ). y < a.p) r.2 (below_at a.p r.0 (omega (arith, v.p_low)) (h.below _ r.0 r.1) _))

  -- Putting in.
  module _ (who : ℕ) (shares : List ℕ) where
    abbrev good : Bool
    good = good_card (shape_of a) (labels_of a) who shares

    abbrev after : Held
    after = changed (shape_of a) (labels_of a) held (put who shares)

    -- A good card of one whose card is out is not refused.
    taken : held who ≡ none → good ≡ true → put_refusal_lem a who shares ≡ Ok tt
    taken e g =
        let x = and-true (within 1 a.n who) _ g in
        let y = and-true (eqb (length shares) (rows_of who (labels_of a))) _ x.1 in
        let w = within_true 1 a.n who x.0 in
        unrefused (shape_of a) (labels_of a) (entries_of a) a.cards (stored_of a) (places_right_lem a.n who (labels_of a) (length shares))
        (within 1 a.n who) (each_below a.p shares) (unless (not (in_set a.cards who)) R.CardIn) sound
        (places_right_holds (within 1 a.n who) (eqb (length shares) (rows_of who (labels_of a))) y.0) inside x.0 read y.1
        (ap (λ b. unless (not b) R.CardIn) (in_is who w.0 w.1 ∙ ap is_in e))
      where
        places_right_holds : (b c : Bool) → c ≡ true → (not b || c) ≡ true
        places_right_holds true c q = q
        places_right_holds false c q = refl

    -- A refused one changes nothing on either side.
    pub put_refused : (k : Refusal) → put_refusal_lem a who shares ≡ Err k → Holds a after
    put_refused k z = holds_fewer a held after h (λ i x e. sym (holding_same held who _ i kept) ∙ e)
        (set_same a.n held after (λ i l u. ap is_in (sym (holding_same held who _ i kept))))
      where
        kept : card_after (held who) good shares ≡ held who
        kept = card (held who) refl
          where
            card : (c : Option (List ℕ)) → held who ≡ c → card_after c good shares ≡ c
            card (some old) e = refl
            card none e = test good refl
              where
                test : (g : Bool) → good ≡ g → card_after none g shares ≡ none
                test false q = refl
                test true q = absurd (not_both _ k (taken e q) z)

    -- One that is not refused is a good card of one whose card was out; its shares are stored and its mark set.
    pub put_taken : put_refusal_lem a who shares ≡ Ok tt → Holds (with_card a who shares) after
    put_taken z =
        let t = accepted (shape_of a) (labels_of a) (entries_of a) a.cards (stored_of a)
        (places_right_lem a.n who (labels_of a) (length shares)) (within 1 a.n who) (each_below a.p shares)
        (unless (not (in_set a.cards who)) R.CardIn) z in
        let w = within_true 1 a.n who t.among in
        let places = places_are a.n who (labels_of a) (length shares) t.among t.fits in
        let none_in = not-true (in_set a.cards who) (unless_ok _ _ t.after) in
        let empty = none_of (held who) (sym (in_is who w.0 w.1) ∙ none_in) in
        let card : card_after (held who) good shares ≡ some shares =
        ap₂ (λ c g. card_after c g shares) empty (ap₂ ◌&&◌ t.among (ap₂ ◌&&◌ (eq-eqb _ _ places) t.own)) in
        stored w.0 w.1 places empty card t.own
      where
        stored : 1 ≤ who → who ≤ a.n → length shares ≡ rows_of who (labels_of a) → held who ≡ none → card_after (held who) good shares ≡ some shares
            → each_below a.p shares ≡ true → Holds (with_card a who shares) after
        stored low high places empty card own = record {
          cards =
              let m : cond (is_in (held who)) (2 ^ (who - 1)) 0 ≡ 0 = ap (λ c. cond (is_in c) (2 ^ (who - 1)) 0) empty in
              let n : cond (is_in (after who)) (2 ^ (who - 1)) 0 ≡ 2 ^ (who - 1) =
              ap (λ c. cond (is_in c) (2 ^ (who - 1)) 0) (holding_own held who _ who refl ∙ card) in
              omega (arith, h.cards, m, n, set_change a.n held after who low high (λ j e. ap is_in (sym (holding_other held who _ j e))));
          long = subst⁻¹ (λ (n : ℕ). a.d ≤ n) (laid_length who (labels_of a) shares a.stored) h.long;
          at = λ k x l e. ⊎_elim
              (λ q.
              let same = same_shares (sym e ∙ holding_own held who _ (place (labels_of a) k) q ∙ card) in
              laid_own who (labels_of a) shares a.stored k (omega (arith, v.labels_length)) (omega (arith, h.long)) q (omega arith)
              ∙ ap₂ (λ (y : List ℕ) (i : ℕ). place y (rows_of i (take k (labels_of a)))) (sym same) (sym q))
              (λ q. laid_other who (labels_of a) shares a.stored k (omega (arith, v.labels_length)) q
              ∙ h.at k x l (sym (holding_other held who _ (place (labels_of a) k) q) ∙ e))
              (same? (place (labels_of a) k) who);
          below = λ i x e. ⊎_elim
              (λ q. subst (λ y. each_below a.p y ≡ true) (same_shares (sym card ∙ sym (holding_own held who _ i q) ∙ e)) own)
              (λ q. h.below i x (sym (holding_other held who _ i q) ∙ e))
              (same? i who);
        }

  -- Taking out.
  module _ (who : ℕ) where
    abbrev left : Held
    left = changed (shape_of a) (labels_of a) held (out who)

    let_go : 1 ≤ who → who ≤ a.n → in_set a.cards who ≡ true → take_refusal_lem a who ≡ Ok tt
    let_go low high q = unrefused (shape_of a) (labels_of a) (entries_of a) a.cards (stored_of a) true (within 1 a.n who) true
        (unless (in_set a.cards who) R.CardNotIn) sound refl inside (within_is 1 a.n who low high) read refl (ap (λ b. unless b R.CardNotIn) q)

    -- A refused one: the card was not in.
    pub out_refused : (k : Refusal) → take_refusal_lem a who ≡ Err k → Holds a left
    out_refused k z = holds_fewer a held left h (λ i x e. holding_less held who none i refl x e)
        (set_same a.n held left (λ i l u. ⊎_elim
        (λ e. sym (in_is i l u) ∙ absent i l u e (in_set a.cards i) refl ∙ sym (ap is_in (holding_own held who none i e)))
        (λ e. ap is_in (sym (holding_other held who none i e)))
        (same? i who)))
      where
        absent : (i : ℕ) → 1 ≤ i → i ≤ a.n → i ≡ who → (b : Bool) → in_set a.cards i ≡ b → in_set a.cards i ≡ false
        absent i l u e false q = q
        absent i l u e true q = absurd (not_both _ k (let_go (omega arith) (omega arith) (ap (λ (j : ℕ). in_set a.cards j) (sym e) ∙ q)) z)

    pub out_taken : take_refusal_lem a who ≡ Ok tt → Holds (without_card a who) left
    out_taken z =
        let t = accepted (shape_of a) (labels_of a) (entries_of a) a.cards (stored_of a) true (within 1 a.n who) true
        (unless (in_set a.cards who) R.CardNotIn) z in
        let w = within_true 1 a.n who t.among in
        let in-set = unless_ok _ _ t.after in
        let m : cond (is_in (held who)) (2 ^ (who - 1)) 0 ≡ 2 ^ (who - 1) =
        ap (λ b. cond b (2 ^ (who - 1)) 0) (sym (in_is who w.0 w.1) ∙ in-set) in
        let n : cond (is_in (left who)) (2 ^ (who - 1)) 0 ≡ 0 = ap (λ c. cond (is_in c) (2 ^ (who - 1)) 0) (holding_own held who none who refl) in
        record {
          cards = omega (
            arith,
            h.cards,
            m,
            n,
            set_change a.n held left who w.0 w.1 (λ j e. ap is_in (sym (holding_other held who none j e))),
          );
          long = h.long;
          at = λ k x l e. h.at k x l (holding_less held who none _ refl x e);
          below = λ i x e. h.below i x (holding_less held who none i refl x e);
        }
