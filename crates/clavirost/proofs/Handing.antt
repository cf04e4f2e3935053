-- The panel that C hands over, and what C is told by the calls on it.
-- Assumes nothing.
use Rattle.std.proofs.Common.{◌≡◌, refl, sym, ap, subst, ◌∙◌, Bool, true, List, ℕ, length}
use Rattle.std.specs.Prelude.{Result, Ok, Err}
use mathlib.Core.Path.{subst⁻¹}
use borrow.Author.Tests.{eqb-true}
use Rattle.scheme.specs.declared.Shape.{Shape}
use Rattle.scheme.specs.declared.Refusal.{Refusal}
use Rattle.scheme.specs.Numbers.{number_lem}
use Rattle.scheme.specs.Refusal.{numbers_refusal_lem, refusal_of}
use Rattle.scheme.specs.Outcome.{left_at}
use Rattle.scheme.proofs.Refusals.{or_else_ok, unless_ok, and-true, valid_fits, checked_scheme}
use Rattle.panel.specs.declared.Panel.{Panel}
use Rattle.panel.specs.declared.Told as Panel
use Rattle.panel.specs.declared.Coded.{Coded}
use Rattle.panel.specs.Cards.{put_in, taken_out, told_at, fresh_panel, blank_panel}
use Rattle.panel.specs.Says.{CodeSays, FreshSays}
use Rattle.clavirost.specs.Numbers.{answer_number, after}
use Rattle.clavirost.specs.Places.{panel_of_lem, places_right_lem, places_refusal_lem, told_in, PanelTold, PutTold, TakeTold, CodeIn, CodeTold}
use Rattle.clavirost.specs.Places.{number_left, new_refusal, MadeSays, FreshTold}

pub right_lengths : (labels entries stored : List ℕ) → places_right_lem labels entries stored ≡ true
    → (length labels ≡ 32) × (length entries ≡ 384) × (length stored ≡ 32)
right_lengths labels entries stored h =
    let a = and-true _ _ h in
    let b = and-true _ _ a.1 in
    (eqb-true (length labels) 32 a.0, eqb-true (length entries) 384 b.0, eqb-true (length stored) 32 b.1)

-- The panel made of copies of the lists.
pub panel_made : (s : Shape) (cards : ℕ) (labels entries stored l e k : List ℕ) → l ≡ labels → e ≡ entries → k ≡ stored
    → panel_of_lem s l e cards k ≡ panel_of_lem s labels entries cards stored
panel_made s cards labels entries stored l e k a b c =
    ap (λ (l : List ℕ). panel_of_lem s l e cards k) a ∙ ap (λ (e : List ℕ). panel_of_lem s labels e cards k) b
    ∙ ap (λ (k : List ℕ). panel_of_lem s labels entries cards k) c

-- The calls on a panel: refused for its places.
module _ (s : Shape) (labels entries : List ℕ) (cards : ℕ) (stored : List ℕ) where
  abbrev a : Panel
  a = panel_of_lem s labels entries cards stored

  -- Where nothing is refused the lists have their places.
  pub accepted_lengths : places_refusal_lem a ≡ Ok tt → (length labels ≡ 32) × (length entries ≡ 384) × (length stored ≡ 32)
  accepted_lengths z =
      right_lengths labels entries stored (unless_ok _ _ (or_else_ok (numbers_refusal_lem s) _ z).1)

  module _ (k : Refusal) (h : places_refusal_lem a ≡ Err k) (x : ℕ) (e : x ≡ number_lem k) where
    refused_in : (told : Panel.Told) → PanelTold (told_in (places_refusal_lem a) a told) x cards stored
    refused_in told = subst⁻¹ (λ (r : Result Unit Refusal). PanelTold (told_in r a told) x cards stored) h
        (record { is = e; cards = refl; stored = refl })

    pub put_refused : (who : ℕ) (shares : List ℕ) → PutTold a who shares x cards stored
    put_refused who shares = refused_in (put_in a who shares)

    pub take_refused : (who : ℕ) → TakeTold a who x cards stored
    take_refused who = refused_in (taken_out a who)

    pub code_refused : (code : ℕ) → CodeTold a code x code
    code_refused code = record {
      answer = Err k;
      permits = (subst⁻¹ (λ (r : Result Unit Refusal). CodeIn r a (Err k)) h refl, refl);
      is = e;
    }

  -- The call itself, on the panel b that was made of what was handed over.
  module _ (z : places_refusal_lem a ≡ Ok tt) (b : Panel) (m : b ≡ a) where
    told_in_holds : (f : Panel → Panel.Told) (told : Panel.Told) (y cards' : ℕ) (stored' : List ℕ) → told ≡ f b
        → PanelTold told y cards' stored' → PanelTold (told_in (places_refusal_lem a) a (f a)) y cards' stored'
    told_in_holds f told y cards' stored' i h = subst (λ (w : Panel.Told). PanelTold w y cards' stored')
        (i ∙ ap f m ∙ ap (λ (r : Result Unit Refusal). told_in r a (f a)) (sym z)) h

    pub put_told : (who : ℕ) (shares : List ℕ) (told : Panel.Told) (y cards' : ℕ) (stored' : List ℕ) → told ≡ put_in b who shares
        → PanelTold told y cards' stored' → PutTold a who shares y cards' stored'
    put_told who shares = told_in_holds (λ (b : Panel). put_in b who shares)

    pub take_told : (who : ℕ) (told : Panel.Told) (y cards' : ℕ) (stored' : List ℕ) → told ≡ taken_out b who
        → PanelTold told y cards' stored' → TakeTold a who y cards' stored'
    take_told who = told_in_holds (λ (b : Panel). taken_out b who)

    pub code_told : (told : Coded) (code y code' : ℕ) → CodeSays b told
        → (y ≡ answer_number told.said) × (code' ≡ after told.said code) → CodeTold a code y code'
    code_told told code y code' h i = record {
      answer = told.said;
      permits = (
        subst (λ (r : Result Unit Refusal). CodeIn r a told.said) (sym z) (subst (λ (b : Panel). CodeSays b told) m h).code,
        i.1,
      );
      is = i.0;
    }

-- A fresh panel of a scheme of which nothing is refused.
pub made_says : (s : Shape) (labels entries : List ℕ) (fits : Bool) (told : Panel.Told)
    → refusal_of s labels entries fits (Ok tt) ≡ Ok tt → FreshSays s labels entries told → MadeSays s labels entries fits (Ok told.panel)
made_says s labels entries fits told h x = (
  h,
  ap (λ (told : Panel.Told). told.panel) (x
      ∙ ap (λ (r : Result Unit Refusal). told_at r blank_panel (fresh_panel s labels entries)) (checked_scheme s labels entries fits h)),
)

pub made_refused : (s : Shape) (labels entries : List ℕ) (fits : Bool) (a : Result Panel Refusal) (k : Refusal)
    → refusal_of s labels entries fits (Ok tt) ≡ Err k → a ≡ Err k → MadeSays s labels entries fits a
made_refused s labels entries fits a k h e = rw e h

-- A panel made: fits is what was found of its places.
module _ (s : Shape) (labels entries l e : List ℕ) (cards : ℕ) (stored : List ℕ) (fits : Bool)
    (f : fits ≡ places_right_lem l e stored) (r : Result Panel Refusal) (says : MadeSays s labels entries fits r) where
  module _ (k : Refusal) (q : r ≡ Err k) (x : ℕ) (i : x ≡ number_lem k) where
    refuses : new_refusal s labels entries l e stored ≡ Err k
    refuses = ap (λ b. refusal_of s labels entries b (Ok tt)) (sym f)
        ∙ subst (λ (r : Result Panel Refusal). MadeSays s labels entries fits r) q says

    pub fresh_refused : FreshTold s labels entries l e cards stored x l e cards stored
    fresh_refused = record {
      is = i ∙ ap answer_number (sym refuses);
      labels_left = ap (λ (r : Result Unit Refusal). left_at r l (fresh_panel s labels entries).labels) (sym refuses);
      entries_left = ap (λ (r : Result Unit Refusal). left_at r e (fresh_panel s labels entries).entries) (sym refuses);
      cards_left = ap (λ (r : Result Unit Refusal). number_left r cards (fresh_panel s labels entries).cards) (sym refuses);
      stored_left = ap (λ (r : Result Unit Refusal). left_at r stored (fresh_panel s labels entries).stored) (sym refuses);
    }

  module _ (a : Panel) (q : r ≡ Ok a) where
    made : MadeSays s labels entries fits (Ok a)
    made = subst (λ (r : Result Panel Refusal). MadeSays s labels entries fits r) q says

    accepts : new_refusal s labels entries l e stored ≡ Ok tt
    accepts = ap (λ b. refusal_of s labels entries b (Ok tt)) (sym f) ∙ made.0

    pub fresh_lengths : (length l ≡ 32) × (length e ≡ 384) × (length stored ≡ 32)
    fresh_lengths = right_lengths l e stored (sym f ∙ valid_fits s labels entries fits made.0)

    pub fresh_told : (l' e' stored' : List ℕ) → (l' ≡ a.labels) × (e' ≡ a.entries) × (stored' ≡ a.stored)
        → FreshTold s labels entries l e cards stored 0 l' e' 0 stored'
    fresh_told l' e' stored' i = record {
      is = ap answer_number (sym accepts);
      labels_left = i.0 ∙ ap (λ (p : Panel). p.labels) made.1
          ∙ ap (λ (r : Result Unit Refusal). left_at r l (fresh_panel s labels entries).labels) (sym accepts);
      entries_left = i.1 ∙ ap (λ (p : Panel). p.entries) made.1
          ∙ ap (λ (r : Result Unit Refusal). left_at r e (fresh_panel s labels entries).entries) (sym accepts);
      cards_left = ap (λ (r : Result Unit Refusal). number_left r cards (fresh_panel s labels entries).cards) (sym accepts);
      stored_left = i.2 ∙ ap (λ (p : Panel). p.stored) made.1
          ∙ ap (λ (r : Result Unit Refusal). left_at r stored (fresh_panel s labels entries).stored) (sym accepts);
    }
