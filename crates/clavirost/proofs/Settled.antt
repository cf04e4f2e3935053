-- The contracts of the exported calls settle what C is told: of any two outcomes that one of them permits, the numbers answered and the
-- lists and numbers left are equal. What the call itself answers is settled by its own crate; its number and what is left follow.
-- Assumes nothing.
use mathlib.Core.Path.{◌≡◌, sym, ap, ◌∙◌}
use mathlib.Core.List.{List}
use Prim.Native.Nat.{ℕ}
use Rattle.scheme.specs.declared.Shape.{Shape}
use Rattle.scheme.specs.Refusal.{check_refusal}
use Rattle.deal.proofs.Settled as deal
use Rattle.ask.proofs.Says as ask
use Rattle.join.proofs.Settled as join
use Rattle.product.proofs.Says as product
use Rattle.threshold.proofs.Says as threshold
use Rattle.rule.proofs.Says as rule
use Rattle.writing.proofs.Settled as writing
use Rattle.reading.proofs.Settled as reading
use Rattle.sheets.proofs.Settled.{line_says_settled, part_says_settled}
use Rattle.panel.specs.declared.Panel.{Panel}
use Rattle.panel.specs.declared.Told as Panel
use Rattle.panel.specs.Cards.{shape_of, labels_of, entries_of, stored_of, put_in, taken_out}
use Rattle.std.specs.Prelude.{Option, Result, Ok, Err}
use Rattle.scheme.specs.declared.Refusal.{Refusal}
use Rattle.clavirost.specs.Numbers.{answer_number, after, set_after}
use Rattle.clavirost.specs.Told.{Told, DealTold, AskTold, JoinTold, ProductTold, ThresholdTold}
use Rattle.clavirost.specs.Told.{WriteTold, LineTold, RuleTold, ReadTold, PartTold}
use Rattle.clavirost.specs.Told as Four
use Rattle.clavirost.specs.Places.{places_refusal_lem, told_in, PanelTold, PutTold, TakeTold, CodeIn, CodeTold, FreshTold}

-- Two outcomes are told alike where their answers are settled.
told_settled : {A : Type 0} {number : A → ℕ} {P Q : A → Type 0} {x y : ℕ} (g : Told number P x) (h : Told number Q y)
    → g.answer ≡ h.answer → x ≡ y
told_settled {number = number} g h e = g.is ∙ ap number e ∙ sym h.is

-- A number or list that is left as the answer says.
left_settled : {A B : Type 0} (left : A → B) {a b : A} {l m : B} → a ≡ b → l ≡ left a → m ≡ left b → l ≡ m
left_settled left e g h = g ∙ ap left e ∙ sym h

module _ (s : Shape) (labels entries : List ℕ) where
  pub check_settled : (x y : ℕ) → x ≡ answer_number (check_refusal s labels entries) → y ≡ answer_number (check_refusal s labels entries) → x ≡ y
  check_settled x y g h = g ∙ sym h

  pub deal_settled : (secret : ℕ) (randoms shares : List ℕ) (x y : ℕ) (l m : List ℕ) → DealTold s labels entries secret randoms shares x l
      → DealTold s labels entries secret randoms shares y m → (x ≡ y) × (l ≡ m)
  deal_settled secret randoms shares x y l m g h =
      let w = deal.settled s labels entries secret randoms shares g.answer h.answer l m g.permits h.permits in
      (told_settled g h w.0, w.1)

  pub ask_settled : (set : ℕ) (r z : List ℕ) (x y : ℕ) (r₁ z₁ r₂ z₂ : List ℕ) → AskTold s labels entries set r z x r₁ z₁
      → AskTold s labels entries set r z y r₂ z₂ → (x ≡ y) × (r₁ ≡ r₂) × (z₁ ≡ z₂)
  ask_settled set r z x y r₁ z₁ r₂ z₂ g h =
      let w = ask.settled s labels entries set r z g.answer h.answer r₁ z₁ r₂ z₂ g.permits h.permits in
      (told_settled g h w.0, w.1, w.2)

  pub join_settled : (set : ℕ) (shares : List ℕ) (code x y c d : ℕ) → JoinTold s labels entries set shares code x c
      → JoinTold s labels entries set shares code y d → (x ≡ y) × (c ≡ d)
  join_settled set shares code x y c d g h =
      let w = join.settled s labels entries set shares g.answer h.answer g.permits.0 h.permits.0 in
      (told_settled g h w, left_settled (λ (a : Result ℕ Refusal). after a code) w g.permits.1 h.permits.1)

  pub product_settled : (r w : List ℕ) (x y : ℕ) (r₁ w₁ r₂ w₂ : List ℕ) → ProductTold s labels entries r w x r₁ w₁
      → ProductTold s labels entries r w y r₂ w₂ → (x ≡ y) × (r₁ ≡ r₂) × (w₁ ≡ w₂)
  product_settled r w x y r₁ w₁ r₂ w₂ g h =
      let q = product.settled s labels entries r w g.answer h.answer r₁ w₁ r₂ w₂ g.permits h.permits in
      (told_settled g h q.0, q.1, q.2)

  pub threshold_settled : (t set x y b c : ℕ) → ThresholdTold s labels entries t set x b → ThresholdTold s labels entries t set y c
      → (x ≡ y) × (b ≡ c)
  threshold_settled t set x y b c g h =
      let w = threshold.settled s labels entries t g.answer h.answer g.permits.0 h.permits.0 in
      (told_settled g h w, left_settled (λ (a : Result (Option ℕ) Refusal). set_after a set) w g.permits.1 h.permits.1)

  pub write_settled : (file : List ℕ) (x y : ℕ) (l m : List ℕ) → WriteTold s labels entries file x l → WriteTold s labels entries file y m
      → (x ≡ y) × (l ≡ m)
  write_settled file x y l m g h =
      let w = writing.settled s labels entries file g.answer h.answer l m g.permits h.permits in
      (told_settled g h w.0, w.1)

  pub line_settled : (set : ℕ) (out : List ℕ) (size x y : ℕ) (l m : List ℕ) (b c : ℕ) → LineTold s labels entries set out size x l b
      → LineTold s labels entries set out size y m c → (x ≡ y) × (l ≡ m) × (b ≡ c)
  line_settled set out size x y l m b c g h =
      let w = line_says_settled s labels entries set out g.answer h.answer l m g.permits.0 h.permits.0 in
      (told_settled g h w.0, w.1, left_settled (λ (a : Result ℕ Refusal). after a size) w.0 g.permits.1 h.permits.1)

pub part_settled : (file : List ℕ) (k : ℕ) (out : List ℕ) (size x y : ℕ) (l m : List ℕ) (b c : ℕ) → PartTold file k out size x l b
    → PartTold file k out size y m c → (x ≡ y) × (l ≡ m) × (b ≡ c)
part_settled file k out size x y l m b c g h =
    let w = part_says_settled file k out g.answer h.answer l m g.permits.0 h.permits.0 in
    (told_settled g h w.0, w.1, left_settled (λ (a : Result ℕ Refusal). after a size) w.0 g.permits.1 h.permits.1)

pub rule_settled : (p n : ℕ) (text labels entries : List ℕ) (d e x y : ℕ) (l₁ m₁ l₂ m₂ : List ℕ) (d₁ e₁ d₂ e₂ : ℕ)
    → RuleTold p n text labels entries d e x l₁ m₁ d₁ e₁ → RuleTold p n text labels entries d e y l₂ m₂ d₂ e₂
    → (x ≡ y) × (l₁ ≡ l₂) × (m₁ ≡ m₂) × (d₁ ≡ d₂) × (e₁ ≡ e₂)
rule_settled p n text labels entries d e x y l₁ m₁ l₂ m₂ d₁ e₁ d₂ e₂ g h =
    let w = rule.settled p n text labels entries g.answer h.answer l₁ m₁ l₂ m₂ g.permits.0 h.permits.0 in
    let q : Four.shape_of p n d₁ e₁ ≡ Four.shape_of p n d₂ e₂ =
    left_settled (λ (a : Result Shape Refusal). after a (Four.shape_of p n d e)) w.0 g.permits.1 h.permits.1 in
    (told_settled g h w.0, w.1, w.2, ap (λ (s : Shape). s.d) q, ap (λ (s : Shape). s.e) q)

-- Equal shapes are four equal numbers.
pub read_settled : (file labels entries : List ℕ) (shape : Shape) (x y : ℕ) (l₁ m₁ l₂ m₂ : List ℕ) (s t : Shape)
    → ReadTold file labels entries shape x l₁ m₁ s → ReadTold file labels entries shape y l₂ m₂ t
    → (x ≡ y) × (l₁ ≡ l₂) × (m₁ ≡ m₂) × (s ≡ t)
read_settled file labels entries shape x y l₁ m₁ l₂ m₂ s t g h =
    let w = reading.settled file labels entries g.answer h.answer l₁ l₂ m₁ m₂ g.permits.0 h.permits.0 in
    (told_settled g h w.0, w.1, w.2, left_settled (λ (a : Result Shape Refusal). after a shape) w.0 g.permits.1 h.permits.1)

-- The calls on a panel that change it are functions of it.
panel_settled : (told : Panel.Told) (x y b c : ℕ) (l m : List ℕ) → PanelTold told x b l → PanelTold told y c m
    → (x ≡ y) × (b ≡ c) × (l ≡ m)
panel_settled told x y b c l m g h = (g.is ∙ sym h.is, g.cards ∙ sym h.cards, g.stored ∙ sym h.stored)

module _ (a : Panel) where
  pub put_settled : (who : ℕ) (shares : List ℕ) (x y b c : ℕ) (l m : List ℕ) → PutTold a who shares x b l → PutTold a who shares y c m
      → (x ≡ y) × (b ≡ c) × (l ≡ m)
  put_settled who shares = panel_settled (told_in (places_refusal_lem a) a (put_in a who shares))

  pub take_settled : (who x y b c : ℕ) (l m : List ℕ) → TakeTold a who x b l → TakeTold a who y c m → (x ≡ y) × (b ≡ c) × (l ≡ m)
  take_settled who = panel_settled (told_in (places_refusal_lem a) a (taken_out a who))

  code_in : (r : Result Unit Refusal) (x y : Result ℕ Refusal) → CodeIn r a x → CodeIn r a y → x ≡ y
  code_in (Ok u) x y g h = join.settled (shape_of a) (labels_of a) (entries_of a) a.cards (stored_of a) x y g h
  code_in (Err k) x y g h = g ∙ sym h

  pub code_settled : (code x y c d : ℕ) → CodeTold a code x c → CodeTold a code y d → (x ≡ y) × (c ≡ d)
  code_settled code x y c d g h =
      let w = code_in (places_refusal_lem a) g.answer h.answer g.permits.0 h.permits.0 in
      (told_settled g h w, left_settled (λ (a : Result ℕ Refusal). after a code) w g.permits.1 h.permits.1)

pub fresh_settled : (s : Shape) (labels entries l e : List ℕ) (cards : ℕ) (stored : List ℕ) (x y : ℕ) (l₁ e₁ l₂ e₂ : List ℕ) (b c : ℕ)
    (k₁ k₂ : List ℕ) → FreshTold s labels entries l e cards stored x l₁ e₁ b k₁ → FreshTold s labels entries l e cards stored y l₂ e₂ c k₂
    → (x ≡ y) × (l₁ ≡ l₂) × (e₁ ≡ e₂) × (b ≡ c) × (k₁ ≡ k₂)
fresh_settled s labels entries l e cards stored x y l₁ e₁ l₂ e₂ b c k₁ k₂ g h = (
  g.is ∙ sym h.is,
  g.labels_left ∙ sym h.labels_left,
  g.entries_left ∙ sym h.entries_left,
  g.cards_left ∙ sym h.cards_left,
  g.stored_left ∙ sym h.stored_left,
)
