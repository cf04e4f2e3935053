-- Document 01, "The card panel": asked for the code after any run of calls, the panel answers as joining does for the cards now in it, with
-- the shares of the last put that was not refused.
-- Assumes nothing.
use Rattle.std.specs.Prelude.{Result, Ok, Err}
use mathlib.Core.Path.{◌≡◌, refl, sym, ap, ap₂, subst, ◌∙◌}
use mathlib.Core.Bool.{true, false≢true}
use mathlib.Core.List.{List, [], ◌∷◌}
use mathlib.Core.Option.{none, some}
use Prim.Native.Nat.{ℕ, ◌*◌, ◌≤◌}
use native.Mathlib.Omega.{arith}
use lib.ListN.{length, take, replicate}
use lib.Seq.{length-take-le}
use Rattle.linear.specs.Flat.{place}
use Rattle.linear.proofs.Flat.{list_length, list_at}
use Rattle.scheme.specs.declared.Shape.{Shape}
use Rattle.scheme.specs.declared.Refusal.{Refusal}
use Rattle.scheme.specs.Sets.{of_set}
use Rattle.scheme.specs.Refusal.{check_refusal, IsScheme}
use Rattle.scheme.proofs.Refusals.{Valid, valid}
use Rattle.scheme.proofs.Over.{take_over}
use Rattle.join.specs.Says.{JoinSays}
use Rattle.secrecy.proofs.Joined.{join_reads_cards}
use Rattle.panel.specs.declared.Panel.{Panel}
use Rattle.panel.specs.declared.Coded.{Coded}
use Rattle.panel.specs.Cards.{shape_of, labels_of, entries_of, stored_of, rows_of, put_refusal_lem, take_refusal_lem, with_card, without_card, told_at, fresh_panel}
use Rattle.panel.specs.Says.{CodeSays}
use Rattle.panel.specs.Ran.{ran}
use Rattle.panel.specs.History.{Call, put, out, ask, Held, no_cards, changed, held_after, is_in, set_of, share_from, shares_of}
use Rattle.panel.proofs.Marks.{set_none}
use Rattle.panel.proofs.Holds.{Holds, row_share, put_refused, put_taken, out_refused, out_taken}

-- What joining these cards answers, for the panel's scheme.
abbrev Answers : Panel → Held → Coded → Type 0
Answers a held told = JoinSays (shape_of a) (labels_of a) (entries_of a) (set_of a.n held) (shares_of (labels_of a) held) told.said

-- A panel that holds these cards answers for them.
answers : (a : Panel) (held : Held) → IsScheme (shape_of a) (labels_of a) (entries_of a) → Holds a held → (told : Coded) → CodeSays a told
    → Answers a held told
answers a held sound h told said = join_reads_cards (shape_of a) (labels_of a) (entries_of a) (set_of a.n held) sound (stored_of a)
    (shares_of (labels_of a) held) told.said
    (length-take-le a.d a.stored h.long ∙ sym (list_length (length (labels_of a)) _ ∙ v.labels_length))
    (λ k l q.
    let r = row_share a held sound h k l (ap (λ (c : ℕ). of_set c (labels_of a) k) h.cards ∙ q) in
    r.2 ∙ sym (list_at (length (labels_of a)) _ k (omega (arith, v.labels_length))
    ∙ ap (λ c. share_from c (rows_of (place (labels_of a) k) (take k (labels_of a)))) r.1))
    (subst (λ (c : ℕ). JoinSays (shape_of a) (labels_of a) (entries_of a) c (stored_of a) told.said) h.cards said.code)
  where
    v : Valid (shape_of a) (labels_of a) (entries_of a)
    v = valid (shape_of a) (labels_of a) (entries_of a) true sound

run_from : (calls : List Call) (a : Panel) (held : Held) → IsScheme (shape_of a) (labels_of a) (entries_of a) → Holds a held → (told : Coded)
    → CodeSays (ran a calls) told → Answers a (held_after (shape_of a) (labels_of a) held calls) told
unfolding ran held_after
run_from [] a held sound h told said = answers a held sound h told said
run_from (put who shares ∷ calls) a held sound h told said = go (put_refusal_lem a who shares) refl said (λ b held. run_from calls b held)
  where
    go : (k : Result Unit Refusal) → put_refusal_lem a who shares ≡ k → CodeSays (ran (told_at k a (with_card a who shares)).panel calls) told
        → ((b : Panel) (held : Held) → IsScheme (shape_of b) (labels_of b) (entries_of b) → Holds b held → (told : Coded)
        → CodeSays (ran b calls) told → Answers b (held_after (shape_of b) (labels_of b) held calls) told)
        → Answers a (held_after (shape_of a) (labels_of a) (changed (shape_of a) (labels_of a) held (put who shares)) calls) told
    go (Ok u) z said rest = rest (with_card a who shares) _ sound (put_taken a held sound h who shares z) told said
    go (Err k) z said rest = rest a _ sound (put_refused a held sound h who shares k z) told said
run_from (out who ∷ calls) a held sound h told said = go (take_refusal_lem a who) refl said (λ b held. run_from calls b held)
  where
    go : (k : Result Unit Refusal) → take_refusal_lem a who ≡ k → CodeSays (ran (told_at k a (without_card a who)).panel calls) told
        → ((b : Panel) (held : Held) → IsScheme (shape_of b) (labels_of b) (entries_of b) → Holds b held → (told : Coded)
        → CodeSays (ran b calls) told → Answers b (held_after (shape_of b) (labels_of b) held calls) told)
        → Answers a (held_after (shape_of a) (labels_of a) (changed (shape_of a) (labels_of a) held (out who)) calls) told
    go (Ok u) z said rest = rest (without_card a who) _ sound (out_taken a held sound h who z) told said
    go (Err k) z said rest = rest a _ sound (out_refused a held sound h who k z) told said
run_from (ask ∷ calls) a held sound h told said = run_from calls a held sound h told said

none_some : (x : List ℕ) → none ≡ some x → ⊥
none_some x e = false≢true (ap is_in e)

-- A fresh panel holds no card.
fresh_holds : (s : Shape) (labels entries : List ℕ) → s.d ≤ 32 → Holds (fresh_panel s labels entries) no_cards
fresh_holds s labels entries l = record {
  cards = sym (set_none s.n);
  long = l;
  at = λ k x m e. absurd (none_some x e);
  below = λ i x e. absurd (none_some x e);
}

pub run_answers : (s : Shape) (labels entries : List ℕ) → IsScheme s labels entries → (calls : List Call) (told : Coded)
    → CodeSays (ran (fresh_panel s labels entries) calls) told
    → JoinSays s labels entries (set_of s.n (held_after s labels no_cards calls)) (shares_of labels (held_after s labels no_cards calls))
    told.said
run_answers s labels entries sound calls told said =
    subst (λ m. JoinSays s labels m (set_of s.n (held_after s labels no_cards calls)) (shares_of labels (held_after s labels no_cards calls))
    told.said) same_entries
    (subst (λ l. JoinSays s l (entries_of (fresh_panel s labels entries)) (set_of s.n (held_after s l no_cards calls))
    (shares_of l (held_after s l no_cards calls)) told.said) same_labels
    (run_from calls (fresh_panel s labels entries) no_cards
    (ap₂ (λ l m. check_refusal s l m) same_labels same_entries ∙ sound)
    (fresh_holds s labels entries v.d_high) told said))
  where
    v : Valid s labels entries
    v = valid s labels entries true sound

    same_labels : labels_of (fresh_panel s labels entries) ≡ labels
    same_labels = take_over s.d labels (replicate 32 0) v.labels_length

    same_entries : entries_of (fresh_panel s labels entries) ≡ entries
    same_entries = take_over (s.d * s.e) entries (replicate 384 0) v.entries_length
