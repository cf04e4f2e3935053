-- "a scheme file reads back as the scheme written": what `write` leaves and what `read` answers, joined from their contracts alone.
-- Assumes nothing.
use Rattle.std.specs.Prelude.{Result, Ok, Err}
use mathlib.Core.Path.{◌≡◌, sym, ap, ap₂, ◌∙◌, subst}
use mathlib.Core.List.{List}
use Prim.Native.Nat.{ℕ, ◌<◌, ◌*◌}
use lib.ListN.{length, take}
use borrow.Author.Tests.{eq-eqb}
use Rattle.linear.specs.Flat.{place}
use Rattle.linear.proofs.Flat.{list_length}
use Rattle.scheme.specs.declared.Shape.{Shape}
use Rattle.scheme.specs.declared.Refusal.{Refusal}
use Rattle.scheme.specs.Outcome.{left_at, over}
use Rattle.scheme.specs.Refusal.{refusal_of, IsScheme}
use Rattle.scheme.proofs.Outcomes.{not_both}
use Rattle.scheme.proofs.Over.{take_over}
use Rattle.format.specs.Format.{file_of, blocks}
use Rattle.format.specs.Writing.{write_refusal_lem}
use Rattle.format.specs.Reading.{read_refusal1, shape_at, labels_at, entries_at}
use Rattle.format.proofs.Places.{file_length}
use Rattle.format.proofs.ReadBack.{read_back}
use Rattle.format.proofs.Again.{written_again}
use Rattle.writing.specs.Says.{WriteSays}
use Rattle.reading.specs.Says.{ReadSays}

-- The file of a scheme is read as that scheme, and never refused.
file_reads : (s : Shape) (labels entries : List ℕ) → IsScheme s labels entries → (l e : List ℕ) → length l ≡ 32 → length e ≡ 384 → (m : Result Shape Refusal)
    (l' e' : List ℕ) → ReadSays (file_of 1 s labels entries) l e m l' e' → (m ≡ Ok s) × (l' ≡ over labels l) × (e' ≡ over entries e)
unfolding ReadSays
file_reads s labels entries scheme l e ll le (Ok t) l' e' x =
    let b = read_back s labels entries scheme in
    let q : t ≡ s = x.1 ∙ b.1 in (
      ap Ok q,
      x.2 ∙ ap (λ (u : Shape). over (labels_at 1 (file_of 1 s labels entries) u.d) l) q ∙ ap (λ z. over z l) b.2,
      x.3 ∙ ap (λ (u : Shape). over (entries_at 1 (file_of 1 s labels entries) u.d u.e) e) q ∙ ap (λ z. over z e) b.3,
    )
file_reads s labels entries scheme l e ll le (Err k) l' e' x =
    let none = ap₂ (λ (i j : ℕ). read_refusal1 (file_of 1 s labels entries) i j) ll le ∙ (read_back s labels entries scheme).0 in
    absurd (not_both k none x.0)

-- A scheme, with a list of the file's length, is written.
module _ (s : Shape) (labels entries file : List ℕ) (scheme : IsScheme s labels entries) (room : length file ≡ 512 * blocks 1 s.d)
    (a : Result Unit Refusal) (file' : List ℕ) (w : WriteSays s labels entries file a file') where
  free : write_refusal_lem 1 s labels entries (length file) ≡ Ok tt
  free = ap (λ b. refusal_of s labels entries b (Ok tt)) (eq-eqb (length file) (512 * blocks 1 s.d) room) ∙ scheme

  pub scheme_written : (a ≡ Ok tt) × (file' ≡ file_of 1 s labels entries)
  scheme_written = (
    w.answer ∙ free,
    w.left ∙ ap (λ (k : Result Unit Refusal). left_at k file (file_of 1 s labels entries)) free,
  )

  -- And read it comes back the same; reading never refuses it.
  pub written_reads : (l e : List ℕ) → length l ≡ 32 → length e ≡ 384 → (m : Result Shape Refusal) (l' e' : List ℕ) → ReadSays file' l e m l' e'
      → (m ≡ Ok s) × (l' ≡ over labels l) × (e' ≡ over entries e)
  written_reads l e ll le m l' e' r = file_reads s labels entries scheme l e ll le m l' e' (subst (λ f. ReadSays f l e m l' e') scheme_written.1 r)

-- A file that reads without refusal is byte for byte the file that writing its scheme gives, and writing never refuses that scheme.
pub read_writes : (file l e : List ℕ) → ((i : ℕ) → place file i < 256) → (s : Shape) (l' e' : List ℕ) → ReadSays file l e (Ok s) l' e'
    → (f : List ℕ) → length f ≡ length file → (a : Result Unit Refusal) (f' : List ℕ)
    → WriteSays s (take s.d l') (take (s.d * s.e) e') f a f' → (a ≡ Ok tt) × (f' ≡ file)
unfolding ReadSays
read_writes file l e bytes s l' e' x f n a f' w =
    let again = written_again file (length l) (length e) bytes x.0 in
    let t = shape_at 1 file in
    let labels = labels_at 1 file t.d in
    let entries = entries_at 1 file t.d t.e in
    let its_labels : take s.d l' ≡ labels = ap (take s.d) x.2 ∙ take_over s.d (labels_at 1 file s.d) l (list_length s.d _)
    ∙ ap (λ (u : Shape). labels_at 1 file u.d) x.1 in
    let its_entries : take (s.d * s.e) e' ≡ entries = ap (take (s.d * s.e)) x.3
    ∙ take_over (s.d * s.e) (entries_at 1 file s.d s.e) e (list_length (s.d * s.e) _)
    ∙ ap (λ (u : Shape). entries_at 1 file u.d u.e) x.1 in
    let room : length f ≡ 512 * blocks 1 t.d = n ∙ ap length again.1 ∙ file_length 1 t labels entries in
    let done = scheme_written t labels entries f again.0 room a f'
    (subst (λ z. WriteSays t labels z f a f') its_entries
    (subst (λ z. WriteSays t z (take (s.d * s.e) e') f a f') its_labels
    (subst (λ (u : Shape). WriteSays u (take s.d l') (take (s.d * s.e) e') f a f') x.1 w))) in
    (done.0, done.1 ∙ sym again.1)
