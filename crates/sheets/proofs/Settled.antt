-- The contracts of the calls that print settle what they answer and what they leave in the lent list: any two outcomes that one of them
-- permits are equal.
-- Assumes nothing.
use Rattle.std.specs.Prelude.{Result, Ok, Err}
use mathlib.Core.Path.{◌≡◌, refl, sym, ap, ◌∙◌}
use mathlib.Core.Bool.{true}
use mathlib.Core.List.{List}
use Prim.Native.Nat.{ℕ, zero, suc, ◌*◌, ◌-◌, ◌/◌, ◌^◌, min}
use lib.Dec.{eqb, leb}
use lib.ListN.{length}
use Rattle.scheme.specs.declared.Shape.{Shape}
use Rattle.scheme.specs.declared.Refusal.{Refusal}
use Rattle.scheme.specs.declared.Refusal.TheVariants as R
use Rattle.scheme.specs.Tests.{unless}
use Rattle.scheme.specs.Outcome.{over}
use Rattle.scheme.proofs.Refusals.{valid}
use Rattle.sheet_lines.specs.Texts.{refused_text}
use Rattle.sheet_lines.specs.Lines.{IsLine}
use Rattle.sheet_lines.proofs.Settled.{line_settled, lines_settled}
use Rattle.sheets.specs.Sheet.{file_refusal, shape_of, labels_of, entries_of, PartAt, IsPart}
use Rattle.sheets.specs.Says.{PrintSays, line_refusal_lem, LineSays, RefusedSays, PartSays}
use Rattle.sheets.proofs.Files.{file_valid}
use Rattle.sheets.proofs.Prints.{line_scheme}

-- Where `Is` holds of one text at most.
module _ (refusal : Result Unit Refusal) (Is : List ℕ → Type 0) (out : List ℕ) (one : refusal ≡ Ok tt → (t u : List ℕ) → Is t → Is u → t ≡ u) where
  pub print_settled : (a b : Result ℕ Refusal) (x y : List ℕ) → PrintSays refusal Is out a x → PrintSays refusal Is out b y → (a ≡ b) × (x ≡ y)
  unfolding PrintSays
  print_settled (Ok m) (Ok n) x y g h =
      let q = one g.0 g.1.0 h.1.0 g.1.1 h.1.1 in (
        ap Ok (g.1.2 ∙ ap length q ∙ sym h.1.2),
        g.1.4 ∙ ap (λ t. over t out) q ∙ sym h.1.4,
      )
  print_settled (Ok m) (Err k) x y g h = absurd (cc)
  print_settled (Err k) (Ok n) x y g h = absurd (cc)
  print_settled (Err j) (Err k) x y g h = (cc, g.1 ∙ sym h.1)

pub line_says_settled : (s : Shape) (labels entries : List ℕ) (set : ℕ) (out : List ℕ) (a b : Result ℕ Refusal) (x y : List ℕ)
    → LineSays s labels entries set out a x → LineSays s labels entries set out b y → (a ≡ b) × (x ≡ y)
line_says_settled s labels entries set out =
    print_settled (line_refusal_lem s labels entries set (length out)) (IsLine s labels entries set) out
    (λ h. line_settled s labels entries (valid s labels entries true (line_scheme s labels entries set (length out) h)) set)

pub refused_says_settled : (k : ℕ) (out : List ℕ) (a b : Result ℕ Refusal) (x y : List ℕ) → RefusedSays k out a x → RefusedSays k out b y
    → (a ≡ b) × (x ≡ y)
refused_says_settled k out =
    print_settled (unless (eqb (length out) 256) R.Length) (λ text. text ≡ refused_text k) out (λ h t u x y. x ∙ sym y)

-- A file has one part k.
module _ (m : ℕ) (file : List ℕ) where
  part_at : (r : Result Unit Refusal) → file_refusal file ≡ r → (k : ℕ) (t u : List ℕ) → PartAt r m file k t → PartAt r m file k u → t ≡ u
  part_at (Ok o) q zero t u x y = x ∙ sym y
  part_at (Ok o) q (suc k) t u x y = lines_settled (shape_of file) (labels_of file) (entries_of file) (file_valid file q) (m * k)
      (min m (2 ^ (shape_of file).n - m * k)) t u x y
  part_at (Err r) q zero t u x y = x ∙ sym y
  part_at (Err r) q (suc k) t u x y = x ∙ sym y

  pub part_settled : (k : ℕ) (t u : List ℕ) → IsPart m file k t → IsPart m file k u → t ≡ u
  unfolding IsPart
  part_settled = part_at (file_refusal file) refl

pub part_says_settled : (file : List ℕ) (k : ℕ) (out : List ℕ) (a b : Result ℕ Refusal) (x y : List ℕ) → PartSays file k out a x
    → PartSays file k out b y → (a ≡ b) × (x ≡ y)
part_says_settled file k out =
    print_settled (unless (leb 256 (length out)) R.Length) (IsPart (length out / 256) file k) out (λ h. part_settled (length out / 256) file k)
