-- Dealing, writing, building a rule and printing a line where nothing is refused: what they leave is what their contracts permit, and all that they
-- permit.
-- Assumes nothing.
use Rattle.std.specs.Prelude.{Ok}
use mathlib.Core.Path.{◌≡◌, refl, sym, ap, ap₂, ◌∙◌, subst}
use mathlib.Core.Bool.{true}
use mathlib.Core.List.{List}
use Prim.Native.Nat.{ℕ, ◌*◌, ◌^◌, ◌<◌, ◌≤◌}
use native.Mathlib.Omega.{arith}
use lib.ListN.{length}
use borrow.Author.Tests.{eq-eqb, lt-ltb}
use Rattle.scheme.specs.declared.Shape.{Shape}
use Rattle.scheme.specs.declared.Refusal.TheVariants as R
use Rattle.scheme.specs.Outcome.{over}
use Rattle.scheme.specs.Dealing.{shares_of}
use Rattle.scheme.specs.Refusal.{refusal_of, deal_refusal_lem, IsScheme}
use Rattle.deal.specs.Says.{DealSays}
use Rattle.deal.proofs.Settled as Deal
use Rattle.rules.specs.Tree.{Rule}
use Rattle.rules.specs.Text.{IsRule}
use Rattle.rules.specs.Construction.{rows, labels_of, entries_of}
use Rattle.reader.specs.Refusal.{rule_refusal}
use Rattle.rule.specs.Says.{front_refusal_lem, shape_of, RuleSays}
use Rattle.rule.proofs.Says as Rule
use Rattle.format.specs.Format.{blocks, file_of}
use Rattle.format.specs.Writing.{write_refusal_lem}
use Rattle.writing.specs.Says.{WriteSays}
use Rattle.writing.proofs.Settled as Writing
use Rattle.scheme.specs.Tests.{unless}
use Rattle.scheme.proofs.Refusals.{valid}
use Rattle.sheet_lines.specs.Lines.{IsLine}
use Rattle.sheet_lines.proofs.Computed.{line_of, line_is}
use Rattle.sheets.specs.Says.{PrintSays, LineSays, line_refusal_lem}
use Rattle.sheets.proofs.Settled.{line_says_settled}
use Rattle.marked.specs.Only.{Deals, Writes, Builds, Prints}
use Rattle.marked.proofs.Parts.{only_with, only_with_two}

pub deals : (s : Shape) (labels entries : List ℕ) (secret : ℕ) (randoms : List ℕ) → deal_refusal_lem s labels entries secret randoms s.d ≡ Ok tt
    → Deals s labels entries secret randoms (shares_of s entries secret randoms)
deals s labels entries secret randoms free shares l =
    only_with (DealSays s labels entries secret randoms shares) (Deal.settled s labels entries secret randoms shares) (Ok tt)
    (shares_of s entries secret randoms) record { answer = sym none; left = rw none refl }
  where
    none : deal_refusal_lem s labels entries secret randoms (length shares) ≡ Ok tt
    none = rw l free

pub writes : (s : Shape) (labels entries : List ℕ) → IsScheme s labels entries → (places : ℕ) → places ≡ 512 * blocks 1 s.d
    → Writes s labels entries places (file_of 1 s labels entries)
writes s labels entries scheme places room file l =
    only_with (WriteSays s labels entries file) (Writing.settled s labels entries file) (Ok tt) (file_of 1 s labels entries)
    record { answer = sym none; left = rw none refl }
  where
    none : write_refusal_lem 1 s labels entries (length file) ≡ Ok tt
    none = ap (λ b. refusal_of s labels entries b (Ok tt)) (eq-eqb (length file) (512 * blocks 1 s.d) (l ∙ room)) ∙ scheme

pub builds : (p n : ℕ) (text : List ℕ) (r : Rule) → front_refusal_lem p n 32 384 ≡ Ok tt → IsRule text r → rule_refusal n r ≡ Ok tt
    → Builds p n text (shape_of p n r) (labels_of (rows p r)) (entries_of (rows p r))
unfolding RuleSays
builds p n text r free i fits l e ll le =
    only_with_two (RuleSays p n text l e) (Rule.settled p n text l e) (Ok (shape_of p n r)) (over (labels_of (rows p r)) l)
    (over (entries_of (rows p r)) e) (ap₂ (front_refusal_lem p n) ll le ∙ free, (r, i, fits, refl, refl, refl))

pub prints : (s : Shape) (labels entries : List ℕ) (scheme : IsScheme s labels entries) (set : ℕ) → set < 2 ^ s.n → (text : List ℕ)
    → length text ≤ 256 → line_of s labels entries (valid s labels entries true scheme) set ≡ text → Prints s labels entries set text
unfolding PrintSays
prints s labels entries scheme set inside text short e out l =
    only_with (LineSays s labels entries set out) (line_says_settled s labels entries set out) (Ok (length text)) (over text out)
    (none, (text, line, refl, omega (arith, l, short), refl))
  where
    none : line_refusal_lem s labels entries set (length out) ≡ Ok tt
    none = ap₂ (refusal_of s labels entries) (eq-eqb (length out) 256 l) (ap (λ b. unless b R.Outsider) (lt-ltb set (2 ^ s.n) inside))
        ∙ scheme

    line : IsLine s labels entries set text
    line = subst (IsLine s labels entries set) e (line_is s labels entries (valid s labels entries true scheme) set)
