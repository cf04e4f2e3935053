-- Document 01, "Written rules": what building a scheme from a written rule answers and leaves, for every input.
-- Assumes nothing.
use Rattle.std.specs.Prelude.{◌≡◌, ◌&&◌, ◌⊎◌, List, ℕ, eqb, length, Result, Ok, Err}
use Rattle.residue.specs.Moduli.{is_modulus_lem}
use Rattle.scheme.specs.declared.Shape.{Shape}
use Rattle.scheme.specs.declared.Refusal.{Refusal}
use Rattle.scheme.specs.declared.Refusal.TheVariants as R
use Rattle.scheme.specs.Outcome.{over}
use Rattle.scheme.specs.Tests.{within, unless, or_else}
use Rattle.rules.specs.Tree.{Rule, rule_names}
use Rattle.rules.specs.Text.{IsRule}
use Rattle.rules.specs.Construction.{columns, rows, labels_of, entries_of}
use Rattle.reader.specs.Refusal.{rule_refusal, TextRefusal}

-- 1, 2: p, n not as said; 5: "A rule or file read wants 32 label places and 384 entry places".
abbrev pub front_refusal_lem : ℕ → ℕ → ℕ → ℕ → Result Unit Refusal
front_refusal_lem p n labelPlaces entryPlaces =
    or_else (unless (is_modulus_lem p) R.Modulus)
    (or_else (unless (within 1 16 n) R.Participants)
    (unless (eqb labelPlaces 32 && eqb entryPlaces 384) R.Length))

-- The four numbers of a rule's scheme.
abbrev pub shape_of : ℕ → ℕ → Rule → Shape
shape_of p n r = record { p = p; n = n; d = length (rule_names r); e = columns r }

-- labels and entries are the lent lists before the call, labels' and entries' after it. The text is lent for reading only and cannot
-- change. There is at most one rule r that the text is (`one_tree` of reader/proofs/OneTree.antt).
unfoldable pub RuleSays : ℕ → ℕ → List ℕ → List ℕ → List ℕ → Result Shape Refusal → List ℕ → List ℕ → Type 0
RuleSays p n t labels entries (Ok s) labels' entries' =
    (front_refusal_lem p n (length labels) (length entries) ≡ Ok tt)
    × ((r : Rule) × IsRule t r × (rule_refusal n r ≡ Ok tt) × (s ≡ shape_of p n r)
    × (labels' ≡ over (labels_of (rows p r)) labels) × (entries' ≡ over (entries_of (rows p r)) entries))
RuleSays p n t labels entries (Err k) labels' entries' =
    ((front_refusal_lem p n (length labels) (length entries) ≡ Err k)
    ⊎ ((front_refusal_lem p n (length labels) (length entries) ≡ Ok tt) × TextRefusal n t (Err k)))
    × (labels' ≡ labels) × (entries' ≡ entries)
