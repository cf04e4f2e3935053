-- `sets::chosen_rows` meets its contract: the number is built from the last row to the first (`Built` of proofs/Mask.antt).
-- Assumes nothing.
use Rattle.std.proofs.Common.{◌≡◌, ℕ, List, [], ◌∷◌, ◌++◌, ◌+◌, rules, refl, ap, ◌∙◌, sym, get_or, length, take, arith}
use Rattle.std.specs.Iterator.Adapters.{rev_source}
use Rattle.std.specs.Slice.Iter.{iter_rest}
use Rattle.std.proofs.lemmas.Grind.{common_steps}
use Rattle.std.proofs.lemmas.List.{take_at, take-take}
use Rattle.scheme.specs.Sets.{in_set}
use Rattle.sets.proofs.Mask.{built_turn}
use Rattle.sets.proofs.chosen_rows.Goals as goal

-- the rows before the last of those that are left
before : (labels rest rest' : List ℕ) (i : ℕ) → rest ≡ rest' ++ i ∷ [] → rest ≡ take (length rest) labels
    → (rest' ≡ take (length rest') labels) × (length rest ≡ length rest' + 1)
before labels rest rest' i e h =
    let more : length rest ≡ length rest' + 1 = grind (arith, common_steps) in
    let front : take (length rest') rest ≡ take (length rest') (take (length rest) labels) = ap (take (length rest')) h in (
      sym (take_at rest' (i ∷ []) _ refl) ∙ ap (take (length rest')) (sym e) ∙ front ∙ take-take (length rest') (length rest) labels (omega arith),
      more,
    )

last : (labels rest rest' : List ℕ) (i : ℕ) → rest ≡ rest' ++ i ∷ [] → rest ≡ take (length rest) labels → i ≡ get_or labels (length rest') 0
last labels rest rest' i e h = grind (arith, common_steps)

pub loop-i-preserved : goal.loop-i-preserved
loop-i-preserved c =
    let l = c.loop-i.invariant in
    let rest = iter_rest (rev_source c.loop-i.i-iterator) in
    let rest' = iter_rest (rev_source c.next.new.self) in
    let e : rest ≡ rest' ++ c.in-Some.i.now ∷ [] = search rules in
    let b = before c.args.labels.now rest rest' c.in-Some.i.now e l.0 in
    (b.0, built_turn _ _ _ _ _ _ c.in_set-b.result l.1 b.1 (c.in_set-b.ensures ∙ ap (in_set c.args.set) (last c.args.labels.now rest rest' c.in-Some.i.now e l.0)) (search rules))
