-- `sets::read_below` meets its contract: `all` is asked of the pairs in turn (`read_all` of proofs/Read.antt).
-- Assumes nothing.
use Rattle.std.proofs.Common.{◌≡◌, ℕ, ◌≤◌, ◌<◌, List, rules, arith, ap, sym, ◌∙◌, get_or, length}
use Rattle.std.specs.List.{zip}
use Rattle.std.proofs.lemmas.Slice.Zip.{length-zip, get_or-zip}
use Rattle.std.proofs.lemmas.Grind.{get_or_default_zero}
use Rattle.std.proofs.lemmas.Iterator.{YieldsList-from_zip, YieldsList-from_slice}
use Rattle.std.proofs.lemmas.Iterator.Search.{all_from_yields_List}
use borrow.Author.Tests.{tests}
use Rattle.std.proofs.lemmas.Iterator.Adapters.{serves_from_places}
use Rattle.sets.proofs.Read.{read_one, read_all}
use Rattle.sets.proofs.read_below.Goals as goal

label_at : (ls xs : List ℕ) (k y z : ℕ) → k < length (zip ls xs) → ◌≡◌ {A = ℕ × ℕ} (y, z) (get_or (zip ls xs) k (y, z)) → length ls ≡ length xs
    → (k < length ls) × (y ≡ get_or ls k 0)
label_at ls xs k y z l e q =
    let i : k < length ls = omega (arith, length-zip ls xs) in
    (i, ap (λ (p : ℕ × ℕ). p.0) (e ∙ get_or-zip ls xs k (y, z) i (omega arith)) ∙ get_or_default_zero ls k y i)

pub all-requires-clause-callable : goal.all-requires-clause-callable
all-requires-clause-callable c =
    serves_from_places (YieldsList-from_zip (YieldsList-from_slice c.args.labels.now (search rules)) (YieldsList-from_slice c.args.shares.now (search rules)))
    (λ x q h. search rules)
    (λ x k l e.
    let i = label_at c.args.labels.now c.args.shares.now k x.0.now x.1.now l e c.requires.labels_len in
    let b = c.requires.by_index k i.0 in
    let lo : 1 ≤ x.0.now = omega (arith, i.1) in
    let hi : x.0.now ≤ 16 = omega (arith, i.1) in
    search rules)

pub returns : goal.returns
returns c =
    all_from_yields_List {s = c.zip.result} (λ (q : ℕ × ℕ). read_one c.args.p c.args.set q.0 q.1) c.all.new.self _ c.all.result c.all.ensures.ran
    (YieldsList-from_zip (YieldsList-from_slice c.args.labels.now (search rules)) (YieldsList-from_slice c.args.shares.now (search rules)))
    (λ x b q k. search (rules, tests))
    ∙ sym (read_all c.args.p c.args.set c.args.labels.now c.args.shares.now)
