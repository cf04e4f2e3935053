-- `deal::share` meets its contract. The loop's invariant: the products of the places so far are added up modulo p; it starts at turn 1,
-- the first product being the secret's. Assumes nothing.
use Rattle.std.proofs.Common.{◌≡◌, ℕ, List, ◌∷◌, ◌+◌, ◌*◌, ◌%◌, ◌<◌, rules, arith, length, length-append, ap, sym, ◌∙◌, subst, add-one}
use Rattle.std.specs.List.{between}
use Rattle.std.proofs.lemmas.List.Edits.{get_or-between}
use Rattle.std.proofs.lemmas.Slice.Zip.{zip_turn}
use Rattle.linear.specs.Flat.{place, entry}
use Rattle.linear.proofs.Summing.{Summing, sum_turn}
use Rattle.deal.proofs.share.Goals as goal

-- place i + 1 of the row and random number i are read
turn : (p e k secret : ℕ) (a randoms : List ℕ) (sum i j x y r : ℕ) {q : ℕ} → q ≡ p
    → Summing p e (λ i. entry e a k i * place (secret ∷ randoms) i) sum (i + 1) → i + 1 < e
    → x ≡ entry e a k (i + 1) → y ≡ place randoms i → r ≡ (sum + x * y) % q → r < q → j ≡ i + 1
    → Summing p e (λ i. entry e a k i * place (secret ∷ randoms) i) r (j + 1)
turn p e k secret a randoms sum i j x y r {q} same h l ex ey er lt next =
    let er : r ≡ (sum + x * y) % p = er ∙ ap (λ q. (sum + x * y) % q) same in
    let lt : r < p = omega arith in
    let f : ℕ → ℕ = λ i. entry e a k i * place (secret ∷ randoms) i in
    let here : y ≡ place (secret ∷ randoms) (i + 1) = rw (add-one i) ey in
    subst (λ j. Summing p e f r (j + 1)) (sym next)
    (sum_turn p e f sum (i + 1) r h l
    (er ∙ ap (λ v. (sum + v * y) % p) ex ∙ ap (λ v. (sum + entry e a k (i + 1) * v) % p) here) lt)

pub loop-x-preserved : goal.loop-x-preserved
loop-x-preserved c =
    let at = c.args.k * c.args.scheme.shape.e in
    let row = between (at + 1) (at + c.args.scheme.shape.e) c.args.scheme.entries.now in
    let z = zip_turn row c.args.randoms.now _ c.into_iter-x-iterator.result _ c.next.new.self _ (search rules) (search rules) c.loop-x.yielded_by _ c.in-Some.is c.next.ensures.steps in
    let within : length c.loop-x.yielded + 1 < c.args.scheme.shape.e = omega (arith, z.1) in
    turn _ _ _ c.args.secret c.args.scheme.entries.now c.args.randoms.now _ _ _ _ _ _ c.new-m.ensures.0 c.loop-x.invariant within
    (z.2 0 ∙ get_or-between c.args.scheme.entries.now _ _ _ 0 (omega arith) ∙ ap (place c.args.scheme.entries.now) (omega arith))
    (z.3 0) c.mul_add-acc.ensures.0 c.mul_add-acc.ensures.1 (length-append _ _)
