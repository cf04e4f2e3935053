-- `combination::dot` meets its contract. The loop's invariant: the products of the places so far are added up modulo p.
-- Assumes nothing.
use Rattle.std.proofs.Common.{◌≡◌, ℕ, List, ◌+◌, ◌*◌, ◌%◌, ◌<◌, rules, length, length-append, ap, sym, ◌∙◌, subst}
use Rattle.std.proofs.lemmas.Slice.Zip.{zip_turn}
use Rattle.linear.specs.Flat.{place}
use Rattle.linear.proofs.Summing.{Summing, sum_turn}
use Rattle.combination.proofs.dot.Goals as goal

-- place i of each list is read
turn : (p : ℕ) (a x : List ℕ) (sum i j y z r : ℕ) → Summing p (length x) (λ k. place a k * place x k) sum i → i < length x
    → y ≡ place a i → z ≡ place x i → r ≡ (sum + y * z) % p → r < p → j ≡ i + 1
    → Summing p (length x) (λ k. place a k * place x k) r j
turn p a x sum i j y z r h l ey ez e lt next =
    subst (Summing p (length x) (λ k. place a k * place x k) r) (sym next)
    (sum_turn p (length x) (λ k. place a k * place x k) sum i r h l
    (e ∙ ap (λ v. (sum + v * z) % p) ey ∙ ap (λ v. (sum + place a i * v) % p) ez) lt)

pub loop-y-preserved : goal.loop-y-preserved
loop-y-preserved c =
    let z = zip_turn c.args.a.now c.args.x.now _ c.into_iter-y-iterator.result _ c.next.new.self _ (search rules) (search rules) c.loop-y.yielded_by _ c.in-Some.is c.next.ensures.steps in
    turn _ _ _ _ _ _ _ _ _ c.loop-y.invariant z.1 (z.2 0) (z.3 0) c.mul_add-sum.ensures.0 c.mul_add-sum.ensures.1 (length-append _ _)
