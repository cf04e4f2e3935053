-- `combination::make_dual` meets its contract: what `down` leaves of vector k is 0, then the vector is a combination and its dual 0; or
-- it is separated, and what is 1 on it is 1 on the vector (`duals_next`). Assumes nothing.
use Rattle.std.proofs.Common.{◌≡◌, ℕ, ◌+◌, ◌-◌, ◌*◌, ◌<◌, ◌≤◌, rules, length, List, ap, ◌∙◌}
use Rattle.std.proofs.lemmas.List.{places}
use borrow.Rule.Slice.PartMut.{put_mid}
use Rattle.linear.specs.Flat.{place, entry}
use Rattle.combination.proofs.Steps.{row_at, duals_next}
use Rattle.combination.proofs.make_dual.Goals as goal

-- what is copied into a table stands there, and the vectors before stay
stored : (k n i : ℕ) (a x y : List ℕ) → k * n + n ≤ length a → y ≡ x → length x ≡ n → i < n
    → entry n (put_mid (k * n) (k * n + n - k * n) a y) k i ≡ place x i
stored k n i a x y f e len l = search (rules, places)

kept : (k n j : ℕ) (a y : List ℕ) → k * n + n ≤ length a → j < k * n → place (put_mid (k * n) (k * n + n - k * n) a y) j ≡ place a j
kept k n j a y f l = search (rules, places)

pub returns : goal.returns
returns c =
    let q = c.requires.n_in_bounds in
    record {
      duals_size = search rules;
      t_len = c.down.ensures.len;
      u_len = c.separate.ensures.len;
      c_size = c.down.ensures.size;
      is = duals_next _ _ _ _ _ _ _ _ _ _ _ c.requires.duals_of
          (λ i l. ap (λ x. place x i) c.copy.ensures ∙ row_at _ _ _ i l)
          c.down.ensures c.separate.ensures
          (λ i l. stored _ _ i _ _ _ q.1 c.copy-2.ensures c.separate.ensures.len l)
          (λ j l. kept _ _ j _ _ q.1 l);
    }
