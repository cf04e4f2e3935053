-- What `find` answers: whether target is a combination modulo p of the first m of the vectors, which have n places each, and then with
-- which coefficients.
-- Assumes nothing.
use Rattle.std.specs.Prelude.{◌≡◌, Bool, true, false, List, ℕ}
use Rattle.linear.specs.Flat.{place, entry}
use Rattle.linear.specs.Question.{Coefficients, NoCombination}

pub record Found (p m n : ℕ) (vectors target : List ℕ) (found : Bool) (c : List ℕ) : Type 0 where
  pub yes : found ≡ true → Coefficients p n (entry n vectors) m (place target) (place c)
  pub no : found ≡ false → NoCombination p n (entry n vectors) m (place target)
