-- What dealing answers and leaves, for every input.
-- Assumes nothing.
use Rattle.std.specs.Prelude.{◌≡◌, List, ℕ, length, Result}
use Rattle.scheme.specs.declared.Shape.{Shape}
use Rattle.scheme.specs.declared.Refusal.{Refusal}
use Rattle.scheme.specs.Dealing.{shares_of}
use Rattle.scheme.specs.Outcome.{left_at}
use Rattle.scheme.specs.Refusal.{deal_refusal_lem}

-- shares is the lent list before the call, shares' after it: the shares of the dealing, or what it was where the call is refused.
pub record DealSays (s : Shape) (labels entries : List ℕ) (secret : ℕ) (randoms shares : List ℕ)
    (a : Result Unit Refusal) (shares' : List ℕ) : Type 0 where
  pub answer : a ≡ deal_refusal_lem s labels entries secret randoms (length shares)
  pub left : shares' ≡ left_at (deal_refusal_lem s labels entries secret randoms (length shares)) shares (shares_of s entries secret randoms)
