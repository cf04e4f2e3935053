-- Tests of numbers and lists: what they say where they hold, and a test that is a call.
-- Assumes nothing.
use Rattle.std.proofs.Common.{◌≡◌, refl, sym, ap₂, ◌∙◌, Bool, true, false, not, ◌&&◌, List, ℕ, ◌≤◌, ◌<◌, length, get_or}
use Rattle.std.proofs.lemmas.Bool.{false≢true}
use Rattle.std.proofs.lemmas.List.Elements.{All-get_or, All-from_get_or}
use Rattle.std.proofs.lemmas.List.Sums.{AllPass-from_list_all, list_all-from_AllPass}
use borrow.Author.Tests.{leb-true, le-leb, not-true, not-false}
use Rattle.scheme.specs.Tests.{within, each}

pub and-true : (a b : Bool) → (a && b) ≡ true → (a ≡ true) × (b ≡ true)
and-true true b h = (refl, h)
and-true false b h = absurd (false≢true h)

pub within_true : (lo hi x : ℕ) → within lo hi x ≡ true → (lo ≤ x) × (x ≤ hi)
within_true lo hi x h = let a = and-true _ _ h in (leb-true lo x a.0, leb-true x hi a.1)

pub within_is : (lo hi x : ℕ) → lo ≤ x → x ≤ hi → within lo hi x ≡ true
within_is lo hi x l u = ap₂ ◌&&◌ (le-leb lo x l) (le-leb x hi u)

-- What holds of each number of a list holds at each place, and what holds at each place holds of each number.
pub each_at : (test : ℕ → Bool) (xs : List ℕ) → each test xs ≡ true → (i : ℕ) → i < length xs → test (get_or xs i 0) ≡ true
each_at test xs h i l = All-get_or (λ x. test x ≡ true) xs i 0 l (AllPass-from_list_all test xs h)

pub each_by : (test : ℕ → Bool) (xs : List ℕ) → ((i : ℕ) → i < length xs → test (get_or xs i 0) ≡ true) → each test xs ≡ true
each_by test xs h = list_all-from_AllPass test xs (All-from_get_or (λ x. test x ≡ true) xs 0 h)

-- A test that is a call, `if !f(..)`: what it says where the branch is taken, and where it is left.
pub failed : {r t : Bool} → r ≡ t → not r ≡ true → t ≡ false
failed {r} e h = sym e ∙ not-true r h

pub passed : {r t : Bool} → r ≡ t → not r ≡ false → t ≡ true
passed {r} e h = sym e ∙ not-false r h
