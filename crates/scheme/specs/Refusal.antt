-- Document 01, "Refusal numbers", for the calls on a scheme. Each definition tries its tests in the order of the table, so that the lowest
-- number that applies can be read off; Ok is no refusal.
-- Assumes nothing.
use Rattle.std.specs.Prelude.{◌≡◌, Result, Ok, Bool, true, not, ◌&&◌, ◌||◌, List, [], ◌∷◌, ℕ, ◌+◌, ◌*◌, ◌^◌, eqb, ltb, length}
use Rattle.residue.specs.Moduli.{is_modulus_lem}
use Rattle.linear.specs.Product.{pairs}
use Rattle.scheme.specs.declared.Shape.{Shape}
use Rattle.scheme.specs.declared.Refusal.{Refusal}
use Rattle.scheme.specs.declared.Refusal.TheVariants as R
use Rattle.scheme.specs.Sets.{in_set}
use Rattle.scheme.specs.Tests.{within, each, each_below, unless, or_else}

-- 1 to 4: "p, n, d, e not as above".
unfoldable pub numbers_refusal_lem : Shape → Result Unit Refusal
numbers_refusal_lem s =
    or_else (unless (is_modulus_lem s.p) R.Modulus)
    (or_else (unless (within 1 16 s.n) R.Participants)
    (or_else (unless (within 1 32 s.d) R.Rows)
    (unless (within 1 12 s.e) R.Columns)))

-- 6: "a label outside 1 to n"; 7: "an entry not below p".
unfoldable pub content_refusal_lem : ℕ → ℕ → List ℕ → List ℕ → Result Unit Refusal
content_refusal_lem p n labels entries =
    or_else (unless (each (within 1 n) labels) R.Label)
    (unless (each_below p entries) R.Entry)

-- Every call on a scheme: 1 to 4; then 5, "a lent list has not exactly the length needed", where `lengths` says of the call's own lists
-- that they have theirs; then 6 and 7; then what the call refuses after that.
unfoldable pub refusal_of : Shape → List ℕ → List ℕ → Bool → Result Unit Refusal → Result Unit Refusal
refusal_of s labels entries lengths more =
    or_else (numbers_refusal_lem s)
    (or_else (unless (eqb (length labels) s.d && (eqb (length entries) (s.d * s.e) && lengths)) R.Length)
    (or_else (content_refusal_lem s.p s.n labels entries)
    more))

-- Checking a scheme.
abbrev pub check_refusal : Shape → List ℕ → List ℕ → Result Unit Refusal
check_refusal s labels entries = refusal_of s labels entries true (Ok tt)

-- A scheme as document 01 has it: nothing is refused.
abbrev pub IsScheme : Shape → List ℕ → List ℕ → Type 0
IsScheme s labels entries = check_refusal s labels entries ≡ Ok tt

-- Dealing: e - 1 random numbers, d places for the shares; 9: "a secret, random number or share that is read is not below p".
abbrev pub deal_refusal_lem : Shape → List ℕ → List ℕ → ℕ → List ℕ → ℕ → Result Unit Refusal
deal_refusal_lem s labels entries secret randoms places =
    refusal_of s labels entries (eqb (length randoms + 1) s.e && eqb places s.d)
    (unless (ltb secret s.p && each_below s.p randoms) R.NotBelowP)

-- "a set names .. a participant outside 1 to n": a bit from n up.
abbrev pub set_refusal_lem : ℕ → ℕ → Result Unit Refusal
set_refusal_lem n set = unless (ltb set (2 ^ n)) R.Outsider

-- The set question: d places for r, e places for z.
abbrev pub ask_refusal_lem : Shape → List ℕ → List ℕ → ℕ → ℕ → ℕ → Result Unit Refusal
ask_refusal_lem s labels entries set rplaces zplaces =
    refusal_of s labels entries (eqb rplaces s.d && eqb zplaces s.e) (set_refusal_lem s.n set)

-- Each share at the set's rows is below p; "places outside the set's rows are not read".
unfoldable pub read_below_lem : ℕ → ℕ → List ℕ → List ℕ → Bool
read_below_lem p set [] shares = true
read_below_lem p set (l ∷ labels) [] = true
read_below_lem p set (l ∷ labels) (x ∷ shares) = (not (in_set set l) || ltb x p) && read_below_lem p set labels shares

-- Joining, up to 9: d shares.
abbrev pub join_refusal_lem : Shape → List ℕ → List ℕ → ℕ → List ℕ → Result Unit Refusal
join_refusal_lem s labels entries set shares =
    refusal_of s labels entries (eqb (length shares) s.d)
    (or_else (set_refusal_lem s.n set) (unless (read_below_lem s.p set labels shares) R.NotBelowP))

-- The product verdict: d places for r, e(e + 1)/2 for w.
abbrev pub product_refusal_lem : Shape → List ℕ → List ℕ → ℕ → ℕ → Result Unit Refusal
product_refusal_lem s labels entries rplaces wplaces = refusal_of s labels entries (eqb rplaces s.d && eqb wplaces (pairs s.e)) (Ok tt)

-- The threshold verdict; 10: "t not below n".
abbrev pub threshold_refusal_lem : Shape → List ℕ → List ℕ → ℕ → Result Unit Refusal
threshold_refusal_lem s labels entries t = refusal_of s labels entries true (unless (ltb t s.n) R.Threshold)
