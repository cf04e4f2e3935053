-- A test of each number below n, as a chain of iterators answers it.
-- Assumes nothing.
use Rattle.std.proofs.Common.{◌≡◌, refl, sym, ap, ap₂, ◌∙◌, Bool, true, false, ◌&&◌, List, [], ◌∷◌, ℕ, zero, suc, ◌+◌, ◌-◌, ◌<◌, ◌≤◌, length, get_or, take, drop, eqb, arith, add-one, zero-add}
use Rattle.std.proofs.lemmas.List.{take_all, take_rest, length-drop, get_or-drop}
use Rattle.std.proofs.lemmas.Bool.{false≢true, eq-eqb, ne_eqb, eqb-true, eqb-false}
use Rattle.std.proofs.lemmas.List.Folds.{list_all_more}
use Rattle.std.proofs.lemmas.List.FromFn.{length-range_with_len, get_or-range_with_len}
use Rattle.std.specs.List.{list_all, range_with_len, starts_with}
use Rattle.std.proofs.lemmas.Iterator.{YieldsList-from_range}
use Rattle.std.proofs.lemmas.Iterator.Search.{all_from_yields_List}
use Rattle.std.proofs.iter.Yields.{nat_range_steps}
use Rattle.std.specs.Fn.{Called}
use Rattle.std.specs.Iterator.{YieldsThen}
use Rattle.std.specs.List.{FoldsTo}
use Rattle.std.specs.Option.{MatchOption}
use Rattle.std.specs.declared.ops.Range.{Range}
use Rattle.std.proofs.Common.{Option}
use denote.Param.Members.{Mut}
use Rattle.linear.specs.Flat.{place, list_of}
use Rattle.linear.proofs.Flat.{list_length, list_at}
use Rattle.scheme.specs.Tests.{each}
use Rattle.format.specs.Reading.{all_below}
use Rattle.format.proofs.Tests.{all_at, all_holds}

-- Two tests that agree below n.
pub all_same : (n : ℕ) (f g : ℕ → Bool) → ((i : ℕ) → i < n → f i ≡ g i) → all_below n f ≡ all_below n g
unfolding all_below
all_same zero f g h = refl
all_same (suc n) f g h = ap₂ ◌&&◌ (all_same n f g (λ i l. h i (omega arith))) (h n (omega arith))

-- An answer that is true where each number passes, and false where one fails.
pub all_answer : (n : ℕ) (test : ℕ → Bool) (r : Bool) → (r ≡ true → (i : ℕ) → i < n → test i ≡ true)
    → (r ≡ false → (i : ℕ) × (i < n) × (test i ≡ false)) → r ≡ all_below n test
all_answer n test true h g = sym (all_holds n test (h refl))
all_answer n test false h g = cases (all_below n test) refl
  where
    cases : (b : Bool) → all_below n test ≡ b → false ≡ b
    cases false q = refl
    cases true q = let f = g refl in absurd (false≢true (sym f.2 ∙ all_at n test q f.0 f.1))

-- The test of the numbers of a list.
front : (test : ℕ → Bool) (xs : List ℕ) (n : ℕ) → n ≤ length xs → list_all test (take n xs) ≡ all_below n (λ i. test (get_or xs i 0))
unfolding all_below
front test xs zero h = refl
front test xs (suc n) h =
    ap (λ (k : ℕ). list_all test (take k xs)) (sym (add-one n)) ∙ list_all_more test xs n 0 h
    ∙ ap (λ b. b && test (get_or xs n 0)) (front test xs n (omega arith))

each_of : (test : ℕ → Bool) (n : ℕ) (f : ℕ → ℕ) (xs : List ℕ) → length xs ≡ n → ((i : ℕ) → i < n → get_or xs i 0 ≡ f i)
    → list_all test xs ≡ all_below n (λ i. test (f i))
each_of test n f xs e h =
    ap (list_all test) (sym (take_all n xs (omega arith))) ∙ front test xs n (omega arith)
    ∙ all_same n (λ i. test (get_or xs i 0)) (λ i. test (f i)) (λ i l. ap test (h i l))

pub each_list : (test : ℕ → Bool) (n : ℕ) (f : ℕ → ℕ) → each test (list_of n f) ≡ all_below n (λ i. test (f i))
each_list test n f = each_of test n f (list_of n f) (list_length n f) (list_at n f)

-- `(0..n).all(f)`, where f answers the test.
pub all_counted : {F : Type 0} {g : Mut F (ℕ × Unit {0}) Bool} {s : Range ℕ} (n : ℕ) (test : ℕ → Bool) {u : Range ℕ} {f : F} {r : Bool}
    → (xs : List ℕ) × (o : Option ℕ) × (j : F) × YieldsThen nat_range_steps s xs o u × FoldsTo (λ p x q. Called g p (x, tt) true q) f xs j
    × MatchOption o (r ≡ true) (λ x. (r ≡ false) × ((h : F) × Called g j (x, tt) false h))
    → s ≡ record { start = 0; end = n } → ((x : ℕ) (b : Bool) (q : F) → Called g f (x, tt) b q → (q ≡ f) × (b ≡ test x)) → r ≡ all_below n test
all_counted n test ran e closure =
    all_from_yields_List test _ _ _ ran (YieldsList-from_range 0 n n e (omega arith)) closure
    ∙ each_of test n (λ i. i) (range_with_len 0 n) (length-range_with_len 0 n) (λ i l. get_or-range_with_len 0 n i 0 l ∙ zero-add i)

-- Bytes that begin with a word.
eqb_swap : (a b : ℕ) → eqb a b ≡ eqb b a
eqb_swap a b = cases (eqb a b) refl
  where
    cases : (t : Bool) → eqb a b ≡ t → t ≡ eqb b a
    cases true q = sym (eq-eqb b a (sym (eqb-true a b q)))
    cases false q = sym (ne_eqb b a (λ e. eqb-false a b q (sym e)))

all_first : (n : ℕ) (test : ℕ → Bool) → all_below (suc n) test ≡ (test 0 && all_below n (λ i. test (suc i)))
unfolding all_below
all_first zero test = same (test 0)
  where
    same : (a : Bool) → (true && a) ≡ (a && true)
    same true = refl
    same false = refl
all_first (suc n) test = ap (λ b. b && test (suc n)) (all_first n test) ∙ assoc (test 0) (all_below n (λ i. test (suc i))) (test (suc n))
  where
    assoc : (a b c : Bool) → ((a && b) && c) ≡ (a && (b && c))
    assoc true b c = refl
    assoc false b c = refl

begins : (bytes word : List ℕ) → length word ≤ length bytes
    → starts_with eqb bytes word ≡ all_below (length word) (λ o. eqb (get_or bytes o 0) (get_or word o 0))
unfolding all_below
begins bytes [] h = refl
begins [] (y ∷ word) h = absurd (omega arith)
begins (x ∷ bytes) (y ∷ word) h =
    ap₂ ◌&&◌ (eqb_swap y x) (begins bytes word (omega arith))
    ∙ sym (all_first (length word) (λ o. eqb (get_or (x ∷ bytes) o 0) (get_or (y ∷ word) o 0)))

pub begins_at : (bytes word : List ℕ) (at : ℕ) → at + length word ≤ length bytes
    → starts_with eqb (take (length bytes - at) (drop at bytes)) word
    ≡ all_below (length word) (λ o. eqb (place bytes (at + o)) (place word o))
begins_at bytes word at h =
    ap (λ l. starts_with eqb l word) (take_rest bytes at)
    ∙ begins (drop at bytes) word (omega (arith, length-drop at bytes))
    ∙ all_same (length word) (λ o. eqb (get_or (drop at bytes) o 0) (get_or word o 0)) (λ o. eqb (place bytes (at + o)) (place word o))
    (λ o l. ap (λ (x : ℕ). eqb x (place word o)) (get_or-drop at bytes o 0))
