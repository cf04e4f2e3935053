-- Demand 3: what an opening vector and a witness show, as properties of any vector.
-- Assumes nothing.
use Rattle.std.specs.Prelude.{◌≡◌, true, List, ℕ, ◌<◌}
use Rattle.linear.specs.Flat.{place}
use Rattle.scheme.specs.declared.Shape.{Shape}
use Rattle.scheme.specs.Dealing.{shares_of, joined}
use Rattle.scheme.specs.Sets.{of_set}
use Rattle.secrecy.specs.Pairing.{RandomList, partner}

module _ (s : Shape) (labels entries : List ℕ) (set : ℕ) where
  -- Two lists of shares agree at the set's rows.
  abbrev pub SameCards : List ℕ → List ℕ → Type 0
  SameCards x y = (k : ℕ) → k < s.d → of_set set labels k ≡ true → place x k ≡ place y k

  -- r gives the code back from every dealing: whatever stands at the other places, the set's cards join to the secret that was dealt.
  pub record GivesBack (r : ℕ → ℕ) : Type 0 where
    pub back : (secret : ℕ) (xs shares : List ℕ) → secret < s.p → RandomList s.p s.e xs
        → SameCards shares (shares_of s entries secret xs) → joined s shares r ≡ secret

  -- z pairs all random lists for the first code with all for the second, one to one, with the same cards in each pair.
  pub record Pairs (z : ℕ → ℕ) : Type 0 where
    pub random : (first second : ℕ) → first < s.p → second < s.p → (xs : List ℕ) → RandomList s.p s.e xs
        → RandomList s.p s.e (partner s.p z first second xs)
    pub inverse : (first second : ℕ) → first < s.p → second < s.p → (xs : List ℕ) → RandomList s.p s.e xs
        → partner s.p z second first (partner s.p z first second xs) ≡ xs
    pub cards : (first second : ℕ) → first < s.p → second < s.p → (xs : List ℕ) → RandomList s.p s.e xs
        → SameCards (shares_of s entries second (partner s.p z first second xs)) (shares_of s entries first xs)
