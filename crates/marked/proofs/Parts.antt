-- An outcome that a contract permits is the only one where the contract settles it: an answer alone, with one list, and with two.
-- Assumes nothing.
use mathlib.Core.Path.{Path, ◌≡◌}
use Rattle.marked.specs.Only.{Only}

two : {A B : Type 0} {a a' : A} {b b' : B} → a ≡ a' → b ≡ b' → Path (A × B) (a, b) (a', b')
two x y = cc

three : {A B C : Type 0} {a a' : A} {b b' : B} {c c' : C} → a ≡ a' → b ≡ b' → c ≡ c' → Path (A × B × C) (a, b, c) (a', b', c')
three x y z = cc

pub only : {A : Type 0} (P : A → Type 0) → ((a b : A) → P a → P b → a ≡ b) → (a : A) → P a → Only P a
only P settled a h = record { holds = h; alone = λ b g. settled b a g h }

pub only_with : {A B : Type 0} (P : A → B → Type 0) → ((a b : A) (x y : B) → P a x → P b y → (a ≡ b) × (x ≡ y))
    → (a : A) (x : B) → P a x → Only (λ (o : A × B). P o.0 o.1) (a, x)
only_with P settled a x h = record { holds = h; alone = λ (b, y) g. let w = settled b a y x g h in two w.0 w.1 }

pub only_with_two : {A B C : Type 0} (P : A → B → C → Type 0)
    → ((a b : A) (x : B) (y : C) (x' : B) (y' : C) → P a x y → P b x' y' → (a ≡ b) × (x ≡ x') × (y ≡ y'))
    → (a : A) (x : B) (y : C) → P a x y → Only (λ (o : A × B × C). P o.0 o.1 o.2) (a, x, y)
only_with_two P settled a x y h = record {
  holds = h;
  alone = λ (b, x', y') g. let w = settled b a x' y' x y g h in three w.0 w.1 w.2;
}
