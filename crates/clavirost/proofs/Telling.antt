-- What C is told by each call, from what the call answers and its number.
-- Assumes nothing.
use Rattle.std.proofs.Common.{◌≡◌, refl, sym, ap, subst, ◌∙◌, List, ℕ, length}
use Rattle.std.specs.Prelude.{Result, Ok, Err}
use Rattle.scheme.specs.declared.Shape.{Shape}
use Rattle.scheme.specs.declared.Refusal.{Refusal}
use Rattle.scheme.specs.Numbers.{number_lem}
use Rattle.rules.specs.Tree.{rule_names}
use Rattle.rules.specs.Construction.{columns}
use Rattle.rule.specs.Says.{RuleSays}
use Rattle.reading.specs.Says.{ReadSays}
use Rattle.clavirost.specs.Told.{Told, shape_of, RuleTold, ReadTold}

-- The number of an answer that the call permits.
pub told : {A : Type 0} (number : A → ℕ) (Permits : A → Type 0) (a : A) (x : ℕ) → Permits a → x ≡ number a → Told number Permits x
told number Permits a x h e = record { answer = a; permits = h; is = e }

-- With what is left of the answer.
pub told_left : {A : Type 0} (number : A → ℕ) (Permits Left : A → Type 0) (a : A) (x : ℕ) → Permits a → (x ≡ number a) × Left a
    → Told number (λ a. Permits a × Left a) x
told_left number Permits Left a x h e = record { answer = a; permits = (h, e.1); is = e.0 }

-- A rule or a file that makes no scheme leaves the numbers as they were.
module _ {a : Result Shape Refusal} {k : Refusal} (q : a ≡ Err k) {x : ℕ} (i : x ≡ number_lem k) where
  pub rule_refused : (p n d e : ℕ) (text labels entries labels' entries' : List ℕ) → RuleSays p n text labels entries a labels' entries'
      → RuleTold p n text labels entries d e x labels' entries' d e
  rule_refused p n d e text labels entries labels' entries' h = record {
    answer = Err k;
    permits = (subst (λ (a : Result Shape Refusal). RuleSays p n text labels entries a labels' entries') q h, refl);
    is = i;
  }

  pub read_refused : (shape : Shape) (file labels entries labels' entries' : List ℕ) → ReadSays file labels entries a labels' entries'
      → ReadTold file labels entries shape x labels' entries' shape
  read_refused shape file labels entries labels' entries' h = record {
    answer = Err k;
    permits = (subst (λ (a : Result Shape Refusal). ReadSays file labels entries a labels' entries') q h, refl);
    is = i;
  }

-- p and n of a shape that is given with them.
given : (p n : ℕ) (s : Shape) (d e : ℕ) → s ≡ shape_of p n d e → shape_of p n s.d s.e ≡ s
given p n s d e q = ap (λ (t : Shape). shape_of p n t.d t.e) q ∙ sym q

-- One that makes a scheme leaves its numbers: of a rule's scheme p and n are the given ones.
module _ {a : Result Shape Refusal} {s : Shape} (q : a ≡ Ok s) where
  pub rule_made : (p n d e : ℕ) (text labels entries labels' entries' : List ℕ) → RuleSays p n text labels entries a labels' entries'
      → RuleTold p n text labels entries d e 0 labels' entries' s.d s.e
  unfolding RuleSays
  rule_made p n d e text labels entries labels' entries' h =
      let made : RuleSays p n text labels entries (Ok s) labels' entries' =
      subst (λ (a : Result Shape Refusal). RuleSays p n text labels entries a labels' entries') q h in
      record {
        answer = Ok s;
        permits = (made, given p n s (length (rule_names made.1.0)) (columns made.1.0) made.1.3);
        is = refl;
      }

  pub read_made : (shape : Shape) (file labels entries labels' entries' : List ℕ) → ReadSays file labels entries a labels' entries'
      → ReadTold file labels entries shape 0 labels' entries' s
  read_made shape file labels entries labels' entries' h = record {
    answer = Ok s;
    permits = (subst (λ (a : Result Shape Refusal). ReadSays file labels entries a labels' entries') q h, refl);
    is = refl;
  }
