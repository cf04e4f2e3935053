-- The contracts of the panel's calls settle their answers: any two that they permit are equal. Putting in and taking out are functions.
-- Assumes nothing.
use Rattle.std.specs.Prelude.{Result}
use mathlib.Core.Path.{◌≡◌, sym, ap₂, ◌∙◌}
use mathlib.Core.List.{List}
use Prim.Native.Nat.{ℕ}
use Rattle.scheme.specs.declared.Shape.{Shape}
use Rattle.scheme.specs.declared.Refusal.{Refusal}
use Rattle.join.proofs.Settled as join
use Rattle.panel.specs.declared.Panel.{Panel}
use Rattle.panel.specs.declared.Told.{Told}
use Rattle.panel.specs.declared.Coded.{Coded}
use Rattle.panel.specs.Cards.{shape_of, labels_of, entries_of, stored_of, put_in, taken_out}
use Rattle.panel.specs.Says.{FreshSays, CodeSays}

pub fresh_settled : (s : Shape) (labels entries : List ℕ) (x y : Told) → FreshSays s labels entries x → FreshSays s labels entries y → x ≡ y
fresh_settled s labels entries x y e f = e ∙ sym f

pub put_settled : (a : Panel) (who : ℕ) (shares : List ℕ) (x y : Told) → x ≡ put_in a who shares → y ≡ put_in a who shares → x ≡ y
put_settled a who shares x y e f = e ∙ sym f

pub take_settled : (a : Panel) (who : ℕ) (x y : Told) → x ≡ taken_out a who → y ≡ taken_out a who → x ≡ y
take_settled a who x y e f = e ∙ sym f

abbrev coded : Result ℕ Refusal → Panel → Coded
coded said panel = record { said = said; panel = panel }

pub code_settled : (a : Panel) (x y : Coded) → CodeSays a x → CodeSays a y → x ≡ y
code_settled a x y e f = ap₂ coded
    (join.settled (shape_of a) (labels_of a) (entries_of a) a.cards (stored_of a) x.said y.said e.code f.code)
    (e.same ∙ sym f.same)
