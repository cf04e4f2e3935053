-- How the builder of src/lib.rt goes through a text and writes rows and labels, step by step. No public contract cites this file.
-- Assumes nothing.
use Rattle.std.specs.Prelude.{cond, List, ℕ, zero, suc, ◌+◌, ◌-◌, ◌*◌, ◌<◌, eqb, ltb, length, set, Option, Some, None}
use Rattle.reader.specs.Grammar.{kind_at, tag, is_digit, is_or, is_and, is_open, is_close, digit, number_end_lem, atom_end}
use Rattle.rules.specs.Construction.{Vectors, less_all, modulo}
use Rattle.builder.specs.declared.Place.{Place}

-- Vectors of 12 numbers, of which a rule uses those of its columns.
abbrev pub vectors : ℕ → Vectors (List ℕ)
vectors p = modulo p 12

-- The number at a place where the digit d stands: the digit 1 and a second, or d.
unfoldable pub number_value : List ℕ → ℕ → ℕ → ℕ
number_value s d at = cond (is_digit (kind_at s (at + 1))) (10 + digit (kind_at s (at + 1))) d

abbrev pub on_end : {A B : Type 0} → Option B → (B → A) → A → A
on_end (Some q) f z = f q
on_end None f z = z

-- How many signs `&` join the atoms of the term at a place. The first number is fuel.
unfoldable pub ands_from : ℕ → List ℕ → ℕ → ℕ → ℕ
ands_from zero s d at = 0
ands_from (suc n) s d at = on_end (atom_end n s d at) (λ q. cond (is_and (kind_at s q)) (suc (ands_from n s d (q + 1))) 0) 0

unfoldable pub ands_at : List ℕ → ℕ → ℕ → ℕ
ands_at s d at = ands_from (3 * length s + 3) s d at

-- The lists and the place at which a step begins.
pub record Stand : Type 0 where
  pub ents : List (List ℕ)
  pub labs : List ℕ
  pub place : Place

abbrev pub stand : List (List ℕ) → List ℕ → Place → Stand
stand es ls p = record { ents = es; labs = ls; place = p }

abbrev pub standing : List (List ℕ) → List ℕ → ℕ → ℕ → ℕ → Stand
standing es ls at row col = stand es ls (record { at = at; row = row; col = col })

abbrev pub moved : Stand → ℕ → Stand
moved o q = standing o.ents o.labs q o.place.row o.place.col

-- The lists that a step leaves, and the place, where all went well.
pub record Out : Type 0 where
  pub ents : List (List ℕ)
  pub labs : List ℕ
  pub place : Option Place

abbrev pub out : List (List ℕ) → List ℕ → Option Place → Out
out es ls p = record { ents = es; labs = ls; place = p }

abbrev pub well : Stand → Out
well o = out o.ents o.labs (Some o.place)

abbrev pub failed : Stand → Out
failed o = out o.ents o.labs None

-- Go on where all went well.
abbrev pub chain : Out → (Stand → Out) → Out
chain o f = on_end o.place (λ p. f (stand o.ents o.labs p)) o

-- A number is one row: its label and its vector.
abbrev pub numbered : List ℕ → ℕ → List ℕ → Stand → Out
numbered s d v o =
    on_end (number_end_lem s d o.place.at)
    (λ q. cond (ltb o.place.row 32)
    (well (standing (set o.ents o.place.row v) (set o.labs o.place.row (number_value s d o.place.at)) q (o.place.row + 1) o.place.col))
    (failed (stand (set o.ents o.place.row v) (set o.labs o.place.row (number_value s d o.place.at)) o.place)))
    (failed (stand (set o.ents o.place.row v) (set o.labs o.place.row (number_value s d o.place.at)) o.place))

-- m atoms, each with the sign `&` after it; the j-th of them gets 1 in column own + j. f builds an atom.
unfoldable pub atoms_built : (List ℕ → Stand → Out) → ℕ → List ℕ → ℕ → ℕ → Stand → Out
atoms_built f p s zero own o = well o
atoms_built f p s (suc m) own o =
    chain (f ((vectors p).unit own) o)
    (λ r. cond (is_and (kind_at s r.place.at)) (atoms_built f p s m (own + 1) (moved r (r.place.at + 1))) (failed r))

-- The first number is fuel, d the parentheses that may still be opened, v the vector of the rule, term or atom.
unfoldable mutual
  pub rule_built : ℕ → List ℕ → ℕ → ℕ → List ℕ → Stand → Out
  rule_built zero s p d v o = well o
  rule_built (suc n) s p d v o =
      chain (term_built n s p d v o)
      (λ r. cond (is_or (kind_at s r.place.at)) (rule_built n s p d v (moved r (r.place.at + 1))) (well r))

  pub term_built : ℕ → List ℕ → ℕ → ℕ → List ℕ → Stand → Out
  term_built zero s p d v o = well o
  term_built (suc n) s p d v o =
      cond (ltb 12 o.place.col) (failed o)
      (cond (ltb 256 (ands_at s d o.place.at)) (failed o)
      (chain
      (atoms_built (λ u x. atom_built n s p d u x) p s (ands_at s d o.place.at) o.place.col
      (standing o.ents o.labs o.place.at o.place.row (o.place.col + ands_at s d o.place.at)))
      (λ r. atom_built n s p d (less_all (vectors p) o.place.col (ands_at s d o.place.at) v) r)))

  pub atom_built : ℕ → List ℕ → ℕ → ℕ → List ℕ → Stand → Out
  atom_built zero s p d v o = well o
  atom_built (suc n) s p d v o =
      cond (eqb (tag (kind_at s o.place.at)) 0) (numbered s (digit (kind_at s o.place.at)) v o)
      (cond (is_open (kind_at s o.place.at))
      (cond (eqb d 0) (failed o)
      (chain (rule_built n s p (d - 1) v (moved o (o.place.at + 1)))
      (λ r. cond (is_close (kind_at s r.place.at)) (well (moved r (r.place.at + 1))) (failed r))))
      (failed o))

-- Where all went well the place is past the start.
abbrev pub Past : ℕ → Option Place → Type 0
Past at (Some r) = at < r.at
Past at None = Unit {0}
