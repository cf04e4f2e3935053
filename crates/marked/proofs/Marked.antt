-- Document 01, "Marked examples": A to L as one table and one theorem, `marked`. Each row says, of the definition that a public contract
-- cites, that the example's outcome is permitted and the only one, for lent result lists of any content and the right length
-- (specs/Only.antt). The outcomes are computed: a `refl` below runs the decision of the one question.
-- Assumes nothing.
use Rattle.std.specs.Prelude.{Some, None, Ok, Err}
use mathlib.Core.Path.{◌≡◌, refl, sym}
use mathlib.Core.List.{List, [], ◌∷◌, ◌++◌}
use Prim.Native.Nat.{ℕ, ◌+◌, ◌*◌, ◌%◌}
use native.Mathlib.Omega.{arith}
use Rattle.residue.specs.Moduli.{is_in}
use Rattle.linear.specs.Flat.{place}
use Rattle.linear.specs.Product.{products}
use Rattle.scheme.specs.declared.Shape.{Shape}
use Rattle.scheme.specs.declared.Refusal.TheVariants as R
use Rattle.scheme.specs.Numbers.{number_lem}
use Rattle.scheme.specs.Dealing.{shares_of}
use Rattle.scheme.specs.Refusal.{numbers_refusal_lem, content_refusal_lem, refusal_of, read_below_lem, IsScheme}
use Rattle.rules.specs.Tree.{rule_names}
use Rattle.rules.specs.Text.{IsRule}
use Rattle.rules.specs.Construction.{rows, modulo, rule_rows, less_all, rule_takes, ands, labels_of, entries_of}
use Rattle.rules.proofs.Tried as Tried
use Rattle.format.specs.Format.{number_of, check_of_lem, file_of}
use Rattle.format.specs.Reading.{all_below}
use Rattle.marked.specs.Only.{Deals, Opens, Closes, JoinsTo, ProductYes, ProductNo, ThresholdIs, Builds, Writes, Prints}
use Rattle.digits.specs.Digits.{decimal, digits_in, whole_text}
use Rattle.sheet_lines.specs.Texts.{vector_text, set_text}
use Rattle.marked.proofs.Done.{deals, writes, builds, prints}
use Rattle.marked.proofs.Asked.{opens, closes}
use Rattle.marked.proofs.Joins.{joins_code, joins_closed, joins_unfit}
use Rattle.marked.proofs.Multiplied.{product_yes, product_no}
use Rattle.marked.proofs.Thresholds.{threshold_yes, threshold_no, threshold_refused}

-- "S is p = 17, n = d = 5, e = 3, row i = (1, i, i times i modulo 17), label i"
abbrev pub S : Shape
S = record { p = 17; n = 5; d = 5; e = 3 }

abbrev pub row : ℕ → List ℕ
row i = 1 ∷ i ∷ (i * i % 17) ∷ []

abbrev pub labels : List ℕ
labels = 1 ∷ 2 ∷ 3 ∷ 4 ∷ 5 ∷ []

abbrev pub entries : List ℕ
entries = row 1 ++ row 2 ++ row 3 ++ row 4 ++ row 5

-- "S's first four rows, n = 4"
abbrev pub four : Shape
four = record { p = 17; n = 4; d = 4; e = 3 }

abbrev pub four_labels : List ℕ
four_labels = 1 ∷ 2 ∷ 3 ∷ 4 ∷ []

abbrev pub four_entries : List ℕ
four_entries = row 1 ++ row 2 ++ row 3 ++ row 4

-- The text `(1|2)&3`, and its scheme: "p = 17, n = 3: rows (0,1), (0,1), (1,16), labels 1, 2, 3".
abbrev pub text : List ℕ
text = 40 ∷ 49 ∷ 124 ∷ 50 ∷ 41 ∷ 38 ∷ 51 ∷ []

abbrev pub built : Shape
built = record { p = 17; n = 3; d = 3; e = 2 }

abbrev pub built_labels : List ℕ
built_labels = 1 ∷ 2 ∷ 3 ∷ []

abbrev pub built_entries : List ℕ
built_entries = (0 ∷ 1 ∷ []) ++ (0 ∷ 1 ∷ []) ++ (1 ∷ 16 ∷ [])

-- "p = 2, n = 2, one row .. of participant 1"
abbrev pub single : Shape
single = record { p = 2; n = 2; d = 1; e = 1 }

pub record Table : Type 0 where
  -- "A. S, secret 13, random 10, 2: shares 8, 7, 10, 0, 11."
  pub A : Deals S labels entries 13 (10 ∷ 2 ∷ []) (8 ∷ 7 ∷ 10 ∷ 0 ∷ 11 ∷ [])
  -- "B. S, set 21: r = 4, 0, 3, 0, 11, on the sheet `4 0 3 0 -6`; with A's shares, 13." The line is `21 OPEN 4 0 3 0 -6` and byte 10.
  pub B : Opens S labels entries 21 (4 ∷ 0 ∷ 3 ∷ 0 ∷ 11 ∷ [])
  pub b_sheet : Prints S labels entries 21
      (50 ∷ 49 ∷ 32 ∷ 79 ∷ 80 ∷ 69 ∷ 78 ∷ 32 ∷ 52 ∷ 32 ∷ 48 ∷ 32 ∷ 51 ∷ 32 ∷ 48 ∷ 32 ∷ 45 ∷ 54 ∷ 10 ∷ [])
  pub b_joined : JoinsTo S labels entries 21 (8 ∷ 7 ∷ 10 ∷ 0 ∷ 11 ∷ []) (Ok 13)
  -- "C. S, set 5: z = 1, 10, 6. D. Set 2: z = 1, 8, 0."
  pub C : Closes S labels entries 5 (1 ∷ 10 ∷ 6 ∷ [])
  pub D : Closes S labels entries 2 (1 ∷ 8 ∷ 0 ∷ [])
  -- "E. S, set 31: r = 3, 14, 1, 0, 0."
  pub E : Opens S labels entries 31 (3 ∷ 14 ∷ 1 ∷ 0 ∷ 0 ∷ [])
  -- "F. S, set 15, shares 8, 7, 10, 1, 0: refusal 12. Set 5: 11."
  pub F : JoinsTo S labels entries 15 (8 ∷ 7 ∷ 10 ∷ 1 ∷ 0 ∷ []) (Err R.NoDealing) × (number_lem R.NoDealing ≡ 12)
  pub f_closed : JoinsTo S labels entries 5 (8 ∷ 7 ∷ 10 ∷ 1 ∷ 0 ∷ []) (Err R.SetClosed) × (number_lem R.SetClosed ≡ 11)
  -- "G. S, product: yes, r = 5, 7, 10, 12, 1."
  pub G : ProductYes S labels entries (5 ∷ 7 ∷ 10 ∷ 12 ∷ 1 ∷ [])
  -- "H. S's first four rows, n = 4: no, w = 1, 5, 5, 0, 1, 5."
  pub H : ProductNo four four_labels four_entries (1 ∷ 5 ∷ 5 ∷ 0 ∷ 1 ∷ 5 ∷ [])
  -- "I. S, threshold t = 2: yes; t = 1: No 3; t = 3: No 7; t = 5: refusal 10."
  pub I : ThresholdIs S labels entries 2 (Ok None)
  pub i_low : ThresholdIs S labels entries 1 (Ok (Some 3))
  pub i_high : ThresholdIs S labels entries 3 (Ok (Some 7))
  pub i_refused : ThresholdIs S labels entries 5 (Err R.Threshold) × (number_lem R.Threshold ≡ 10)
  -- "J. `(1|2)&3`, p = 17, n = 3: rows (0,1), (0,1), (1,16), labels 1, 2, 3. For t = 1: No 3."
  pub J : Builds 17 3 text built built_labels built_entries
  pub j_threshold : ThresholdIs built built_labels built_entries 1 (Ok (Some 3))
  -- "K. p = 2, n = 2, one row (1) of participant 1: set 1 has r = 1, set 2 has z = 1; t = 0: No 2. With row (0): set 1 closed."
  pub K : Opens single (1 ∷ []) (1 ∷ []) 1 (1 ∷ [])
  pub k_closed : Closes single (1 ∷ []) (1 ∷ []) 2 (1 ∷ [])
  pub k_threshold : ThresholdIs single (1 ∷ []) (1 ∷ []) 0 (Ok (Some 2))
  pub k_zero : Closes single (1 ∷ []) (0 ∷ []) 1 (1 ∷ [])
  -- "L. The checks of S's two file blocks: 1122 and 6524." Each is the sum, and stands in the last four bytes of its block of the file.
  pub l_heading : check_of_lem 1 S labels entries 0 ≡ 1122
  pub l_rows : check_of_lem 1 S labels entries 1 ≡ 6524
  pub l_file : Writes S labels entries 1024 (file_of 1 S labels entries)
  pub l_heading_bytes : number_of 4 (λ k. place (file_of 1 S labels entries) (508 + k)) ≡ 1122
  pub l_rows_bytes : number_of 4 (λ k. place (file_of 1 S labels entries) (1020 + k)) ≡ 6524

s_scheme : IsScheme S labels entries
unfolding refusal_of numbers_refusal_lem content_refusal_lem is_in
s_scheme = refl

four_scheme : IsScheme four four_labels four_entries
unfolding refusal_of numbers_refusal_lem content_refusal_lem is_in
four_scheme = refl

built_scheme : IsScheme built built_labels built_entries
unfolding refusal_of numbers_refusal_lem content_refusal_lem is_in
built_scheme = refl

one_scheme : IsScheme single (1 ∷ []) (1 ∷ [])
unfolding refusal_of numbers_refusal_lem content_refusal_lem is_in
one_scheme = refl

zero_scheme : IsScheme single (1 ∷ []) (0 ∷ [])
unfolding refusal_of numbers_refusal_lem content_refusal_lem is_in
zero_scheme = refl

-- The text is the rule with this tree.
text_rule_lem : IsRule text Tried.J
text_rule_lem = record {
  text = sym Tried.j_text;
  well = ((omega arith, ((omega arith, omega arith), (omega arith, omega arith))), (omega arith, omega arith));
  long = omega arith;
  short = omega arith;
}

pub marked : Table
unfolding refusal_of numbers_refusal_lem content_refusal_lem is_in read_below_lem shares_of products all_below
    rule_names rows modulo rule_rows less_all rule_takes ands labels_of entries_of file_of set_text vector_text decimal digits_in whole_text
marked = record {
  A = deals S labels entries 13 (10 ∷ 2 ∷ []) refl;
  B = opens S labels entries s_scheme 21 (4 ∷ 0 ∷ 3 ∷ 0 ∷ 11 ∷ []) (omega arith) refl;
  b_sheet = prints S labels entries s_scheme 21 (omega arith) _ (omega arith) refl;
  b_joined = joins_code S labels entries s_scheme 21 (8 ∷ 7 ∷ 10 ∷ 0 ∷ 11 ∷ []) refl
      (4 ∷ 0 ∷ 3 ∷ 0 ∷ 11 ∷ []) (13 ∷ 10 ∷ 2 ∷ []) refl refl;
  C = closes S labels entries s_scheme 5 (1 ∷ 10 ∷ 6 ∷ []) (omega arith) refl;
  D = closes S labels entries s_scheme 2 (1 ∷ 8 ∷ 0 ∷ []) (omega arith) refl;
  E = opens S labels entries s_scheme 31 (3 ∷ 14 ∷ 1 ∷ 0 ∷ 0 ∷ []) (omega arith) refl;
  F = (joins_unfit S labels entries s_scheme 15 (8 ∷ 7 ∷ 10 ∷ 1 ∷ 0 ∷ []) refl (3 ∷ 14 ∷ 1 ∷ 0 ∷ 0 ∷ []) refl refl, refl);
  f_closed = (joins_closed S labels entries s_scheme 5 (8 ∷ 7 ∷ 10 ∷ 1 ∷ 0 ∷ []) refl (1 ∷ 10 ∷ 6 ∷ []) refl, refl);
  G = product_yes S labels entries s_scheme (5 ∷ 7 ∷ 10 ∷ 12 ∷ 1 ∷ []) refl;
  H = product_no four four_labels four_entries four_scheme (1 ∷ 5 ∷ 5 ∷ 0 ∷ 1 ∷ 5 ∷ []) refl;
  I = threshold_yes S labels entries s_scheme 2 (omega arith) refl;
  i_low = threshold_no S labels entries s_scheme 1 (omega arith) 3 (omega arith) refl refl;
  i_high = threshold_no S labels entries s_scheme 3 (omega arith) 7 (omega arith) refl refl;
  i_refused = (threshold_refused S labels entries 5 R.Threshold refl, refl);
  J = builds 17 3 text Tried.J refl text_rule_lem refl;
  j_threshold = threshold_no built built_labels built_entries built_scheme 1 (omega arith) 3 (omega arith) refl refl;
  K = opens single (1 ∷ []) (1 ∷ []) one_scheme 1 (1 ∷ []) (omega arith) refl;
  k_closed = closes single (1 ∷ []) (1 ∷ []) one_scheme 2 (1 ∷ []) (omega arith) refl;
  k_threshold = threshold_no single (1 ∷ []) (1 ∷ []) one_scheme 0 (omega arith) 2 (omega arith) refl refl;
  k_zero = closes single (1 ∷ []) (0 ∷ []) zero_scheme 1 (1 ∷ []) (omega arith) refl;
  l_heading = refl;
  l_rows = refl;
  l_file = writes S labels entries s_scheme 1024 refl;
  l_heading_bytes = refl;
  l_rows_bytes = refl;
}
