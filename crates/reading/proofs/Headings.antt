-- The heading's numbers from the content of block 0.
-- Assumes nothing.
use mathlib.Core.Path.{◌≡◌, ap, ◌∙◌}
use mathlib.Core.List.{List}
use Prim.Native.Nat.{ℕ, ◌+◌, ◌<◌}
use native.Mathlib.Omega.{arith}
use Rattle.linear.specs.Flat.{place}
use Rattle.scheme.specs.declared.Shape.{Shape}
use Rattle.format.specs.Format.{number_of}
use Rattle.format.specs.Reading.{byte_at, shape_at}
use Rattle.reading.specs.Parts.{content_of}
use Rattle.reading.proofs.Contents.{content_at}
use Rattle.reading.proofs.Numbers.{number_same}

abbrev pub shape : ℕ → ℕ → ℕ → ℕ → Shape
shape p n d e = record { p = p; n = n; d = d; e = e }

module _ (file c : List ℕ) (q : c ≡ content_of file 0) where
  byte : (j x : ℕ) → x ≡ place c j → j < 500 → x ≡ byte_at 1 file 0 (8 + j)
  byte j x e l = e ∙ ap (λ l. place l j) q ∙ content_at file 0 j l

  pub heading_shape : (p n d e : ℕ) → p ≡ number_of 2 (λ k. place c (0 + k)) → n ≡ place c 2 → d ≡ place c 3 → e ≡ place c 4
      → shape p n d e ≡ shape_at 1 file
  heading_shape p n d e ep en ed ee =
      let p' : p ≡ number_of 2 (λ k. byte_at 1 file 0 (8 + k)) = ep ∙ number_same 2 (λ k. place c (0 + k)) (λ k. byte_at 1 file 0 (8 + k))
      (λ k l. let z : 0 + k ≡ k = omega arith in byte k (place c (0 + k)) (ap (place c) z) (omega arith)) in
      let n' = byte 2 n en (omega arith) in
      let d' = byte 3 d ed (omega arith) in
      let e' = byte 4 e ee (omega arith) in
      ap (λ (p : ℕ). shape p n d e) p' ∙ ap (λ (n : ℕ). shape (shape_at 1 file).p n d e) n'
      ∙ ap (λ (d : ℕ). shape (shape_at 1 file).p (shape_at 1 file).n d e) d'
      ∙ ap (shape (shape_at 1 file).p (shape_at 1 file).n (shape_at 1 file).d) e'
