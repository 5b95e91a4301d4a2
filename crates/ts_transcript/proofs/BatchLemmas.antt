-- Batches of lines, one after another: what was added up of the first ones, and what is left.
use Rattle.std.proofs.Common.{arith, ◌≡◌, ◌∙◌, refl, sym, ap, subst, ℕ, zero, suc, ◌+◌, ◌<◌, ◌≤◌, ◌==◌, Bool, true, false, List, [], ◌∷◌, ◌++◌, append_assoc, append-nil, length, take, take_all}
use Rattle.std.proofs.lemmas.Bool.{eqb-true, eqb-false}
use Rattle.std.specs.Global.{Vec}
use Rattle.ts_base.specs.Bytes.{Bytes}
use Rattle.ts_core.specs.declared.flat.FlatGrammar.{FlatGrammar}
use Rattle.ts_transcript.specs.declared.line.RunLine.{RunLine}
use Rattle.ts_transcript.specs.Told.{AreLines}
use Rattle.ts_transcript.specs.Batches.{AddsBytes, Begins}
use Rattle.ts_transcript.specs.Columns.{AreColumns, IsPieceAt}
use Rattle.ts_transcript.proofs.ColumnLemmas.{next_piece}

-- a test that there are items
pub none_left : {A : Type 0} (xs : List A) (test : Bool) → test ≡ true → test ≡ (length xs == 0) → xs ≡ []
none_left [] test holds is = refl
none_left (x ∷ xs) test holds is =
    let e : length (x ∷ xs) ≡ 0 = eqb-true (length (x ∷ xs)) 0 (sym is ∙ holds) in
    let f : ⊥ = omega (arith, e) in
    elim f [ ]

pub some_left : (count : ℕ) (test : Bool) → test ≡ false → test ≡ (count == 0) → 0 < count
some_left zero test fails is = absurd (eqb-false 0 0 (sym is ∙ fails) refl)
some_left (suc count) test fails is = omega arith

lines_then : (g : FlatGrammar) (xs ys : List RunLine) (a b : Bytes) → AreLines g xs a → AreLines g ys b → AreLines g (xs ++ ys) (a ++ b)
lines_then g [] ys a b h k = subst (λ (start : Bytes). AreLines g ys (start ++ b)) (sym h) k
lines_then g (x ∷ xs) ys a b h k = (h.0, h.1 ++ b, h.2, lines_then g xs ys h.1 b h.3 k, ap (λ (start : Bytes). start ++ b) h.4 ∙ append_assoc h.0 h.1 b)

module _ (g : FlatGrammar) (lines : List RunLine) where
  pub begins_empty : (left : List RunLine) → lines ≡ left → Begins g lines [] left
  begins_empty left is more are = subst (λ (ls : List RunLine). AreLines g ls more) (sym is) are

  pub begins_more : (batch rest : List RunLine) (before after : Bytes) → Begins g lines before (batch ++ rest) → AddsBytes g batch before after → Begins g lines after rest
  begins_more batch rest before after h adds more are =
      let is : after ++ more ≡ before ++ (adds.0 ++ more) = ap (λ (start : Bytes). start ++ more) adds.2 ∙ append_assoc before adds.0 more in
      subst (λ (whole : Bytes). AreLines g lines whole) (sym is) (h (adds.0 ++ more) (lines_then g batch rest adds.0 more adds.1 are))

  pub begins_all : (rest : List RunLine) (bytes : Bytes) → rest ≡ [] → Begins g lines bytes rest → AreLines g lines bytes
  begins_all rest bytes none h =
      subst (λ (whole : Bytes). AreLines g lines whole) (append-nil bytes) (h [] (subst (λ (left : List RunLine). AreLines g left []) (sym none) refl))

-- ---- a batch, line by line

module _ (g : FlatGrammar) (lines : List RunLine) (before : Bytes) where
  pub adds_none : (after : Bytes) → after ≡ before → AddsBytes g (take 0 lines) before after
  adds_none after is = ([], refl, is ∙ sym (append-nil before))

  pub adds_piece : (columns : List (Vec (Vec ℕ))) (place : ℕ) (after piece whole : Bytes) → AreColumns g lines columns → place < length lines
      → ((made : Vec ℕ) → IsPieceAt columns place made → piece ≡ made.items) → whole ≡ after ++ piece
      → AddsBytes g (take place lines) before after → AddsBytes g (take (place + 1) lines) before whole
  adds_piece columns place after piece whole are lt reads is h =
      (h.0 ++ piece, next_piece g lines columns are place h.0 piece lt reads h.1, is ∙ ap (λ (start : Bytes). start ++ piece) h.2 ∙ append_assoc before h.0 piece)

  pub adds_all : (place : ℕ) (after : Bytes) → length lines ≤ place → AddsBytes g (take place lines) before after → AddsBytes g lines before after
  adds_all place after past h = subst (λ (ls : List RunLine). AddsBytes g ls before after) (take_all place lines past) h
