-- What an edit in range leaves is a text.
use Rattle.std.proofs.Common.{ℕ, suc, ◌≤◌, ◌<◌, List, [], ◌∷◌, All, refl, arith}
use Rattle.std.specs.Str.{IsUtf8, IsCharBoundary}
use Rattle.std.proofs.lemmas.Str.{IsUtf8-append, IsUtf8-between, IsUtf8-drop, IsCharBoundary-start}
use Rattle.ts_base.specs.Bytes.{Bytes}
use Rattle.ts_text.specs.declared.edit.Edit.{Edit}
use Rattle.ts_text.specs.declared.edit.Part.{Part}
use Rattle.ts_text.specs.Edit.{AreApart, IsPartOf, InRange, HasTexts, apply_of, replaced_from, Fits}
use Rattle.ts_text.specs.Text.{IsText}

-- the next part begins no sooner than the place
abbrev Follows : ℕ → List Part → Type 0
Follows place [] = Unit {0}
Follows place (p ∷ ps) = place ≤ p.start

first_of : {X : Type 0} (P : X → Type 0) (x : X) (xs : List X) → All P (x ∷ xs) → P x
first_of P x xs all = all 0 x (omega arith)

rest_of : {X : Type 0} (P : X → Type 0) (x : X) (xs : List X) → All P (x ∷ xs) → All P xs
rest_of P x xs all = λ k d lt. all (suc k) d (omega arith)

later : (p : Part) (ps : List Part) → AreApart (p ∷ ps) → Follows p.end ps
later p [] apart = tt
later p (q ∷ ps) apart = let below : p.end < q.start = apart 0 p q refl refl in omega arith

rest_apart : (p : Part) (ps : List Part) → AreApart (p ∷ ps) → AreApart ps
rest_apart p ps apart = λ k a b first second. apart (suc k) a b first second

replaced_is_utf8 : (text : Bytes) (place : ℕ) (parts : List Part) → IsUtf8 text → IsCharBoundary text place
    → Follows place parts → All (IsPartOf text) parts → All (λ (part : Part). IsText part.new) parts → AreApart parts
    → IsUtf8 (replaced_from text place parts)
replaced_is_utf8 text place [] old on follows within new apart = IsUtf8-drop text place old on
replaced_is_utf8 text place (p ∷ ps) old on follows within new apart =
    let is = first_of (IsPartOf text) p ps within in
    let fresh = first_of (λ (part : Part). IsText part.new) p ps new in
    let before = IsUtf8-between text place p.start old follows on is.start_on in
    let after = replaced_is_utf8 text p.end ps old is.end_on (later p ps apart) (rest_of (IsPartOf text) p ps within) (rest_of (λ (part : Part). IsText part.new) p ps new) (rest_apart p ps apart) in
    IsUtf8-append _ _ (IsUtf8-append _ _ before fresh.utf8) after

pub apply_of_is_text : (text : Bytes) (edit : Edit) → IsText text → HasTexts edit
    → InRange text edit → Fits text edit → IsText (apply_of text edit)
apply_of_is_text text edit old new range fits = record {
  utf8 = replaced_is_utf8 text 0 edit.parts old.utf8 (IsCharBoundary-start text old.utf8) (from edit.parts) range.within new range.apart;
  within = fits;
}
  where
    from : (parts : List Part) → Follows 0 parts
    from [] = tt
    from (p ∷ ps) = omega arith
