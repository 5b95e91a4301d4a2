-- Reading the files of documents one by one, and taking them for texts one by one.
use Rattle.std.proofs.Common.{◌≡◌, ◌∙◌, sym, ap, subst, refl, ℕ, zero, suc, ◌<◌, ◌≤◌, ◌⊎◌, inl, inr, List, [], ◌∷◌, ◌++◌, length, slice_get, Option, Some, None, String, string_bytes, arith}
use Rattle.std.specs.declared.alloc.Global.{Global}
use Rattle.ts_base.specs.Bytes.{Bytes}
use Rattle.spec_output.specs.Faults.{absent_line}
use Rattle.ts_io.specs.Outside.{Files, file_at}
use Rattle.ts_text.specs.Text.{IsText}
use Rattle.ts_script.specs.declared.plan.Source.{Source}
use Rattle.ts_script.specs.declared.plan.Source.TheVariants as source
use Rattle.ts_session.specs.Documents.{IsFrom, IsFile, HaveFiles, IsMissing, IsRefused, IsTextAt, AreOpened}
use Rattle.ts_session.specs.Firsts.{IsFirst, AreFirsts, Opens, HasNoText}
use Rattle.ts_session.specs.declared.first.First.{First}
use Rattle.ts_session.specs.declared.first.First.TheVariants.{InScript, Bytes as Read, Over}
use Rattle.ts_session.proofs.DocumentLemmas.{same_some, none_there}

-- ---- lists that grow

at_end : {A : Type 0} (xs : List A) (x y : A) (n : ℕ) → slice_get (xs ++ x ∷ []) n ≡ Some y → (slice_get xs n ≡ Some y) ⊎ ((n ≡ length xs) × (x ≡ y))
at_end [] x y zero e = inr (refl, same_some (Some x) x y refl e)
at_end [] x y (suc n) e = absurd (none_there y None refl e)
at_end (z ∷ xs) x y zero e = inl e
at_end (z ∷ xs) x y (suc n) e = elim (at_end xs x y n e) [
  | inl before ↦ inl before
  | inr last ↦ inr (ap suc last.0, last.1)
]

pub some_at : {A : Type 0} (xs : List A) (n : ℕ) → n < length xs → (x : A) × (slice_get xs n ≡ Some x)
some_at [] n h = absurd (omega (arith, h))
some_at (x ∷ xs) zero h = (x, refl)
some_at (x ∷ xs) (suc n) h = some_at xs n (omega (arith, h))

below_end : {A : Type 0} (xs : List A) (n : ℕ) (x : A) → slice_get xs n ≡ Some x → n < length xs
below_end [] n x e = absurd (none_there x None refl e)
below_end (y ∷ xs) zero x e = omega arith
below_end (y ∷ xs) (suc n) x e = let inside = below_end xs n x e in omega (arith, inside)

-- ---- reading

pub firsts_and : (files : Files) (documents : List Source) (firsts : List First) (from : Source) (first : First) (i : ℕ) → length firsts ≡ i → slice_get documents i ≡ Some from → AreFirsts files documents firsts
    → IsFirst files from first → AreFirsts files documents (firsts ++ first ∷ [])
firsts_and files documents firsts from first i len at are is number other found d f = elim (at_end firsts first found number f) [
  | inl before ↦ are number other found d before
  | inr last ↦
      let here : slice_get documents number ≡ Some from = ap (slice_get documents) (last.0 ∙ len) ∙ at in
      let same : from ≡ other = same_some (slice_get documents number) from other here d in
      subst (λ (s : Source). IsFirst files s found) same (subst (IsFirst files from) last.1 is)
]

first_is_file : (files : Files) (path : Bytes) (first : First) → IsFirst files (source.Path path) first → IsFile files path
first_is_file files path InScript h = absurd h
first_is_file files path (Read bytes) h = (bytes.items, h)
first_is_file files path Over h = (h.0, h.1)

pub firsts_are_files : (files : Files) (documents : List Source) (firsts : List First) → length firsts ≡ length documents → AreFirsts files documents firsts → HaveFiles files documents
firsts_are_files files documents firsts len are number path from =
    let inside = below_end documents number (source.Path path) from in
    let found = some_at firsts number (omega (arith, inside, len)) in
    first_is_file files path found.0 (are number (source.Path path) found.0 from found.1)

pub is_missing : (files : Files) (documents : List Source) (firsts : List First) (from : Source) (i : ℕ) (line : Bytes) → length firsts ≡ i → slice_get documents i ≡ Some from → AreFirsts files documents firsts
    → ((path : Bytes) × (from ≡ source.Path path) × (file_at files path ≡ None) × (line ≡ absent_line path)) → (path : Bytes) × IsMissing files documents path × (line ≡ absent_line path)
is_missing files documents firsts from i line len at are h = (
  h.0,
  record {
    number = i;
    from = at ∙ ap Some h.1;
    absent = h.2;
    before = λ k other below from_other.
        let found = some_at firsts k (omega (arith, below, len)) in
        first_is_file files other found.0 (are k (source.Path other) found.0 from_other found.1);
  },
  h.3,
)

-- ---- texts

-- so far the documents have these first texts
abbrev pub AreTexts : Files → List Source → List Bytes → Type 0
AreTexts files documents texts = (number : ℕ) (from : Source) (text : Bytes)
    → slice_get documents number ≡ Some from → slice_get texts number ≡ Some text → Opens files from text

pub texts_and : (files : Files) (documents : List Source) (texts : List Bytes) (from : Source) (text : Bytes) (i : ℕ) → length texts ≡ i → slice_get documents i ≡ Some from → AreTexts files documents texts
    → Opens files from text → AreTexts files documents (texts ++ text ∷ [])
texts_and files documents texts from text i len at are is number other found d t = elim (at_end texts text found number t) [
  | inl before ↦ are number other found d before
  | inr last ↦
      let here : slice_get documents number ≡ Some from = ap (slice_get documents) (last.0 ∙ len) ∙ at in
      let same : from ≡ other = same_some (slice_get documents number) from other here d in
      subst (λ (s : Source). Opens files s found) same (subst (Opens files from) last.1 is)
]

pub are_opened : (files : Files) (documents : List Source) (texts : List Bytes) → length texts ≡ length documents → AreTexts files documents texts → AreOpened files documents texts
are_opened files documents texts len are = record {
  count = len;
  inline = λ number text d.
      let inside = below_end documents number (source.Inline text) d in
      let found = some_at texts number (omega (arith, inside, len)) in
      found.1 ∙ ap Some (are number (source.Inline text) found.0 d found.1);
  from_files = λ number path d.
      let inside = below_end documents number (source.Path path) d in
      let found = some_at texts number (omega (arith, inside, len)) in
      (found.0, are number (source.Path path) found.0 d found.1, found.1);
}

text_before : (files : Files) (documents : List Source) (texts : List Bytes) (i : ℕ) → length texts ≡ i → AreTexts files documents texts → (k : ℕ) (other text : Bytes) → k < i → IsFrom documents k other
    → file_at files other ≡ Some text → IsText text
text_before files documents texts i len are k other text below from at =
    let found = some_at texts k (omega (arith, below, len)) in
    let opened : IsTextAt files other found.0 = are k (source.Path other) found.0 from found.1 in
    let same : found.0 ≡ text = same_some (file_at files other) found.0 text opened.file_is at in
    subst IsText same opened.is_text

pub is_refused : (files : Files) (documents : List Source) (texts : List Bytes) (from : Source) (i : ℕ) (line : Bytes) → length texts ≡ i → slice_get documents i ≡ Some from → AreTexts files documents texts
    → HasNoText files from line → IsRefused files documents line
is_refused files documents texts from i line len at are h = record {
  number = i;
  path = h.path;
  bytes = h.bytes;
  from = at ∙ ap Some h.is_from;
  file_is = h.file_is;
  refusal = h.refusal;
  before = text_before files documents texts i len are;
}
