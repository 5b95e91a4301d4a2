-- Documents of a script have one first file that is not there, and one first file that is no text.
use Rattle.std.proofs.Common.{◌≡◌, ◌∙◌, sym, ap, subst, refl, ℕ, ◌<◌, ◌≤◌, ◌⊎◌, inl, inr, List, length, slice_get, Option, Some, None, arith}
use Rattle.std.proofs.lemmas.Bool.{cases_lt}
use Rattle.ts_base.specs.Bytes.{Bytes}
use Rattle.spec_output.specs.Faults.{broken_line}
use Rattle.ts_io.specs.Outside.{Files, file_at}
use Rattle.ts_text.specs.Text.{IsText, BreaksAt}
use Rattle.ts_script.specs.declared.plan.Source.{Source}
use Rattle.ts_script.specs.declared.plan.Source.TheVariants as source
use Rattle.ts_session.specs.Documents.{IsFrom, IsFile, HaveFiles, IsMissing, IsTextRefusal, too_large, broken, IsRefused, IsTextAt, AreOpened}
use Rattle.ts_session.specs.Grammars.{size_line}

-- what is known of bytes that are no text
pub record TextLaws : Type 0 where
  pub breaks_once : (bytes : Bytes) (m n : ℕ) → BreaksAt bytes m → BreaksAt bytes n → m ≡ n
  pub whole : (bytes : Bytes) (n : ℕ) → IsText bytes → BreaksAt bytes n → ⊥

pub none_there : {X : Type 0} (x : X) (o : Option X) → o ≡ None → o ≡ Some x → ⊥
none_there x o n s = let never : ⊥ = cc in never

pub same_some : {X : Type 0} (o : Option X) (x y : X) → o ≡ Some x → o ≡ Some y → x ≡ y
same_some o x y p q =
    let both : Some x ≡ Some y = sym p ∙ q in
    let same : x ≡ y = cc in
    same

-- one number is below the other, or they are one
pub compared : (m n : ℕ) → (m < n) ⊎ ((n < m) ⊎ (m ≡ n))
compared m n = elim (cases_lt m n) [
  | inl below ↦ inl below
  | inr least ↦ elim (cases_lt n m) [
    | inl above ↦ inr (inl above)
    | inr most ↦ inr (inr (omega (arith, least, most)))
  ]
]

same_path : (documents : List Source) (m n : ℕ) (p q : Bytes) → m ≡ n → IsFrom documents m p → IsFrom documents n q → p ≡ q
same_path documents m n p q e a b =
    let both : Some (source.Path p) ≡ Some (source.Path q) = sym a ∙ ap (slice_get documents) e ∙ b in
    let same : p ≡ q = cc in
    same

-- ---- files that are not there

not_there : (files : Files) (path : Bytes) → file_at files path ≡ None → IsFile files path → ⊥
not_there files path n f = none_there f.0 (file_at files path) n f.1

pub missing_once : (files : Files) (documents : List Source) (p q : Bytes) → IsMissing files documents p → IsMissing files documents q → p ≡ q
missing_once files documents p q a b = elim (compared a.number b.number) [
  | inl below ↦ absurd (not_there files p a.absent (b.before a.number p below a.from))
  | inr other ↦ elim other [
    | inl above ↦ absurd (not_there files q b.absent (a.before b.number q above b.from))
    | inr same ↦ same_path documents a.number b.number p q same a.from b.from
  ]
]

pub missing_or_there : (files : Files) (documents : List Source) (p : Bytes) → IsMissing files documents p → HaveFiles files documents → ⊥
missing_or_there files documents p a h = not_there files p a.absent (h a.number p a.from)

pub missing_or_opened : (files : Files) (documents : List Source) (p : Bytes) (openings : List Bytes) → IsMissing files documents p → AreOpened files documents openings → ⊥
missing_or_opened files documents p openings a o =
    let t = o.from_files a.number p a.from in
    let at = t.1 in
    none_there t.0 (file_at files p) a.absent at.file_is

-- ---- files that are no texts

module _ (laws : TextLaws) where
  pub refused_or_text : (path bytes line : Bytes) → IsTextRefusal path bytes line → IsText bytes → ⊥
  refused_or_text path bytes _ (too_large l) is = let w = is.within in absurd (omega (arith, l, w))
  refused_or_text path bytes _ (broken place b) is = laws.whole bytes place is b

  refusal_once : (path bytes a b : Bytes) → IsTextRefusal path bytes a → IsTextRefusal path bytes b → a ≡ b
  refusal_once path bytes _ _ (too_large l) (too_large k) = refl
  refusal_once path bytes _ _ (too_large l) (broken place b) = let w = b.within in absurd (omega (arith, l, w))
  refusal_once path bytes _ _ (broken place b) (too_large l) = let w = b.within in absurd (omega (arith, l, w))
  refusal_once path bytes _ _ (broken place b) (broken other c) = ap (broken_line path) (laws.breaks_once bytes place other b c)

  refusal_there : (files : Files) (p q v w a b : Bytes) → p ≡ q → file_at files p ≡ Some v → file_at files q ≡ Some w → IsTextRefusal p v a → IsTextRefusal q w b → a ≡ b
  refusal_there files p q v w a b e x y r s =
      let z : file_at files p ≡ Some w = ap (file_at files) e ∙ y in
      let bytes : v ≡ w = same_some (file_at files p) v w x z in
      let moved : IsTextRefusal q v b = subst (λ (k : Bytes). IsTextRefusal q k b) (sym bytes) s in
      refusal_once p v a b r (subst (λ (k : Bytes). IsTextRefusal k v b) (sym e) moved)

  pub refused_once : (files : Files) (documents : List Source) (a b : Bytes) → IsRefused files documents a → IsRefused files documents b → a ≡ b
  refused_once files documents a b r s = elim (compared r.number s.number) [
    | inl below ↦ absurd (refused_or_text r.path r.bytes a r.refusal (s.before r.number r.path r.bytes below r.from r.file_is))
    | inr other ↦ elim other [
      | inl above ↦ absurd (refused_or_text s.path s.bytes b s.refusal (r.before s.number s.path s.bytes above s.from s.file_is))
      | inr same ↦ refusal_there files r.path s.path r.bytes s.bytes a b (same_path documents r.number s.number r.path s.path same r.from s.from) r.file_is s.file_is r.refusal s.refusal
    ]
  ]

  pub refused_or_opened : (files : Files) (documents : List Source) (line : Bytes) (openings : List Bytes) → IsRefused files documents line → AreOpened files documents openings → ⊥
  refused_or_opened files documents line openings r o =
      let t = o.from_files r.number r.path r.from in
      let at = t.1 in
      let same : t.0 ≡ r.bytes = same_some (file_at files r.path) t.0 r.bytes at.file_is r.file_is in
      refused_or_text r.path r.bytes line r.refusal (subst IsText same at.is_text)
