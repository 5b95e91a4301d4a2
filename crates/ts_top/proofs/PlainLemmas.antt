-- Words that ask to parse or to compile, and files, come to one status, and to one list of bytes but
-- for the line of an outcome.
use Rattle.std.proofs.Common.{◌≡◌, ◌∙◌, sym, ap, subst, refl, ℕ, inl, inr, List, [], ◌∷◌, length, Option, Some, None, codes, arith}
use Rattle.ts_base.specs.Bytes.{Bytes}
use Rattle.ts_core.specs.declared.flat.FlatGrammar.{FlatGrammar}
use Rattle.spec_output.specs.Faults.{absent_line, broken_line}
use Rattle.spec_output.specs.declared.status.Status.{Status}
use Rattle.spec_output.specs.declared.status.Status.TheVariants.{Done}
use Rattle.ts_io.specs.Outside.{Files, file_at}
use Rattle.ts_langfile.specs.Spelling.{spelling}
use Rattle.ts_text.specs.Text.{IsText, BreaksAt}
use Rattle.ts_front.specs.Compiled.{IsCompiled, IsRefusalLine}
use Rattle.ts_session.specs.Grammars.{Builds}
use Rattle.ts_top.specs.Answer.{Parses, Compiles, HasBothFiles, IsAbsentPath, Judged, large_grammar, refused_grammar, too_large, no_text, parsed, Compiled, large, refused, written, PlainAnswers, absent, judged, lacking, compiled, IsClean, IsCompilable}

-- what is known of the bytes of files
pub record FileLaws : Type 0 where
  pub breaks_once : (bytes : Bytes) (m n : ℕ) → BreaksAt bytes m → BreaksAt bytes n → m ≡ n
  pub whole : (bytes : Bytes) (n : ℕ) → IsText bytes → BreaksAt bytes n → ⊥
  pub compiled_once : (w a b : Bytes) → IsCompiled w a → IsCompiled w b → a ≡ b
  pub line_once : (w a b : Bytes) → IsRefusalLine w a → IsRefusalLine w b → a ≡ b
  pub line_or_compiled : (w a b : Bytes) → IsRefusalLine w a → IsCompiled w b → ⊥

-- one status, and one list of bytes but where a text was parsed or a script was run
pub record AreOne (s t : Status) (b c : Bytes) : Type 0 where
  pub status : s ≡ t
  pub bytes : (s ≡ Done → ⊥) → b ≡ c

-- ---- words and files

parses_once : (words : List Bytes) (grammar text other_grammar other_text : Bytes) → Parses words grammar text → Parses words other_grammar other_text → (grammar ≡ other_grammar) × (text ≡ other_text)
parses_once words grammar text other_grammar other_text p q =
    let e : codes "parse" ∷ grammar ∷ text ∷ [] ≡ codes "parse" ∷ other_grammar ∷ other_text ∷ [] = sym p ∙ q in
    let first : grammar ≡ other_grammar = cc in
    let second : text ≡ other_text = cc in
    (first, second)

compiles_once : (words : List Bytes) (path other : Bytes) → Compiles words path → Compiles words other → path ≡ other
compiles_once words path other p q =
    let e : codes "compile" ∷ path ∷ [] ≡ codes "compile" ∷ other ∷ [] = sym p ∙ q in
    let first : path ≡ other = cc in
    first

-- words do not ask for both
pub one_form : (words : List Bytes) (g t path : Bytes) → Parses words g t → Compiles words path → ⊥
one_form words g t path p q =
    let e : length (codes "parse" ∷ g ∷ t ∷ []) ≡ length (codes "compile" ∷ path ∷ []) = ap length (sym p ∙ q) in
    let never : ⊥ = omega (arith, e) in
    never

file_once : (files : Files) (p q a b : Bytes) → p ≡ q → file_at files p ≡ Some a → file_at files q ≡ Some b → a ≡ b
file_once files p q a b e x y =
    let both : Some a ≡ Some b = sym x ∙ ap (file_at files) e ∙ y in
    let first : a ≡ b = cc in
    first

none_there : {X : Type 0} (x : X) (o : Option X) → o ≡ None → o ≡ Some x → ⊥
none_there x o n s = let never : ⊥ = cc in never

pub absent_or_there : (files : Files) (words : List Bytes) (path g t p : Bytes) → IsAbsentPath files words path → HasBothFiles files words g t p → ⊥
absent_or_there files words path g t p a h =
    let same = parses_once words a.grammar_path a.text_path h.grammar_path p a.parses h.parses in
    elim a.first [
      | inl no_grammar ↦ none_there g (file_at files h.grammar_path) (sym (ap (file_at files) same.0) ∙ no_grammar.0) h.grammar_is
      | inr no_file ↦ none_there t (file_at files p) (sym (ap (file_at files) same.1) ∙ no_file.2) h.text_is
    ]

absent_once : (files : Files) (words : List Bytes) (path other : Bytes) → IsAbsentPath files words path → IsAbsentPath files words other → path ≡ other
absent_once files words path other a c =
    let same = parses_once words a.grammar_path a.text_path c.grammar_path c.text_path a.parses c.parses in
    elim a.first [
      | inl missing ↦ elim c.first [
        | inl also ↦ missing.1 ∙ same.0 ∙ sym also.1
        | inr file ↦ absurd (none_there file.0 (file_at files c.grammar_path) (sym (ap (file_at files) same.0) ∙ missing.0) file.1)
      ]
      | inr here ↦ elim c.first [
        | inl also ↦ absurd (none_there here.0 (file_at files a.grammar_path) (ap (file_at files) same.0 ∙ also.0) here.1)
        | inr file ↦ here.3 ∙ same.1 ∙ sym file.3
      ]
    ]

-- ---- what a grammar and a text come to

builds_compiled : (g : Bytes) (f : FlatGrammar) → Builds g f → IsCompiled g (spelling f)
builds_compiled g f b = record { form = f; is_form = b.is_form; table = b.table; bytes_are = refl }

module _ (laws : FileLaws) where
  refused_or_builds : (g line : Bytes) (f : FlatGrammar) → IsRefusalLine g line → Builds g f → ⊥
  refused_or_builds g line f r b = laws.line_or_compiled g line (spelling f) r (builds_compiled g f b)

  judged_once : (g t p : Bytes) (s s2 : Status) (b b2 : Bytes) → Judged g t p s b → Judged g t p s2 b2 → AreOne s s2 b b2
  judged_once g t p _ _ _ _ (large_grammar l) (large_grammar k) = record { status = refl; bytes = λ n. refl }
  judged_once g t p _ _ _ _ (large_grammar l) (refused_grammar line k r) = absurd (omega (arith, l, k))
  judged_once g t p _ _ _ _ (large_grammar l) (too_large f k m) = let w = k.small in absurd (omega (arith, l, w))
  judged_once g t p _ _ _ _ (large_grammar l) (no_text f place k m) = let w = k.small in absurd (omega (arith, l, w))
  judged_once g t p _ _ _ _ (large_grammar l) (parsed f o k m n) = let w = k.small in absurd (omega (arith, l, w))
  judged_once g t p _ _ _ _ (refused_grammar line k r) (large_grammar l) = absurd (omega (arith, l, k))
  judged_once g t p _ _ _ _ (refused_grammar line k r) (refused_grammar other l q) = record { status = refl; bytes = λ n. laws.line_once g line other r q }
  judged_once g t p _ _ _ _ (refused_grammar line k r) (too_large f b m) = absurd (refused_or_builds g line f r b)
  judged_once g t p _ _ _ _ (refused_grammar line k r) (no_text f place b m) = absurd (refused_or_builds g line f r b)
  judged_once g t p _ _ _ _ (refused_grammar line k r) (parsed f o b m n) = absurd (refused_or_builds g line f r b)
  judged_once g t p _ _ _ _ (too_large f k m) (large_grammar l) = let w = k.small in absurd (omega (arith, l, w))
  judged_once g t p _ _ _ _ (too_large f b m) (refused_grammar line k r) = absurd (refused_or_builds g line f r b)
  judged_once g t p _ _ _ _ (too_large f b m) (too_large h c n) = record { status = refl; bytes = λ n. refl }
  judged_once g t p _ _ _ _ (too_large f b m) (no_text h place c n) = let w = n.within in absurd (omega (arith, m, w))
  judged_once g t p _ _ _ _ (too_large f b m) (parsed h o c n q) = let w = n.within in absurd (omega (arith, m, w))
  judged_once g t p _ _ _ _ (no_text f place k m) (large_grammar l) = let w = k.small in absurd (omega (arith, l, w))
  judged_once g t p _ _ _ _ (no_text f place b m) (refused_grammar line k r) = absurd (refused_or_builds g line f r b)
  judged_once g t p _ _ _ _ (no_text f place b m) (too_large h c n) = let w = m.within in absurd (omega (arith, n, w))
  judged_once g t p _ _ _ _ (no_text f place b m) (no_text h other c n) = record { status = refl; bytes = λ k. ap (broken_line p) (laws.breaks_once t place other m n) }
  judged_once g t p _ _ _ _ (no_text f place b m) (parsed h o c n q) = absurd (laws.whole t place n m)
  judged_once g t p _ _ _ _ (parsed f o k m n) (large_grammar l) = let w = k.small in absurd (omega (arith, l, w))
  judged_once g t p _ _ _ _ (parsed f o b m n) (refused_grammar line k r) = absurd (refused_or_builds g line f r b)
  judged_once g t p _ _ _ _ (parsed f o b m n) (too_large h c q) = let w = m.within in absurd (omega (arith, q, w))
  judged_once g t p _ _ _ _ (parsed f o b m n) (no_text h place c q) = absurd (laws.whole t place m q)
  judged_once g t p _ _ _ _ (parsed f o b m n) (parsed h q c k r) = record { status = refl; bytes = λ z. absurd (z refl) }

  has_once : (files : Files) (words : List Bytes) (g t p g2 t2 p2 : Bytes) → HasBothFiles files words g t p → HasBothFiles files words g2 t2 p2 → (g ≡ g2) × (t ≡ t2) × (p ≡ p2)
  has_once files words g t p g2 t2 p2 h k =
      let e = parses_once words h.grammar_path p k.grammar_path p2 h.parses k.parses in
      (file_once files h.grammar_path k.grammar_path g g2 e.0 h.grammar_is k.grammar_is, file_once files p p2 t t2 e.1 h.text_is k.text_is, e.1)

  judged_there : (files : Files) (words : List Bytes) (g t p g2 t2 p2 : Bytes) (s s2 : Status) (b b2 : Bytes) → HasBothFiles files words g t p → HasBothFiles files words g2 t2 p2
      → Judged g t p s b → Judged g2 t2 p2 s2 b2 → AreOne s s2 b b2
  judged_there files words g t p g2 t2 p2 s s2 b b2 h k j i =
      let e = has_once files words g t p g2 t2 p2 h k in
      let grammar : Judged g t2 p2 s2 b2 = subst (λ (x : Bytes). Judged x t2 p2 s2 b2) (sym e.0) i in
      let text : Judged g t p2 s2 b2 = subst (λ (x : Bytes). Judged g x p2 s2 b2) (sym e.1) grammar in
      let path : Judged g t p s2 b2 = subst (λ (x : Bytes). Judged g t x s2 b2) (sym e.2) text in
      judged_once g t p s s2 b b2 j path

  -- ---- compiling

  compiled_by : (w : Bytes) (s s2 : Status) (b b2 : Bytes) → Compiled w s b → Compiled w s2 b2 → (s ≡ s2) × (b ≡ b2)
  compiled_by w _ _ _ _ (large l) (large k) = (refl, refl)
  compiled_by w _ _ _ _ (large l) (refused line k r) = absurd (omega (arith, l, k))
  compiled_by w _ _ _ _ (large l) (written bytes k r) = absurd (omega (arith, l, k))
  compiled_by w _ _ _ _ (refused line k r) (large l) = absurd (omega (arith, l, k))
  compiled_by w _ _ _ _ (refused line k r) (refused other l q) = (refl, laws.line_once w line other r q)
  compiled_by w _ _ _ _ (refused line k r) (written bytes l q) = absurd (laws.line_or_compiled w line bytes r q)
  compiled_by w _ _ _ _ (written bytes k r) (large l) = absurd (omega (arith, l, k))
  compiled_by w _ _ _ _ (written bytes k r) (refused line l q) = absurd (laws.line_or_compiled w line bytes q r)
  compiled_by w _ _ _ _ (written bytes k r) (written other l q) = (refl, laws.compiled_once w bytes other r q)

  compiled_there : (files : Files) (words : List Bytes) (p q w v : Bytes) (s s2 : Status) (b b2 : Bytes) → Compiles words p → Compiles words q → file_at files p ≡ Some w → file_at files q ≡ Some v
      → Compiled w s b → Compiled v s2 b2 → (s ≡ s2) × (b ≡ b2)
  compiled_there files words p q w v s s2 b b2 c d x y j k =
      let e : w ≡ v = file_once files p q w v (compiles_once words p q c d) x y in
      compiled_by w s s2 b b2 j (subst (λ (z : Bytes). Compiled z s2 b2) (sym e) k)

  lacking_or_there : (files : Files) (words : List Bytes) (p q w : Bytes) → Compiles words p → Compiles words q → file_at files p ≡ None → file_at files q ≡ Some w → ⊥
  lacking_or_there files words p q w c d x y = none_there w (file_at files q) (sym (ap (file_at files) (compiles_once words p q c d)) ∙ x) y

  -- ---- answers

  pub plain_once : (files : Files) (words : List Bytes) (s s2 : Status) (b b2 : Bytes) → PlainAnswers files words s b → PlainAnswers files words s2 b2 → AreOne s s2 b b2
  plain_once files words _ _ _ _ (absent path a) (absent other c) = record { status = refl; bytes = λ n. ap absent_line (absent_once files words path other a c) }
  plain_once files words _ _ _ _ (absent path a) (judged g t p s b h j) = absurd (absent_or_there files words path g t p a h)
  plain_once files words _ _ _ _ (absent path a) (lacking other c n) = absurd (one_form words a.grammar_path a.text_path other a.parses c)
  plain_once files words _ _ _ _ (absent path a) (compiled other w s b c at k) = absurd (one_form words a.grammar_path a.text_path other a.parses c)
  plain_once files words _ _ _ _ (judged g t p s b h j) (absent path a) = absurd (absent_or_there files words path g t p a h)
  plain_once files words _ _ _ _ (judged g t p s b h j) (judged g2 t2 p2 s2 b2 k i) = judged_there files words g t p g2 t2 p2 s s2 b b2 h k j i
  plain_once files words _ _ _ _ (judged g t p s b h j) (lacking other c n) = absurd (one_form words h.grammar_path p other h.parses c)
  plain_once files words _ _ _ _ (judged g t p s b h j) (compiled other w s2 b2 c at k) = absurd (one_form words h.grammar_path p other h.parses c)
  plain_once files words _ _ _ _ (lacking path c n) (absent other a) = absurd (one_form words a.grammar_path a.text_path path a.parses c)
  plain_once files words _ _ _ _ (lacking path c n) (judged g t p s b h j) = absurd (one_form words h.grammar_path p path h.parses c)
  plain_once files words _ _ _ _ (lacking path c n) (lacking other d m) = record { status = refl; bytes = λ z. ap absent_line (compiles_once words path other c d) }
  plain_once files words _ _ _ _ (lacking path c n) (compiled other w s b d at k) = absurd (lacking_or_there files words path other w c d n at)
  plain_once files words _ _ _ _ (compiled path w s b c at k) (absent other a) = absurd (one_form words a.grammar_path a.text_path path a.parses c)
  plain_once files words _ _ _ _ (compiled path w s b c at k) (judged g t p s2 b2 h j) = absurd (one_form words h.grammar_path p path h.parses c)
  plain_once files words _ _ _ _ (compiled path w s b c at k) (lacking other d n) = absurd (lacking_or_there files words other path w d c n at)
  plain_once files words _ _ _ _ (compiled path w s b c at k) (compiled other v s2 b2 d there m) =
      let e = compiled_there files words path other w v s s2 b b2 c d at there k m in
      record { status = e.0; bytes = λ n. e.1 }

  pub plain_compiled : (files : Files) (words : List Bytes) (path : Bytes) (s s2 : Status) (b b2 : Bytes) → Compiles words path → PlainAnswers files words s b → PlainAnswers files words s2 b2 → b ≡ b2
  plain_compiled files words path s s2 b b2 c a d = by s s2 b b2 a d (plain_once files words s s2 b b2 a d)
    where
      by : (s s2 : Status) (b b2 : Bytes) → PlainAnswers files words s b → PlainAnswers files words s2 b2 → AreOne s s2 b b2 → b ≡ b2
      by _ s2 _ b2 (absent other a) d o = absurd (one_form words a.grammar_path a.text_path path a.parses c)
      by _ s2 _ b2 (judged g t p s b h j) d o = absurd (one_form words h.grammar_path p path h.parses c)
      by _ s2 _ b2 (lacking other k n) d o = o.bytes (λ e. cc)
      by _ _ _ _ (compiled p w s b k at j) (absent other a) o = absurd (one_form words a.grammar_path a.text_path path a.parses c)
      by _ _ _ _ (compiled p w s b k at j) (judged g t q s2 b2 h i) o = absurd (one_form words h.grammar_path q path h.parses c)
      by _ _ _ _ (compiled p w s b k at j) (lacking other l n) o = absurd (lacking_or_there files words other p w l k n at)
      by _ _ _ _ (compiled p w s b k at j) (compiled q v s2 b2 l there i) o = (compiled_there files words p q w v s s2 b b2 k l at there j i).1

  -- ---- where nothing stands in the way

  clean_judged : (g t p : Bytes) (s : Status) (b : Bytes) (f : FlatGrammar) → Builds g f → IsText t → Judged g t p s b → s ≡ Done
  clean_judged g t p _ _ f b is (large_grammar l) = let w = b.small in absurd (omega (arith, l, w))
  clean_judged g t p _ _ f b is (refused_grammar line k r) = absurd (refused_or_builds g line f r b)
  clean_judged g t p _ _ f b is (too_large h c m) = let w = is.within in absurd (omega (arith, m, w))
  clean_judged g t p _ _ f b is (no_text h place c m) = absurd (laws.whole t place is m)
  clean_judged g t p _ _ f b is (parsed h o c m n) = refl

  pub plain_is_done : (files : Files) (words : List Bytes) (s : Status) (b : Bytes) → IsClean files words → PlainAnswers files words s b → s ≡ Done
  plain_is_done files words _ _ c (absent path a) = absurd (absent_or_there files words path c.grammar c.text c.path a c.has)
  plain_is_done files words _ _ c (judged g t p s b h j) =
      let e = has_once files words c.grammar c.text c.path g t p c.has h in
      clean_judged g t p s b c.form (subst (λ (x : Bytes). Builds x c.form) e.0 c.builds) (subst IsText e.1 c.is_text) j
  plain_is_done files words _ _ c (lacking path d n) = absurd (one_form words c.has.grammar_path c.path path c.has.parses d)
  plain_is_done files words _ _ c (compiled path w s b d at k) = absurd (one_form words c.has.grammar_path c.path path c.has.parses d)

  pub plain_compilable : (files : Files) (words : List Bytes) (s : Status) (b : Bytes) → IsCompilable files words → PlainAnswers files words s b → s ≡ Done
  plain_compilable files words s b c a = (plain_once files words s Done b c.bytes a (compiled c.path c.file Done c.bytes c.compiles c.file_is (written c.bytes c.small c.is_compiled))).status

-- ---- the words of an answer

-- words that have a plain answer ask to parse or to compile
pub plain_asks : (T : Type 0) (files : Files) (words : List Bytes) (s : Status) (b : Bytes) → PlainAnswers files words s b
    → ((g t : Bytes) → Parses words g t → T) → ((path : Bytes) → Compiles words path → T) → T
plain_asks T files words _ _ (absent path a) parse compile = parse a.grammar_path a.text_path a.parses
plain_asks T files words _ _ (judged g t p s b h j) parse compile = parse h.grammar_path p h.parses
plain_asks T files words _ _ (lacking path c n) parse compile = compile path c
plain_asks T files words _ _ (compiled path w s b c at k) parse compile = compile path c
