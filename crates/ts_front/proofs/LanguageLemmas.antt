-- What is written of the grammar that a file stands for is a language file of that grammar, where its
-- expressions nest no deeper than those of one.
use Rattle.std.proofs.Common.{arith, ◌≡◌, ◌∙◌, sym, ap, refl, subst, ℕ, suc, zero, ◌<◌, ◌≤◌, ◌^◌, inl, inr, ⊎_elim, true, false, nat_eq, List, [], ◌∷◌, length, drop, ◌↔◌}
use Rattle.std.specs.List.{Contains, AllByRecursion, starts_with}
use Rattle.std.proofs.lemmas.List.Elements.{Contains-append_cases, All-from_recursion}
use Rattle.ts_base.specs.Bytes.{Bytes}
use Rattle.ts_core.specs.declared.flat.FlatGrammar.{FlatGrammar}
use Rattle.ts_core.specs.declared.re.Re.{Re}
use Rattle.ts_core.specs.declared.rule.Grammar.{Grammar}
use Rattle.ts_core.specs.declared.rule.Rule.{Rule}
use Rattle.ts_core.specs.declared.rule.Rule.TheOpen.{Rule-F}
use Rattle.ts_core.specs.declared.rule.Rule.TheViews.{out-Rule}
use Rattle.ts_core.specs.declared.symbol.Symbol.{Symbol}
use Rattle.spec_tables.specs.Fit.{Fit}
use Rattle.ts_ojson.specs.Json.{json_of}
use Rattle.ts_ojson.specs.Reads as json
use Rattle.ts_ojson.specs.declared.value.OJson.{OJson}
use Rattle.ts_grammar_json.specs.File as form
use Rattle.ts_grammar_json.specs.ShortParts.{has_parts_within, HasPartsWithin}
use Rattle.ts_rules.specs.FileGrammar.{IsFileGrammar}
use Rattle.ts_rules.specs.Sights.{NamedRule, Sight, sights, rule_sights, extra_sights, walk}
use Rattle.ts_normalise.specs.Refusals.{Flattens}
use Rattle.ts_normalise.specs.Texts.{IsFitText, HasFitText, HasFitTexts}
use Rattle.ts_langfile.specs.Parts.{most_levels}
use Rattle.ts_langfile.specs.Right as language
use Rattle.ts_langfile.specs.Right.{ReBy, RightRe, RightToken, RightSupertypes, Right, known_of}
use Rattle.ts_langfile.specs.Spelling.{magic, number16, spelling, file, new_version, old_version}
use Rattle.ts_front.specs.Compiled.{IsCompiled}
use Rattle.ts_front.specs.Grammars.{IsFormOf, by_grammar_file, by_language_file, IsGrammarFile, IsLanguageFile, IsNewLanguageFile}
use Rattle.ts_front.specs.Nesting.{levels, AreShallow}
use Rattle.ts_front.specs.Tables.{HasTable}
use Rattle.ts_front.specs.Typed.{IsTypedLayer, IsTypedSight, IsTypedGrammar}
use Rattle.ts_front.proofs.CountLemmas.{greatest_mapped, levels_empty, levels_set, levels_cat, levels_alt, levels_repeat}
use Rattle.ts_front.proofs.FormLemmas.{form_typed}
use Rattle.ts_front.proofs.GrammarReadLemmas.{read_typed}
use Rattle.ts_front.proofs.LawLemmas.{OneAnswer}
use Rattle.ts_front.proofs.MemberLemmas.{at_of, in_flat, so_each, each_so}
use Rattle.ts_front.proofs.RightLemmas.{form_right}
use Rattle.ts_front.proofs.WithinLemmas.{seen_within, pattern_within}

-- ---- what is known of the crates below

pub record FormLaws : Type 0 where
  pub file : (w : Bytes) (v : OJson) (g : Grammar) → length w < 2 ^ 32 → json.Reads v w → form.IsGrammar (json_of v) g → IsFileGrammar g
  pub within : (w : Bytes) (v : OJson) (g : Grammar) → json.Reads v w → form.IsGrammar (json_of v) g → HasPartsWithin (length w) g
  pub fit : (g : Grammar) (f : FlatGrammar) → IsFileGrammar g → HasFitTexts g → Flattens g f → Fit f

-- ---- a grammar file's form is fit and typed

text_fit : (n : ℕ) (s : Sight) (layer : Rule-F Rule) → n ≤ 4194304 → out-Rule s.tree ≡ layer → IsTypedSight s → has_parts_within n s.tree ≡ true → IsFitText layer
text_fit n s Rule-F.Blank few e typed within = tt
text_fit n s (Rule-F.Literal text) few e typed within = let h : IsTypedLayer (Rule-F.Literal text) = subst IsTypedLayer e typed in h
text_fit n s (Rule-F.Pattern value ignore_case) few e typed within = let le = pattern_within n s.tree value ignore_case e within in omega (arith, le, few)
text_fit n s (Rule-F.Symbol name) few e typed within = tt
text_fit n s (Rule-F.Seq members) few e typed within = tt
text_fit n s (Rule-F.Choice members) few e typed within = tt
text_fit n s (Rule-F.Repeat content) few e typed within = tt
text_fit n s (Rule-F.Repeat1 content) few e typed within = tt
text_fit n s (Rule-F.Token content) few e typed within = tt
text_fit n s (Rule-F.ImmediateToken content) few e typed within = tt
text_fit n s (Rule-F.Field name content) few e typed within = tt
text_fit n s (Rule-F.Alias content named value) few e typed within = tt
text_fit n s (Rule-F.Prec value content) few e typed within = tt
text_fit n s (Rule-F.PrecLeft value content) few e typed within = tt
text_fit n s (Rule-F.PrecRight value content) few e typed within = tt
text_fit n s (Rule-F.PrecDynamic value content) few e typed within = tt

walk_within : (n : ℕ) (g : Grammar) → HasPartsWithin n g → (s : Sight) → Contains (walk g) s → has_parts_within n s.tree ≡ true
walk_within n g parts s w = ⊎_elim
    (λ here.
    let r = in_flat (λ (rule : NamedRule). sights rule.1) g.rules s here in
    seen_within n r.0.1 (parts.trees r.1.0 r.0 (at_of g.rules r.0 r.1)) false s r.2)
    (λ later.
    let r = in_flat sights g.extras s later in
    seen_within n r.0 (parts.extras r.1.0 r.0 (at_of g.extras r.0 r.1)) false s r.2)
    (Contains-append_cases (rule_sights g) (extra_sights g) s w)

texts_fit : (n : ℕ) (g : Grammar) → n ≤ 4194304 → IsTypedGrammar g → HasPartsWithin n g → HasFitTexts g
texts_fit n g few typed parts = All-from_recursion HasFitText (walk g) (each_so HasFitText (walk g) (λ s w. text_fit n s (out-Rule s.tree) few refl (typed.walked s w) (walk_within n g parts s w)))

module _ (l : FormLaws) where
  grammar_typed : (w : Bytes) (g : Grammar) → IsGrammarFile w g → IsTypedGrammar g
  grammar_typed w g h = read_typed h.value w g h.reads h.grammar

  grammar_fit : (w : Bytes) (g : Grammar) (f : FlatGrammar) → IsGrammarFile w g → Flattens g f → Fit f
  grammar_fit w g f h flat =
      let small = h.file.small in
      l.fit g f (l.file w h.value g (omega (arith, small)) h.reads h.grammar) (texts_fit (length w) g small (grammar_typed w g h) (l.within w h.value g h.reads h.grammar)) flat

  pub form_fit : (w : Bytes) (f : FlatGrammar) → IsFormOf w f → Fit f
  form_fit w f (by_grammar_file g h flat) = grammar_fit w g f h flat
  form_fit w f (by_language_file b reads fit) = fit

  -- ---- a language file's form is shallow

  form_of_grammar : (w : Bytes) (g : Grammar) (f : FlatGrammar) → IsGrammarFile w g → Flattens g f → AreShallow f → Right new_version f
  form_of_grammar w g f h flat shallow = form_right f (grammar_fit w g f h flat) (form_typed g f flat.normal (grammar_typed w g h)) shallow

parts_shallow : (n : ℕ) (parts : List Re) → ((r : Re) → RightRe n r → levels r ≤ n) → AllByRecursion (RightRe n) parts → AllByRecursion (λ (r : Re). levels r ≤ n) parts
parts_shallow n [] to h = tt
parts_shallow n (r ∷ parts) to h = (to r h.0, parts_shallow n parts to h.1)

by_tag : (n : ℕ) → ((r : Re) → RightRe n r → levels r ≤ n) → (tag : ℕ) (r : Re) → ReBy (RightRe n) tag r → levels r ≤ suc n
by_tag n to zero r h = let e = ap levels h ∙ levels_empty in omega (arith, e)
by_tag n to (suc zero) r h = let e = ap levels h.1 ∙ levels_set h.0 in omega (arith, e)
by_tag n to (suc (suc zero)) r h =
    let e = ap levels h.1 ∙ levels_cat h.0 in
    let le = greatest_mapped levels n h.0 (parts_shallow n h.0 to h.2.1) in
    omega (arith, e, le)
by_tag n to (suc (suc (suc zero))) r h =
    let e = ap levels h.1 ∙ levels_alt h.0 in
    let le = greatest_mapped levels n h.0 (parts_shallow n h.0 to h.2.1) in
    omega (arith, e, le)
by_tag n to (suc (suc (suc (suc tag)))) r h =
    let e = ap levels h.3 ∙ levels_repeat h.0 h.1 h.2 in
    let le = to h.0 h.4 in
    omega (arith, e, le)

re_shallow : (n : ℕ) (r : Re) → RightRe n r → levels r ≤ n
re_shallow zero r h = absurd h
re_shallow (suc n) r h = by_tag n (re_shallow n) h.0 r h.2

right_shallow : (version : ℕ) (f : FlatGrammar) → Right version f → AreShallow f
right_shallow version f h = record {
  tokens = λ d w. let right = so_each (RightToken (known_of f)) f.tokens h.tokens d w in re_shallow most_levels d.re right.re;
  separators = λ re w. re_shallow most_levels re (so_each (RightRe most_levels) f.separators h.separators.1 re w);
}

-- ---- what is written is read again

begins_so : (version : ℕ) (f : FlatGrammar) → IsLanguageFile (file version f)
begins_so version f = refl

apart : (w : Bytes) → IsLanguageFile w → starts_with nat_eq w magic ≡ false → ⊥
apart w a b = let e : true ≡ false = sym a ∙ b in cc

pub language_shallow : (w : Bytes) (f : FlatGrammar) → IsLanguageFile w → IsFormOf w f → AreShallow f
language_shallow w f begins (by_grammar_file g h flat) = absurd (apart w begins h.file.other)
language_shallow w f begins (by_language_file b reads fit) = right_shallow reads.version f reads.right

-- the fields of a file of the old version are right in one of the new version
renewed : (f : FlatGrammar) → Right old_version f → Right new_version f
renewed f h = record {
  name = h.name;
  few_tokens = h.few_tokens;
  tokens = h.tokens;
  few_rules = h.few_rules;
  rules = h.rules;
  separators = h.separators;
  extras = h.extras;
  word = h.word;
  few_fields = h.few_fields;
  fields = h.fields;
  few_precs = h.few_precs;
  precs = h.precs;
  conflicts = h.conflicts;
  precedences = h.precedences;
  supertypes = subst (λ (xs : List Symbol). RightSupertypes false f.tokens f.rules xs) (sym h.supertypes) (omega arith, tt);
}

in_version : (version : ℕ) (f : FlatGrammar) → language.IsVersion version → Right version f → Right new_version f
in_version version f (inl old) h = renewed f (subst (λ (v : ℕ). Right v f) old h)
in_version version f (inr new) h = subst (λ (v : ℕ). Right v f) new h

module _ (l : FormLaws) where
  pub form_is_right : (w : Bytes) (f : FlatGrammar) → IsFormOf w f → AreShallow f → Right new_version f
  form_is_right w f (by_grammar_file g h flat) shallow = form_of_grammar l w g f h flat shallow
  form_is_right w f (by_language_file b reads fit) shallow = in_version reads.version f reads.known reads.right

  pub read_again : ((f : FlatGrammar) → Right new_version f → language.Reads f (spelling f)) → (w : Bytes) (f : FlatGrammar) → IsFormOf w f → AreShallow f ↔ IsFormOf (spelling f) f
  read_again written w f is = (
    (λ shallow. by_language_file (begins_so new_version f) (written f (form_is_right w f is shallow)) (form_fit l w f is)),
    (λ again. language_shallow (spelling f) f (begins_so new_version f) again),
  )

-- ---- what is compiled is compiled to itself

pub compiled_stays : OneAnswer → ((w : Bytes) (f : FlatGrammar) → IsFormOf w f → AreShallow f ↔ IsFormOf (spelling f) f) → (w b : Bytes) (f : FlatGrammar) → IsFormOf w f → AreShallow f → IsCompiled w b → IsCompiled b b
compiled_stays one again w b f is shallow c =
    let same : c.form ≡ f = one.form w c.form f c.is_form is in
    let spelled : b ≡ spelling f = c.bytes_are ∙ ap spelling same in
    record {
      form = f;
      is_form = subst (λ (x : Bytes). IsFormOf x f) (sym spelled) ((again w f is).0 shallow);
      table = subst HasTable same c.table;
      bytes_are = spelled;
    }

pub language_stays : OneAnswer → ((w : Bytes) (f : FlatGrammar) → IsFormOf w f → AreShallow f ↔ IsFormOf (spelling f) f) → (w b : Bytes) → IsLanguageFile w → IsCompiled w b → IsCompiled b b
language_stays one again w b begins c = compiled_stays one again w b c.form c.is_form (language_shallow w c.form begins c.is_form) c

-- a file of the old version does not begin as one of the new version
old_begins : (f : FlatGrammar) → starts_with nat_eq (drop 4 (file old_version f)) (number16 new_version) ≡ true → ⊥
old_begins f e = let no : false ≡ true = e in cc

new_is : (w : Bytes) (f : FlatGrammar) (reads : language.Reads f w) → IsNewLanguageFile w → language.IsVersion reads.version → w ≡ spelling f
new_is w f reads new (inr is) = reads.spelled ∙ ap (λ (v : ℕ). file v f) is
new_is w f reads new (inl is) =
    let old : w ≡ file old_version f = reads.spelled ∙ ap (λ (v : ℕ). file v f) is in
    absurd (old_begins f (subst (λ (x : Bytes). starts_with nat_eq (drop 4 x) (number16 new_version) ≡ true) old new.version))

form_spelled : (w : Bytes) (f : FlatGrammar) → IsNewLanguageFile w → IsFormOf w f → w ≡ spelling f
form_spelled w f new (by_grammar_file g h flat) = absurd (apart w new.begins h.file.other)
form_spelled w f new (by_language_file b reads fit) = new_is w f reads new reads.known

pub new_stays : (w b : Bytes) → IsNewLanguageFile w → IsCompiled w b → b ≡ w
new_stays w b new c = c.bytes_are ∙ sym (form_spelled w c.form new c.is_form)
