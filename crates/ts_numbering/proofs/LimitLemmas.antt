-- The lists of a grammar with a survey, and whether they are too long.
use Rattle.std.proofs.Common.{◌≡◌, ◌∙◌, sym, ap, ℕ, ◌+◌, ◌<◌, ◌⊎◌, inl, inr, ⊎_elim, Bool, true, false, IsTrue, ◌↔◌, List, ◌++◌, length, arith, Bor, Ok, Err}
use Rattle.std.proofs.lemmas.List.{length-map}
use Rattle.std.proofs.lemmas.Bool.{cases_lt}
use Rattle.std.proofs.lemmas.Result.{err_from_is_err_and}
use Rattle.std.specs.Result.{IsErrAnd, IsErrOf}
use Rattle.std.specs.declared.result.Result.{Result}
use Rattle.spec_tables.specs.Fit.{most_symbols, most_names}
use Rattle.ts_base.specs.Bytes.{Bytes}
use Rattle.ts_core.specs.declared.rule.Grammar.{Grammar}
use Rattle.ts_core.specs.declared.rule.Rule.{Rule}
use Rattle.ts_rules.specs.FileGrammar.{IsFileGrammar}
use Rattle.ts_rules.specs.FirstSights.{Not, AreFirstSights}
use Rattle.ts_rules.specs.Names.{told}
use Rattle.ts_rules.specs.Numbers.{Lists, AreLists, first_inlined}
use Rattle.ts_rules.specs.Sights.{walk, fields_in, precs_in, ranked_names}
use Rattle.ts_numbering.specs.Keys.{trees, rules_told}
use Rattle.ts_numbering.specs.Limits.{most_numbers, count_with_end, HasManySymbols, HasManyNames}
use Rattle.ts_numbering.specs.Numberings.{lists_with}
use Rattle.ts_numbering.specs.Surveys.{IsSurvey, IsInlinedRule}
use Rattle.ts_numbering.specs.declared.limits.NumberFault.{NumberFault}
use Rattle.ts_numbering.specs.declared.survey.Survey.{Survey}
use Rattle.ts_numbering.proofs.GrammarLemmas.{same_symbols, same_fields, same_precs, some_names}
use Rattle.ts_numbering.proofs.SurveyLemmas.{picks_few}

-- a survey and the names make the lists
pub lists_are : (g : Grammar) (s : Survey) (fields precs : List Bytes) → IsSurvey g s
    → AreFirstSights (fields_in (walk g)) fields → AreFirstSights (precs_in (walk g) ++ ranked_names g) precs → AreLists g (lists_with s fields precs)
lists_are g s fields precs is f p = record {
  tokens = is.tokens;
  rules = is.rules;
  contents = is.contents;
  inlined = is.inlined;
  fields = f;
  precs = p;
}

count_is : (s : Survey) (fields precs : List Bytes)
    → first_inlined (lists_with s fields precs) ≡ count_with_end (length s.tokens.keys) (length s.rules.entries) (length s.contents.keys)
count_is s fields precs =
    let t : length (trees s.tokens.keys) ≡ length s.tokens.keys = length-map s.tokens.keys (λ (tree : Bor Rule). tree.now) in
    let r : length (rules_told s.rules.entries) ≡ length s.rules.entries = length-map s.rules.entries (λ (entry : Bor Bytes × Bor Rule). (entry.0.now, entry.1.now)) in
    let c : length (trees s.contents.keys) ≡ length s.contents.keys = length-map s.contents.keys (λ (tree : Bor Rule). tree.now) in
    omega (arith, t, r, c)

-- whether there are too many symbols
pub symbols_test : (g : Grammar) (s : Survey) (b : Bool) → IsSurvey g s
    → IsTrue b ↔ (most_symbols < count_with_end (length s.tokens.keys) (length s.rules.entries) (length s.contents.keys))
    → IsTrue b ↔ HasManySymbols g
symbols_test g s b is h =
    let f = some_names (fields_in (walk g)) in
    let p = some_names (precs_in (walk g) ++ ranked_names g) in
    let x = lists_with s f.0 p.0 in
    let are : AreLists g x = lists_are g s f.0 p.0 is f.1 p.1 in
    let count = count_is s f.0 p.0 in (
      λ t. (x, are, let lt = h.0 t in omega (arith, count, lt)),
      λ m. h.1 (let lt = m.2 in let same = same_symbols g m.0 x m.1 are in omega (arith, count, same, lt)),
    )

-- whether there are too many names
pub names_test : (g : Grammar) (x : Lists) (fields precs : List (Bor Bytes)) (b : Bool) → AreLists g x → x.fields ≡ told fields → x.precs ≡ told precs
    → IsTrue b ↔ ((most_names < length fields) ⊎ (most_names < length precs))
    → IsTrue b ↔ HasManyNames g
names_test g x fields precs b are f p h = (
  λ t. (x, are, ⊎_elim (λ lt. inl (omega (arith, fields_are, lt))) (λ lt. inr (omega (arith, precs_are, lt))) (h.0 t)),
  λ m. h.1 (⊎_elim
      (λ lt. inl (let same = same_fields g m.0 x m.1 are in omega (arith, fields_are, same, lt)))
      (λ lt. inr (let same = same_precs g m.0 x m.1 are in omega (arith, precs_are, same, lt)))
      m.2),
)
  where
    fields_are : length x.fields ≡ length fields
    fields_are = ap (λ (names : List Bytes). length names) f ∙ length-map fields (λ (name : Bor Bytes). name.now)

    precs_are : length x.precs ≡ length precs
    precs_are = ap (λ (names : List Bytes). length names) p ∙ length-map precs (λ (name : Bor Bytes). name.now)

-- a test that fails
pub none_where : (P : Type 0) (b : Bool) → IsTrue b ↔ P → b ≡ false → Not P
none_where P b h f p = let e : true ≡ false = sym (h.1 p) ∙ f in cc

pub neither : (P Q : Type 0) → Not P → Not Q → P ↔ Q
neither P Q p q = (λ x. absurd (p x), λ y. absurd (q y))

-- where memory runs out there is no other fault
pub other_fault : {T : Type 0} (r : Result T NumberFault) → IsErrAnd r (λ (e : NumberFault). e ≡ NumberFault.Memory) → Not (IsErrOf r NumberFault.Symbols)
other_fault r h s =
    let p = err_from_is_err_and r h in
    let e : Err NumberFault.Memory ≡ Err NumberFault.Symbols = ap Err (sym p.2) ∙ sym p.1 ∙ s in
    cc

-- an error is the same beside values of any type
pub same_error : {T U : Type 0} (e f : NumberFault) → IsErrOf {T = T} (Err e) f → IsErrOf {T = U} (Err e) f
same_error {T = T} {U = U} e f s = let h : e ≡ f = ap (λ (r : Result T NumberFault). fault_in r) s in ap (λ (x : NumberFault). failed x) h
  where
    fault_in : Result T NumberFault → NumberFault
    fault_in (Ok x) = e
    fault_in (Err x) = x

    failed : NumberFault → Result U NumberFault
    failed x = Err x

-- with few symbols each has its number
pub few_symbols : (g : Grammar) (s : Survey) (fields precs : List Bytes) → IsFileGrammar g → IsSurvey g s → AreLists g (lists_with s fields precs) → Not (HasManySymbols g)
    → 1 + length s.tokens.keys + length s.rules.entries + length s.contents.keys + length s.inlined.entries < most_numbers
few_symbols g s fields precs file is are few =
    let count = count_is s fields precs in
    let low = picks_few (IsInlinedRule g) g.rules (rules_told s.inlined.entries) is.inlined in
    let i : length (rules_told s.inlined.entries) ≡ length s.inlined.entries = length-map s.inlined.entries (λ (entry : Bor Bytes × Bor Rule). (entry.0.now, entry.1.now)) in
    let rules = file.few_rules in
    ⊎_elim
    (λ lt. absurd (few (lists_with s fields precs, are, lt)))
    (λ ge. omega (arith, low, i, rules, count, ge))
    (cases_lt most_symbols (first_inlined (lists_with s fields precs)))

pub few_names : (g : Grammar) (s : Survey) (fields precs : List (Bor Bytes)) → AreLists g (lists_with s (told fields) (told precs)) → Not (HasManyNames g)
    → (length fields < most_numbers) × (length precs < most_numbers)
few_names g s fields precs are few =
    let x = lists_with s (told fields) (told precs) in
    let f : length (told fields) ≡ length fields = length-map fields (λ (name : Bor Bytes). name.now) in
    let p : length (told precs) ≡ length precs = length-map precs (λ (name : Bor Bytes). name.now) in (
      ⊎_elim (λ lt. absurd (few (x, are, inl lt))) (λ ge. omega (arith, f, ge)) (cases_lt most_names (length (told fields))),
      ⊎_elim (λ lt. absurd (few (x, are, inr lt))) (λ ge. omega (arith, p, ge)) (cases_lt most_names (length (told precs))),
    )
