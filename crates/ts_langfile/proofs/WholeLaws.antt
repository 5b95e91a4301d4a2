-- A whole grammar: what later bytes tell of it is known, and so it is read by its own fields.
use Rattle.std.proofs.Common.{◌≡◌, refl, sym, ◌∙◌, ap, subst, ℕ, zero, suc, ◌+◌, Bool, true, false, not, ◌&&◌, ◌||◌, List, [], ◌∷◌, ◌++◌, length, Option, Some, None, is_some, Ok, append_assoc, arith}
use Rattle.std.specs.List.{flat_map, AllByRecursion}
use Rattle.ts_base.specs.Bytes.{Bytes}
use Rattle.ts_core.specs.declared.flat.Alias.{Alias}
use Rattle.ts_core.specs.declared.flat.FlatGrammar.{FlatGrammar}
use Rattle.ts_core.specs.declared.flat.FlatRule.{FlatRule}
use Rattle.ts_core.specs.declared.flat.Prec.{Prec}
use Rattle.ts_core.specs.declared.flat.Production.{Production}
use Rattle.ts_core.specs.declared.flat.Step.{Step}
use Rattle.ts_core.specs.declared.flat.TokenDef.{TokenDef}
use Rattle.spec_tables.specs.Fit.{IfThere, symbols_of, most_productions}
use Rattle.ts_langfile.specs.declared.known.Known.{Known}
use Rattle.ts_langfile.specs.Spelling.{joined, text, number32, listed, symbol, entry, supertypes, fields}
use Rattle.ts_langfile.specs.Parts.{may_name, may_have_word, may_be_keyword, left_after}
use Rattle.ts_langfile.specs.Reading.{head_at, to_fields_at, to_precs_at, fields_at, nothing_known, known_in, judged_at}
use Rattle.ts_langfile.specs.Right.{InTurn, IsName, RightPrec, RightStep, RightProduction, RightRule, RightToken, RightBy, known_of, Right}
use Rattle.ts_langfile.proofs.LawLemmas.{AreBytes, Took, Law}
use Rattle.ts_langfile.proofs.PartLaws.{inner_of}
use Rattle.ts_langfile.proofs.GrammarLaws.{head_spelled, to_fields_spelled, to_precs_spelled, RightHead, RightToFields, RightToPrecs, RightGrammar, head_law, to_fields_law, to_precs_law, fields_law, head_in, to_fields_in, to_precs_in, natural, regrouped}

-- ---- the same by fewer points

all_weaker : {A : Type 0} (P Q : A → Type 0) → ((x : A) → P x → Q x) → (xs : List A) → AllByRecursion P xs → AllByRecursion Q xs
all_weaker P Q weaker [] all = tt
all_weaker P Q weaker (x ∷ xs) all = (weaker x all.0, all_weaker P Q weaker xs all.1)

turn_weaker : {S A : Type 0} (P Q : S → A → Type 0) (after : S → A → S) → ((s : S) (x : A) → P s x → Q s x) → (s : S) (xs : List A) → InTurn P after s xs → InTurn Q after s xs
turn_weaker P Q after weaker s [] all = tt
turn_weaker P Q after weaker s (x ∷ xs) all = (weaker s x all.0, turn_weaker P Q after weaker (after s x) xs all.1)

if_weaker : {A : Type 0} (P Q : A → Type 0) → ((x : A) → P x → Q x) → (o : Option A) → IfThere P o → IfThere Q o
if_weaker P Q weaker None right = tt
if_weaker P Q weaker (Some x) right = weaker x right

name_weaker : (count : Option ℕ) (n : ℕ) → IsName count n → IsName None n
name_weaker count n right = (right.0, refl)

keyword_weaker : (word : Option Bool) (literal keyword : Bool) → (not keyword || (literal && may_have_word word)) ≡ true → (not keyword || (literal && true)) ≡ true
keyword_weaker word literal false right = refl
keyword_weaker word true true right = refl
keyword_weaker word false true right = absurd cc

token_weaker : (known : Known) (d : TokenDef) → RightToken known d → RightToken nothing_known d
token_weaker known d right = record { name = right.name; re = right.re; prec = right.prec; keyword = keyword_weaker known.word d.literal d.keyword right.keyword }

prec_weaker : (known : Known) (p : Prec) → RightPrec known p → RightPrec nothing_known p
prec_weaker known Prec.Absent right = tt
prec_weaker known (Prec.Number value) right = right
prec_weaker known (Prec.Name name) right = name_weaker known.precs name right

step_weaker : (symbols : ℕ) (known : Known) (s : Step) → RightStep symbols known s → RightStep symbols nothing_known s
step_weaker symbols known s right = record {
  symbol = right.symbol;
  prec = prec_weaker known s.prec right.prec;
  alias = right.alias;
  field = if_weaker (IsName known.fields) (IsName None) (name_weaker known.fields) s.field right.field;
}

production_weaker : (symbols : ℕ) (known : Known) (p : Production) → RightProduction symbols known p → RightProduction symbols nothing_known p
production_weaker symbols known p right = (right.0, right.1, all_weaker (RightStep symbols known) (RightStep symbols nothing_known) (step_weaker symbols known) p.steps right.2)

rule_weaker : (symbols : ℕ) (known : Known) (left : ℕ) (r : FlatRule) → RightRule symbols known left r → RightRule symbols nothing_known left r
rule_weaker symbols known left r right = record {
  name = right.name;
  owner = right.owner;
  few = right.few;
  productions = all_weaker (RightProduction symbols known) (RightProduction symbols nothing_known) (production_weaker symbols known) r.productions right.productions;
}

by_weaker : (version : ℕ) (known : Known) (f : FlatGrammar) → RightBy version known f → RightBy version nothing_known f
by_weaker version known f right = record {
  name = right.name;
  few_tokens = right.few_tokens;
  tokens = all_weaker (RightToken known) (RightToken nothing_known) (token_weaker known) f.tokens right.tokens;
  few_rules = right.few_rules;
  rules = turn_weaker (λ (left : ℕ). RightRule (symbols_of f) known left) (λ (left : ℕ). RightRule (symbols_of f) nothing_known left) left_after (rule_weaker (symbols_of f) known) most_productions f.rules right.rules;
  separators = right.separators;
  extras = right.extras;
  word = right.word;
  few_fields = right.few_fields;
  fields = right.fields;
  few_precs = right.few_precs;
  precs = right.precs;
  conflicts = right.conflicts;
  precedences = right.precedences;
  supertypes = right.supertypes;
}

-- ---- the fields in the order of the file

head_right : (version : ℕ) (known : Known) (f : FlatGrammar) → RightBy version known f → RightHead known (head_in f)
head_right version known f right = record { name = right.name; few_tokens = right.few_tokens; tokens = right.tokens; few_rules = right.few_rules; rules = right.rules; separators = right.separators; extras = right.extras }

to_fields_right : (version : ℕ) (known : Known) (f : FlatGrammar) → RightBy version known f → RightToFields known (to_fields_in f)
to_fields_right version known f right = record { head = head_right version known f right; word = (refl, right.word); count = right.few_fields }

to_precs_right : (version : ℕ) (known : Known) (f : FlatGrammar) → RightBy version known f → RightToPrecs known (to_precs_in f)
to_precs_right version known f right = record { before = to_fields_right version known f right; fields = (refl, right.fields); count = right.few_precs }

grammar_right : (version : ℕ) (known : Known) (f : FlatGrammar) → RightBy version known f → RightGrammar version known f
grammar_right version known f right = record { before = to_precs_right version known f right; precs = right.precs; conflicts = right.conflicts; precedences = right.precedences; supertypes = right.supertypes }

right_grammar : (version : ℕ) (known : Known) (f : FlatGrammar) → RightGrammar version known f → RightBy version known f
right_grammar version known f right =
    let to_precs = right.before in
    let to_fields = to_precs.before in
    let head = to_fields.head in
    record {
      name = head.name;
      few_tokens = head.few_tokens;
      tokens = head.tokens;
      few_rules = head.few_rules;
      rules = head.rules;
      separators = head.separators;
      extras = head.extras;
      word = to_fields.word.1;
      few_fields = to_fields.count;
      fields = to_precs.fields.1;
      few_precs = to_precs.count;
      precs = right.precs;
      conflicts = right.conflicts;
      precedences = right.precedences;
      supertypes = right.supertypes;
    }

-- ---- what later bytes tell

known_is : (version : ℕ) (f : FlatGrammar) (rest : Bytes) → RightBy version nothing_known f → known_in (fields version f ++ rest) ≡ known_of f
unfolding known_in natural
known_is version f rest right =
    let more : Bytes = joined (flat_map text f.precs ∷ listed (listed symbol) f.conflicts ∷ listed (listed entry) f.precedences ∷ supertypes version f.supertypes ∷ []) in
    let names : Bytes = joined (flat_map text f.fields ∷ number32 (length f.precs) ∷ []) in
    let word : Bytes = joined (inner_of symbol f.word ∷ number32 (length f.fields) ∷ []) in
    let precs : fields version f ++ rest ≡ to_precs_spelled (to_precs_in f) ++ (more ++ rest) = ap (λ (b : Bytes). b ++ rest) (sym (regrouped version f)) ∙ append_assoc (to_precs_spelled (to_precs_in f)) more rest in
    let counts : fields version f ++ rest ≡ to_fields_spelled (to_fields_in f) ++ (names ++ (more ++ rest)) = precs ∙ append_assoc (to_fields_spelled (to_fields_in f)) names (more ++ rest) in
    let heads : fields version f ++ rest ≡ head_spelled (head_in f) ++ (word ++ (names ++ (more ++ rest))) = counts ∙ append_assoc (head_spelled (head_in f)) word (names ++ (more ++ rest)) in
    let one : head_at nothing_known (fields version f ++ rest) ≡ Ok (head_in f, word ++ (names ++ (more ++ rest))) = ap (head_at nothing_known) heads ∙ (head_law nothing_known).again (head_in f) (word ++ (names ++ (more ++ rest))) (head_right version nothing_known f right) in
    let two : to_fields_at nothing_known (fields version f ++ rest) ≡ Ok (to_fields_in f, names ++ (more ++ rest)) = ap (to_fields_at nothing_known) counts ∙ (to_fields_law nothing_known).again (to_fields_in f) (names ++ (more ++ rest)) (to_fields_right version nothing_known f right) in
    let three : to_precs_at nothing_known (fields version f ++ rest) ≡ Ok (to_precs_in f, more ++ rest) = ap (to_precs_at nothing_known) precs ∙ (to_precs_law nothing_known).again (to_precs_in f) (more ++ rest) (to_precs_right version nothing_known f right) in
    rw (one, two, three) refl

-- ---- both directions

pub judged_takes : (version : ℕ) (bytes : Bytes) (f : FlatGrammar) (rest : Bytes) → AreBytes bytes → judged_at version bytes ≡ Ok (f, rest) → (bytes ≡ fields version f ++ rest) × Right version f
judged_takes version bytes f rest are e =
    let taken = (fields_law version (known_in bytes)).takes bytes f rest are e in
    let right = right_grammar version (known_in bytes) f taken.1 in
    let known : known_in bytes ≡ known_of f = ap known_in taken.0.parts ∙ known_is version f rest (by_weaker version (known_in bytes) f right) in
    (taken.0.parts, subst (λ (known : Known). RightBy version known f) known right)

pub judged_again : (version : ℕ) (f : FlatGrammar) (rest : Bytes) → Right version f → judged_at version (fields version f ++ rest) ≡ Ok (f, rest)
judged_again version f rest right =
    let known : known_in (fields version f ++ rest) ≡ known_of f = known_is version f rest (by_weaker version (known_of f) f right) in
    subst (λ (known : Known). fields_at version known (fields version f ++ rest) ≡ Ok (f, rest)) (sym known) ((fields_law version (known_of f)).again f rest (grammar_right version (known_of f) f right))
