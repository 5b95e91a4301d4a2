-- A grammar that a file of fewer than 2 ^ 32 bytes stands for is one of those that have a normal
-- form or a refusal.
use Rattle.std.proofs.Common.{arith, ◌≡◌, sym, ap, refl, subst, ℕ, zero, suc, ◌^◌, ◌<◌, ◌≤◌, true, false, List, [], ◌∷◌, ◌++◌, length, slice_get, Option, Some, None}
use Rattle.std.specs.Prelude.{All}
use Rattle.std.specs.List.{flat_map}
use Rattle.std.proofs.lemmas.List.Elements.{All-nil, All-cons, All-append, All-head, All-tail}
use Rattle.ts_base.specs.Bytes.{Bytes}
use Rattle.ts_ojson.specs.declared.value.OJson.{OJson}
use Rattle.ts_ojson.specs.Json.{Json, json_of, HasDistinctNames}
use Rattle.ts_ojson.specs.Reads.{Reads}
use Rattle.ts_core.specs.declared.rule.Rule.{Rule}
use Rattle.ts_core.specs.declared.rule.Ranked.{Ranked}
use Rattle.ts_core.specs.declared.rule.Ranked.TheVariants as ranked
use Rattle.ts_core.specs.declared.rule.Grammar.{Grammar}
use Rattle.spec_tables.specs.Fit.{IsShort, AreShort}
use Rattle.ts_rules.specs.FileGrammar.{HasShortEntry, HasShortWord, IsSmallSight, IsFileGrammar}
use Rattle.ts_rules.specs.Sights.{NamedRule, Sight, seen_rules, sights}
use Rattle.ts_grammar_json.specs.File.{IsGrammar}
use Rattle.ts_grammar_json.specs.WellFormed.{IsWellFormed}
use Rattle.ts_grammar_json.specs.ShortParts.{has_parts_within, ListWithin, TextWithin, EntryWithin, HasPartsWithin}
use Rattle.ts_front.proofs.SmallLemmas.{IsSmallTree, small_of}

all_at : {X : Type 0} (P : X → Type 0) (xs : List X) → ((k : ℕ) (x : X) → slice_get xs k ≡ Some x → P x) → All P xs
all_at P [] each = All-nil P
all_at P (x ∷ xs) each = All-cons P x xs (each zero x refl) (all_at P xs (λ k y at. each (suc k) y at))

trees_small : (trees : List Rule) → ((k : ℕ) (tree : Rule) → slice_get trees k ≡ Some tree → IsSmallTree tree) → All IsSmallSight (flat_map sights trees)
trees_small [] each = All-nil IsSmallSight
trees_small (tree ∷ trees) each = All-append IsSmallSight (sights tree) (flat_map sights trees) (each zero tree refl false) (trees_small trees (λ k t at. each (suc k) t at))

rules_small : (rules : List NamedRule) → ((k : ℕ) (rule : NamedRule) → slice_get rules k ≡ Some rule → IsSmallTree rule.1) → All IsSmallSight (seen_rules rules)
rules_small [] each = All-nil IsSmallSight
rules_small (rule ∷ rules) each = All-append IsSmallSight (sights rule.1) (seen_rules rules) (each zero rule refl false) (rules_small rules (λ k r at. each (suc k) r at))

short_text : (n : ℕ) → n < 2 ^ 32 → (text : Bytes) → TextWithin n text → IsShort text
short_text n lt text le = omega (arith, le, lt)

short_entry : (n : ℕ) → n < 2 ^ 32 → (entry : Ranked) → EntryWithin n entry → HasShortEntry entry
short_entry n lt (ranked.Name name) le = short_text n lt name le
short_entry n lt (ranked.Rule name) le = short_text n lt name le

all_so : {X : Type 0} (P Q : X → Type 0) → ((x : X) → P x → Q x) → (xs : List X) → All P xs → All Q xs
all_so P Q each [] all = All-nil Q
all_so P Q each (x ∷ xs) all = All-cons Q x xs (each x (All-head P x xs all)) (all_so P Q each xs (All-tail P x xs all))

short_list : {X : Type 0} (n : ℕ) (P Q : X → Type 0) → n < 2 ^ 32 → ((x : X) → P x → Q x) → (xs : List X) → ListWithin n P xs → IsShort xs × All Q xs
short_list n P Q lt each xs is = let le = is.0 in (omega (arith, le, lt), all_so P Q each xs is.1)

short_word : (n : ℕ) → n < 2 ^ 32 → (word : Option Bytes) → ((name : Bytes) → word ≡ Some name → TextWithin n name) → HasShortWord word
short_word n lt None each = tt
short_word n lt (Some name) each = short_text n lt name (each name refl)

file_by : (n : ℕ) (g : Grammar) → n < 2 ^ 32 → IsWellFormed g → HasPartsWithin n g → IsFileGrammar g
file_by n g lt formed parts =
    let few = parts.few_extras in
    record {
      some_rule = formed.some_rule;
      few_rules = formed.few_rules;
      apart = formed.apart;
      small = All-append IsSmallSight _ _
          (rules_small g.rules (λ k rule at. small_of n lt rule.1 (parts.trees k rule at) (formed.choices k rule at)))
          (trees_small g.extras (λ k tree at. small_of n lt tree (parts.extras k tree at) (formed.extras k tree at)));
      name = short_text n lt g.name parts.name;
      names = all_at (λ (rule : NamedRule). IsShort rule.0) g.rules (λ k rule at. short_text n lt rule.0 (parts.names k rule at));
      word = short_word n lt g.word parts.word;
      extras = omega (arith, few, lt);
      conflicts = short_list n (ListWithin n (TextWithin n)) AreShort lt (short_list n (TextWithin n) (λ (s : Bytes). IsShort s) lt (short_text n lt)) g.conflicts parts.conflicts;
      precedences = short_list n (ListWithin n (EntryWithin n)) (λ (entries : List Ranked). IsShort entries × All HasShortEntry entries) lt
          (short_list n (EntryWithin n) HasShortEntry lt (short_entry n lt)) g.precedences parts.precedences;
      inline = short_list n (TextWithin n) (λ (s : Bytes). IsShort s) lt (short_text n lt) g.inline parts.inline;
      supertypes = short_list n (TextWithin n) (λ (s : Bytes). IsShort s) lt (short_text n lt) g.supertypes parts.supertypes;
    }

pub file_grammar : ((g : Grammar) (value : Json) → HasDistinctNames value → IsGrammar value g → IsWellFormed g)
    → ((w : Bytes) (v : OJson) (g : Grammar) → Reads v w → IsGrammar (json_of v) g → HasPartsWithin (length w) g)
    → (w : Bytes) (v : OJson) (g : Grammar) → length w < 2 ^ 32 → Reads v w → IsGrammar (json_of v) g → IsFileGrammar g
file_grammar formed parts w v g lt reads is =
    file_by (length w) g lt (formed g (json_of v) reads.distinct is) (parts w v g reads is)
