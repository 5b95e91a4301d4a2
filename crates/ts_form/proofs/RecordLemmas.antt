-- Two records are equal where each field is.
use Rattle.std.proofs.Common.{◌≡◌, ℤ, Bool, List, Option}
use Rattle.ts_base.specs.Bytes.{Bytes}
use Rattle.ts_core.specs.declared.flat.Entry.{Entry}
use Rattle.ts_core.specs.declared.flat.FlatGrammar.{FlatGrammar}
use Rattle.ts_core.specs.declared.flat.FlatRule.{FlatRule}
use Rattle.ts_core.specs.declared.flat.Production.{Production}
use Rattle.ts_core.specs.declared.flat.TokenDef.{TokenDef}
use Rattle.ts_core.specs.declared.re.Re.{Re}
use Rattle.ts_core.specs.declared.rule.Rule.{Rule}
use Rattle.ts_core.specs.declared.symbol.Kind.{Kind}
use Rattle.ts_core.specs.declared.symbol.Symbol.{Symbol}
use Rattle.ts_rules.specs.Numbers.{Lists}
use Rattle.ts_rules.specs.Sights.{NamedRule}

-- ---- tokens

token : (name : Bytes) (kind : Kind) (re : Re) (prec : ℤ) (literal immediate keyword : Bool) → TokenDef
token name kind re prec literal immediate keyword = record { name = name; kind = kind; re = re; prec = prec; literal = literal; immediate = immediate; keyword = keyword }

token_made : (a b : TokenDef) → a.name ≡ b.name → a.kind ≡ b.kind → a.re ≡ b.re → a.prec ≡ b.prec → a.literal ≡ b.literal → a.immediate ≡ b.immediate → a.keyword ≡ b.keyword
    → token a.name a.kind a.re a.prec a.literal a.immediate a.keyword ≡ token b.name b.kind b.re b.prec b.literal b.immediate b.keyword
token_made a b name kind re prec literal immediate keyword = cc

pub same_token : (a b : TokenDef) → a.name ≡ b.name → a.kind ≡ b.kind → a.re ≡ b.re → a.prec ≡ b.prec → a.literal ≡ b.literal → a.immediate ≡ b.immediate → a.keyword ≡ b.keyword → a ≡ b
unfolding token
same_token a b name kind re prec literal immediate keyword = token_made a b name kind re prec literal immediate keyword

-- ---- rules

flat_rule : (name : Bytes) (kind : Kind) (owner : Symbol) (productions : List Production) → FlatRule
flat_rule name kind owner productions = record { name = name; kind = kind; owner = owner; productions = productions }

rule_made : (a b : FlatRule) → a.name ≡ b.name → a.kind ≡ b.kind → a.owner ≡ b.owner → a.productions ≡ b.productions
    → flat_rule a.name a.kind a.owner a.productions ≡ flat_rule b.name b.kind b.owner b.productions
rule_made a b name kind owner productions = cc

pub same_rule : (a b : FlatRule) → a.name ≡ b.name → a.kind ≡ b.kind → a.owner ≡ b.owner → a.productions ≡ b.productions → a ≡ b
unfolding flat_rule
same_rule a b name kind owner productions = rule_made a b name kind owner productions

-- ---- lists behind numbers

lists : (tokens : List Rule) (rules : List NamedRule) (contents : List Rule) (inlined : List NamedRule) (fields precs : List Bytes) → Lists
lists tokens rules contents inlined fields precs = record { tokens = tokens; rules = rules; contents = contents; inlined = inlined; fields = fields; precs = precs }

lists_made : (a b : Lists) → a.tokens ≡ b.tokens → a.rules ≡ b.rules → a.contents ≡ b.contents → a.inlined ≡ b.inlined → a.fields ≡ b.fields → a.precs ≡ b.precs
    → lists a.tokens a.rules a.contents a.inlined a.fields a.precs ≡ lists b.tokens b.rules b.contents b.inlined b.fields b.precs
lists_made a b tokens rules contents inlined fields precs = cc

pub same_lists : (a b : Lists) → a.tokens ≡ b.tokens → a.rules ≡ b.rules → a.contents ≡ b.contents → a.inlined ≡ b.inlined → a.fields ≡ b.fields → a.precs ≡ b.precs → a ≡ b
unfolding lists
same_lists a b tokens rules contents inlined fields precs = lists_made a b tokens rules contents inlined fields precs

-- ---- whole grammars

flat : (name : Bytes) (tokens : List TokenDef) (rules : List FlatRule) (separators : List Re) (extras : List Symbol) (word : Option Symbol) (fields precs : List Bytes) (conflicts : List (List Symbol))
    (precedences : List (List Entry)) (supertypes : List Symbol) → FlatGrammar
flat name tokens rules separators extras word fields precs conflicts precedences supertypes = record {
  name = name;
  tokens = tokens;
  rules = rules;
  separators = separators;
  extras = extras;
  word = word;
  fields = fields;
  precs = precs;
  conflicts = conflicts;
  precedences = precedences;
  supertypes = supertypes;
}

flat_made : (a b : FlatGrammar) → a.name ≡ b.name → a.tokens ≡ b.tokens → a.rules ≡ b.rules → a.separators ≡ b.separators → a.extras ≡ b.extras → a.word ≡ b.word → a.fields ≡ b.fields → a.precs ≡ b.precs
    → a.conflicts ≡ b.conflicts → a.precedences ≡ b.precedences → a.supertypes ≡ b.supertypes
    → flat a.name a.tokens a.rules a.separators a.extras a.word a.fields a.precs a.conflicts a.precedences a.supertypes
    ≡ flat b.name b.tokens b.rules b.separators b.extras b.word b.fields b.precs b.conflicts b.precedences b.supertypes
flat_made a b name tokens rules separators extras word fields precs conflicts precedences supertypes = cc

pub same_flat : (a b : FlatGrammar) → a.name ≡ b.name → a.tokens ≡ b.tokens → a.rules ≡ b.rules → a.separators ≡ b.separators → a.extras ≡ b.extras → a.word ≡ b.word → a.fields ≡ b.fields → a.precs ≡ b.precs
    → a.conflicts ≡ b.conflicts → a.precedences ≡ b.precedences → a.supertypes ≡ b.supertypes → a ≡ b
unfolding flat
same_flat a b name tokens rules separators extras word fields precs conflicts precedences supertypes = flat_made a b name tokens rules separators extras word fields precs conflicts precedences supertypes
