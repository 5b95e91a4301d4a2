-- The kinds that nodes of a grammar can have, and lists by first sight.
use Rattle.std.specs.Prelude.{Bool, true, false, ◌&&◌, List, [], ◌∷◌, ◌++◌, Option, Some, None, fold}
use Rattle.std.specs.List.{flat_map}
use Rattle.std.specs.Bool.{beq}
use Rattle.std.specs.Str.{bytes_eq}
use Rattle.indexmap.specs.IndexSet.{insert_key}
use Rattle.ts_base.specs.Bytes.{Bytes}
use Rattle.ts_core.specs.declared.flat.Alias.{Alias}
use Rattle.ts_core.specs.declared.flat.Step.{Step}
use Rattle.ts_core.specs.declared.flat.Production.{Production}
use Rattle.ts_core.specs.declared.flat.FlatRule.{FlatRule}
use Rattle.ts_core.specs.declared.flat.TokenDef.{TokenDef}
use Rattle.ts_core.specs.declared.flat.FlatGrammar.{FlatGrammar}
use Rattle.ts_core.specs.declared.symbol.Kind.{Kind}
use Rattle.ts_core.specs.declared.symbol.Kind.TheVariants.{Named, Anonymous, Hidden}
use Rattle.ts_query_names.specs.Mentions.{KindName}

-- ---- lists by first sight

-- the list has each of its values once, with these more: one that is there already is left out
abbrev pub with_new : {X : Type 0} → (X → X → Bool) → List X → List X → List X
with_new eq found seen = fold (insert_key eq) found seen

-- what was seen, each once, in the order of first sight
abbrev pub first_sights : {X : Type 0} → (X → X → Bool) → List X → List X
first_sights eq seen = with_new eq [] seen

-- two kinds are one: both have the same name, and both are named or neither is
abbrev pub kind_eq : KindName → KindName → Bool
kind_eq k l = bytes_eq k.0 l.0 && beq k.1 l.1

-- ---- the kinds of a grammar

-- the kind of a symbol's nodes that have no alias
abbrev pub own_kind : Bytes → Kind → List KindName
own_kind name Named = (name, true) ∷ []
own_kind name Anonymous = (name, false) ∷ []
own_kind name Hidden = []

-- the kind of an alias, if there is one
abbrev pub alias_kind : Option Alias → List KindName
alias_kind None = []
alias_kind (Some alias) = (alias.name, alias.named) ∷ []

-- the kinds of the aliases in a production
abbrev pub production_kinds : Production → List KindName
production_kinds production = flat_map (λ (step : Step). alias_kind step.alias) production.steps

-- of a rule and of the aliases in it
abbrev pub rule_kinds : FlatRule → List KindName
rule_kinds rule = own_kind rule.name rule.kind ++ flat_map production_kinds rule.productions

-- the kind of a token's nodes
abbrev pub token_kind : TokenDef → List KindName
token_kind token = own_kind token.name token.kind

-- the root shows under its rule's name, also where that rule is hidden
abbrev pub root_kind : List FlatRule → List KindName
root_kind [] = []
root_kind (rule ∷ rules) = (rule.name, true) ∷ []

-- the kinds that nodes can have, also those of rules that the start rule does not come to
abbrev pub grammar_kinds : FlatGrammar → List KindName
grammar_kinds g =
    flat_map token_kind g.tokens ++ (root_kind g.rules ++ flat_map rule_kinds g.rules)
