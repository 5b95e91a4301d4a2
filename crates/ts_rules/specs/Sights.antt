-- What stands in rule trees, in preorder, and what is looked for there.
use Rattle.std.specs.Prelude.{Bool, true, false, List, [], ◌∷◌, ◌++◌, map}
use Rattle.std.specs.List.{flat_map}
use Rattle.ts_base.specs.Bytes.{Bytes}
use Rattle.ts_core.specs.declared.rule.PrecValue.{PrecValue}
use Rattle.ts_core.specs.declared.rule.PrecValue.TheVariants.{Number, Name}
use Rattle.ts_core.specs.declared.rule.Ranked.{Ranked}
use Rattle.ts_core.specs.declared.rule.Rule.{Rule}
use Rattle.ts_core.specs.declared.rule.Rule.TheOpen.{Rule-F}
use Rattle.ts_core.specs.declared.rule.Rule.TheViews.{out-Rule}
use Rattle.ts_core.specs.declared.rule.Rule.TheFolds.{para-Rule}
use Rattle.ts_core.specs.declared.rule.Grammar.{Grammar}
use Rattle.ts_rules.specs.declared.sights.Spot.{Spot}
use Rattle.ts_core.specs.declared.flat.Alias.{Alias}

-- a rule of a grammar file: its name and its tree
abbrev pub NamedRule : Type 0
NamedRule = Bytes × Rule

-- a tree that is seen, and whether it stands inside a token
pub record Sight : Type 0 where
  pub tree : Rule
  pub inside : Bool

-- ---- preorder

-- a tree, and what is seen below it once it is known whether that is inside a token
abbrev pub SeenBelow : Type 0
SeenBelow = Rule × (Bool → List Sight)

-- the tree itself, then what is below it
abbrev pub seen : SeenBelow → Bool → List Sight
seen child inside = record { tree = child.0; inside = inside } ∷ child.1 inside

-- one tree after another
abbrev pub seen_all : List SeenBelow → Bool → List Sight
seen_all [] inside = []
seen_all (child ∷ rest) inside = seen child inside ++ seen_all rest inside

-- what is below a tree; all below TOKEN and IMMEDIATE_TOKEN is inside a token
abbrev pub below_step : Rule-F SeenBelow → Bool → List Sight
below_step Rule-F.Blank inside = []
below_step (Rule-F.Literal text) inside = []
below_step (Rule-F.Pattern value ignore_case) inside = []
below_step (Rule-F.Symbol name) inside = []
below_step (Rule-F.Seq members) inside = seen_all members inside
below_step (Rule-F.Choice members) inside = seen_all members inside
below_step (Rule-F.Repeat content) inside = seen content inside
below_step (Rule-F.Repeat1 content) inside = seen content inside
below_step (Rule-F.Token content) inside = seen content true
below_step (Rule-F.ImmediateToken content) inside = seen content true
below_step (Rule-F.Field name content) inside = seen content inside
below_step (Rule-F.Alias content named value) inside = seen content inside
below_step (Rule-F.Prec value content) inside = seen content inside
below_step (Rule-F.PrecLeft value content) inside = seen content inside
below_step (Rule-F.PrecRight value content) inside = seen content inside
below_step (Rule-F.PrecDynamic value content) inside = seen content inside

-- the trees below a rule tree
abbrev pub below : Rule → Bool → List Sight
below = para-Rule (Bool → List Sight) below_step

-- the trees in a rule tree, itself first, in preorder
abbrev pub sights_within : Rule → Bool → List Sight
sights_within tree inside = record { tree = tree; inside = inside } ∷ below tree inside

-- a whole rule or extra stands in no token
abbrev pub sights : Rule → List Sight
sights tree = sights_within tree false

-- ---- the walk

-- what is seen in rules, one after another
abbrev pub seen_rules : List NamedRule → List Sight
seen_rules rules = flat_map (λ (rule : NamedRule). sights rule.1) rules

-- what is seen in the rules of a grammar, in file order
abbrev pub rule_sights : Grammar → List Sight
rule_sights g = seen_rules g.rules

-- what is seen in the extras of a grammar, in order
abbrev pub extra_sights : Grammar → List Sight
extra_sights g = flat_map sights g.extras

-- the rules in file order, each in preorder, then the extras in order
abbrev pub walk : Grammar → List Sight
walk g = rule_sights g ++ extra_sights g

-- ---- tokens

-- a STRING, PATTERN, TOKEN or IMMEDIATE_TOKEN
abbrev pub is_token_layer : {X : Type 0} → Rule-F X → Bool
is_token_layer Rule-F.Blank = false
is_token_layer (Rule-F.Literal text) = true
is_token_layer (Rule-F.Pattern value ignore_case) = true
is_token_layer (Rule-F.Symbol name) = false
is_token_layer (Rule-F.Seq members) = false
is_token_layer (Rule-F.Choice members) = false
is_token_layer (Rule-F.Repeat content) = false
is_token_layer (Rule-F.Repeat1 content) = false
is_token_layer (Rule-F.Token content) = true
is_token_layer (Rule-F.ImmediateToken content) = true
is_token_layer (Rule-F.Field name content) = false
is_token_layer (Rule-F.Alias content named value) = false
is_token_layer (Rule-F.Prec value content) = false
is_token_layer (Rule-F.PrecLeft value content) = false
is_token_layer (Rule-F.PrecRight value content) = false
is_token_layer (Rule-F.PrecDynamic value content) = false

-- whether the tree is a STRING, PATTERN, TOKEN or IMMEDIATE_TOKEN
abbrev pub is_token : Rule → Bool
is_token tree = is_token_layer (out-Rule tree)

-- the tree, where it is a token
abbrev pub if_token : Rule → Bool → List Rule
if_token tree true = tree ∷ []
if_token tree false = []

-- a token stands in no other token
abbrev pub token_at : Rule → Bool → List Rule
token_at tree true = []
token_at tree false = if_token tree (is_token tree)

-- all tokens that are seen, in order
abbrev pub tokens_in : List Sight → List Rule
tokens_in = flat_map (λ (sight : Sight). token_at sight.tree sight.inside)

-- ---- contents of REPEAT and REPEAT1 outside tokens

-- the content of a REPEAT or REPEAT1, and nothing of any other type
abbrev pub content_layer : Rule-F Rule → List Rule
content_layer (Rule-F.Repeat content) = content ∷ []
content_layer (Rule-F.Repeat1 content) = content ∷ []
content_layer layer = []

-- the same of a tree, and nothing where it stands inside a token
abbrev pub content_at : Rule → Bool → List Rule
content_at tree true = []
content_at tree false = content_layer (out-Rule tree)

-- all such contents that are seen, in order
abbrev pub contents_in : List Sight → List Rule
contents_in = flat_map (λ (sight : Sight). content_at sight.tree sight.inside)

-- ---- SYMBOLs

-- the name of a SYMBOL, and nothing of any other type
abbrev pub symbol_layer : Rule-F Rule → List Bytes
symbol_layer (Rule-F.Symbol name) = name ∷ []
symbol_layer layer = []

-- the names of all SYMBOLs that are seen, in order
abbrev pub symbols_in : List Sight → List Bytes
symbols_in = flat_map (λ (sight : Sight). symbol_layer (out-Rule sight.tree))

-- the name of a SYMBOL that stands inside a token
abbrev pub symbol_inside : Rule → Bool → List Bytes
symbol_inside tree true = symbol_layer (out-Rule tree)
symbol_inside tree false = []

-- the SYMBOLs that stand inside a token
abbrev pub symbols_inside : List Sight → List Bytes
symbols_inside = flat_map (λ (sight : Sight). symbol_inside sight.tree sight.inside)

-- ---- field names, aliases, precedence names, patterns

-- the name of a FIELD, and nothing of any other type
abbrev pub field_layer : Rule-F Rule → List Bytes
field_layer (Rule-F.Field name content) = name ∷ []
field_layer layer = []

-- the names of all FIELDs that are seen, in order
abbrev pub fields_in : List Sight → List Bytes
fields_in = flat_map (λ (sight : Sight). field_layer (out-Rule sight.tree))

-- the alias of a name, which is named or not
abbrev pub alias : Bytes → Bool → Alias
alias name named = record { name = name; named = named }

-- the alias of an ALIAS, and nothing of any other type
abbrev pub alias_layer : Rule-F Rule → List Alias
alias_layer (Rule-F.Alias content named value) = alias value named ∷ []
alias_layer layer = []

-- the aliases of all ALIASes that are seen, in order
abbrev pub aliases_in : List Sight → List Alias
aliases_in = flat_map (λ (sight : Sight). alias_layer (out-Rule sight.tree))

-- the name of a precedence, if it has one
abbrev pub name_in : PrecValue → List Bytes
name_in (Number value) = []
name_in (Name name) = name ∷ []

-- the name in a PREC, PREC_LEFT or PREC_RIGHT, if it has one
abbrev pub prec_layer : Rule-F Rule → List Bytes
prec_layer (Rule-F.Prec value content) = name_in value
prec_layer (Rule-F.PrecLeft value content) = name_in value
prec_layer (Rule-F.PrecRight value content) = name_in value
prec_layer layer = []

-- the names of all such precedences that are seen, in order
abbrev pub precs_in : List Sight → List Bytes
precs_in = flat_map (λ (sight : Sight). prec_layer (out-Rule sight.tree))

-- a pattern's source, and whether it has the flag i
abbrev pub Source : Type 0
Source = Bytes × Bool

-- the source of a PATTERN, and nothing of any other type
abbrev pub pattern_layer : Rule-F Rule → List Source
pattern_layer (Rule-F.Pattern value ignore_case) = (value, ignore_case) ∷ []
pattern_layer layer = []

-- the sources of all PATTERNs that are seen, in order
abbrev pub patterns_in : List Sight → List Source
patterns_in = flat_map (λ (sight : Sight). pattern_layer (out-Rule sight.tree))

-- ---- the names and the rules in the orderings of precedences

-- the name of an entry, where it is a precedence name
abbrev pub ranked_name : Ranked → List Bytes
ranked_name (Ranked.Name name) = name ∷ []
ranked_name (Ranked.Rule name) = []

-- the name of an entry, where it is a rule
abbrev pub ranked_rule : Ranked → List Bytes
ranked_rule (Ranked.Name name) = []
ranked_rule (Ranked.Rule name) = name ∷ []

-- the precedence names of all orderings
abbrev pub names_ranked : List (List Ranked) → List Bytes
names_ranked lists = flat_map (λ (entries : List Ranked). flat_map ranked_name entries) lists

-- the precedence names in all orderings of a grammar
abbrev pub ranked_names : Grammar → List Bytes
ranked_names g = names_ranked g.precedences

-- the rules of all orderings
abbrev pub rules_ranked : List (List Ranked) → List Bytes
rules_ranked lists = flat_map (λ (entries : List Ranked). flat_map ranked_rule entries) lists

-- the rules in all orderings of a grammar
abbrev pub ranked_rules : Grammar → List Bytes
ranked_rules g = rules_ranked g.precedences

-- ---- as the code lists them

-- a tree that the code sees, and whether it stands inside a token
abbrev pub sight_of : Spot → Sight
sight_of spot = record { tree = spot.tree.now; inside = spot.inside }

-- all trees that the code sees, in order
abbrev pub seen_trees : List Spot → List Sight
seen_trees = map sight_of

-- what is seen in trees, one after another
abbrev pub all_seen : List Rule → Bool → List Sight
all_seen trees inside = flat_map (λ (tree : Rule). sights_within tree inside) trees
