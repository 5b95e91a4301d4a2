-- Queries may be asked on several threads at once: what they are made of may be shared by threads. A
-- type that stands behind a list has a lemma, and so has each part of a regular expression.
use denote.Param.Send.{IsSync, sendable}
use Rattle.std.proofs.Crossing.{crosses}
use Rattle.std.proofs.MapsCrossing.{crosses as maps}
use Rattle.regex_nfa.specs.contracts.state.State as state
use Rattle.regex_nfa.specs.contracts.nfa.Nfa as nfa
use Rattle.regex_dfa.specs.contracts.dfa.Dfa as dfa
use Rattle.regex_hir.specs.contracts.hir.Hir as hir
use Rattle.regex_hir.proofs.hir.Hir.TheLaws.TheKnot.{crosses as hirs}
use Rattle.regex_meta.specs.contracts.plan.Plans as plans
use Rattle.regex_meta.specs.contracts.signs.Signs as signs
use Rattle.regex_meta.specs.contracts.program.Program as program
use Rattle.regex.specs.contracts.pattern.Pattern as pattern
use Rattle.regex.specs.contracts.string.regex.Regex as regex
use Rattle.ts_base.specs.contracts.text.Str as str
use Rattle.ts_core.specs.contracts.re.Re as re
use Rattle.ts_core.proofs.re.Re.TheLaws.TheKnot.{crosses as expressions}
use Rattle.ts_core.specs.contracts.symbol.Symbol as symbol
use Rattle.ts_core.specs.contracts.flat.TokenDef as token
use Rattle.ts_core.specs.contracts.flat.Step as step
use Rattle.ts_core.specs.contracts.flat.Production as production
use Rattle.ts_core.specs.contracts.flat.FlatRule as rule
use Rattle.ts_core.specs.contracts.flat.Entry as entry
use Rattle.ts_core.specs.contracts.flat.FlatGrammar as grammar
use Rattle.ts_query_syntax.specs.contracts.read_query.Item as item
use Rattle.ts_query_syntax.proofs.read_query.Item.TheLaws.TheKnot.{crosses as items}
use Rattle.ts_query_syntax.specs.contracts.read_query.Predicate as predicate
use Rattle.ts_query_syntax.specs.contracts.read_query.QueryKind as kind
use Rattle.ts_query_syntax.specs.contracts.read_query.Pattern as query_pattern
use Rattle.ts_query_syntax.specs.contracts.read_query.ReadQuery as query

-- ---- a regular expression

state_sync : IsSync (state.the_field).row
state_sync = search (sendable, crosses, maps) depth 30 fits 100000

nfa_sync : IsSync (nfa.the_field).row
nfa_sync = let a = state_sync in search (sendable, crosses, maps) depth 30 fits 100000

dfa_sync : IsSync (dfa.the_field).row
dfa_sync = let a = nfa_sync in search (sendable, crosses, maps) depth 30 fits 100000

hir_sync : IsSync (hir.the_field).row
hir_sync = search (sendable, crosses, maps, hirs) depth 30 fits 100000

plans_sync : IsSync (plans.the_field).row
plans_sync = let a = hir_sync in search (sendable, crosses, maps) depth 60 fits 100000

signs_sync : IsSync (signs.the_field).row
signs_sync = let a = hir_sync in search (sendable, crosses, maps) depth 60 fits 100000

program_sync : IsSync (program.the_field).row
program_sync = let a = dfa_sync in let b = hir_sync in let c = plans_sync in let d = signs_sync in search (sendable, crosses, maps) depth 30 fits 100000

pattern_sync : IsSync (pattern.the_field).row
pattern_sync = let a = program_sync in search (sendable, crosses, maps) depth 30 fits 100000

regex_sync : IsSync (regex.the_field).row
regex_sync = let a = pattern_sync in search (sendable, crosses, maps) depth 30 fits 100000

-- ---- a query

str_sync : IsSync str.the_row
str_sync = search (sendable, crosses, maps) depth 12

item_sync : IsSync item.the_row
item_sync = search (sendable, crosses, maps, items) depth 30 fits 100000

predicate_sync : IsSync predicate.the_row
predicate_sync = search (regex_sync, str_sync, sendable, crosses) depth 30 fits 5000

kind_sync : IsSync kind.the_row
kind_sync = search (str_sync, sendable, crosses) depth 12

query_pattern_sync : IsSync query_pattern.the_row
query_pattern_sync = search (item_sync, predicate_sync, sendable, crosses) depth 30 fits 5000

pub query_sync : IsSync query.the_row
query_sync = search (query_pattern_sync, kind_sync, str_sync, sendable, crosses) depth 30 fits 5000

-- ---- a grammar

re_sync : IsSync re.the_row
re_sync = search (sendable, crosses, maps, expressions) depth 30 fits 100000

re_field_sync : IsSync (re.the_field).row
re_field_sync = search (sendable, crosses, maps, expressions) depth 30 fits 100000

token_sync : IsSync token.the_row
token_sync = let a = re_field_sync in search (str_sync, sendable, crosses, maps) depth 30 fits 100000

step_sync : IsSync step.the_row
step_sync = search (str_sync, sendable, crosses) depth 30 fits 5000

production_sync : IsSync production.the_row
production_sync = search (step_sync, sendable, crosses) depth 30 fits 5000

rule_sync : IsSync rule.the_row
rule_sync = search (production_sync, str_sync, sendable, crosses) depth 30 fits 5000

entry_sync : IsSync entry.the_row
entry_sync = search (sendable, crosses) depth 30 fits 5000

symbol_sync : IsSync symbol.the_row
symbol_sync = search (sendable, crosses) depth 30 fits 5000

pub grammar_sync : IsSync grammar.the_row
grammar_sync = search (token_sync, rule_sync, re_sync, symbol_sync, str_sync, entry_sync, sendable, crosses) depth 30 fits 5000
