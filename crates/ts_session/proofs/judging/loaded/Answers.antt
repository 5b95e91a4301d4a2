use Rattle.std.proofs.Common.{◌≡◌, ◌∙◌, sym, ap, subst, refl, ℕ, inl, inr, ◌≤◌, ◌^◌, All, List, length, Some, None, string_bytes, arith}
use Rattle.spec_output.specs.Faults.{absent_line}
use Rattle.spec_output.specs.GrammarFaults.{limit_line}
use Rattle.spec_output.specs.declared.status.Status.TheVariants.{Grammar, Query, Script, Absent, Text}
use Rattle.ts_base.specs.Bytes.{Bytes}
use Rattle.ts_core.specs.declared.flat.FlatGrammar.{FlatGrammar}
use Rattle.ts_core.specs.declared.limits.Limited.TheVariants.{File}
use Rattle.ts_front.specs.Compiled.{IsUncompiled}
use Rattle.ts_io.specs.Outside.{Files, file_at}
use Rattle.ts_io.specs.Read.{AnswersFor}
use Rattle.ts_loading.specs.Loads.{AreQueries, HasLoadCause, GrewByEach}
use Rattle.ts_query_syntax.specs.Refusals.{HasRisen}
use Rattle.ts_script.specs.Rules.{most_script_bytes}
use Rattle.ts_script.specs.Script.{IsScript, too_large}
use Rattle.ts_script.specs.declared.fault.SFault.TheVariants.{Limit}
use Rattle.ts_script.specs.declared.plan.Source.{Source}
use Rattle.ts_session.specs.Documents.{IsMissing, IsRefused, AreOpened}
use Rattle.ts_session.specs.Firsts.{IsFoundAt, AreFirsts, AreLookedAt, AreOpenings}
use Rattle.ts_session.specs.Grammars.{Builds}
use Rattle.ts_session.specs.Limits.{most_file_bytes}
use Rattle.ts_session.specs.Opened.{OpensAs, HasReadQueries}
use Rattle.ts_session.specs.Parts.{AsksFor, HasScript, IsParts, AreParts}
use Rattle.ts_session.specs.Replays.{IsJudged}
use Rattle.ts_session.specs.Refusals.{RefusesPlan, missing, no_text, no_script, large_grammar, no_grammar, grammar_absent, script_absent}
use Rattle.ts_session.specs.Sessions.{IsAsked}
use Rattle.ts_session.specs.declared.opened.Opened.{Opened}
use Rattle.ts_session.proofs.FirstLemmas.{firsts_are_files}
use Rattle.ts_session.proofs.JudgeLemmas.{moved, ok_then, over, no_memory}
use Rattle.ts_session.proofs.OpenedLemmas.{refuses_bytes, refuses_script, refuses_plan, refused_as, not_loaded, parts_opened, parts_whole, same_loaded, same_read, exact_of, complete_of}
use Rattle.ts_session.proofs.ScriptLemmas.{IsShort, queries_short, queries_few}
use Rattle.ts_session.proofs.judging.loaded.Goals as goal

pub load-requires-clause-short : goal.load-requires-clause-short
load-requires-clause-short g c = subst (All IsShort) (sym c.as_slice.ensures) (queries_short c.requires.script.0 c.args.plan.now c.requires.script.1)

pub load-requires-clause-few : goal.load-requires-clause-few
load-requires-clause-few g c =
    let few = queries_few c.requires.script.0 c.args.plan.now c.requires.script.1 in
    let same : length c.as_slice.result.now ≡ length c.args.plan.now.queries = ap length c.as_slice.ensures in
    omega (arith, few, same)

pub load-requires-clause-few_fields : goal.load-requires-clause-few_fields
load-requires-clause-few_fields g c =
    let is = c.stands.ensures in
    let fit = is.fit in
    let few = fit.few_fields in
    let same : length c.grammar.result.now.fields ≡ length c.args.table.now.grammar.fields = ap (λ (f : FlatGrammar). length f.fields) c.grammar.ensures in
    omega (arith, few, same)

pub returns-in_ok-with_texts-in-Ok-clause-parts : goal.returns-in_ok-with_texts-in-Ok-clause-parts
returns-in_ok-with_texts-in-Ok-clause-parts g c = λ files path other a are.
    let loaded : AreQueries c.args.table.now.grammar c.args.names.now c.args.plan.now.queries c.in-Ok.queries = subst (λ (f : FlatGrammar). AreQueries f c.args.names.now c.args.plan.now.queries c.in-Ok.queries) c.grammar.ensures (subst (λ (ws : List Bytes). AreQueries c.grammar.result.now c.args.names.now ws c.in-Ok.queries) c.as_slice.ensures c.in-Ok.ensures.loaded) in
    parts_opened c.args.names.now files path other _ _ _ c.args.table.now.grammar c.args.plan.now c.in-Ok.queries c.in_ok-with_texts-in-Ok.field-0 a loaded c.in_ok-with_texts-in-Ok.ensures.whole
    (c.in_ok-with_texts-in-Ok.ensures.texts c.args.table.now.grammar c.args.names.now files (c.loaded_have_no_faults.ensures c.args.table.now.grammar c.args.names.now c.args.plan.now.queries c.in-Ok.queries loaded) are)

pub returns-in_ok-with_texts-in-Ok-clause-whole : goal.returns-in_ok-with_texts-in-Ok-clause-whole
returns-in_ok-with_texts-in-Ok-clause-whole g c =
    let old = g.P.Patterns.sources c.args.patterns.now in
    let new = g.P.Patterns.sources c.load.new.patterns in
    parts_whole c.args.names.now old new c.args.table.now.grammar c.args.plan.now c.in-Ok.queries c.in_ok-with_texts-in-Ok.field-0
    (subst (λ (f : FlatGrammar). AreQueries f c.args.names.now c.args.plan.now.queries c.in-Ok.queries) c.grammar.ensures (subst (λ (ws : List Bytes). AreQueries c.grammar.result.now c.args.names.now ws c.in-Ok.queries) c.as_slice.ensures c.in-Ok.ensures.loaded))
    (subst (λ (f : FlatGrammar). GrewByEach f c.args.names.now c.args.plan.now.queries old new) c.grammar.ensures (subst (λ (ws : List Bytes). GrewByEach c.grammar.result.now c.args.names.now ws old new) c.as_slice.ensures c.in-Ok.ensures.built))
    c.in-Ok.ensures.few c.in_ok-with_texts-in-Ok.ensures.whole

pub returns-in_ok-not_loaded-in-Err-clause-parts : goal.returns-in_ok-not_loaded-in-Err-clause-parts
returns-in_ok-not_loaded-in-Err-clause-parts g c = λ files path other a are.
    let old = g.P.Patterns.sources c.args.patterns.now in
    let new = g.P.Patterns.sources c.load.new.patterns in
    let rose = HasRisen (g.P.Patterns.refusals c.args.patterns.now) (g.P.Patterns.refusals c.load.new.patterns) in
    not_loaded c.args.names.now files path other rose old new c.args.table.now.grammar c.args.plan.now c.in-Err.fault c.in_ok-not_loaded-in-Err.field-0.status c.in_ok-not_loaded-in-Err.field-0.bytes.items a (firsts_are_files files c.args.plan.now.documents c.args.firsts.now c.requires.count are)
    (subst (λ (f : FlatGrammar). HasLoadCause f c.args.names.now c.args.plan.now.queries rose old new c.in-Err.fault) c.grammar.ensures (subst (λ (ws : List Bytes). HasLoadCause c.grammar.result.now c.args.names.now ws rose old new c.in-Err.fault) c.as_slice.ensures c.in-Err.ensures.cause))
    c.in_ok-not_loaded-in-Err.ensures.bytes c.in_ok-not_loaded-in-Err.ensures.status

pub returns-in_ok-not_loaded-in-Err-clause-whole : goal.returns-in_ok-not_loaded-in-Err-clause-whole
returns-in_ok-not_loaded-in-Err-clause-whole g c = inr (inr (inl c.in_ok-not_loaded-in-Err.ensures.status))
