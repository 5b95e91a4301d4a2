use Rattle.std.proofs.Common.{◌≡◌, ◌∙◌, sym, ap, subst, refl, ℕ, inl, inr, ◌≤◌, ◌^◌, All, List, length, Some, None, string_bytes, arith}
use Rattle.spec_output.specs.Faults.{absent_line}
use Rattle.spec_output.specs.GrammarFaults.{limit_line}
use Rattle.spec_output.specs.declared.status.Status.TheVariants.{Grammar, Query, Script, Absent, Text}
use Rattle.ts_base.specs.Bytes.{Bytes}
use Rattle.ts_core.specs.declared.flat.FlatGrammar.{FlatGrammar}
use Rattle.ts_core.specs.declared.limits.Limited.TheVariants.{File}
use Rattle.ts_front.specs.Compiled.{IsUncompiled}
use Rattle.ts_io.specs.Outside.{Files, file_at}
use Rattle.ts_io.specs.Read.{AnswersFor}
use Rattle.ts_loading.specs.Loads.{AreQueries, HasLoadCause, GrewByEach}
use Rattle.ts_query_syntax.specs.Refusals.{HasRisen}
use Rattle.ts_script.specs.Rules.{most_script_bytes}
use Rattle.ts_script.specs.Script.{IsScript, too_large}
use Rattle.ts_script.specs.declared.fault.SFault.TheVariants.{Limit}
use Rattle.ts_script.specs.declared.plan.Source.{Source}
use Rattle.ts_session.specs.Documents.{IsMissing, IsRefused, AreOpened}
use Rattle.ts_session.specs.Firsts.{IsFoundAt, AreFirsts, AreLookedAt, AreOpenings}
use Rattle.ts_session.specs.Grammars.{Builds}
use Rattle.ts_session.specs.Limits.{most_file_bytes}
use Rattle.ts_session.specs.Opened.{OpensAs, HasReadQueries}
use Rattle.ts_session.specs.Parts.{AsksFor, HasScript, IsParts, AreParts}
use Rattle.ts_session.specs.Replays.{IsJudged}
use Rattle.ts_session.specs.Refusals.{RefusesPlan, missing, no_text, no_script, large_grammar, no_grammar, grammar_absent, script_absent}
use Rattle.ts_session.specs.Sessions.{IsAsked}
use Rattle.ts_session.specs.declared.opened.Opened.{Opened}
use Rattle.ts_session.proofs.FirstLemmas.{firsts_are_files}
use Rattle.ts_session.proofs.JudgeLemmas.{moved, ok_then, over, no_memory}
use Rattle.ts_session.proofs.OpenedLemmas.{refuses_bytes, refuses_script, refuses_plan, refused_as, not_loaded, parts_opened, parts_whole, same_loaded, same_read, exact_of, complete_of}
use Rattle.ts_session.proofs.ScriptLemmas.{IsShort, queries_short, queries_few}
use Rattle.ts_session.proofs.judging.by_plan.Goals as goal

pub session-requires-clause-few : goal.session-requires-clause-few
session-requires-clause-few g c = (subst (AreParts c.args.names.now c.args.table.grammar c.args.plan (g.P.Patterns.sources c.args.patterns.now) (g.P.Patterns.sources c.parts_of.new.patterns)) c.in-Ok-All.field-0-is c.in-Ok-All.ensures.whole).2

pub session-requires-clause-count : goal.session-requires-clause-count
session-requires-clause-count g c = let are = (subst (AreParts c.args.names.now c.args.table.grammar c.args.plan (g.P.Patterns.sources c.args.patterns.now) (g.P.Patterns.sources c.parts_of.new.patterns)) c.in-Ok-All.field-0-is c.in-Ok-All.ensures.whole).0 in are.count

pub session-requires-clause-opened : goal.session-requires-clause-opened
session-requires-clause-opened g c = (subst (AreParts c.args.names.now c.args.table.grammar c.args.plan (g.P.Patterns.sources c.args.patterns.now) (g.P.Patterns.sources c.parts_of.new.patterns)) c.in-Ok-All.field-0-is c.in-Ok-All.ensures.whole).3

pub returns-in-Ok-All-clause-opened : goal.returns-in-Ok-All-clause-opened
returns-in-Ok-All-clause-opened g c = λ files path other told a.
    same_loaded c.args.names.now files path other c.session.result c.args.table c.args.plan c.in-Ok-All.queries c.in-Ok-All.texts c.session.ensures.table c.session.ensures.plan c.session.ensures.queries c.session.ensures.texts
    (subst (IsParts c.args.names.now files path other c.args.table.grammar c.args.plan (HasRisen (g.P.Patterns.refusals c.args.patterns.now) (g.P.Patterns.refusals c.parts_of.new.patterns)) (g.P.Patterns.sources c.args.patterns.now) (g.P.Patterns.sources c.parts_of.new.patterns)) c.in-Ok-All.field-0-is (c.in-Ok-All.ensures.parts files path other told a))

pub returns-in-Ok-All-clause-queries : goal.returns-in-Ok-All-clause-queries
returns-in-Ok-All-clause-queries g c =
    let whole = subst (AreParts c.args.names.now c.args.table.grammar c.args.plan (g.P.Patterns.sources c.args.patterns.now) (g.P.Patterns.sources c.parts_of.new.patterns)) c.in-Ok-All.field-0-is c.in-Ok-All.ensures.whole in
    same_read c.args.names.now (g.P.Patterns.sources c.args.patterns.now) (g.P.Patterns.sources c.parts_of.new.patterns) c.session.result c.args.table c.args.plan c.in-Ok-All.queries c.session.ensures.table c.session.ensures.plan c.session.ensures.queries whole.0 whole.1

pub returns-in-Ok-Refused-clause-opened : goal.returns-in-Ok-Refused-clause-opened
returns-in-Ok-Refused-clause-opened g c = λ files path other told a.
    subst (IsParts c.args.names.now files path other c.args.table.grammar c.args.plan (HasRisen (g.P.Patterns.refusals c.args.patterns.now) (g.P.Patterns.refusals c.parts_of.new.patterns)) (g.P.Patterns.sources c.args.patterns.now) (g.P.Patterns.sources c.parts_of.new.patterns)) c.in-Ok-Refused.field-0-is (c.in-Ok-Refused.ensures.parts files path other told a)

pub returns-in-Ok-Refused-clause-judged : goal.returns-in-Ok-Refused-clause-judged
returns-in-Ok-Refused-clause-judged g c = subst (AreParts c.args.names.now c.args.table.grammar c.args.plan (g.P.Patterns.sources c.args.patterns.now) (g.P.Patterns.sources c.parts_of.new.patterns)) c.in-Ok-Refused.field-0-is c.in-Ok-Refused.ensures.whole
