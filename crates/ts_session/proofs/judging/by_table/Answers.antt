use Rattle.std.proofs.Common.{◌≡◌, ◌∙◌, sym, ap, subst, refl, ℕ, inl, inr, ◌≤◌, ◌^◌, All, List, length, Some, None, string_bytes, arith}
use Rattle.spec_output.specs.Faults.{absent_line}
use Rattle.spec_output.specs.GrammarFaults.{limit_line}
use Rattle.spec_output.specs.declared.status.Status.TheVariants.{Grammar, Query, Script, Absent, Text}
use Rattle.ts_base.specs.Bytes.{Bytes}
use Rattle.ts_core.specs.declared.flat.FlatGrammar.{FlatGrammar}
use Rattle.ts_core.specs.declared.limits.Limited.TheVariants.{File}
use Rattle.ts_front.specs.Compiled.{IsUncompiled}
use Rattle.ts_io.specs.Outside.{Files, file_at}
use Rattle.ts_io.specs.Read.{AnswersFor}
use Rattle.ts_loading.specs.Loads.{AreQueries, HasLoadCause, GrewByEach}
use Rattle.ts_query_syntax.specs.Refusals.{HasRisen}
use Rattle.ts_script.specs.Rules.{most_script_bytes}
use Rattle.ts_script.specs.Script.{IsScript, too_large}
use Rattle.ts_script.specs.declared.fault.SFault.TheVariants.{Limit}
use Rattle.ts_script.specs.declared.plan.Source.{Source}
use Rattle.ts_session.specs.Documents.{IsMissing, IsRefused, AreOpened}
use Rattle.ts_session.specs.Firsts.{IsFoundAt, AreFirsts, AreLookedAt, AreOpenings}
use Rattle.ts_session.specs.Grammars.{Builds}
use Rattle.ts_session.specs.Limits.{most_file_bytes}
use Rattle.ts_session.specs.Opened.{OpensAs, HasReadQueries}
use Rattle.ts_session.specs.Parts.{AsksFor, HasScript, IsParts, AreParts}
use Rattle.ts_session.specs.Replays.{IsJudged}
use Rattle.ts_session.specs.Refusals.{RefusesPlan, missing, no_text, no_script, large_grammar, no_grammar, grammar_absent, script_absent}
use Rattle.ts_session.specs.Sessions.{IsAsked}
use Rattle.ts_session.specs.declared.opened.Opened.{Opened}
use Rattle.ts_session.proofs.FirstLemmas.{firsts_are_files}
use Rattle.ts_session.proofs.JudgeLemmas.{moved, ok_then, over, no_memory}
use Rattle.ts_session.proofs.OpenedLemmas.{refuses_bytes, refuses_script, refuses_plan, refused_as, not_loaded, parts_opened, parts_whole, same_loaded, same_read, exact_of, complete_of}
use Rattle.ts_session.proofs.ScriptLemmas.{IsShort, queries_short, queries_few}
use Rattle.ts_session.proofs.judging.by_table.Goals as goal

pub by_plan-requires-clause-script : goal.by_plan-requires-clause-script
by_plan-requires-clause-script g c = subst HasScript c.in-Ok-Plan.field-0-is c.in-Ok-Plan.ensures.has

pub returns-in-Ok-Plan-clause-opened : goal.returns-in-Ok-Plan-clause-opened
returns-in-Ok-Plan-clause-opened g c =
    ok_then c.by_plan.result
    (λ (o : Opened). (files : Files) (path other : Bytes) → g.F.Folder.files c.args.folder.now ≡ Some files → IsAsked files path other c.args.table.grammar c.in-Ok-Plan.plan → OpensAs c.args.names.now files path other (HasRisen (g.P.Patterns.refusals c.args.patterns.now) (g.P.Patterns.refusals c.by_plan.new.patterns)) (g.P.Patterns.sources c.args.patterns.now) (g.P.Patterns.sources c.by_plan.new.patterns) o)
    (λ (o : Opened). (files : Files) (path other w s : Bytes) → g.F.Folder.files c.args.folder.now ≡ Some files → file_at files path ≡ Some w → Builds w c.args.table.grammar → file_at files other ≡ Some s → AnswersFor (Some s) most_script_bytes c.args.file.now
    → OpensAs c.args.names.now files path other (HasRisen (g.P.Patterns.refusals c.args.patterns.now) (g.P.Patterns.refusals c.by_plan.new.patterns)) (g.P.Patterns.sources c.args.patterns.now) (g.P.Patterns.sources c.by_plan.new.patterns) o)
    (λ o j. λ files path other w s told x b y q. j files path other told (record { grammar_file = w; grammar_is = x; script_file = s; script_is = y; builds = b; is_script = subst (AsksFor s) c.in-Ok-Plan.field-0-is (c.in-Ok-Plan.ensures.asks s q) })) c.by_plan.ensures.opened

pub returns-in-Ok-Refused-clause-opened : goal.returns-in-Ok-Refused-clause-opened
returns-in-Ok-Refused-clause-opened g c = λ files path other w s told x b y q.
    let asks = subst (AsksFor s) c.in-Ok-Refused.field-0-is (c.in-Ok-Refused.ensures.asks s q) in
    refused_as c.args.names.now files path other _ _ _ c.in-Ok-Refused.answer.status Script c.in-Ok-Refused.answer.bytes.items c.in-Ok-Refused.answer.bytes.items (subst HasScript c.in-Ok-Refused.field-0-is c.in-Ok-Refused.ensures.has) refl
    (refuses_script c.args.names.now files path other w s c.args.table.grammar Script c.in-Ok-Refused.answer.bytes.items x b y (no_script asks.0 c.in-Ok-Refused.answer.bytes.items asks.1 asks.2))

pub returns-in-Ok-Refused-clause-judged : goal.returns-in-Ok-Refused-clause-judged
returns-in-Ok-Refused-clause-judged g c = inr (inr (inr (inl (subst HasScript c.in-Ok-Refused.field-0-is c.in-Ok-Refused.ensures.has))))
