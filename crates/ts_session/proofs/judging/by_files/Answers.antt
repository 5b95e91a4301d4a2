use Rattle.std.proofs.Common.{◌≡◌, ◌∙◌, sym, ap, subst, refl, ℕ, ◌≤◌, ◌^◌, All, List, length, Some, None, string_bytes, arith}
use Rattle.spec_output.specs.Faults.{absent_line}
use Rattle.spec_output.specs.GrammarFaults.{limit_line}
use Rattle.spec_output.specs.declared.status.Status.TheVariants.{Grammar, Query, Script, Absent, Text}
use Rattle.ts_base.specs.Bytes.{Bytes}
use Rattle.ts_core.specs.declared.flat.FlatGrammar.{FlatGrammar}
use Rattle.ts_core.specs.declared.limits.Limited.TheVariants.{File}
use Rattle.ts_front.specs.Compiled.{IsUncompiled}
use Rattle.ts_io.specs.Outside.{Files, file_at}
use Rattle.ts_io.specs.Read.{AnswersFor}
use Rattle.ts_loading.specs.Loads.{AreQueries, HasLoadCause, GrewByEach}
use Rattle.ts_query_syntax.specs.Refusals.{HasRisen}
use Rattle.ts_script.specs.Rules.{most_script_bytes}
use Rattle.ts_script.specs.Script.{IsScript, too_large}
use Rattle.ts_script.specs.declared.fault.SFault.TheVariants.{Limit}
use Rattle.ts_script.specs.declared.plan.Source.{Source}
use Rattle.ts_session.specs.Documents.{IsMissing, IsRefused, AreOpened}
use Rattle.ts_session.specs.Firsts.{IsFoundAt, AreFirsts, AreLookedAt, AreOpenings}
use Rattle.ts_session.specs.Grammars.{Builds}
use Rattle.ts_session.specs.Limits.{most_file_bytes}
use Rattle.ts_session.specs.Opened.{OpensAs, HasReadQueries}
use Rattle.ts_session.specs.Refusals.{RefusesPlan, missing, no_text, no_script, large_grammar, no_grammar, grammar_absent, script_absent}
use Rattle.ts_session.specs.Sessions.{IsAsked}
use Rattle.ts_session.specs.declared.opened.Opened.{Opened}
use Rattle.ts_session.proofs.FirstLemmas.{firsts_are_files}
use Rattle.ts_session.proofs.JudgeLemmas.{moved, ok_then, over, no_memory}
use Rattle.ts_session.proofs.OpenedLemmas.{refuses_bytes, refuses_script, refuses_plan, refused_as, not_loaded, exact_of, complete_of}
use Rattle.ts_session.proofs.ScriptLemmas.{IsShort, queries_short, queries_few}
use Rattle.ts_session.proofs.judging.by_files.Goals as goal

pub returns-in_ok-too_large-in-Over-clause-opened : goal.returns-in_ok-too_large-in-Over-clause-opened
returns-in_ok-too_large-in-Over-clause-opened g c = λ files path other w s told x y p q.
    refused_as c.args.names.now files path other _ _ _ c.in_ok-too_large-in-Over.field-0.status Grammar c.in_ok-too_large-in-Over.field-0.bytes.items (limit_line File) c.in_ok-too_large-in-Over.ensures.status c.in_ok-too_large-in-Over.ensures.bytes
    (refuses_bytes c.args.names.now files path other w s Grammar (limit_line File) x y (large_grammar (over c.args.grammar.now most_file_bytes w c.in-Over.is p)))

pub returns-in-Bytes-clause-opened : goal.returns-in-Bytes-clause-opened
returns-in-Bytes-clause-opened g c =
    ok_then c.by_grammar.result
    (λ (o : Opened). (files : Files) (path other s : Bytes) → g.F.Folder.files c.args.folder.now ≡ Some files → file_at files path ≡ Some c.as_slice.result.now → file_at files other ≡ Some s → AnswersFor (Some s) most_script_bytes c.args.script.now → OpensAs c.args.names.now files path other (HasRisen (g.P.Patterns.refusals c.args.patterns.now) (g.P.Patterns.refusals c.by_grammar.new.patterns)) (g.P.Patterns.sources c.args.patterns.now) (g.P.Patterns.sources c.by_grammar.new.patterns) o)
    (λ (o : Opened). (files : Files) (path other w s : Bytes) → g.F.Folder.files c.args.folder.now ≡ Some files → file_at files path ≡ Some w → file_at files other ≡ Some s → AnswersFor (Some w) most_file_bytes c.args.grammar.now → AnswersFor (Some s) most_script_bytes c.args.script.now
    → OpensAs c.args.names.now files path other (HasRisen (g.P.Patterns.refusals c.args.patterns.now) (g.P.Patterns.refusals c.by_grammar.new.patterns)) (g.P.Patterns.sources c.args.patterns.now) (g.P.Patterns.sources c.by_grammar.new.patterns) o)
    (λ o j. λ files path other w s told x y p q. j files path other s told (x ∙ subst (AnswersFor (Some w) most_file_bytes) c.in-Bytes.is p ∙ ap Some (sym c.as_slice.ensures.value)) y q) c.by_grammar.ensures.opened
