use Rattle.std.proofs.Common.{◌≡◌, ◌∙◌, sym, ap, subst, refl, ℕ, ◌≤◌, ◌^◌, All, List, length, Some, None, string_bytes, arith}
use Rattle.spec_output.specs.Faults.{absent_line}
use Rattle.spec_output.specs.GrammarFaults.{limit_line}
use Rattle.spec_output.specs.declared.status.Status.TheVariants.{Grammar, Query, Script, Absent, Text}
use Rattle.ts_base.specs.Bytes.{Bytes}
use Rattle.ts_core.specs.declared.flat.FlatGrammar.{FlatGrammar}
use Rattle.ts_core.specs.declared.limits.Limited.TheVariants.{File}
use Rattle.ts_front.specs.Compiled.{IsUncompiled}
use Rattle.ts_io.specs.Outside.{Files, file_at}
use Rattle.ts_io.specs.Read.{AnswersFor}
use Rattle.ts_loading.specs.Loads.{AreQueries, HasLoadCause, GrewByEach}
use Rattle.ts_query_syntax.specs.Refusals.{HasRisen}
use Rattle.ts_script.specs.Rules.{most_script_bytes}
use Rattle.ts_script.specs.Script.{IsScript, too_large}
use Rattle.ts_script.specs.declared.fault.SFault.TheVariants.{Limit}
use Rattle.ts_script.specs.declared.plan.Source.{Source}
use Rattle.ts_session.specs.Documents.{IsMissing, IsRefused, AreOpened}
use Rattle.ts_session.specs.Firsts.{IsFoundAt, AreFirsts, AreLookedAt, AreOpenings}
use Rattle.ts_session.specs.Grammars.{Builds}
use Rattle.ts_session.specs.Limits.{most_file_bytes}
use Rattle.ts_session.specs.Opened.{OpensAs, HasReadQueries}
use Rattle.ts_session.specs.Refusals.{RefusesPlan, missing, no_text, no_script, large_grammar, no_grammar, grammar_absent, script_absent}
use Rattle.ts_session.specs.Sessions.{IsAsked}
use Rattle.ts_session.specs.declared.opened.Opened.{Opened}
use Rattle.ts_session.proofs.FirstLemmas.{firsts_are_files}
use Rattle.ts_session.proofs.JudgeLemmas.{moved, ok_then, over, no_memory}
use Rattle.ts_session.proofs.OpenedLemmas.{refuses_bytes, refuses_script, refuses_plan, refused_as, not_loaded, exact_of, complete_of}
use Rattle.ts_session.proofs.ScriptLemmas.{IsShort, queries_short, queries_few}
use Rattle.ts_session.proofs.opening.read_script.Goals as goal

pub returns-in_ok-absent-in-Ok-None-clause-opened : goal.returns-in_ok-absent-in-Ok-None-clause-opened
returns-in_ok-absent-in-Ok-None-clause-opened g c = λ files path w told at answers.
    refused_as c.args.names.now files path c.args.script.now _ _ _ c.in_ok-absent-in-Ok-None.field-0.status Absent c.in_ok-absent-in-Ok-None.field-0.bytes.items (absent_line c.args.script.now) c.in_ok-absent-in-Ok-None.ensures.status c.in_ok-absent-in-Ok-None.ensures.bytes
    (script_absent w at (subst (IsFoundAt files c.args.script.now most_script_bytes) c.in-Ok-None.field-0-is (c.in-Ok-None.ensures.found files told)))

pub returns-in-Ok-Some-clause-opened : goal.returns-in-Ok-Some-clause-opened
returns-in-Ok-Some-clause-opened g c =
    ok_then c.by_files.result
    (λ (o : Opened). (files : Files) (path other w s : Bytes) → g.F.Folder.files c.found_at.new.folder ≡ Some files → file_at files path ≡ Some w → file_at files other ≡ Some s → AnswersFor (Some w) most_file_bytes c.args.grammar.now
    → AnswersFor (Some s) most_script_bytes c.in-Ok-Some.script → OpensAs c.args.names.now files path other (HasRisen (g.P.Patterns.refusals c.args.patterns.now) (g.P.Patterns.refusals c.by_files.new.patterns)) (g.P.Patterns.sources c.args.patterns.now) (g.P.Patterns.sources c.by_files.new.patterns) o)
    (λ (o : Opened). (files : Files) (path w : Bytes) → g.F.Folder.files c.args.folder.now ≡ Some files → file_at files path ≡ Some w → AnswersFor (Some w) most_file_bytes c.args.grammar.now → OpensAs c.args.names.now files path c.args.script.now (HasRisen (g.P.Patterns.refusals c.args.patterns.now) (g.P.Patterns.refusals c.by_files.new.patterns)) (g.P.Patterns.sources c.args.patterns.now) (g.P.Patterns.sources c.by_files.new.patterns) o)
    (λ o j. λ files path w told at answers.
    let found = subst (IsFoundAt files c.args.script.now most_script_bytes) c.in-Ok-Some.field-0-is (c.in-Ok-Some.ensures.found files told) in
    j files path c.args.script.now w found.0 (c.found_at.ensures.files ∙ told) at found.1 answers found.2) c.by_files.ensures.opened
