use Rattle.std.proofs.Common.{◌≡◌, ◌∙◌, sym, ap, subst, refl, ℕ, ◌≤◌, ◌^◌, All, List, length, Some, None, string_bytes, arith}
use Rattle.spec_output.specs.Faults.{absent_line}
use Rattle.spec_output.specs.GrammarFaults.{limit_line}
use Rattle.spec_output.specs.declared.status.Status.TheVariants.{Grammar, Query, Script, Absent, Text}
use Rattle.ts_base.specs.Bytes.{Bytes}
use Rattle.ts_core.specs.declared.flat.FlatGrammar.{FlatGrammar}
use Rattle.ts_core.specs.declared.limits.Limited.TheVariants.{File}
use Rattle.ts_front.specs.Compiled.{IsUncompiled}
use Rattle.ts_io.specs.Outside.{Files, file_at}
use Rattle.ts_io.specs.Read.{AnswersFor}
use Rattle.ts_loading.specs.Loads.{AreQueries, HasLoadCause, GrewByEach}
use Rattle.ts_query_syntax.specs.Refusals.{HasRisen}
use Rattle.ts_script.specs.Rules.{most_script_bytes}
use Rattle.ts_script.specs.Script.{IsScript, too_large}
use Rattle.ts_script.specs.declared.fault.SFault.TheVariants.{Limit}
use Rattle.ts_script.specs.declared.plan.Source.{Source}
use Rattle.ts_session.specs.Documents.{IsMissing, IsRefused, AreOpened}
use Rattle.ts_session.specs.Firsts.{IsFoundAt, AreFirsts, AreLookedAt, AreOpenings}
use Rattle.ts_session.specs.Grammars.{Builds}
use Rattle.ts_session.specs.Limits.{most_file_bytes}
use Rattle.ts_session.specs.Opened.{OpensAs, HasReadQueries}
use Rattle.ts_session.specs.Refusals.{RefusesPlan, missing, no_text, no_script, large_grammar, no_grammar, grammar_absent, script_absent}
use Rattle.ts_session.specs.Sessions.{IsAsked}
use Rattle.ts_session.specs.declared.opened.Opened.{Opened}
use Rattle.ts_session.proofs.FirstLemmas.{firsts_are_files}
use Rattle.ts_session.proofs.JudgeLemmas.{moved, ok_then, over, no_memory}
use Rattle.ts_session.proofs.OpenedLemmas.{refuses_bytes, refuses_script, refuses_plan, refused_as, not_loaded, exact_of, complete_of}
use Rattle.ts_session.proofs.ScriptLemmas.{IsShort, queries_short, queries_few}
use Rattle.ts_session.proofs.opening.read.Goals as goal

pub returns-in-Ok-Some-clause-opened : goal.returns-in-Ok-Some-clause-opened
returns-in-Ok-Some-clause-opened g c =
    ok_then c.read_script.result
    (λ (o : Opened). (files : Files) (path w : Bytes) → g.F.Folder.files c.found_at.new.folder ≡ Some files → file_at files path ≡ Some w → AnswersFor (Some w) most_file_bytes c.in-Ok-Some.grammar → OpensAs c.args.names.now files path c.args.paths.script.now (HasRisen (g.P.Patterns.refusals c.args.patterns.now) (g.P.Patterns.refusals c.read_script.new.patterns)) (g.P.Patterns.sources c.args.patterns.now) (g.P.Patterns.sources c.read_script.new.patterns) o)
    (λ (o : Opened). (files : Files) → g.F.Folder.files c.args.folder.now ≡ Some files → OpensAs c.args.names.now files c.args.paths.grammar.now c.args.paths.script.now (HasRisen (g.P.Patterns.refusals c.args.patterns.now) (g.P.Patterns.refusals c.read_script.new.patterns)) (g.P.Patterns.sources c.args.patterns.now) (g.P.Patterns.sources c.read_script.new.patterns) o)
    (λ o j. λ files told.
    let found = subst (IsFoundAt files c.args.paths.grammar.now most_file_bytes) c.in-Ok-Some.field-0-is (c.in-Ok-Some.ensures.found files told) in
    j files c.args.paths.grammar.now found.0 (c.found_at.ensures.files ∙ told) found.1 found.2) c.read_script.ensures.opened

pub returns-in_ok-absent-in-Ok-None-clause-opened : goal.returns-in_ok-absent-in-Ok-None-clause-opened
returns-in_ok-absent-in-Ok-None-clause-opened g c = λ files told.
    refused_as c.args.names.now files c.args.paths.grammar.now c.args.paths.script.now _ _ _ c.in_ok-absent-in-Ok-None.field-0.status Absent c.in_ok-absent-in-Ok-None.field-0.bytes.items (absent_line c.args.paths.grammar.now) c.in_ok-absent-in-Ok-None.ensures.status c.in_ok-absent-in-Ok-None.ensures.bytes
    (grammar_absent (subst (IsFoundAt files c.args.paths.grammar.now most_file_bytes) c.in-Ok-None.field-0-is (c.in-Ok-None.ensures.found files told)))
