use Rattle.std.proofs.Common.{◌≡◌, ◌∙◌, sym, ap, subst, refl, ℕ, ◌≤◌, ◌^◌, All, List, length, Some, None, string_bytes, arith}
use Rattle.spec_output.specs.Faults.{absent_line}
use Rattle.spec_output.specs.GrammarFaults.{limit_line}
use Rattle.spec_output.specs.declared.status.Status.TheVariants.{Grammar, Query, Script, Absent, Text}
use Rattle.ts_base.specs.Bytes.{Bytes}
use Rattle.ts_core.specs.declared.flat.FlatGrammar.{FlatGrammar}
use Rattle.ts_core.specs.declared.limits.Limited.TheVariants.{File}
use Rattle.ts_front.specs.Compiled.{IsUncompiled}
use Rattle.std.specs.Result.{IfOk}
use Rattle.ts_io.specs.Outside.{Files, Rose, file_at}
use Rattle.ts_io.specs.Read.{AnswersFor}
use Rattle.ts_loading.specs.Loads.{AreQueries, HasLoadCause, GrewByEach}
use Rattle.ts_query_syntax.specs.Refusals.{HasRisen}
use Rattle.ts_script.specs.Rules.{most_script_bytes}
use Rattle.ts_script.specs.Script.{IsScript, too_large}
use Rattle.ts_script.specs.declared.fault.SFault.TheVariants.{Limit}
use Rattle.ts_script.specs.declared.plan.Source.{Source}
use Rattle.ts_session.specs.Documents.{IsMissing, IsRefused, AreOpened}
use Rattle.ts_session.specs.Firsts.{IsFoundAt, AreFirsts, AreLookedAt, AreOpenings}
use Rattle.ts_session.specs.Grammars.{Builds}
use Rattle.ts_session.specs.Limits.{most_file_bytes}
use Rattle.ts_session.specs.Opened.{OpensAs, HasReadQueries}
use Rattle.ts_session.specs.Refusals.{RefusesPlan, missing, no_text, no_script, large_grammar, no_grammar, grammar_absent, script_absent}
use Rattle.ts_session.specs.Sessions.{IsAsked}
use Rattle.ts_session.specs.declared.opened.Opened.{Opened}
use Rattle.ts_session.proofs.FirstLemmas.{firsts_are_files}
use Rattle.ts_session.proofs.JudgeLemmas.{moved, ok_then, over, no_memory}
use Rattle.ts_session.proofs.OpenedLemmas.{refuses_bytes, refuses_script, refuses_plan, refused_as, not_loaded, exact_of, complete_of}
use Rattle.ts_session.proofs.ScriptLemmas.{IsShort, queries_short, queries_few}
use Rattle.ts_session.proofs.opening.open.Goals as goal

pub returns-clause-opened : goal.returns-clause-opened
returns-clause-opened g c = subst (λ (names : List Bytes). IfOk c.read.result (λ o. (files : Files) → g.F.Folder.files c.args.folder.now ≡ Some files → OpensAs names files c.args.paths.grammar.now c.args.paths.script.now (HasRisen (g.P.Patterns.refusals c.args.patterns.now) (g.P.Patterns.refusals c.read.new.patterns)) (g.P.Patterns.sources c.args.patterns.now) (g.P.Patterns.sources c.read.new.patterns) o)) c.names.ensures c.read.ensures.opened

pub returns-clause-queries : goal.returns-clause-queries
returns-clause-queries g c = subst (λ (names : List Bytes). IfOk c.read.result (HasReadQueries names (g.P.Patterns.sources c.args.patterns.now) (g.P.Patterns.sources c.read.new.patterns))) c.names.ensures c.read.ensures.queries

pub returns-clause-exact : goal.returns-clause-exact
returns-clause-exact g c = λ files ends line told r.
    exact_of (g.H.Hosts.called c.args.hosts.now) files c.args.paths.grammar.now c.args.paths.script.now (HasRisen (g.P.Patterns.refusals c.args.patterns.now) (g.P.Patterns.refusals c.read.new.patterns)) (g.P.Patterns.sources c.args.patterns.now) (g.P.Patterns.sources c.read.new.patterns) (record { status = c.one_refusal.ensures.status; line = c.one_refusal.ensures.line; loaded = c.one_refusal.ensures.loaded }) c.read.result ends line
    (ok_then c.read.result (λ (o : Opened). (files : Files) → g.F.Folder.files c.args.folder.now ≡ Some files → OpensAs (g.H.Hosts.called c.args.hosts.now) files c.args.paths.grammar.now c.args.paths.script.now (HasRisen (g.P.Patterns.refusals c.args.patterns.now) (g.P.Patterns.refusals c.read.new.patterns)) (g.P.Patterns.sources c.args.patterns.now) (g.P.Patterns.sources c.read.new.patterns) o) (OpensAs (g.H.Hosts.called c.args.hosts.now) files c.args.paths.grammar.now c.args.paths.script.now (HasRisen (g.P.Patterns.refusals c.args.patterns.now) (g.P.Patterns.refusals c.read.new.patterns)) (g.P.Patterns.sources c.args.patterns.now) (g.P.Patterns.sources c.read.new.patterns)) (λ o j. j files told) (subst (λ (names : List Bytes). IfOk c.read.result (λ o. (files : Files) → g.F.Folder.files c.args.folder.now ≡ Some files → OpensAs names files c.args.paths.grammar.now c.args.paths.script.now (HasRisen (g.P.Patterns.refusals c.args.patterns.now) (g.P.Patterns.refusals c.read.new.patterns)) (g.P.Patterns.sources c.args.patterns.now) (g.P.Patterns.sources c.read.new.patterns) o)) c.names.ensures c.read.ensures.opened)) r

pub returns-clause-complete : goal.returns-clause-complete
returns-clause-complete g c = λ files told clear fell rose.
    complete_of (g.H.Hosts.called c.args.hosts.now) files c.args.paths.grammar.now c.args.paths.script.now (HasRisen (g.P.Patterns.refusals c.args.patterns.now) (g.P.Patterns.refusals c.read.new.patterns)) (g.P.Patterns.sources c.args.patterns.now) (g.P.Patterns.sources c.read.new.patterns) (c.clear_is_not_refused.ensures (g.H.Hosts.called c.args.hosts.now) files c.args.paths.grammar.now c.args.paths.script.now) (Rose (g.F.Folder.faults c.args.folder.now) (g.F.Folder.faults c.read.new.folder)) c.read.result
    (ok_then c.read.result (λ (o : Opened). (files : Files) → g.F.Folder.files c.args.folder.now ≡ Some files → OpensAs (g.H.Hosts.called c.args.hosts.now) files c.args.paths.grammar.now c.args.paths.script.now (HasRisen (g.P.Patterns.refusals c.args.patterns.now) (g.P.Patterns.refusals c.read.new.patterns)) (g.P.Patterns.sources c.args.patterns.now) (g.P.Patterns.sources c.read.new.patterns) o) (OpensAs (g.H.Hosts.called c.args.hosts.now) files c.args.paths.grammar.now c.args.paths.script.now (HasRisen (g.P.Patterns.refusals c.args.patterns.now) (g.P.Patterns.refusals c.read.new.patterns)) (g.P.Patterns.sources c.args.patterns.now) (g.P.Patterns.sources c.read.new.patterns)) (λ o j. j files told) (subst (λ (names : List Bytes). IfOk c.read.result (λ o. (files : Files) → g.F.Folder.files c.args.folder.now ≡ Some files → OpensAs names files c.args.paths.grammar.now c.args.paths.script.now (HasRisen (g.P.Patterns.refusals c.args.patterns.now) (g.P.Patterns.refusals c.read.new.patterns)) (g.P.Patterns.sources c.args.patterns.now) (g.P.Patterns.sources c.read.new.patterns) o)) c.names.ensures c.read.ensures.opened)) c.read.ensures.read clear fell rose
