use Rattle.std.proofs.Common.{◌≡◌, ◌∙◌, sym, ap, subst, refl, ℕ, inl, inr, ◌≤◌, ◌^◌, All, List, length, Some, None, string_bytes, arith}
use Rattle.spec_output.specs.Faults.{absent_line}
use Rattle.spec_output.specs.GrammarFaults.{limit_line}
use Rattle.spec_output.specs.declared.status.Status.TheVariants.{Grammar, Query, Script, Absent, Text}
use Rattle.ts_base.specs.Bytes.{Bytes}
use Rattle.ts_core.specs.declared.flat.FlatGrammar.{FlatGrammar}
use Rattle.ts_core.specs.declared.limits.Limited.TheVariants.{File}
use Rattle.ts_front.specs.Compiled.{IsUncompiled}
use Rattle.ts_io.specs.Outside.{Files, file_at}
use Rattle.ts_io.specs.Read.{AnswersFor}
use Rattle.ts_loading.specs.Loads.{AreQueries, HasLoadCause, GrewByEach}
use Rattle.ts_query_syntax.specs.Refusals.{HasRisen}
use Rattle.ts_script.specs.Rules.{most_script_bytes}
use Rattle.ts_script.specs.Script.{IsScript, too_large}
use Rattle.ts_script.specs.declared.fault.SFault.TheVariants.{Limit}
use Rattle.ts_script.specs.declared.plan.Source.{Source}
use Rattle.ts_session.specs.Documents.{IsMissing, IsRefused, AreOpened}
use Rattle.ts_session.specs.Firsts.{IsFoundAt, AreFirsts, AreLookedAt, AreOpenings}
use Rattle.ts_session.specs.Grammars.{Builds}
use Rattle.ts_session.specs.Limits.{most_file_bytes}
use Rattle.ts_session.specs.Opened.{OpensAs, HasReadQueries}
use Rattle.ts_session.specs.Parts.{AsksFor, HasScript, IsParts, AreParts}
use Rattle.ts_session.specs.Replays.{IsJudged}
use Rattle.ts_session.specs.Refusals.{RefusesPlan, missing, no_text, no_script, large_grammar, no_grammar, grammar_absent, script_absent}
use Rattle.ts_session.specs.Sessions.{IsAsked}
use Rattle.ts_session.specs.declared.opened.Opened.{Opened}
use Rattle.ts_session.proofs.FirstLemmas.{firsts_are_files}
use Rattle.ts_session.proofs.JudgeLemmas.{moved, ok_then, over, no_memory}
use Rattle.ts_session.proofs.OpenedLemmas.{refuses_bytes, refuses_script, refuses_plan, refused_as, not_loaded, parts_opened, parts_whole, same_loaded, same_read, exact_of, complete_of}
use Rattle.ts_session.proofs.ScriptLemmas.{IsShort, queries_short, queries_few}
use Rattle.ts_session.proofs.judging.with_texts.Goals as goal

pub returns-in-Ok-All-clause-texts : goal.returns-in-Ok-All-clause-texts
returns-in-Ok-All-clause-texts c = λ f called files fine are.
    let documents = c.args.plan.now.documents in
    let slice = c.as_slice.result.now in
    let same = c.as_slice.ensures in
    let openings = c.in-Ok-All.ensures.openings files (subst (λ (d : List Source). AreFirsts files d c.args.firsts.now) (sym same) are) in
    subst (λ (d : List Source). AreOpened files d c.in-Ok-All.texts.items) same (subst (AreOpenings files slice) c.in-Ok-All.field-0-is openings)

pub returns-in-Ok-Refused-clause-texts : goal.returns-in-Ok-Refused-clause-texts
returns-in-Ok-Refused-clause-texts c = λ f called files fine are.
    let documents = c.args.plan.now.documents in
    let slice = c.as_slice.result.now in
    let same = c.as_slice.ensures in
    let openings = c.in-Ok-Refused.ensures.openings files (subst (λ (d : List Source). AreFirsts files d c.args.firsts.now) (sym same) are) in
    let refused : IsRefused files slice (string_bytes c.in-Ok-Refused.line) = subst (AreOpenings files slice) c.in-Ok-Refused.field-0-is openings in
    moved (RefusesPlan called files f c.args.plan.now) c.of_line.result.status Text c.of_line.result.bytes.items (string_bytes c.in-Ok-Refused.line) c.of_line.ensures.status c.of_line.ensures.bytes
    (no_text (string_bytes c.in-Ok-Refused.line) (firsts_are_files files documents c.args.firsts.now c.requires.count are) fine (subst (λ (d : List Source). IsRefused files d (string_bytes c.in-Ok-Refused.line)) same refused))
