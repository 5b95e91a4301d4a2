use Rattle.std.proofs.Common.{◌≡◌, ◌∙◌, sym, ap, subst, refl, ℕ, inl, inr, ◌≤◌, ◌^◌, All, List, length, Some, None, string_bytes, arith}
use Rattle.spec_output.specs.Faults.{absent_line}
use Rattle.spec_output.specs.GrammarFaults.{limit_line}
use Rattle.spec_output.specs.declared.status.Status.TheVariants.{Grammar, Query, Script, Absent, Text}
use Rattle.ts_base.specs.Bytes.{Bytes}
use Rattle.ts_core.specs.declared.flat.FlatGrammar.{FlatGrammar}
use Rattle.ts_core.specs.declared.limits.Limited.TheVariants.{File}
use Rattle.ts_front.specs.Compiled.{IsUncompiled}
use Rattle.ts_io.specs.Outside.{Files, file_at}
use Rattle.ts_io.specs.Read.{AnswersFor}
use Rattle.ts_loading.specs.Loads.{AreQueries, HasLoadCause, GrewByEach}
use Rattle.ts_query_syntax.specs.Refusals.{HasRisen}
use Rattle.ts_script.specs.Rules.{most_script_bytes}
use Rattle.ts_script.specs.Script.{IsScript, too_large}
use Rattle.ts_script.specs.declared.fault.SFault.TheVariants.{Limit}
use Rattle.ts_script.specs.declared.plan.Source.{Source}
use Rattle.ts_session.specs.Documents.{IsMissing, IsRefused, AreOpened}
use Rattle.ts_session.specs.Firsts.{IsFoundAt, AreFirsts, AreLookedAt, AreOpenings}
use Rattle.ts_session.specs.Grammars.{Builds}
use Rattle.ts_session.specs.Limits.{most_file_bytes}
use Rattle.ts_session.specs.Opened.{OpensAs, HasReadQueries}
use Rattle.ts_session.specs.Parts.{AsksFor, HasScript, IsParts, AreParts}
use Rattle.ts_session.specs.Replays.{IsJudged}
use Rattle.ts_session.specs.Refusals.{RefusesPlan, missing, no_text, no_script, large_grammar, no_grammar, grammar_absent, script_absent}
use Rattle.ts_session.specs.Sessions.{IsAsked}
use Rattle.ts_session.specs.declared.opened.Opened.{Opened}
use Rattle.ts_session.proofs.FirstLemmas.{firsts_are_files}
use Rattle.ts_session.proofs.JudgeLemmas.{moved, ok_then, over, no_memory}
use Rattle.ts_session.proofs.OpenedLemmas.{refuses_bytes, refuses_script, refuses_plan, refused_as, not_loaded, parts_opened, parts_whole, same_loaded, same_read, exact_of, complete_of}
use Rattle.ts_session.proofs.ScriptLemmas.{IsShort, queries_short, queries_few}
use Rattle.ts_session.proofs.judging.script_in.Goals as goal

pub returns-in_ok-no_script-in-Err-clause-asks : goal.returns-in_ok-no_script-in-Err-clause-asks
returns-in_ok-no_script-in-Err-clause-asks c = (c.in-Err.fault, c.in-Err.ensures.refused (no_memory c.in-Err.fault c.in_ok-no_script-in-Err.field-0.bytes.items c.in_ok-no_script-in-Err.ensures.bytes), c.in_ok-no_script-in-Err.ensures.bytes)
