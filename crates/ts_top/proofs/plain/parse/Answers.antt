use Rattle.std.proofs.Common.{Option, subst}
use Rattle.std.proofs.lemmas.Result.{err_from_is_err_and}
use Rattle.ts_io.specs.Outside.{Files, Rose}
use Rattle.ts_session.specs.Limits.{most_file_bytes, most_text_bytes}
use Rattle.ts_top.specs.Answer.{Told}
use Rattle.ts_top.specs.Stops.{IsThere, ReadStopped}
use Rattle.ts_top.proofs.ReadLemmas.{grammar_stopped, text_stopped, judged_ok, memory_stopped, rose_from}
use Rattle.ts_top.proofs.plain.parse.Goals as goal

pub returns-in_err-grammar-clause-stop : goal.returns-in_err-grammar-clause-stop
returns-in_err-grammar-clause-stop g c =
    let p = err_from_is_err_and c.from_residual.result c.from_residual.ensures.1 in
    rw (p.1, p.2)
    (grammar_stopped _ _ c.args.paths.grammar.now c.args.paths.text.now _ c.in_err-grammar.field-0.0 c.requires c.in_err-grammar.ensures.stop)

pub returns-in_err-text-clause-stop : goal.returns-in_err-text-clause-stop
returns-in_err-text-clause-stop g c =
    let p = err_from_is_err_and c.from_residual-in_err-text.result c.from_residual-in_err-text.ensures.1 in
    rw (p.1, p.2)
    (text_stopped _ _ c.args.paths.grammar.now c.args.paths.text.now most_file_bytes c.in_ok-grammar.grammar _ _ c.in_err-text.field-0.0 c.requires c.in_ok-grammar.ensures.there
    (rose_from (g.F.Folder.faults c.args.folder.now) (g.F.Folder.faults c.read.new.folder) (g.F.Folder.faults c.read-2.new.folder) c.in_ok-grammar.ensures.later)
    (subst (λ (files : Option Files). ReadStopped files c.args.paths.text.now (Rose (g.F.Folder.faults c.read.new.folder) (g.F.Folder.faults c.read-2.new.folder)) c.in_err-text.field-0.0) c.in_ok-grammar.ensures.same c.in_err-text.ensures.stop))

pub returns-clause-answers : goal.returns-clause-answers
returns-clause-answers g c =
    judged_ok c.judge.result _ _ c.in_ok-grammar.grammar c.in_ok-text.text c.args.paths.grammar.now c.args.paths.text.now c.requires c.in_ok-grammar.ensures.there
    (subst (λ (files : Option Files). Told files (IsThere c.args.paths.text.now most_text_bytes c.in_ok-text.text)) c.in_ok-grammar.ensures.same c.in_ok-text.ensures.there)
    c.judge.ensures.judged c.judge.ensures.answers

pub returns-clause-stop : goal.returns-clause-stop
returns-clause-stop g c = memory_stopped _ _ _ c.judge.result c.judge.ensures.stop
