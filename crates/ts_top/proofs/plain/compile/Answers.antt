use Rattle.ts_top.proofs.ReadLemmas.{compiled_ok, compile_stopped, memory_stopped}
use Rattle.ts_top.proofs.plain.compile.Goals as goal

pub returns-in-Err-clause-stop : goal.returns-in-Err-clause-stop
returns-in-Err-clause-stop g c = compile_stopped _ _ c.args.path.now _ c.in-Err.stop c.requires c.in-Err.ensures.stop

pub returns-in-Ok-clause-answers : goal.returns-in-Ok-clause-answers
returns-in-Ok-clause-answers g c = compiled_ok c.compiled.result _ _ c.args.path.now c.in-Ok.found c.requires c.in-Ok.ensures.there c.compiled.ensures.judged c.compiled.ensures.compiled

pub returns-in-Ok-clause-stop : goal.returns-in-Ok-clause-stop
returns-in-Ok-clause-stop g c = memory_stopped _ _ _ c.compiled.result c.compiled.ensures.stop
