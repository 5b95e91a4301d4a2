use Rattle.ts_front.proofs.CompileLemmas.{refusal_some}
use Rattle.ts_front.proofs.compile.refusal.Goals as goal

pub returns-in-Some : goal.returns-in-Some
returns-in-Some c = λ w h. refusal_some w c.args.line c.in-Some.line c.in-Some.is h
