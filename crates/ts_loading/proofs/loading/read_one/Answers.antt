use Rattle.std.proofs.Common.{◌∙◌, sym, ap, subst, Some}
use Rattle.ts_loading.specs.Loads.{HasLoadCause}
use Rattle.ts_loading.specs.declared.fault.LoadFault.{LoadFault}
use Rattle.ts_query_syntax.specs.Refusals.{HasRisen}
use Rattle.ts_loading.proofs.LoopLemmas.{read_more, rose_more, cause_of}
use Rattle.ts_loading.proofs.loading.read_one.Goals as goal

pub returns-in_ok-push-in-Ok-clause-read : goal.returns-in_ok-push-in-Ok-clause-read
returns-in_ok-push-in-Ok-clause-read g c = λ texts before at are.
    read_more c.args.grammar.now c.args.hosts.now texts c.args.number c.args.queries.now c.push.new.self before (g.P.Patterns.sources c.args.patterns.now) (g.P.Patterns.sources c.query.new.patterns) c.text.result.now c.in-Ok.found (at ∙ ap Some (sym c.text.ensures)) are c.in-Ok.ensures.ok c.in-Ok.ensures.few c.in-Ok.ensures.built c.in_ok-push-in-Ok.ensures.ok

pub returns-in-Err-clause-cause : goal.returns-in-Err-clause-cause
returns-in-Err-clause-cause g c = λ texts before count at are least.
    let rose = HasRisen count (g.P.Patterns.refusals c.query.new.patterns) in
    subst (λ (e : LoadFault). HasLoadCause c.args.grammar.now c.args.hosts.now texts rose before (g.P.Patterns.sources c.query.new.patterns) e) (sym c.refused.ensures)
    (cause_of c.args.grammar.now c.args.hosts.now texts c.args.number c.args.queries.now before (g.P.Patterns.sources c.args.patterns.now) (g.P.Patterns.sources c.query.new.patterns) c.text.result.now rose c.in-Err.fault (at ∙ ap Some (sym c.text.ensures)) are
    c.in-Err.ensures.refused c.in-Err.ensures.built_before (λ r. rose_more count (g.P.Patterns.refusals c.args.patterns.now) (g.P.Patterns.refusals c.query.new.patterns) least (c.in-Err.ensures.regex r)))
