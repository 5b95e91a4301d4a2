use Rattle.std.proofs.Common.{refl}
use Rattle.std.proofs.lemmas.Result.{err_from_is_err_and}
use Rattle.ts_ojson.specs.Json.{json_of}
use Rattle.ts_grammar_json.specs.Faults.{each_from}
use Rattle.ts_grammar_json.specs.File.{ranked_faults, ranked_of, each_read}
use Rattle.ts_grammar_json.proofs.ListLemmas.{next, stops}
use Rattle.ts_grammar_json.proofs.lists.ordering_in.Goals as goal

pub returns-in_err-in_item : goal.returns-in_err-in_item
returns-in_err-in_item c =
    let p = err_from_is_err_and c.from_residual.result c.from_residual.ensures.1 in
    rw (p.1, p.2) (λ other. stops (λ k js. each_from k ranked_faults js) (each_read ranked_of) ranked_faults ranked_of (λ k j js. refl) (λ j js. refl) c.args.items.now c.loop-at.at c.index-items-at.result c.loop-at.ordering c.in_err-in_item.field-0.0
    c.loop-at-test.true c.index-items-at.is (c.in_err-in_item.ensures (ranked_faults (json_of c.index-items-at.result)) (ranked_of (json_of c.index-items-at.result)) c.ranked.ensures other) c.loop-at.invariant)

pub loop-at-preserved : goal.loop-at-preserved
loop-at-preserved c =
    let read = c.in_ok-in_item.ensures (ranked_faults (json_of c.index-items-at.result)) (ranked_of (json_of c.index-items-at.result)) c.ranked.ensures in
    rw c.in_ok-push.ensures.ok
    (next (λ k js. each_from k ranked_faults js) (each_read ranked_of) ranked_faults ranked_of (λ k j js. refl) (λ j js. refl) c.args.items.now c.loop-at.at c.index-items-at.result c.loop-at.ordering c.in_ok-in_item.field-0
    c.loop-at-test.true c.index-items-at.is read.0 read.1 c.loop-at.invariant)
