use Rattle.std.proofs.Common.{refl}
use Rattle.std.proofs.lemmas.Result.{err_from_is_err_and}
use Rattle.ts_ojson.specs.Json.{json_of}
use Rattle.ts_grammar_json.specs.Faults.{each_from}
use Rattle.ts_grammar_json.specs.File.{is_text, text_at, each_read}
use Rattle.ts_grammar_json.proofs.ListLemmas.{next, stops}
use Rattle.ts_grammar_json.proofs.lists.texts_in.Goals as goal

pub returns-in_err-in_item : goal.returns-in_err-in_item
returns-in_err-in_item c =
    let p = err_from_is_err_and c.from_residual.result c.from_residual.ensures.1 in
    rw (p.1, p.2) (λ other. stops (λ k js. each_from k is_text js) (each_read text_at) is_text text_at (λ k j js. refl) (λ j js. refl) c.args.items.now c.loop-at.at c.index-items-at.result c.loop-at.texts c.in_err-in_item.field-0.0
    c.loop-at-test.true c.index-items-at.is (c.in_err-in_item.ensures (is_text (json_of c.index-items-at.result)) (text_at (json_of c.index-items-at.result)) c.text.ensures other) c.loop-at.invariant)

pub loop-at-preserved : goal.loop-at-preserved
loop-at-preserved c =
    let read = c.in_ok-in_item.ensures (is_text (json_of c.index-items-at.result)) (text_at (json_of c.index-items-at.result)) c.text.ensures in
    rw c.in_ok-push.ensures.ok
    (next (λ k js. each_from k is_text js) (each_read text_at) is_text text_at (λ k j js. refl) (λ j js. refl) c.args.items.now c.loop-at.at c.index-items-at.result c.loop-at.texts c.in_ok-in_item.field-0
    c.loop-at-test.true c.index-items-at.is read.0 read.1 c.loop-at.invariant)
