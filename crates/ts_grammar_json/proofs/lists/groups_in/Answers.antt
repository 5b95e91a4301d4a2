use Rattle.std.proofs.Common.{refl}
use Rattle.std.proofs.lemmas.Result.{err_from_is_err_and}
use Rattle.ts_ojson.specs.Json.{json_of}
use Rattle.ts_grammar_json.specs.Faults.{each_from, list}
use Rattle.ts_grammar_json.specs.File.{is_text, text_at, list_of, each_read}
use Rattle.ts_grammar_json.proofs.ListLemmas.{next, stops}
use Rattle.ts_grammar_json.proofs.lists.groups_in.Goals as goal

pub returns-in_err-in_item : goal.returns-in_err-in_item
returns-in_err-in_item c =
    let p = err_from_is_err_and c.from_residual.result c.from_residual.ensures.1 in
    rw (p.1, p.2) (λ other. stops (λ k js. each_from k (list is_text) js) (each_read (list_of text_at)) (list is_text) (list_of text_at) (λ k j js. refl) (λ j js. refl) c.args.items.now c.loop-at.at c.index-items-at.result c.loop-at.groups c.in_err-in_item.field-0.0
    c.loop-at-test.true c.index-items-at.is (c.in_err-in_item.ensures ((list is_text) (json_of c.index-items-at.result)) ((list_of text_at) (json_of c.index-items-at.result)) c.texts.ensures other) c.loop-at.invariant)

pub loop-at-preserved : goal.loop-at-preserved
loop-at-preserved c =
    let read = c.in_ok-in_item.ensures ((list is_text) (json_of c.index-items-at.result)) ((list_of text_at) (json_of c.index-items-at.result)) c.texts.ensures in
    rw c.in_ok-push.ensures.ok
    (next (λ k js. each_from k (list is_text) js) (each_read (list_of text_at)) (list is_text) (list_of text_at) (λ k j js. refl) (λ j js. refl) c.args.items.now c.loop-at.at c.index-items-at.result c.loop-at.groups c.in_ok-in_item.field-0
    c.loop-at-test.true c.index-items-at.is read.0 read.1 c.loop-at.invariant)
