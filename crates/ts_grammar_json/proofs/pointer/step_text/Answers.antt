use Rattle.std.proofs.Common.{◌∙◌, ap, ◌∷◌}
use Rattle.std.proofs.lemmas.Iterator.{YieldsList-from_chars}
use Rattle.std.proofs.lemmas.Iterator.Consumers.{YieldsList-end}
use Rattle.ts_base.specs.Bytes.{Bytes}
use Rattle.ts_grammar_json.proofs.PointerLemmas.{escaped_push, escaped_all}
use Rattle.ts_grammar_json.specs.Pointer.{escaped}
use Rattle.std.specs.String.{string_bytes}
use Rattle.ts_grammar_json.proofs.pointer.step_text.Goals as goal

pub loop-c-preserved : goal.loop-c-preserved
loop-c-preserved c = escaped_push (string_bytes c.loop-c.text) _ c.loop-c.yielded c.in-Some.c c.in_ok-push_escaped.ensures c.loop-c.invariant

pub returns : goal.returns
returns c =
    let t = YieldsList-end (YieldsList-from_chars c.args.name.now c.utf8.name cc) c.loop-c.yielded _ c.loop-c.yielded_by _ _ c.in-None.is c.next.ensures.steps in
    c.loop-c.invariant ∙ ap (λ (w : Bytes). 47 ∷ escaped w) (escaped_all c.args.name.now c.loop-c.yielded c.utf8.name t.0)
