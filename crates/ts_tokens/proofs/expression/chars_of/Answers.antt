use Rattle.std.proofs.Common.{◌∙◌, ap, sym, ℕ, List, map}
use Rattle.std.proofs.lemmas.Iterator.{YieldsList-from_chars}
use Rattle.std.proofs.lemmas.Iterator.Consumers.{YieldsList-end}
use Rattle.ts_rules.specs.Tokens.{one_char}
use Rattle.ts_tokens.proofs.TextLemmas.{map_same}
use Rattle.ts_tokens.proofs.expression.chars_of.Goals as goal

pub returns : goal.returns
returns c =
    let t = YieldsList-end (YieldsList-from_chars c.args.text.now c.utf8.text cc) c.loop-c.yielded _ c.loop-c.yielded_by _ _ c.in-None.is c.next.ensures.steps in
    c.loop-c.invariant ∙ ap (λ (cs : List ℕ). map one_char cs) (sym (map_same c.loop-c.yielded) ∙ t.0)
