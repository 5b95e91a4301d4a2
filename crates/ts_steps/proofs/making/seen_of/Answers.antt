use Rattle.std.proofs.Common.{true, Bool, ap, ◌∙◌, ◌&&◌, [], arith}
use Rattle.ts_steps.proofs.MakingLemmas.{seen_none, seen_before}
use Rattle.ts_steps.proofs.making.seen_of.Goals as goal

pub with_those_behind-requires : goal.with_those_behind-requires
with_those_behind-requires c =
    let r = c.requires in
    let low = r.2 in
    let sum = r.4 in
    omega (arith, low, sum, c.outline.ensures.span)

pub returns : goal.returns
returns c =
    let o = c.outline.ensures in
    let new = c.with_those_behind.ensures in
    seen_before c.args.node.now [] c.args.behind (record { extent = c.args.behind; stated = true }) c.with_those_behind.result
    (omega (arith, new.extent, o.span, o.extent)) (new.stated ∙ ap (λ (b : Bool). true && b) o.stated) (seen_none c.args.behind)
