use Rattle.std.proofs.Common.{◌≡◌, ◌∙◌, sym, ap, ◌+◌, Some, arith}
use Rattle.std.proofs.lemmas.Option.{slice_get_within}
use Rattle.spec_graph.specs.declared.graph.Link.{Link}
use Rattle.ts_reductions.specs.Laying.{head_at}
use Rattle.ts_reductions.proofs.LayLemmas.{opened, pushed, packed, form, falls, below_there}
use Rattle.ts_reductions.proofs.laying.lay.Goals as goal

pub pack-requires-clause-form : goal.pack-requires-clause-form
pack-requires-clause-form c =
    let o = opened c.args.graph.now c.open.new.self c.args.below c.in_ok-above.above c.args.piece.state c.head-from.result c.args.piece.node c.pad.result c.size.result c.head-from.ensures c.pad.ensures c.size.ensures
    c.in_ok-above.ensures.stay c.in_ok-above.ensures.links c.in_ok-above.ensures.opened in
    form c.laws_hold.ensures c.requires.0 c.args.graph.now c.open.new.self c.args.below c.in_ok-above.above c.args.piece.node c.args.piece.depth c.args.piece.state c.head-from.result.place (c.head-from.result.place + (c.pad.result + c.size.result)) o c.requires.1 c.in-Some.link c.in-Some.ensures

pub pack-requires-clause-own : goal.pack-requires-clause-own
pack-requires-clause-own c = λ l at.
    let between = c.in-Some.ensures in
    let own = c.in_ok-above.ensures.own in
    let both : Some between.link ≡ Some l = sym between.at ∙ at in
    let same : between.link ≡ l = cc in
    let up : l.above ≡ c.in_ok-above.above = ap (λ (x : Link). x.above) (sym same) ∙ between.above_is in
    omega (arith, own, up)

pub push-requires-clause-own : goal.push-requires-clause-own
push-requires-clause-own c = c.in_ok-above.ensures.own

pub push-requires-clause-above : goal.push-requires-clause-above
push-requires-clause-above c = slice_get_within c.open.new.self.heads c.in_ok-above.above (head_at c.args.piece.state (c.head-from.result.place + (c.pad.result + c.size.result))) c.in_ok-above.ensures.opened.at

pub push-requires-clause-below : goal.push-requires-clause-below
push-requires-clause-below c =
    let o = opened c.args.graph.now c.open.new.self c.args.below c.in_ok-above.above c.args.piece.state c.head-from.result c.args.piece.node c.pad.result c.size.result c.head-from.ensures c.pad.ensures c.size.ensures
    c.in_ok-above.ensures.stay c.in_ok-above.ensures.links c.in_ok-above.ensures.opened in
    below_there c.laws_hold.ensures c.requires.0 c.args.graph.now c.open.new.self c.args.below c.in_ok-above.above c.args.piece.node c.args.piece.depth c.args.piece.state c.head-from.result.place (c.head-from.result.place + (c.pad.result + c.size.result)) o c.requires.1

pub push-requires-clause-falls : goal.push-requires-clause-falls
push-requires-clause-falls c =
    let o = opened c.args.graph.now c.open.new.self c.args.below c.in_ok-above.above c.args.piece.state c.head-from.result c.args.piece.node c.pad.result c.size.result c.head-from.ensures c.pad.ensures c.size.ensures
    c.in_ok-above.ensures.stay c.in_ok-above.ensures.links c.in_ok-above.ensures.opened in
    falls c.laws_hold.ensures c.requires.0 c.args.graph.now c.open.new.self c.args.below c.in_ok-above.above c.args.piece.node c.args.piece.depth c.args.piece.state c.head-from.result.place (c.head-from.result.place + (c.pad.result + c.size.result)) o c.requires.1

pub returns-in-Some : goal.returns-in-Some
returns-in-Some c P can =
    let o = opened c.args.graph.now c.open.new.self c.args.below c.in_ok-above.above c.args.piece.state c.head-from.result c.args.piece.node c.pad.result c.size.result c.head-from.ensures c.pad.ensures c.size.ensures
    c.in_ok-above.ensures.stay c.in_ok-above.ensures.links c.in_ok-above.ensures.opened in
    packed c.laws_hold.ensures P c.args.graph.now c.open.new.self c.args.below c.in_ok-above.above c.args.piece.node c.args.piece.depth c.args.piece.state c.head-from.result.place (c.head-from.result.place + (c.pad.result + c.size.result)) o can c.in-Some.link c.in-Some.ensures c.pack.new.self c.pack.ensures.heads c.pack.ensures.count c.pack.ensures.packed c.pack.ensures.others

pub returns-in_ok-push-in-None : goal.returns-in_ok-push-in-None
returns-in_ok-push-in-None c P can =
    let o = opened c.args.graph.now c.open.new.self c.args.below c.in_ok-above.above c.args.piece.state c.head-from.result c.args.piece.node c.pad.result c.size.result c.head-from.ensures c.pad.ensures c.size.ensures
    c.in_ok-above.ensures.stay c.in_ok-above.ensures.links c.in_ok-above.ensures.opened in
    pushed c.laws_hold.ensures P c.args.graph.now c.open.new.self c.args.below c.in_ok-above.above c.args.piece.node c.args.piece.depth c.args.piece.state c.head-from.result.place (c.head-from.result.place + (c.pad.result + c.size.result)) o can c.push.new.self c.in_ok-push-in-None.ensures.heads c.in_ok-push-in-None.ensures.pushed
