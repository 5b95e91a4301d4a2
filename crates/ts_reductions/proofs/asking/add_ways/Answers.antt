use Rattle.std.proofs.Common.{◌∙◌, sym, ap, subst, ℕ, ◌<◌, List, length, arith}
use Rattle.ts_table.specs.Ranks.{unit_rank}
use Rattle.std.proofs.lemmas.Option.{slice_get_within}
use Rattle.ts_graph.specs.declared.ways.Way.{Way}
use Rattle.ts_graph.specs.Ways.{IsOnlyWay, ListsWaysTo}
use Rattle.ts_reductions.specs.Asking.{IsOfKey}
use Rattle.ts_reductions.proofs.AddLemmas.{other_rank, in_told}
use Rattle.ts_reductions.proofs.CallLemmas.{line_low, left_in}
use Rattle.ts_reductions.proofs.asking.add_ways.Goals as goal

pub get-line-requires : goal.get-line-requires
get-line-requires c = let r = c.requires in line_low c.laws_hold.ensures c.args.table.now c.stands.ensures r.0 c.args.setting.now c.args.graph.now c.args.asked.batch c.args.asked.top c.args.asked.number r.1 r.2

pub get-requires : goal.get-requires
get-requires c =
    let r = c.requires in
    let low = left_in c.laws_hold.ensures c.args.table.now c.stands.ensures r.0 c.args.setting.now c.args.graph.now c.args.asked.batch c.args.asked.top c.args.asked.number r.1 r.2 c.get-line.result.now c.get-line.ensures in
    let e = c.from.ensures in
    omega (arith, low, e)

pub returns-then-get-asked : goal.returns-then-get-asked
returns-then-get-asked c = λ text ready has.
    let n = ready.setting.lines.each c.args.asked.number c.get-line.result.now c.get-line.ensures in
    let h = c.if-get-asked.true in
    other_rank c.args.table.now (length text) c.args.graph.now c.args.asked.batch c.args.mades.now.items c.args.asked.top c.args.asked.number c.get-line.result.now.left.0 n.production n.at (λ e. h (ready.setting.ranks.each c.from.result c.get.result.now c.get.ensures ∙ ap (unit_rank c.args.table.now.grammar) c.from.ensures ∙ e))

pub only_way-requires : goal.only_way-requires
only_way-requires c = let r = c.requires in slice_get_within c.args.graph.now.heads c.args.asked.top.head r.1.seen.at.head r.1.seen.at.is

pub add_only-requires : goal.add_only-requires
add_only-requires c =
    let text = c.requires.0 in
    let ready = c.requires.1 in
    let has = c.requires.2 in
    let n = ready.setting.lines.each c.args.asked.number c.get-line.result.now c.get-line.ensures in
    let reduction : IsOfKey c.args.table.now c.args.graph.now c.args.asked.batch c.args.asked.top c.args.asked.number c.get-line.result.now.steps = record {
      has = has;
      left = c.get-line.result.now.left.0;
      production = n.production;
      is = n.at;
      steps = n.steps;
      ranked = sym (ready.setting.ranks.each c.from.result c.get.result.now c.get.ensures ∙ ap (unit_rank c.args.table.now.grammar) c.from.ensures) ∙ c.if-get-asked.false;
    } in
    let only : IsOnlyWay c.args.graph.now.links c.args.asked.top.head c.get-line.result.now.steps c.as_slice-links.result.now c.in-Some.below =
    subst (λ (ns : List ℕ). IsOnlyWay c.args.graph.now.links c.args.asked.top.head c.get-line.result.now.steps ns c.in-Some.below) (sym c.as_slice-links.ensures.value)
    (in_told (λ (b : ℕ). IsOnlyWay c.args.graph.now.links c.args.asked.top.head c.get-line.result.now.steps c.only_way.new.numbers.items b) c.in_ok-below.field-0 c.in-Some.below c.in-Some.is c.in_ok-below.ensures.only) in
    let there = in_told (λ (b : ℕ). b < length c.args.graph.now.heads) c.in_ok-below.field-0 c.in-Some.below c.in-Some.is c.in_ok-below.ensures.there in
    (text, ready, record { count = c.get-line.result.now.steps; reduction = reduction; only = only; there = there })

pub returns-in_ok-more-in-Some : goal.returns-in_ok-more-in-Some
returns-in_ok-more-in-Some c = λ text ready has.
    let n = ready.setting.lines.each c.args.asked.number c.get-line.result.now c.get-line.ensures in
    let reduction : IsOfKey c.args.table.now c.args.graph.now c.args.asked.batch c.args.asked.top c.args.asked.number c.get-line.result.now.steps = record {
      has = has;
      left = c.get-line.result.now.left.0;
      production = n.production;
      is = n.at;
      steps = n.steps;
      ranked = sym (ready.setting.ranks.each c.from.result c.get.result.now c.get.ensures ∙ ap (unit_rank c.args.table.now.grammar) c.from.ensures) ∙ c.if-get-asked.false;
    } in
    let only : IsOnlyWay c.args.graph.now.links c.args.asked.top.head c.get-line.result.now.steps c.as_slice-links.result.now c.in-Some.below =
    subst (λ (ns : List ℕ). IsOnlyWay c.args.graph.now.links c.args.asked.top.head c.get-line.result.now.steps ns c.in-Some.below) (sym c.as_slice-links.ensures.value)
    (in_told (λ (b : ℕ). IsOnlyWay c.args.graph.now.links c.args.asked.top.head c.get-line.result.now.steps c.only_way.new.numbers.items b) c.in_ok-below.field-0 c.in-Some.below c.in-Some.is c.in_ok-below.ensures.only) in
    let there = in_told (λ (b : ℕ). b < length c.args.graph.now.heads) c.in_ok-below.field-0 c.in-Some.below c.in-Some.is c.in_ok-below.ensures.there in
    c.in_ok-more-in-Some.ensures text ready record { count = c.get-line.result.now.steps; reduction = reduction; only = only; there = there }

pub ways_to-requires : goal.ways_to-requires
ways_to-requires c = let r = c.requires in slice_get_within c.args.graph.now.heads c.args.asked.top.head r.1.seen.at.head r.1.seen.at.is

pub add_all-requires : goal.add_all-requires
add_all-requires c =
    let text = c.requires.0 in
    let ready = c.requires.1 in
    let has = c.requires.2 in
    let n = ready.setting.lines.each c.args.asked.number c.get-line.result.now c.get-line.ensures in
    let reduction : IsOfKey c.args.table.now c.args.graph.now c.args.asked.batch c.args.asked.top c.args.asked.number c.get-line.result.now.steps = record {
      has = has;
      left = c.get-line.result.now.left.0;
      production = n.production;
      is = n.at;
      steps = n.steps;
      ranked = sym (ready.setting.ranks.each c.from.result c.get.result.now c.get.ensures ∙ ap (unit_rank c.args.table.now.grammar) c.from.ensures) ∙ c.if-get-asked.false;
    } in
    let lists : ListsWaysTo c.args.graph.now.heads c.args.graph.now.links c.args.asked.top.head c.get-line.result.now.steps c.args.asked.batch.begins c.as_slice-all.result.now =
    subst (λ (ws : List Way). ListsWaysTo c.args.graph.now.heads c.args.graph.now.links c.args.asked.top.head c.get-line.result.now.steps c.args.asked.batch.begins ws) (sym c.as_slice-all.ensures.value) c.in_ok-ways-in-None.ensures in
    (text, ready, record { count = c.get-line.result.now.steps; reduction = reduction; lists = lists })

pub returns-in_ok-more-in-None : goal.returns-in_ok-more-in-None
returns-in_ok-more-in-None c = λ text ready has.
    let n = ready.setting.lines.each c.args.asked.number c.get-line.result.now c.get-line.ensures in
    let reduction : IsOfKey c.args.table.now c.args.graph.now c.args.asked.batch c.args.asked.top c.args.asked.number c.get-line.result.now.steps = record {
      has = has;
      left = c.get-line.result.now.left.0;
      production = n.production;
      is = n.at;
      steps = n.steps;
      ranked = sym (ready.setting.ranks.each c.from.result c.get.result.now c.get.ensures ∙ ap (unit_rank c.args.table.now.grammar) c.from.ensures) ∙ c.if-get-asked.false;
    } in
    let lists : ListsWaysTo c.args.graph.now.heads c.args.graph.now.links c.args.asked.top.head c.get-line.result.now.steps c.args.asked.batch.begins c.as_slice-all.result.now =
    subst (λ (ws : List Way). ListsWaysTo c.args.graph.now.heads c.args.graph.now.links c.args.asked.top.head c.get-line.result.now.steps c.args.asked.batch.begins ws) (sym c.as_slice-all.ensures.value) c.in_ok-ways-in-None.ensures in
    c.in_ok-more-in-None.ensures text ready record { count = c.get-line.result.now.steps; reduction = reduction; lists = lists }
