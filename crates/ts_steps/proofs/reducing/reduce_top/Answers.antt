use Rattle.std.proofs.Common.{◌≡◌, ◌∙◌, sym, ap, subst, ℕ, ◌+◌, ◌++◌, ◌≤◌, ◌∷◌, List, [], length, map, reverse, arith}
use Rattle.spec_trees.specs.declared.tree.Tree.{Tree}
use Rattle.ts_gss.specs.declared.layer.Layer.{Layer}
use Rattle.spec_trees.specs.Trees.{span_of, all_spans}
use Rattle.spec_packing.specs.Packing.{packed_depths}
use Rattle.ts_gss.specs.Stacks.{stack_at, trees_on, state_on}
use Rattle.ts_steps.specs.LiveHeads.{read_on, packed_tree, packed_own, packed_layers, IsGoodStack, CanPut}
use Rattle.spec_trees.specs.Made.{most_depth}
use Rattle.ts_steps.specs.Making.{depth_by}
use Rattle.ts_steps.proofs.LayerLemmas.{own_less}
use Rattle.ts_steps.proofs.PutLemmas.{enough, stands, stands_still, can_reduce}
use Rattle.ts_steps.proofs.MadeLemmas.{line_at, small_at, can_at, made_is}
use Rattle.ts_steps.proofs.ReduceLemmas.{without, state_has, done_none, done_some, done_own, done_put, done_stands}
use Rattle.ts_steps.proofs.TopLemmas.{some_read, top_tree}
use Rattle.ts_gss.proofs.OneLemmas.{one_cut}
use Rattle.ts_steps.proofs.reducing.reduce_top.Goals as goal

pub seen_on_top-seen-requires-clause-one : goal.seen_on_top-seen-requires-clause-one
seen_on_top-seen-requires-clause-one c =
    let t = c.args.table.now in
    let s = c.args.setting.now in
    let l = c.args.line in
    let line = line_at t s.size s c.requires.setting c.args.number l c.requires.line in
    let small = small_at t s.size s c.requires.setting c.args.number c.values_are_small.ensures in
    let e = enough c.laws_hold.ensures t s.size c.args.number c.requires.stays.0 c.args.graph.now c.args.head l c.requires.stays.1 line small in
    omega (arith, e, c.requires.one)

pub seen_on_top-seen-requires-clause-live : goal.seen_on_top-seen-requires-clause-live
seen_on_top-seen-requires-clause-live c = (c.args.table.now, c.args.setting.now.size, c.requires.setting.short, c.requires.live.live, c.requires.ahead)

pub take_node-child-requires-clause-some : goal.take_node-child-requires-clause-some
take_node-child-requires-clause-some c =
    let t = c.args.table.now in
    let s = c.args.setting.now in
    let l = c.args.line in
    let line = line_at t s.size s c.requires.setting c.args.number l c.requires.line in
    let small = small_at t s.size s c.requires.setting c.args.number c.values_are_small.ensures in
    let e = enough c.laws_hold.ensures t s.size c.args.number c.requires.stays.0 c.args.graph.now c.args.head l c.requires.stays.1 line small in
    some_read (stack_at c.args.graph.now c.args.head.top) (omega (arith, e, c.requires.one))

pub state_below-state-requires : goal.state_below-state-requires
state_below-state-requires c =
    let low = c.seen_on_top-seen.ensures.lower in
    let there = c.requires.live.live.there in
    omega (arith, low, there)

pub cut-requires : goal.cut-requires
cut-requires c =
    let low = c.seen_on_top-seen.ensures.lower in
    let there = c.take_node-child.ensures.there in
    omega (arith, low, there)

pub node_of_one-requires-clause-can : goal.node_of_one-requires-clause-can
node_of_one-requires-clause-can c =
    let t = c.args.table.now in
    let s = c.args.setting.now in
    let old = c.args.graph.now in
    let h = c.args.head in
    let l = c.args.line in
    let line = line_at t s.size s c.requires.setting c.args.number l c.requires.line in
    let small = small_at t s.size s c.requires.setting c.args.number c.values_are_small.ensures in
    let gat = (c.seen_on_top-seen.ensures.seen c.take_node-child.result c.take_node-child.ensures.node c.args.line.steps c.requires.one t s.size c.requires.live.live c.requires.ahead).gathered in
    let children : List Tree = c.take_node-child.result ∷ [] in
    let extent = c.seen_on_top-seen.result.extent in
    let can = can_reduce c.laws_hold.ensures t s.size c.args.number c.requires.stays.0 old h l c.requires.stays.1 line small [] children extent (stack_at old c.seen_on_top-seen.result.below) gat
    c.stands.ensures c.requires.setting.short in
    can_at t s.size s c.requires.setting c.args.number l line.production extent children can line

pub node_of_one-requires-clause-shallow : goal.node_of_one-requires-clause-shallow
node_of_one-requires-clause-shallow c =
    let l = c.args.line in
    let all = c.seen_on_top-seen.ensures.seen c.take_node-child.result c.take_node-child.ensures.node c.args.line.steps c.requires.one c.args.table.now c.args.setting.now.size c.requires.live.live c.requires.ahead in
    let k = all.layers in
    let less = own_less l.lengthens (c.take_node-child.result ∷ []) (packed_depths k.taken) c.seen_on_top-seen.result.depth 0 k.covers k.depths in
    let depth = c.in-Some.ensures in
    omega (arith, less, depth.0, depth.1)

pub put-requires-clause-stands : goal.put-requires-clause-stands
put-requires-clause-stands c =
    let t = c.args.table.now in
    let s = c.args.setting.now in
    let old = c.args.graph.now in
    let h = c.args.head in
    let l = c.args.line in
    let line = line_at t s.size s c.requires.setting c.args.number l c.requires.line in
    let small = small_at t s.size s c.requires.setting c.args.number c.values_are_small.ensures in
    let gat = (c.seen_on_top-seen.ensures.seen c.take_node-child.result c.take_node-child.ensures.node c.args.line.steps c.requires.one t s.size c.requires.live.live c.requires.ahead).gathered in
    let before = stands c.laws_hold.ensures t s.size c.args.number c.requires.stays.0 old h l c.requires.stays.1 line small [] (c.take_node-child.result ∷ []) c.seen_on_top-seen.result.extent (stack_at old c.seen_on_top-seen.result.below) gat in
    stands_still t l.left.0 (stack_at old c.seen_on_top-seen.result.below) (stack_at c.cut.new.self c.seen_on_top-seen.result.below) (c.cut.ensures.stack ∙ c.take_node-child.ensures.kept c.seen_on_top-seen.result.below c.seen_on_top-seen.ensures.lower) (s.size, _, gat.base, before)

pub returns-in-None-clause-done : goal.returns-in-None-clause-done
returns-in-None-clause-done c =
    let t = c.args.table.now in
    let s = c.args.setting.now in
    let old = c.args.graph.now in
    let h = c.args.head in
    let l = c.args.line in
    let line = line_at t s.size s c.requires.setting c.args.number l c.requires.line in
    let small = small_at t s.size s c.requires.setting c.args.number c.values_are_small.ensures in
    let one : 1 ≤ length (read_on old h) = let e = enough c.laws_hold.ensures t s.size c.args.number c.requires.stays.0 old h l c.requires.stays.1 line small in omega (arith, e, c.requires.one) in
    let all = c.seen_on_top-seen.ensures.seen (top_tree (stack_at c.args.graph.now c.args.head.top) one).0 (top_tree (stack_at c.args.graph.now c.args.head.top) one).1 c.args.line.steps c.requires.one t s.size c.requires.live.live c.requires.ahead in
    let extras : List Tree = [] in
    let children : List Tree = (top_tree (stack_at c.args.graph.now c.args.head.top) one).0 ∷ [] in
    let extent = c.seen_on_top-seen.result.extent in
    let below = stack_at old c.seen_on_top-seen.result.below in
    let state = c.state_below-state.result in
    done_none c.laws_hold.ensures t s.size c.args.number c.requires.stays.0 old h l c.requires.stays.1 line small extras children extent below all.gathered c.stands.ensures c.requires.setting.short
    c.seen_on_top-seen.result.depth 0 all.layers state c.args.graph.now c.in-None.ensures

pub returns-in_ok-top-in-Some-clause-done : goal.returns-in_ok-top-in-Some-clause-done
returns-in_ok-top-in-Some-clause-done c =
    let t = c.args.table.now in
    let s = c.args.setting.now in
    let old = c.args.graph.now in
    let h = c.args.head in
    let l = c.args.line in
    let line = line_at t s.size s c.requires.setting c.args.number l c.requires.line in
    let small = small_at t s.size s c.requires.setting c.args.number c.values_are_small.ensures in
    let all = c.seen_on_top-seen.ensures.seen c.take_node-child.result c.take_node-child.ensures.node c.args.line.steps c.requires.one t s.size c.requires.live.live c.requires.ahead in
    let extras : List Tree = [] in
    let children : List Tree = c.take_node-child.result ∷ [] in
    let extent = c.seen_on_top-seen.result.extent in
    let below = stack_at old c.seen_on_top-seen.result.below in
    let state = c.state_below-state.result in
    let fits : depth_by l.lengthens c.seen_on_top-seen.result.depth 0 ≤ most_depth = let d = c.in-Some.ensures in omega (arith, d.0, d.1) in
    let u = c.in_ok-node-in-Some.node in
    let w = made_is t s.size s c.requires.setting c.args.number extent state children u c.in_ok-node-in-Some.ensures.node c.in_ok-node-in-Some.ensures.shallow in
    let same : stack_at c.cut.new.self c.seen_on_top-seen.result.below ≡ below = c.cut.ensures.stack ∙ c.take_node-child.ensures.kept c.seen_on_top-seen.result.below c.seen_on_top-seen.ensures.lower in
    let top = c.in_ok-top-in-Some.top in
    let new = c.put.new.graph in
    let trees : trees_on (stack_at new top) ≡ reverse extras ++ u ∷ trees_on below =
    c.in_ok-top-in-Some.ensures.trees ∙ ap (λ (x : List Layer). u ∷ trees_on x) same in
    let good : (place : ℕ) → IsGoodStack t s.size below place → CanPut t s.size place l.left.0 u (depth_by l.lengthens c.seen_on_top-seen.result.depth 0) extras → IsGoodStack t s.size (stack_at new top) (place + (span_of u + all_spans extras)) = λ place base can.
    c.in_ok-top-in-Some.ensures.good s.size place (subst (λ (x : List Layer). IsGoodStack t s.size x place) (sym same) base) (subst (λ (n : ℕ). CanPut t s.size place l.left.0 u n extras) (sym c.in-Some.ensures.0) can) in
    let lies : packed_layers (stack_at new top) ≡ map packed_own (reverse extras) ++ packed_tree u (depth_by l.lengthens c.seen_on_top-seen.result.depth 0) ∷ packed_layers below =
    c.in_ok-top-in-Some.ensures.layers ∙ ap (λ (x : List Layer). packed_tree u c.in-Some.depth ∷ packed_layers x) same ∙ ap (λ (n : ℕ). packed_tree u n ∷ packed_layers below) c.in-Some.ensures.0 in
    done_some c.laws_hold.ensures t s.size c.args.number c.requires.stays.0 old h l c.requires.stays.1 line small extras children extent below all.gathered c.stands.ensures c.requires.setting.short c.seen_on_top-seen.result.depth 0 all.layers state u w.0 fits new top c.in_ok-top-in-Some.ensures.there trees good lies

pub returns-in_ok-top-in-Some-clause-live : goal.returns-in_ok-top-in-Some-clause-live
returns-in_ok-top-in-Some-clause-live c =
    let t = c.args.table.now in
    let s = c.args.setting.now in
    let old = c.args.graph.now in
    let h = c.args.head in
    let l = c.args.line in
    let line = line_at t s.size s c.requires.setting c.args.number l c.requires.line in
    let small = small_at t s.size s c.requires.setting c.args.number c.values_are_small.ensures in
    let all = c.seen_on_top-seen.ensures.seen c.take_node-child.result c.take_node-child.ensures.node c.args.line.steps c.requires.one t s.size c.requires.live.live c.requires.ahead in
    let extras : List Tree = [] in
    let children : List Tree = c.take_node-child.result ∷ [] in
    let extent = c.seen_on_top-seen.result.extent in
    let below = stack_at old c.seen_on_top-seen.result.below in
    let state = c.state_below-state.result in
    let fits : depth_by l.lengthens c.seen_on_top-seen.result.depth 0 ≤ most_depth = let d = c.in-Some.ensures in omega (arith, d.0, d.1) in
    let u = c.in_ok-node-in-Some.node in
    let w = made_is t s.size s c.requires.setting c.args.number extent state children u c.in_ok-node-in-Some.ensures.node c.in_ok-node-in-Some.ensures.shallow in
    let same : stack_at c.cut.new.self c.seen_on_top-seen.result.below ≡ below = c.cut.ensures.stack ∙ c.take_node-child.ensures.kept c.seen_on_top-seen.result.below c.seen_on_top-seen.ensures.lower in
    let top = c.in_ok-top-in-Some.top in
    let new = c.put.new.graph in
    let trees : trees_on (stack_at new top) ≡ reverse extras ++ u ∷ trees_on below =
    c.in_ok-top-in-Some.ensures.trees ∙ ap (λ (x : List Layer). u ∷ trees_on x) same in
    let good : (place : ℕ) → IsGoodStack t s.size below place → CanPut t s.size place l.left.0 u (depth_by l.lengthens c.seen_on_top-seen.result.depth 0) extras → IsGoodStack t s.size (stack_at new top) (place + (span_of u + all_spans extras)) = λ place base can.
    c.in_ok-top-in-Some.ensures.good s.size place (subst (λ (x : List Layer). IsGoodStack t s.size x place) (sym same) base) (subst (λ (n : ℕ). CanPut t s.size place l.left.0 u n extras) (sym c.in-Some.ensures.0) can) in
    done_own c.laws_hold.ensures t s.size c.args.number c.requires.stays.0 old h l c.requires.stays.1 line small extras children extent below all.gathered c.stands.ensures c.requires.setting.short c.seen_on_top-seen.result.depth 0 all.layers state u w.0 fits new top c.in_ok-top-in-Some.ensures.there trees good c.requires.live.own c.requires.live.made

pub returns-in_ok-top-in-Some-clause-put : goal.returns-in_ok-top-in-Some-clause-put
returns-in_ok-top-in-Some-clause-put c =
    let t = c.args.table.now in
    let s = c.args.setting.now in
    let old = c.args.graph.now in
    let h = c.args.head in
    let l = c.args.line in
    let line = line_at t s.size s c.requires.setting c.args.number l c.requires.line in
    let small = small_at t s.size s c.requires.setting c.args.number c.values_are_small.ensures in
    let all = c.seen_on_top-seen.ensures.seen c.take_node-child.result c.take_node-child.ensures.node c.args.line.steps c.requires.one t s.size c.requires.live.live c.requires.ahead in
    let extras : List Tree = [] in
    let children : List Tree = c.take_node-child.result ∷ [] in
    let extent = c.seen_on_top-seen.result.extent in
    let below = stack_at old c.seen_on_top-seen.result.below in
    let state = c.state_below-state.result in
    let fits : depth_by l.lengthens c.seen_on_top-seen.result.depth 0 ≤ most_depth = let d = c.in-Some.ensures in omega (arith, d.0, d.1) in
    let u = c.in_ok-node-in-Some.node in
    let w = made_is t s.size s c.requires.setting c.args.number extent state children u c.in_ok-node-in-Some.ensures.node c.in_ok-node-in-Some.ensures.shallow in
    let same : stack_at c.cut.new.self c.seen_on_top-seen.result.below ≡ below = c.cut.ensures.stack ∙ c.take_node-child.ensures.kept c.seen_on_top-seen.result.below c.seen_on_top-seen.ensures.lower in
    let top = c.in_ok-top-in-Some.top in
    let new = c.put.new.graph in
    let trees : trees_on (stack_at new top) ≡ reverse extras ++ u ∷ trees_on below =
    c.in_ok-top-in-Some.ensures.trees ∙ ap (λ (x : List Layer). u ∷ trees_on x) same in
    let good : (place : ℕ) → IsGoodStack t s.size below place → CanPut t s.size place l.left.0 u (depth_by l.lengthens c.seen_on_top-seen.result.depth 0) extras → IsGoodStack t s.size (stack_at new top) (place + (span_of u + all_spans extras)) = λ place base can.
    c.in_ok-top-in-Some.ensures.good s.size place (subst (λ (x : List Layer). IsGoodStack t s.size x place) (sym same) base) (subst (λ (n : ℕ). CanPut t s.size place l.left.0 u n extras) (sym c.in-Some.ensures.0) can) in
    let with = without c.args.ahead.only c.seen_on_top-seen.result.stated c.is_without_choice-only.result l.steps children extras c.is_without_choice-only.ensures all.stated in
    done_put c.laws_hold.ensures t s.size c.args.number c.requires.stays.0 old h l c.requires.stays.1 line small extras children extent below all.gathered c.stands.ensures c.requires.setting.short c.seen_on_top-seen.result.depth 0 all.layers state u w.0 fits new top c.in_ok-top-in-Some.ensures.there trees good c.args.ahead c.is_without_choice-only.result all.covers c.state_below-state.ensures with

pub returns-in_ok-top-in-Some-clause-stand : goal.returns-in_ok-top-in-Some-clause-stand
returns-in_ok-top-in-Some-clause-stand c states text long are ahead stand =
    let t = c.args.table.now in
    let s = c.args.setting.now in
    let old = c.args.graph.now in
    let h = c.args.head in
    let l = c.args.line in
    let line = line_at t s.size s c.requires.setting c.args.number l c.requires.line in
    let small = small_at t s.size s c.requires.setting c.args.number c.values_are_small.ensures in
    let all = c.seen_on_top-seen.ensures.seen c.take_node-child.result c.take_node-child.ensures.node c.args.line.steps c.requires.one t s.size c.requires.live.live c.requires.ahead in
    let extras : List Tree = [] in
    let children : List Tree = c.take_node-child.result ∷ [] in
    let extent = c.seen_on_top-seen.result.extent in
    let below = stack_at old c.seen_on_top-seen.result.below in
    let state = c.state_below-state.result in
    let fits : depth_by l.lengthens c.seen_on_top-seen.result.depth 0 ≤ most_depth = let d = c.in-Some.ensures in omega (arith, d.0, d.1) in
    let u = c.in_ok-node-in-Some.node in
    let w = made_is t s.size s c.requires.setting c.args.number extent state children u c.in_ok-node-in-Some.ensures.node c.in_ok-node-in-Some.ensures.shallow in
    let same : stack_at c.cut.new.self c.seen_on_top-seen.result.below ≡ below = c.cut.ensures.stack ∙ c.take_node-child.ensures.kept c.seen_on_top-seen.result.below c.seen_on_top-seen.ensures.lower in
    let top = c.in_ok-top-in-Some.top in
    let new = c.put.new.graph in
    let trees : trees_on (stack_at new top) ≡ reverse extras ++ u ∷ trees_on below =
    c.in_ok-top-in-Some.ensures.trees ∙ ap (λ (x : List Layer). u ∷ trees_on x) same in
    let good : (place : ℕ) → IsGoodStack t s.size below place → CanPut t s.size place l.left.0 u (depth_by l.lengthens c.seen_on_top-seen.result.depth 0) extras → IsGoodStack t s.size (stack_at new top) (place + (span_of u + all_spans extras)) = λ place base can.
    c.in_ok-top-in-Some.ensures.good s.size place (subst (λ (x : List Layer). IsGoodStack t s.size x place) (sym same) base) (subst (λ (n : ℕ). CanPut t s.size place l.left.0 u n extras) (sym c.in-Some.ensures.0) can) in
    let with = without c.args.ahead.only c.seen_on_top-seen.result.stated c.is_without_choice-only.result l.steps children extras c.is_without_choice-only.ensures all.stated in
    done_stands c.laws_hold.ensures t s.size c.args.number c.requires.stays.0 old h l c.requires.stays.1 line small extras children extent below all.gathered c.stands.ensures c.requires.setting.short c.seen_on_top-seen.result.depth 0 all.layers state u w.0 fits new top c.in_ok-top-in-Some.ensures.there trees good c.sound_laws_hold.ensures states text are c.args.ahead all.covers ahead
    (λ n e. state_has c.args.ahead.only c.is_without_choice-only.result l.steps (state_on below) n state children extras c.state_below-state.ensures with e) stand

pub returns-in_ok-top-in-Some-clause-one : goal.returns-in_ok-top-in-Some-clause-one
returns-in_ok-top-in-Some-clause-one c one =
    let low = c.seen_on_top-seen.ensures.lower in
    let left = c.take_node-child.ensures.there in
    let cut = one_cut c.args.graph.now c.take_node-child.new.self c.cut.new.self c.args.head.top c.seen_on_top-seen.result.below one.lie (omega (arith, low)) (omega (arith, low, left))
    (λ k le. c.take_node-child.ensures.kept k (omega (arith, low, le)))
    c.cut.ensures.cut in
    c.in_ok-top-in-Some.ensures.one cut
