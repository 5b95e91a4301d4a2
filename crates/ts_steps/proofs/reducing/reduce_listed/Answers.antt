use Rattle.std.proofs.Common.{◌≡◌, ◌∙◌, sym, ap, subst, ℕ, ◌+◌, ◌++◌, ◌≤◌, ◌∷◌, List, map, reverse, arith}
use Rattle.spec_trees.specs.declared.tree.Tree.{Tree}
use Rattle.ts_gss.specs.declared.layer.Layer.{Layer}
use Rattle.spec_trees.specs.Trees.{span_of, all_spans}
use Rattle.spec_packing.specs.Packing.{packed_depths}
use Rattle.ts_gss.specs.Stacks.{stack_at, trees_on, state_on, IsOneStack}
use Rattle.ts_steps.specs.LiveHeads.{read_on, packed_tree, packed_own, packed_layers, IsGoodStack, CanPut, GainsStacks}
use Rattle.ts_steps.proofs.StackLemmas.{grows_none}
use Rattle.spec_trees.specs.Made.{most_depth}
use Rattle.ts_steps.specs.Making.{depth_by}
use Rattle.ts_steps.specs.Heads.{state_where}
use Rattle.ts_steps.proofs.LayerLemmas.{own_less, deep_some}
use Rattle.ts_steps.proofs.PutLemmas.{enough, stands, stands_still, can_reduce}
use Rattle.ts_steps.proofs.MadeLemmas.{line_there, line_at, small_at, can_at, made_is}
use Rattle.ts_steps.proofs.ReduceLemmas.{without, state_has, done_none, done_some, done_own, done_put, done_stands}
use Rattle.ts_gss.proofs.OneLemmas.{one_cut}
use Rattle.ts_steps.proofs.reducing.reduce_listed.Goals as goal

pub get-line-requires : goal.get-line-requires
get-line-requires c =
    line_there c.args.table.now c.args.setting.now.size c.args.setting.now c.requires.setting c.args.number (read_on c.args.graph.now c.args.head) (c.laws_hold.ensures.reduces c.args.table.now.grammar (read_on c.args.graph.now c.args.head) c.requires.stays.0 c.args.number c.requires.stays.1)

pub gather_for-requires-clause-enough : goal.gather_for-requires-clause-enough
gather_for-requires-clause-enough c =
    enough c.laws_hold.ensures c.args.table.now c.args.setting.now.size c.args.number c.requires.stays.0 c.args.graph.now c.args.head c.get-line.result.now c.requires.stays.1
    (line_at c.args.table.now c.args.setting.now.size c.args.setting.now c.requires.setting c.args.number c.get-line.result.now c.get-line.ensures) (small_at c.args.table.now c.args.setting.now.size c.args.setting.now c.requires.setting c.args.number c.values_are_small.ensures)

pub gather_for-requires-clause-live : goal.gather_for-requires-clause-live
gather_for-requires-clause-live c = (c.args.table.now, c.args.setting.now.size, c.requires.setting.short, c.requires.live.live, c.requires.ahead)

pub node_of-requires-clause-can : goal.node_of-requires-clause-can
node_of-requires-clause-can c =
    let t = c.args.table.now in
    let s = c.args.setting.now in
    let old = c.args.graph.now in
    let h = c.args.head in
    let l = c.get-line.result.now in
    let line = line_at t s.size s c.requires.setting c.args.number l c.get-line.ensures in
    let small = small_at t s.size s c.requires.setting c.args.number c.values_are_small.ensures in
    let gat = (c.in_ok-extras.ensures.gathered t s.size c.requires.live.live c.requires.ahead).gathered in
    let children = c.in_ok-extras.field-0.children.items in
    let extent = c.in_ok-extras.field-0.extent in
    let can = can_reduce c.laws_hold.ensures t s.size c.args.number c.requires.stays.0 old h l c.requires.stays.1 line small c.in_ok-extras.field-0.extras.items children extent (stack_at old c.in_ok-extras.field-0.below) gat
    c.stands.ensures c.requires.setting.short in
    can_at t s.size s c.requires.setting c.args.number l line.production extent children can line

pub node_of-requires-clause-shallow : goal.node_of-requires-clause-shallow
node_of-requires-clause-shallow c =
    let l = c.get-line.result.now in
    let r = c.in_ok-extras.field-0 in
    let all = c.in_ok-extras.ensures.gathered c.args.table.now c.args.setting.now.size c.requires.live.live c.requires.ahead in
    let k = all.layers in
    let less = own_less l.lengthens r.children.items (packed_depths k.taken) r.first r.others k.covers k.depths in
    let depth = c.in-Some.ensures in
    omega (arith, less, depth.0, depth.1)

pub put-requires-clause-stands : goal.put-requires-clause-stands
put-requires-clause-stands c =
    let t = c.args.table.now in
    let s = c.args.setting.now in
    let old = c.args.graph.now in
    let h = c.args.head in
    let l = c.get-line.result.now in
    let line = line_at t s.size s c.requires.setting c.args.number l c.get-line.ensures in
    let small = small_at t s.size s c.requires.setting c.args.number c.values_are_small.ensures in
    let gat = (c.in_ok-extras.ensures.gathered t s.size c.requires.live.live c.requires.ahead).gathered in
    let before = stands c.laws_hold.ensures t s.size c.args.number c.requires.stays.0 old h l c.requires.stays.1 line small c.in_ok-extras.field-0.extras.items c.in_ok-extras.field-0.children.items c.in_ok-extras.field-0.extent (stack_at old c.in_ok-extras.field-0.below) gat in
    stands_still t l.left.0 (stack_at old c.in_ok-extras.field-0.below) (stack_at c.keep.new.self c.in_ok-extras.field-0.below) (ap (λ (s : List (List Layer)). stack_at s c.in_ok-extras.field-0.below) c.keep.ensures ∙ c.cut_alone.ensures.stack ∙ c.in_ok-extras.ensures.same c.in_ok-extras.field-0.below (omega arith)) (s.size, _, gat.base, before)

pub returns-in-None-clause-done : goal.returns-in-None-clause-done
returns-in-None-clause-done c =
    let t = c.args.table.now in
    let s = c.args.setting.now in
    let old = c.args.graph.now in
    let h = c.args.head in
    let l = c.get-line.result.now in
    let line = line_at t s.size s c.requires.setting c.args.number l c.get-line.ensures in
    let small = small_at t s.size s c.requires.setting c.args.number c.values_are_small.ensures in
    let all = c.in_ok-extras.ensures.gathered t s.size c.requires.live.live c.requires.ahead in
    let extras = c.in_ok-extras.field-0.extras.items in
    let children = c.in_ok-extras.field-0.children.items in
    let extent = c.in_ok-extras.field-0.extent in
    let below = stack_at old c.in_ok-extras.field-0.below in
    let state = c.state_below-state.result in
    done_none c.laws_hold.ensures t s.size c.args.number c.requires.stays.0 old h l c.requires.stays.1 line small extras children extent below all.gathered c.stands.ensures c.requires.setting.short
    c.in_ok-extras.field-0.first c.in_ok-extras.field-0.others all.layers state c.gather_for.new.graph c.in-None.ensures

pub returns-clause-done : goal.returns-clause-done
returns-clause-done c =
    let t = c.args.table.now in
    let s = c.args.setting.now in
    let old = c.args.graph.now in
    let h = c.args.head in
    let l = c.get-line.result.now in
    let line = line_at t s.size s c.requires.setting c.args.number l c.get-line.ensures in
    let small = small_at t s.size s c.requires.setting c.args.number c.values_are_small.ensures in
    let all = c.in_ok-extras.ensures.gathered t s.size c.requires.live.live c.requires.ahead in
    let extras = c.in_ok-extras.field-0.extras.items in
    let children = c.in_ok-extras.field-0.children.items in
    let extent = c.in_ok-extras.field-0.extent in
    let below = stack_at old c.in_ok-extras.field-0.below in
    let state = c.state_below-state.result in
    let r = c.in_ok-extras.field-0 in
    let fits : depth_by l.lengthens r.first r.others ≤ most_depth = let d = c.in-Some.ensures in omega (arith, d.0, d.1) in
    let u = c.in_ok-node-in-Some.node in
    let w = made_is t s.size s c.requires.setting c.args.number extent state children u c.in_ok-node-in-Some.ensures.node c.in_ok-node-in-Some.ensures.shallow in
    let slice : c.as_slice-behind.result.now ≡ extras = c.as_slice-behind.ensures.value in
    let top = c.in_ok-top-in-Some.top in
    let new = c.put.new.graph in
    let trees : trees_on (stack_at new top) ≡ reverse extras ++ u ∷ trees_on below =
    c.in_ok-top-in-Some.ensures.trees ∙ ap (λ (x : List Layer). reverse c.as_slice-behind.result.now ++ u ∷ trees_on x) (ap (λ (s : List (List Layer)). stack_at s c.in_ok-extras.field-0.below) c.keep.ensures ∙ c.cut_alone.ensures.stack ∙ c.in_ok-extras.ensures.same c.in_ok-extras.field-0.below (omega arith)) ∙ ap (λ (es : List Tree). reverse es ++ u ∷ trees_on below) slice in
    let good : (place : ℕ) → IsGoodStack t s.size below place → CanPut t s.size place l.left.0 u (depth_by l.lengthens r.first r.others) extras → IsGoodStack t s.size (stack_at new top) (place + (span_of u + all_spans extras)) = λ place base can.
    subst (λ (es : List Tree). IsGoodStack t s.size (stack_at new top) (place + (span_of u + all_spans es))) slice
    (c.in_ok-top-in-Some.ensures.good s.size place (subst (λ (x : List Layer). IsGoodStack t s.size x place) (sym (ap (λ (s : List (List Layer)). stack_at s c.in_ok-extras.field-0.below) c.keep.ensures ∙ c.cut_alone.ensures.stack ∙ c.in_ok-extras.ensures.same c.in_ok-extras.field-0.below (omega arith))) base) (subst (λ (es : List Tree). CanPut t s.size place l.left.0 u c.in-Some.depth es) (sym slice) (subst (λ (n : ℕ). CanPut t s.size place l.left.0 u n extras) (sym c.in-Some.ensures.0) can))) in
    let lies : packed_layers (stack_at new top) ≡ map packed_own (reverse extras) ++ packed_tree u (depth_by l.lengthens r.first r.others) ∷ packed_layers below =
    c.in_ok-top-in-Some.ensures.layers
    ∙ ap (λ (x : List Layer). map packed_own (reverse c.as_slice-behind.result.now) ++ packed_tree u c.in-Some.depth ∷ packed_layers x) (ap (λ (s : List (List Layer)). stack_at s c.in_ok-extras.field-0.below) c.keep.ensures ∙ c.cut_alone.ensures.stack ∙ c.in_ok-extras.ensures.same c.in_ok-extras.field-0.below (omega arith))
    ∙ ap (λ (es : List Tree). map packed_own (reverse es) ++ packed_tree u c.in-Some.depth ∷ packed_layers below) slice
    ∙ ap (λ (n : ℕ). map packed_own (reverse extras) ++ packed_tree u n ∷ packed_layers below) c.in-Some.ensures.0 in
    done_some c.laws_hold.ensures t s.size c.args.number c.requires.stays.0 old h l c.requires.stays.1 line small extras children extent below all.gathered c.stands.ensures c.requires.setting.short r.first r.others all.layers state u w.0 fits new top c.in_ok-top-in-Some.ensures.there trees good lies

pub returns-clause-live : goal.returns-clause-live
returns-clause-live c =
    let t = c.args.table.now in
    let s = c.args.setting.now in
    let old = c.args.graph.now in
    let h = c.args.head in
    let l = c.get-line.result.now in
    let line = line_at t s.size s c.requires.setting c.args.number l c.get-line.ensures in
    let small = small_at t s.size s c.requires.setting c.args.number c.values_are_small.ensures in
    let all = c.in_ok-extras.ensures.gathered t s.size c.requires.live.live c.requires.ahead in
    let extras = c.in_ok-extras.field-0.extras.items in
    let children = c.in_ok-extras.field-0.children.items in
    let extent = c.in_ok-extras.field-0.extent in
    let below = stack_at old c.in_ok-extras.field-0.below in
    let state = c.state_below-state.result in
    let r = c.in_ok-extras.field-0 in
    let fits : depth_by l.lengthens r.first r.others ≤ most_depth = let d = c.in-Some.ensures in omega (arith, d.0, d.1) in
    let u = c.in_ok-node-in-Some.node in
    let w = made_is t s.size s c.requires.setting c.args.number extent state children u c.in_ok-node-in-Some.ensures.node c.in_ok-node-in-Some.ensures.shallow in
    let slice : c.as_slice-behind.result.now ≡ extras = c.as_slice-behind.ensures.value in
    let top = c.in_ok-top-in-Some.top in
    let new = c.put.new.graph in
    let trees : trees_on (stack_at new top) ≡ reverse extras ++ u ∷ trees_on below =
    c.in_ok-top-in-Some.ensures.trees ∙ ap (λ (x : List Layer). reverse c.as_slice-behind.result.now ++ u ∷ trees_on x) (ap (λ (s : List (List Layer)). stack_at s c.in_ok-extras.field-0.below) c.keep.ensures ∙ c.cut_alone.ensures.stack ∙ c.in_ok-extras.ensures.same c.in_ok-extras.field-0.below (omega arith)) ∙ ap (λ (es : List Tree). reverse es ++ u ∷ trees_on below) slice in
    let good : (place : ℕ) → IsGoodStack t s.size below place → CanPut t s.size place l.left.0 u (depth_by l.lengthens r.first r.others) extras → IsGoodStack t s.size (stack_at new top) (place + (span_of u + all_spans extras)) = λ place base can.
    subst (λ (es : List Tree). IsGoodStack t s.size (stack_at new top) (place + (span_of u + all_spans es))) slice
    (c.in_ok-top-in-Some.ensures.good s.size place (subst (λ (x : List Layer). IsGoodStack t s.size x place) (sym (ap (λ (s : List (List Layer)). stack_at s c.in_ok-extras.field-0.below) c.keep.ensures ∙ c.cut_alone.ensures.stack ∙ c.in_ok-extras.ensures.same c.in_ok-extras.field-0.below (omega arith))) base) (subst (λ (es : List Tree). CanPut t s.size place l.left.0 u c.in-Some.depth es) (sym slice) (subst (λ (n : ℕ). CanPut t s.size place l.left.0 u n extras) (sym c.in-Some.ensures.0) can))) in
    done_own c.laws_hold.ensures t s.size c.args.number c.requires.stays.0 old h l c.requires.stays.1 line small extras children extent below all.gathered c.stands.ensures c.requires.setting.short r.first r.others all.layers state u w.0 fits new top c.in_ok-top-in-Some.ensures.there trees good c.requires.live.own c.requires.live.made

pub returns-clause-put : goal.returns-clause-put
returns-clause-put c =
    let t = c.args.table.now in
    let s = c.args.setting.now in
    let old = c.args.graph.now in
    let h = c.args.head in
    let l = c.get-line.result.now in
    let line = line_at t s.size s c.requires.setting c.args.number l c.get-line.ensures in
    let small = small_at t s.size s c.requires.setting c.args.number c.values_are_small.ensures in
    let all = c.in_ok-extras.ensures.gathered t s.size c.requires.live.live c.requires.ahead in
    let extras = c.in_ok-extras.field-0.extras.items in
    let children = c.in_ok-extras.field-0.children.items in
    let extent = c.in_ok-extras.field-0.extent in
    let below = stack_at old c.in_ok-extras.field-0.below in
    let state = c.state_below-state.result in
    let r = c.in_ok-extras.field-0 in
    let fits : depth_by l.lengthens r.first r.others ≤ most_depth = let d = c.in-Some.ensures in omega (arith, d.0, d.1) in
    let u = c.in_ok-node-in-Some.node in
    let w = made_is t s.size s c.requires.setting c.args.number extent state children u c.in_ok-node-in-Some.ensures.node c.in_ok-node-in-Some.ensures.shallow in
    let slice : c.as_slice-behind.result.now ≡ extras = c.as_slice-behind.ensures.value in
    let top = c.in_ok-top-in-Some.top in
    let new = c.put.new.graph in
    let trees : trees_on (stack_at new top) ≡ reverse extras ++ u ∷ trees_on below =
    c.in_ok-top-in-Some.ensures.trees ∙ ap (λ (x : List Layer). reverse c.as_slice-behind.result.now ++ u ∷ trees_on x) (ap (λ (s : List (List Layer)). stack_at s c.in_ok-extras.field-0.below) c.keep.ensures ∙ c.cut_alone.ensures.stack ∙ c.in_ok-extras.ensures.same c.in_ok-extras.field-0.below (omega arith)) ∙ ap (λ (es : List Tree). reverse es ++ u ∷ trees_on below) slice in
    let good : (place : ℕ) → IsGoodStack t s.size below place → CanPut t s.size place l.left.0 u (depth_by l.lengthens r.first r.others) extras → IsGoodStack t s.size (stack_at new top) (place + (span_of u + all_spans extras)) = λ place base can.
    subst (λ (es : List Tree). IsGoodStack t s.size (stack_at new top) (place + (span_of u + all_spans es))) slice
    (c.in_ok-top-in-Some.ensures.good s.size place (subst (λ (x : List Layer). IsGoodStack t s.size x place) (sym (ap (λ (s : List (List Layer)). stack_at s c.in_ok-extras.field-0.below) c.keep.ensures ∙ c.cut_alone.ensures.stack ∙ c.in_ok-extras.ensures.same c.in_ok-extras.field-0.below (omega arith))) base) (subst (λ (es : List Tree). CanPut t s.size place l.left.0 u c.in-Some.depth es) (sym slice) (subst (λ (n : ℕ). CanPut t s.size place l.left.0 u n extras) (sym c.in-Some.ensures.0) can))) in
    let with = without c.args.ahead.only c.in_ok-extras.field-0.stated c.is_without_choice-only.result l.steps children extras c.is_without_choice-only.ensures all.stated in
    done_put c.laws_hold.ensures t s.size c.args.number c.requires.stays.0 old h l c.requires.stays.1 line small extras children extent below all.gathered c.stands.ensures c.requires.setting.short r.first r.others all.layers state u w.0 fits new top c.in_ok-top-in-Some.ensures.there trees good c.args.ahead c.is_without_choice-only.result all.covers (c.state_below-state.ensures ∙ ap (λ (x : List Layer). state_where c.is_without_choice-only.result (state_on x)) (c.in_ok-extras.ensures.same c.in_ok-extras.field-0.below (omega arith))) with

pub returns-clause-stand : goal.returns-clause-stand
returns-clause-stand c states text long are ahead stand =
    let t = c.args.table.now in
    let s = c.args.setting.now in
    let old = c.args.graph.now in
    let h = c.args.head in
    let l = c.get-line.result.now in
    let line = line_at t s.size s c.requires.setting c.args.number l c.get-line.ensures in
    let small = small_at t s.size s c.requires.setting c.args.number c.values_are_small.ensures in
    let all = c.in_ok-extras.ensures.gathered t s.size c.requires.live.live c.requires.ahead in
    let extras = c.in_ok-extras.field-0.extras.items in
    let children = c.in_ok-extras.field-0.children.items in
    let extent = c.in_ok-extras.field-0.extent in
    let below = stack_at old c.in_ok-extras.field-0.below in
    let state = c.state_below-state.result in
    let r = c.in_ok-extras.field-0 in
    let fits : depth_by l.lengthens r.first r.others ≤ most_depth = let d = c.in-Some.ensures in omega (arith, d.0, d.1) in
    let u = c.in_ok-node-in-Some.node in
    let w = made_is t s.size s c.requires.setting c.args.number extent state children u c.in_ok-node-in-Some.ensures.node c.in_ok-node-in-Some.ensures.shallow in
    let slice : c.as_slice-behind.result.now ≡ extras = c.as_slice-behind.ensures.value in
    let top = c.in_ok-top-in-Some.top in
    let new = c.put.new.graph in
    let trees : trees_on (stack_at new top) ≡ reverse extras ++ u ∷ trees_on below =
    c.in_ok-top-in-Some.ensures.trees ∙ ap (λ (x : List Layer). reverse c.as_slice-behind.result.now ++ u ∷ trees_on x) (ap (λ (s : List (List Layer)). stack_at s c.in_ok-extras.field-0.below) c.keep.ensures ∙ c.cut_alone.ensures.stack ∙ c.in_ok-extras.ensures.same c.in_ok-extras.field-0.below (omega arith)) ∙ ap (λ (es : List Tree). reverse es ++ u ∷ trees_on below) slice in
    let good : (place : ℕ) → IsGoodStack t s.size below place → CanPut t s.size place l.left.0 u (depth_by l.lengthens r.first r.others) extras → IsGoodStack t s.size (stack_at new top) (place + (span_of u + all_spans extras)) = λ place base can.
    subst (λ (es : List Tree). IsGoodStack t s.size (stack_at new top) (place + (span_of u + all_spans es))) slice
    (c.in_ok-top-in-Some.ensures.good s.size place (subst (λ (x : List Layer). IsGoodStack t s.size x place) (sym (ap (λ (s : List (List Layer)). stack_at s c.in_ok-extras.field-0.below) c.keep.ensures ∙ c.cut_alone.ensures.stack ∙ c.in_ok-extras.ensures.same c.in_ok-extras.field-0.below (omega arith))) base) (subst (λ (es : List Tree). CanPut t s.size place l.left.0 u c.in-Some.depth es) (sym slice) (subst (λ (n : ℕ). CanPut t s.size place l.left.0 u n extras) (sym c.in-Some.ensures.0) can))) in
    let with = without c.args.ahead.only c.in_ok-extras.field-0.stated c.is_without_choice-only.result l.steps children extras c.is_without_choice-only.ensures all.stated in
    done_stands c.laws_hold.ensures t s.size c.args.number c.requires.stays.0 old h l c.requires.stays.1 line small extras children extent below all.gathered c.stands.ensures c.requires.setting.short r.first r.others all.layers state u w.0 fits new top c.in_ok-top-in-Some.ensures.there trees good c.sound_laws_hold.ensures states text are c.args.ahead all.covers ahead
    (λ n e. state_has c.args.ahead.only c.is_without_choice-only.result l.steps (state_on below) n state children extras (c.state_below-state.ensures ∙ ap (λ (x : List Layer). state_where c.is_without_choice-only.result (state_on x)) (c.in_ok-extras.ensures.same c.in_ok-extras.field-0.below (omega arith))) with e) stand

pub returns-in-None-clause-grows : goal.returns-in-None-clause-grows
returns-in-None-clause-grows c beside = subst (λ (s : List (List Layer)). GainsStacks c.args.graph.now s) (sym (c.gather_for.ensures.kept beside)) (grows_none c.args.graph.now)

pub returns-in-None-clause-kept : goal.returns-in-None-clause-kept
returns-in-None-clause-kept c none =
    c.in_ok-extras.ensures.deep (deep_some c.get-line.result.now.lengthens c.in_ok-extras.field-0.first c.in_ok-extras.field-0.others c.in-None.ensures)

pub returns-clause-grows : goal.returns-clause-grows
returns-clause-grows c beside = subst (λ (s : List (List Layer)). GainsStacks s c.put.new.graph) (c.keep.ensures ∙ c.cut_alone.ensures.kept beside ∙ c.gather_for.ensures.kept beside) c.in_ok-top-in-Some.ensures.grows

pub returns-clause-one : goal.returns-clause-one
returns-clause-one c alone one =
    let cut = one_cut c.args.graph.now c.gather_for.new.graph c.cut_alone.new.graph c.args.head.top c.in_ok-extras.field-0.below one.lie (omega (arith, c.in_ok-extras.ensures.low, one.count)) c.in_ok-extras.ensures.below c.in_ok-extras.ensures.same (c.cut_alone.ensures.cut alone) in
    c.in_ok-top-in-Some.ensures.one (subst (λ (ss : List (List Layer)). IsOneStack ss c.in_ok-extras.field-0.below) (sym c.keep.ensures) cut)
