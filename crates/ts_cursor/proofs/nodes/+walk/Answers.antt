use Rattle.std.proofs.Common.{◌≡◌, ◌∙◌, ℕ, ◌+◌, true, false, List, [], ◌∷◌, ◌++◌, ap, sym, subst, arith}
use Rattle.std.specs.Option.{option_to_list}
use Rattle.std.proofs.lemmas.Result.{on_ok_weaker}
use Rattle.ts_core.specs.declared.flat.Step.{Step}
use Rattle.ts_core.specs.declared.flat.FlatGrammar.{FlatGrammar}
use Rattle.spec_trees.specs.declared.tree.Tree.{Tree}
use Rattle.spec_trees.specs.declared.tree.Element.{Element}
use Rattle.spec_trees.specs.declared.visible.VisibleNode.{VisibleNode}
use Rattle.spec_grammar.specs.Symbols.{first_production}
use Rattle.spec_trees.specs.Trees.{symbol_of, pad_of, size_of, all_spans, children_of, elements_of}
use Rattle.spec_trees.specs.VisibleNodes.{Marks, steps_at, is_shown, shown_name, shown_named, with_field, visible_node}
use Rattle.ts_cursor.specs.Marked.{step_marks, window, part_nodes, inner_nodes, AppendsNodes}
use Rattle.ts_cursor.specs.Pooled.{seen_with}
use Rattle.ts_cursor.proofs.WalkLemmas.{depth_is, child_depth, shown_by, shows_with, put_shown, put_hidden, inner_none, nil_of, parted_next, parted_fits, Elemented, elemented_step, element_fits}
use Rattle.ts_cursor.proofs.nodes.+walk.Goals as goal

pub put-overflow_add-below : goal.put-overflow_add-below
put-overflow_add-below t c = omega (arith, depth_is c.args.node.now, c.requires.deep)

pub put-add-requires : goal.put-add-requires
put-add-requires t c = omega (arith, depth_is c.args.node.now, c.requires.deep)

pub put-put_children-requires : goal.put-put_children-requires
put-put_children-requires t c =
    (omega (arith, c.decreases), (omega (arith, depth_is c.args.node.now, c.requires.deep), omega (arith, c.nodes.ensures.node.sized.within, c.requires.within)))

pub put-put_hidden-requires : goal.put-put_hidden-requires
put-put_hidden-requires t c =
    (omega (arith, c.decreases), (omega (arith, depth_is c.args.node.now, c.requires.deep), omega (arith, c.nodes.ensures.node.sized.within, c.requires.within)))

pub put-returns-in_ok-add : goal.put-returns-in_ok-add
put-returns-in_ok-add t c =
    let g : FlatGrammar = c.args.steps.now in
    let node : Tree = c.args.node.now in
    let m : Marks = step_marks c.args.step in
    let fields : List ℕ = with_field c.args.fields.now m.field in
    let before : List VisibleNode = c.args.nodes.now in
    let e : is_shown g (symbol_of node) m.alias ≡ true = shown_by g c.grammar.result.now c.symbol.result.0 (symbol_of node) m.alias c.shows.result true c.grammar.ensures c.symbol.ensures c.shows.ensures c.if-shows.true in
    let more : fields ≡ c.args.fields.now ++ option_to_list c.missing-more.result = c.missing-more.ensures in
    let f : seen_with fields c.child_face.result ≡ visible_node c.args.at.depth (shown_name g (symbol_of node) m.alias) (shown_named g (symbol_of node) m.alias) fields (c.args.at.place + pad_of node) (size_of node) =
    shows_with c.child_face.result c.args.at.depth (shown_name g (symbol_of node) m.alias) (shown_named g (symbol_of node) m.alias) fields (c.args.at.place + pad_of node) (size_of node) c.child_face.ensures in
    let p : c.add.new.self ≡ before ++ visible_node c.args.at.depth (shown_name g (symbol_of node) m.alias) (shown_named g (symbol_of node) m.alias) fields (c.args.at.place + pad_of node) (size_of node) ∷ [] =
    c.in_ok-add.ensures ∙ ap (λ (fs : List ℕ). before ++ seen_with fs c.child_face.result ∷ []) (sym more) ∙ ap (λ (w : VisibleNode). before ++ w ∷ []) f in
    on_ok_weaker c.put_children.result (λ adds. put_shown g node c.args.at.depth c.args.at.place c.args.fields.now m before c.add.new.self _ e p c.nodes.ensures.node.sized.within adds) c.put_children.ensures

pub put-returns-else-shows : goal.put-returns-else-shows
put-returns-else-shows t c =
    let g : FlatGrammar = c.args.steps.now in
    let node : Tree = c.args.node.now in
    let m : Marks = step_marks c.args.step in
    let before : List VisibleNode = c.args.nodes.now in
    let e : is_shown g (symbol_of node) m.alias ≡ false = shown_by g c.grammar.result.now c.symbol.result.0 (symbol_of node) m.alias c.shows.result false c.grammar.ensures c.symbol.ensures c.shows.ensures c.if-shows.false in
    let fs : c.args.fields.now ++ option_to_list c.missing-more.result ≡ with_field c.args.fields.now m.field = sym c.missing-more.ensures in
    on_ok_weaker c.put_hidden.result (λ adds. put_hidden g node c.args.at.depth c.args.at.place c.args.fields.now m before _ e c.nodes.ensures.node.sized.within
    (subst (λ (xs : List ℕ). AppendsNodes (c.args.at.place + all_spans (children_of node)) (inner_nodes g node c.args.at.depth c.args.at.place xs) before c.put_hidden.new.nodes) fs adds)) c.put_hidden.ensures

pub put_children-returns-else-elements-gt0 : goal.put_children-returns-else-elements-gt0
put_children-returns-else-elements-gt0 t c =
    let node : Tree = c.args.node.now in
    let none : elements_of node ≡ [] = nil_of (elements_of node) c.elements.result c.elements.ensures.count c.if-elements-gt0.false in
    let i : inner_nodes c.args.steps.now node c.args.at.depth c.args.at.place c.args.fields.now ≡ part_nodes c.args.steps.now [] 0 (children_of node) c.args.at.depth c.args.at.place c.args.fields.now =
    inner_none c.args.steps.now node c.args.at.depth c.args.at.place c.args.fields.now (sym c.in-None.is ∙ c.production.ensures) none in
    on_ok_weaker c.put_all-else-elements-gt0.result (λ adds.
    subst (λ (vs : List VisibleNode). AppendsNodes (c.args.at.place + all_spans (children_of node)) vs c.args.nodes.now c.put_all-else-elements-gt0.new.nodes) (sym i) adds) c.put_all-else-elements-gt0.ensures

pub put_elements-overflow_add-part : goal.put_elements-overflow_add-part
put_elements-overflow_add-part t c =
    let f = element_fits _ _ _ _ _ _ _ _ _ _ _ _ c.element-element.result c.loop-e.invariant c.element-element.ensures in
    omega (arith, f.0, c.children.ensures, c.children.type_inv)

pub put_elements-put_part-requires : goal.put_elements-put_part-requires
put_elements-put_part-requires t c =
    let f = element_fits _ _ _ _ _ _ _ _ _ _ _ _ c.element-element.result c.loop-e.invariant c.element-element.ensures in
    (omega (arith, c.decreases), (omega arith, (f.0, (c.requires.deep, omega (arith, f.1, c.requires.within)))))

pub put_elements-loop-e-preserved : goal.put_elements-loop-e-preserved
put_elements-loop-e-preserved t c =
    let g : FlatGrammar = c.args.steps.now in
    let node : Tree = c.args.node.now in
    let el : Element = c.element-element.result in
    let ts : List Tree = children_of node in
    let own : List Tree = window ts c.loop-e.from (c.loop-e.from + el.children) in
    let before : List VisibleNode = c.args.nodes.now in
    let found : List VisibleNode = c.loop-e.nodes in
    let more : List VisibleNode = c.put_part.new.nodes in
    let st : c.alternative.result.now ≡ steps_at g (first_production g (symbol_of node) + el.alternative) =
    c.alternative.ensures ∙ ap (λ (n : ℕ). steps_at g (n + el.alternative)) (c.first-first.ensures ∙ ap (first_production g) c.symbol.ensures) in
    let adds : AppendsNodes (c.loop-e.place + all_spans own) (part_nodes g (steps_at g (first_production g (symbol_of node) + el.alternative)) 0 own c.args.at.depth c.loop-e.place c.args.fields.now) found more =
    subst (λ (ss : List Step). AppendsNodes (c.loop-e.place + all_spans own) (part_nodes g ss 0 own c.args.at.depth c.loop-e.place c.args.fields.now) found more) st c.in_ok-place.ensures.nodes in
    subst (λ (k : ℕ). Elemented g (symbol_of node) (elements_of node) ts c.args.at.depth c.args.at.place c.args.fields.now before (c.loop-e.e + 1) (c.loop-e.from + el.children) k more) (sym c.in_ok-place.ensures.place)
    (elemented_step g (symbol_of node) (elements_of node) ts c.args.at.depth c.args.at.place c.args.fields.now before c.loop-e.e c.loop-e.from c.loop-e.place found more el c.loop-e.invariant c.element-element.ensures adds)

pub put_part-put-requires : goal.put_part-put-requires
put_part-put-requires t c =
    let d = child_depth c.args.node.now c.loop-k.k c.child-child.result.now c.child-child.ensures in
    let f = parted_fits _ _ _ _ _ _ _ _ _ _ _ _ _ c.child-child.result.now c.loop-k.invariant c.child-child.ensures c.loop-k-test.true in
    (omega (arith, c.decreases, d.1), (omega (arith, d.0, c.requires.deep), omega (arith, f, c.requires.within)))

pub put_part-overflow_add-end : goal.put_part-overflow_add-end
put_part-overflow_add-end t c =
    let f = parted_fits _ _ _ _ _ _ _ _ _ _ _ _ _ c.child-child.result.now c.loop-k.invariant c.child-child.ensures c.loop-k-test.true in
    omega (arith, f, c.requires.within, c.pad.ensures, c.size.ensures)

pub put_part-overflow_add-end-in-loop-k : goal.put_part-overflow_add-end-in-loop-k
put_part-overflow_add-end-in-loop-k t c =
    let f = parted_fits _ _ _ _ _ _ _ _ _ _ _ _ _ c.child-child.result.now c.loop-k.invariant c.child-child.ensures c.loop-k-test.true in
    omega (arith, f, c.requires.within, c.pad.ensures, c.size.ensures)

pub put_part-loop-k-preserved : goal.put_part-loop-k-preserved
put_part-loop-k-preserved t c =
    parted_next _ _ _ _ _ _ _ _ _ _ _ _ _ _ c.child-child.result.now c.extra-extra.result (step_marks c.step_at-step.result) _ _
    c.loop-k.invariant c.child-child.ensures c.loop-k-test.true c.extra-extra.ensures c.step_at-step.ensures c.past-filled.ensures (omega (arith, c.pad.ensures, c.size.ensures)) c.in_ok-put.ensures
