-- A repetition on top of a stack that is lengthened at once by elements that are lent.
use Rattle.std.proofs.Common.{◌≡◌, ◌∙◌, sym, ap, refl, subst, ℕ, ◌+◌, ◌-◌, ◌*◌, ◌<◌, ◌≤◌, inl, Bool, true, false, true≢false, List, [], ◌∷◌, ◌++◌, length, length-append, map, reverse, drop, Option, Some, None, arith}
use Rattle.std.specs.Prelude.{IfSome}
use Rattle.std.proofs.lemmas.List.{reverse-reverse}
use lib.IntN.{ℤ, ◌+ℤ◌}
use Rattle.ts_base.specs.Bytes.{Bytes}
use Rattle.ts_core.specs.declared.flat.FlatGrammar.{FlatGrammar}
use Rattle.spec_grammar.specs.Symbols.{is_repetition}
use Rattle.spec_trees.specs.declared.tree.Tree.{Tree}
use Rattle.spec_trees.specs.declared.tree.Element.{Element}
use Rattle.spec_trees.specs.declared.tree.Stretch.{Stretch}
use Rattle.spec_trees.specs.declared.tree.Tree.TheFolds.{fold_out-Tree}
use Rattle.spec_trees.specs.Trees.{symbol_of, state_of, elements_of, children_of, is_extra_node, total_of, all_totals, all_values, span_of, all_spans, node_count, nodes_step, all_nodes, tree_depth, depth_step, greatest_depth, bare}
use Rattle.spec_trees.specs.Made.{IsNode, lengthened, filling, BeginsFilled, most_span, most_depth, node_limit}
use Rattle.spec_trees.specs.Choice.{has_form}
use Rattle.spec_runs.specs.Configurations.{Configuration, stack_symbols}
use Rattle.spec_forced.specs.Behind.{IsOfSymbol}
use Rattle.spec_forced.specs.OnlyRuns.{Meet}
use Rattle.spec_forced.specs.Sound.{States, IsStateAfter, EachHasState, IsHonestStretch, StandOnStack}
use Rattle.ts_node.specs.Standing.{IsSection, IsPartOf, CanBeLengthened}
use Rattle.ts_node.specs.Falls.{all_nodes-append}
use Rattle.ts_node.proofs.ElementLemmas.{some_counted}
use Rattle.ts_table.specs.declared.view.ParseTable.{ParseTable}
use Rattle.ts_table.specs.Tables.{IsTable, IsStateOf}
use Rattle.ts_gss.specs.declared.layer.Layer.{Layer}
use Rattle.ts_gss.specs.Stacks.{layer_with, stack_at, AreExact, state_on, tree_on, trees_on, under_top}
use Rattle.ts_gss.specs.Paths.{IsLifted, IsTakenOff}
use Rattle.ts_steps.specs.declared.head.StackHead.{StackHead}
use Rattle.ts_steps.specs.declared.lengthening.ListEnd.{ListEnd}
use Rattle.ts_steps.specs.MoveLaws.{Laws}
use Rattle.ts_steps.specs.Laws.{LengthLaws}
use Rattle.ts_steps.specs.Good.{EachTree, IsLight, IsGoodTree, AreGoodTrees}
use Rattle.ts_steps.specs.LiveHeads.{config_of, HaveStates, IsGoodStack, read_on}
use Rattle.ts_steps.proofs.OverLemmas.{made_over}
use Rattle.ts_steps.specs.Heads.{AreStatesOf, IsOwnWithin, IsMadeNode, IsOwnHead, StandOnHead}
use Rattle.ts_steps.specs.Reparsing.{IsOffered, IsLent}
use Rattle.ts_steps.specs.Lengthening.{IsListOn, IsListEnd, HasRoom, IsLengthened}
use Rattle.ts_steps.proofs.NodeLemmas.{all_spans-append, greatest_depth-append, each_append, each_right, own_forms, forms_each, forms_append, form_of_some, small_each, small_append, small_inside, few_enough, filling_fills, all_start, Says, good_over}
use Rattle.ts_steps.proofs.StackLemmas.{turned, spans_turned, extras_turned, filling_extras, states_drop, exact_drop, state_top, good_push, same_config}
use Rattle.ts_steps.proofs.GatherLemmas.{Parts, parts}
use Rattle.ts_steps.proofs.OwnLemmas.{own_over, own_self, own_children, each_at}
use Rattle.ts_steps.proofs.ReduceLemmas.{both_have, over_children}
use Rattle.ts_steps.proofs.TableLemmas.{state_after}

-- ---- lists

states_turned : (xs : List Tree) → EachHasState xs → EachHasState (reverse xs)
states_turned [] h = tt
states_turned (x ∷ xs) h = subst EachHasState (sym (turned x xs)) (both_have (reverse xs) (x ∷ []) (states_turned xs h.1) (h.0, tt))

stand_under : (g : FlatGrammar) (states : States) (text : Bytes) (xs below : List Tree) → StandOnStack g states text (xs ++ below) → StandOnStack g states text below
stand_under g states text [] below s = s
stand_under g states text (x ∷ xs) below s = stand_under g states text xs below s.3

-- what may be offered is good
each_good : (g : FlatGrammar) (ts : List Tree) → EachTree (IsOffered g) ts → AreGoodTrees g ts
each_good g [] a = tt
each_good g (t ∷ ts) a = ((own_self g t a.0.own a.0.settled).good, each_good g ts a.1)

each_light : (g : FlatGrammar) (ts : List Tree) → EachTree (IsOffered g) ts → EachTree (λ t. (0 < span_of t) × IsLight t) ts
each_light g [] a = tt
each_light g (t ∷ ts) a = ((a.0.some, (own_self g t a.0.own a.0.settled).good.light), each_light g ts a.1)

each_own : (g : FlatGrammar) (ts : List Tree) → EachTree (IsOffered g) ts → EachTree (IsOwnWithin g) ts
each_own g [] a = tt
each_own g (t ∷ ts) a = (a.0.own, each_own g ts a.1)

kind_of : (kind : Bool) (es : List Element) → has_form kind es ≡ true → 0 < length es → kind ≡ true
kind_of true es h some = refl
kind_of false [] h some = absurd (omega (arith, some))
kind_of false (e ∷ es) h some = absurd (true≢false (sym h))

-- ---- the repetition on top of a stack

pub list_is : (stacks : List (List Layer)) (e : ListEnd) (under place : ℕ) (node : Tree) (low : List Layer) → 0 < length (stack_at stacks under) → Some node ≡ tree_on (stack_at stacks under) → low ≡ under_top (stack_at stacks under)
    → 0 < length (elements_of node) → symbol_of node ≡ e.symbol.0 → state_on low ≡ e.state → e.under ≡ under → e.place ≡ place → IsListOn stacks under place e
list_is stacks e under place node low some top low_is elements named state under_is place_is = by (stack_at stacks under) refl some top low_is
  where
    by : (stack : List Layer) → stack_at stacks under ≡ stack → 0 < length stack → Some node ≡ tree_on stack → low ≡ under_top stack → IsListOn stacks under place e
    by [] is s t l = absurd (omega (arith, s))
    by (x ∷ xs) is s t l =
        let q : Some node ≡ Some x.tree = t in
        let same : node ≡ x.tree = cc in
        record {
          under_is = under_is;
          place_is = place_is;
          layer = x;
          below = xs;
          stack_is = is;
          some = subst (λ (y : Tree). 0 < length (elements_of y)) same elements;
          named = ap symbol_of (sym same) ∙ named;
          state_is = ap state_on (sym l) ∙ state;
        }

-- where extras are lifted from a stack that ends at a place, the one under them ends so much before
pub lifted_spans : (stack under : List Layer) (extras : List Tree) (place : ℕ) → IsLifted stack extras under → all_spans (trees_on stack) ≡ place → all_spans (trees_on under) + all_spans extras ≡ place
lifted_spans stack under extras place l is =
    let a : all_spans (trees_on stack) ≡ all_spans (extras ++ trees_on under) = ap all_spans l.trees in
    omega (arith, a, is, all_spans-append extras (trees_on under))

pub some_layer : (stack : List Layer) → 0 < all_spans (trees_on stack) → 0 < length stack
some_layer [] h = absurd (omega (arith, h))
some_layer (l ∷ ls) h = omega arith

pub end_of : (stacks : List (List Layer)) (h : StackHead) (extras : List Tree) (under place : ℕ) (o : Option ListEnd) → under < length stacks → IsLifted (stack_at stacks h.top) extras (stack_at stacks under) → EachHasState extras → place + all_spans extras ≡ h.place
    → IfSome o (IsListOn stacks under place) → IfSome o (IsListEnd stacks h)
end_of stacks h extras under place None there lifted stated spans on = tt
end_of stacks h extras under place (Some e) there lifted stated spans on = record {
  extras = extras;
  there = subst (λ (n : ℕ). n < length stacks) (sym on.under_is) there;
  lifted = subst (λ (n : ℕ). IsLifted (stack_at stacks h.top) extras (stack_at stacks n)) (sym on.under_is) lifted;
  stated = stated;
  spans = omega (arith, spans, on.place_is);
  list = subst (λ (n : ℕ). IsListOn stacks n e.place e) (sym on.under_is) (subst (λ (n : ℕ). IsListOn stacks under n e) (sym on.place_is) on);
}

module _ (t : ParseTable) (size : ℕ) (old : List (List Layer)) (h : StackHead) (e : ListEnd) (w : IsListEnd old h e) (own : IsOwnHead t size old h) where
  abbrev g : FlatGrammar
  g = t.grammar

  abbrev list : Tree
  list = w.list.layer.tree

  abbrev low : List Layer
  low = w.list.below

  under_is : trees_on (stack_at old e.under) ≡ list ∷ trees_on low
  under_is = ap trees_on w.list.stack_is

  trees : trees_on (stack_at old h.top) ≡ w.extras ++ list ∷ trees_on low
  trees = w.lifted.trees ∙ ap (λ (l : List Tree). w.extras ++ l) under_is

  fills : is_extra_node list ≡ false
  fills = subst BeginsFilled under_is w.lifted.no_more

  off : IsTakenOff (stack_at old e.under) 1 (list ∷ []) low
  off = record {
    trees_are = under_is;
    filled = ap (λ (l : List ℕ). length l) (filling_fills list [] fills);
    begins = fills;
    rest = sym (ap (λ (l : List Layer). drop (length (list ∷ [])) l) w.list.stack_is);
  }

  pub split : Parts t size (stack_at old h.top) h.place 1 (reverse w.extras) (list ∷ []) low
  split = parts t size h.place 1 (stack_at old h.top) (stack_at old e.under) low w.extras (reverse w.extras) (list ∷ []) own.live.stack w.lifted off refl

  pub list_good : IsGoodTree g list
  list_good = split.good_children.0

  placed : all_spans (trees_on low) + span_of list ≡ e.place
  placed = omega (arith, split.place_is, w.spans, spans_turned w.extras)

  -- the list's node, its bytes, and those of the text
  pub list_within : (span_of list ≤ e.place) × (e.place ≤ size)
  list_within = ((omega (arith, placed)), (omega (arith, w.spans, split.within)))

  pub list_there : 0 < length (stack_at old e.under)
  list_there = omega (arith, ap (λ (l : List Layer). length l) w.list.stack_is)

  pub same_list : (x : Tree) → Some x ≡ tree_on (stack_at old e.under) → x ≡ list
  same_list x top =
      let q : Some x ≡ Some list = top ∙ ap tree_on w.list.stack_is in
      cc

  own_all : EachTree (IsOwnWithin g) (list ∷ trees_on low)
  own_all = each_right (IsOwnWithin g) w.extras (list ∷ trees_on low) (subst (λ (l : List Tree). EachTree (IsOwnWithin g) l) trees own.own)

  made_all : EachTree (IsMadeNode g) (list ∷ trees_on low)
  made_all = each_right (IsMadeNode g) w.extras (list ∷ trees_on low) (subst (λ (l : List Tree). EachTree (IsMadeNode g) l) trees own.made)

  module _ (laws : Laws) (lengths : LengthLaws) (table : IsTable t) (short : size ≤ most_span) (s : Stretch) (lent : IsLent g s) (section : IsSection s) (u : Tree) (u_node : IsNode u) (part : IsPartOf u s) (x : ℕ) (room : HasRoom size e.place h.place list s x) where
    abbrev es : List Element
    es = elements_of list ++ s.elements

    abbrev ks : List Tree
    ks = children_of list ++ s.children

    abbrev longer : Tree
    longer = lengthened list s x (state_of list)

    -- ---- the longer repetition

    whole : all_spans (children_of list) ≡ span_of list
    whole = list_good.whole w.list.some

    same : all_spans ks ≡ span_of list + all_spans s.children
    same = omega (arith, whole, all_spans-append (children_of list) s.children)

    small : all_nodes ks ≤ 2 * (greatest_depth ks * all_spans ks)
    small = small_append (children_of list) s.children (small_inside list list_good.light whole) (small_each s.children (each_light g s.children lent.offered))

    few : length es ≤ span_of list + all_spans s.children
    few = omega (arith, list_good.light.parts, lent.parts, length-append (elements_of list) s.elements)

    shallow : 1 + greatest_depth s.children ≤ most_depth
    shallow = omega (arith, part.shallow, u_node.sized.shallow)

    deep : 1 + greatest_depth ks ≤ most_depth
    deep =
        let d : tree_depth list ≡ 1 + greatest_depth (children_of list) = fold_out-Tree ℕ depth_step list in
        omega (arith, greatest_depth-append (children_of list) s.children, d, list_good.node.sized.shallow, shallow)

    fits : span_of list + all_spans s.children ≤ most_span
    fits = omega (arith, placed, room.within, short)

    count : 1 + (length es + all_nodes ks) < node_limit
    count = few_enough (greatest_depth ks) (all_spans ks) (all_nodes ks) (length es) deep (omega (arith, same, fits)) small (omega (arith, same, few))

    can : CanBeLengthened list s x
    can =
        let n : node_count list ≡ 1 + (length (elements_of list) + all_nodes (children_of list)) = fold_out-Tree ℕ nodes_step list in
        record {
          node = list_good.node;
          settled = list_good.settled;
          repetition = w.list.some;
          section = section;
          all_settled = lent.settled;
          well = part.well;
          few = omega (arith, count, n, all_nodes-append (children_of list) s.children, length-append (elements_of list) s.elements);
          short = fits;
          shallow = shallow;
          past = room.own;
          reach = room.reach;
        }

    node : IsNode longer
    node = lengths.node list s x (state_of list) can

    repeats : is_repetition g (symbol_of list) ≡ true
    repeats = kind_of (is_repetition g (symbol_of list)) (elements_of list) (own_forms g list list_good.form).0 w.list.some

    good : IsGoodTree g longer × Says (symbol_of list) x (span_of list + all_spans s.children) longer
    good =
        let some : 0 < length es = omega (arith, w.list.some, length-append (elements_of list) s.elements) in
        let bytes : 0 < span_of list + all_spans s.children = omega (arith, room.later, w.spans) in
        good_over g (symbol_of list) x (span_of list + all_spans s.children) (state_of list) None (total_of list +ℤ (all_values s.elements +ℤ all_totals s.children)) es ks node same small few
        (form_of_some (is_repetition g (symbol_of list)) es repeats some)
        (forms_append g (children_of list) s.children (own_forms g list list_good.form).1 (forms_each g s.children (each_good g s.children lent.offered)))
        (all_start g (symbol_of list) None (laws.start_rule g table.fit) repeats)
        (inl bytes)

    kids_are : children_of longer ≡ ks
    kids_are = over_children (symbol_of list) None (total_of list +ℤ (all_values s.elements +ℤ all_totals s.children)) x (state_of list) es ks

    longer_own : IsOwnWithin g longer
    longer_own =
        let kids : EachTree (IsOwnWithin g) (children_of longer) =
        subst (λ (l : List Tree). EachTree (IsOwnWithin g) l) (sym kids_are) (each_append (IsOwnWithin g) (children_of list) s.children (own_children g list own_all.0) (each_own g s.children lent.offered)) in
        own_over g longer (record { good = good.0; filled = λ rule. good.1.span ∙ sym same ∙ sym (ap all_spans kids_are) }) (λ k v at. each_at (IsOwnWithin g) (children_of longer) k v kids at)

    longer_made : IsMadeNode g longer
    longer_made = made_over g (symbol_of list) None (total_of list +ℤ (all_values s.elements +ℤ all_totals s.children)) x (state_of list) es ks (λ h. refl)

    -- ---- the stack with it

    -- the same symbols
    names : filling (longer ∷ trees_on low) ≡ filling (list ∷ trees_on low)
    names =
        filling_fills longer (trees_on low) good.1.extra
        ∙ ap (λ (n : ℕ). n ∷ filling (trees_on low)) good.1.symbol
        ∙ sym (filling_fills list (trees_on low) fills)

    on_longer : IsStateOf t (filling (longer ∷ trees_on low)) w.list.layer.state
    on_longer =
        let under : HaveStates t (stack_at old e.under) =
        subst (λ (l : List Layer). HaveStates t l) (sym w.lifted.rest) (states_drop t (length w.extras) (stack_at old h.top) own.live.stack.states) in
        let both : HaveStates t (w.list.layer ∷ low) = subst (λ (l : List Layer). HaveStates t l) w.list.stack_is under in
        subst (λ (l : List ℕ). IsStateOf t l w.list.layer.state) (sym names) both.0

    module _ (new : List (List Layer)) (top place : ℕ) (there : top < length new) (put : stack_at new top ≡ layer_with longer w.list.layer.state ∷ low) (place_is : place ≡ e.place + all_spans s.children) where
      abbrev k : StackHead
      k = record { top = top; place = place }

      live : IsOwnHead t size new k
      live =
          let stack : IsGoodStack t size (layer_with longer w.list.layer.state ∷ low) (all_spans (trees_on low) + span_of longer) =
          good_push t size low (all_spans (trees_on low)) longer w.list.layer.state split.base on_longer good.0 (omega (arith, good.1.span, placed, room.within)) (omega (arith, good.1.extent_is, placed, room.room)) in
          let at : all_spans (trees_on low) + span_of longer ≡ place = omega (arith, good.1.span, placed, place_is) in
          record {
            live = record {
              there = there;
              stack = subst (λ (l : List Layer). IsGoodStack t size l place) (sym put) (subst (λ (n : ℕ). IsGoodStack t size (layer_with longer w.list.layer.state ∷ low) n) at stack);
            };
            own = subst (λ (l : List Layer). EachTree (IsOwnWithin g) (trees_on l)) (sym put) (longer_own, own_all.1);
            made = subst (λ (l : List Layer). EachTree (IsMadeNode g) (trees_on l)) (sym put) (longer_made, made_all.1);
          }

      symbols : read_on new k ≡ read_on old h
      symbols =
          ap (λ (l : List Layer). filling (trees_on l)) put ∙ names
          ∙ sym (ap filling trees ∙ filling_extras w.extras (list ∷ trees_on low) w.lifted.all_extras)

      module _ (states : States) (text : Bytes) (are : AreStatesOf t states) (honest : IsHonestStretch g states text e.place e.state e.symbol.0 s) (stand : StandOnHead t states text old h) where
        of : IsOfSymbol e.symbol.0 list
        of = (w.list.named, fills)

        after : IsStateAfter g states e.state (stack_symbols (trees_on low))
        after =
            subst (λ (n : ℕ). IsStateAfter g states n (filling (trees_on low))) w.list.state_is
            (state_after t states (filling (trees_on low)) (state_on low) table are (state_top t low split.base.states))

        here : IsHonestStretch g states text (all_spans (list ∷ trees_on low)) e.state e.symbol.0 s
        here =
            let at : e.place ≡ all_spans (list ∷ trees_on low) = omega (arith, placed) in
            subst (λ (n : ℕ). IsHonestStretch g states text n e.state e.symbol.0 s) at honest

        all : StandOnStack g states text (w.extras ++ list ∷ trees_on low)
        all = subst (λ (l : List Tree). StandOnStack g states text l) trees stand

        stands : StandOnHead t states text new k
        stands =
            subst (λ (l : List Layer). StandOnStack g states text (trees_on l)) (sym put)
            (lengths.on_stack g table.fit states text e.state e.symbol.0 x s (trees_on low) list section.some of (sym whole) (some_counted (elements_of list) (children_of list) w.list.some list_good.node.counted)
            after here room.own room.reach node.sized.shallow (stand_under g states text w.extras (list ∷ trees_on low) all))

        back : w.extras ++ list ∷ trees_on low ≡ reverse (reverse w.extras) ++ list ∷ trees_on low
        back = ap (λ (l : List Tree). l ++ list ∷ trees_on low) (sym (reverse-reverse w.extras))

        meets : Meet g text (config_of old h) (config_of new k)
        meets =
            let turned_all : List Tree = reverse (reverse w.extras) ++ list ∷ trees_on low in
            let c : Configuration = record { stack = map bare turned_all; place = all_spans turned_all } in
            let d : Configuration = record { stack = map bare (longer ∷ trees_on low); place = all_spans (list ∷ trees_on low) + all_spans s.children } in
            let first : config_of old h ≡ c =
            same_config (map bare (trees_on (stack_at old h.top))) (map bare turned_all) h.place (all_spans turned_all) (ap (λ (l : List Tree). map bare l) (trees ∙ back)) (sym own.live.stack.spans ∙ ap all_spans (trees ∙ back)) in
            let at : place ≡ all_spans (list ∷ trees_on low) + all_spans s.children = omega (arith, placed, place_is) in
            let second : config_of new k ≡ d =
            same_config (map bare (trees_on (stack_at new top))) (map bare (longer ∷ trees_on low)) place (all_spans (list ∷ trees_on low) + all_spans s.children) (ap (λ (l : List Layer). map bare (trees_on l)) put) at in
            let both : Meet g text c d =
            lengths.over_extras g table.fit states text e.state e.symbol.0 x s (reverse w.extras) (trees_on low) list (state_of list) section.some of after here node.sized.shallow
            (extras_turned w.extras w.lifted.all_extras) (states_turned w.extras w.stated) (subst (λ (l : List Tree). StandOnStack g states text l) back all) in
            subst (λ (y : Configuration). Meet g text y (config_of new k)) (sym first) (subst (λ (y : Configuration). Meet g text c y) (sym second) both)

      is_lengthened : IsLengthened t size old new h e s k
      is_lengthened = record {
        own = live;
        later = omega (arith, room.later, place_is);
        symbols = symbols;
        exact = λ all. subst AreExact (sym put) (refl, (subst AreExact w.list.stack_is (subst AreExact (sym w.lifted.rest) (exact_drop (length w.extras) (stack_at old h.top) all))).1);
        stand = λ states text long are honest stand. (stands states text are honest stand, meets states text are honest stand);
      }

  -- ---- the same of the node that is read from the stack

  module _ (laws : Laws) (lengths : LengthLaws) (table : IsTable t) (short : size ≤ most_span) (s : Stretch) (lent : IsLent g s) (section : IsSection s) (u : Tree) (u_node : IsNode u) (part : IsPartOf u s) (x : ℕ) (read : Tree) (top : Some read ≡ tree_on (stack_at old e.under)) (room : HasRoom size e.place h.place read s x) (state : Option ℕ) (state_is : state ≡ state_of read) where
    room_is : HasRoom size e.place h.place list s x
    room_is = subst (λ (y : Tree). HasRoom size e.place h.place y s x) (same_list read top) room

    longer_is : lengthened read s x state ≡ lengthened list s x (state_of list)
    longer_is =
        ap (λ (o : Option ℕ). lengthened read s x o) state_is
        ∙ ap (λ (y : Tree). lengthened y s x (state_of y)) (same_list read top)

    pub longer_node : IsNode (lengthened read s x state)
    longer_node = subst IsNode (sym longer_is) (node laws lengths table short s lent section u u_node part x room_is)

    pub lengthened_there : (new : List (List Layer)) (at place : ℕ) (whole : Tree) → at < length new → whole ≡ lengthened read s x state → stack_at new at ≡ layer_with whole (state_on (stack_at old e.under)) ∷ under_top (stack_at old e.under)
        → place ≡ e.place + all_spans s.children → IsLengthened t size old new h e s (record { top = at; place = place })
    lengthened_there new at place whole there is put place_is =
        let lies : stack_at new at ≡ layer_with (lengthened list s x (state_of list)) w.list.layer.state ∷ low =
        put
        ∙ ap (λ (l : List Layer). layer_with whole (state_on l) ∷ under_top l) w.list.stack_is
        ∙ ap (λ (y : Tree). layer_with y w.list.layer.state ∷ low) (is ∙ longer_is) in
        is_lengthened laws lengths table short s lent section u u_node part x room_is new at place there lies place_is
