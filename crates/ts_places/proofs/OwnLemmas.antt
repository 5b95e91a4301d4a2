-- An accepted root is a parser's own where the trees of its graph are, and sound where they stand.
use Rattle.std.proofs.Common.{◌≡◌, ◌∙◌, sym, ap, refl, subst, ℕ, suc, ◌≤◌, List, [], ◌∷◌, ◌++◌, length, reverse, drop, Some, None, arith}
use Rattle.std.specs.List.{Contains}
use Rattle.std.proofs.lemmas.List.{reverse-reverse}
use Rattle.ts_base.specs.Bytes.{Bytes}
use Rattle.spec_grammar.specs.Symbols.{start_symbol}
use Rattle.spec_tables.specs.Actions.{Act, accept}
use Rattle.spec_trees.specs.declared.tree.Tree.{Tree}
use Rattle.spec_trees.specs.declared.tree.Tree.TheOpen.{Tree-F}
use Rattle.spec_trees.specs.declared.tree.Tree.TheViews.{out-roll-Tree}
use Rattle.spec_trees.specs.Trees.{symbol_of, production_of, total_of, state_of, children_of, node_extent, span_of, all_spans}
use Rattle.spec_trees.specs.Made.{filling}
use Rattle.spec_forced.specs.Forced.{Stands}
use Rattle.spec_forced.specs.Sound.{States, IsStateAfter, AllSound, IsSound, StandOnStack}
use Rattle.spec_graph.specs.declared.graph.Head.{Head}
use Rattle.spec_graph.specs.declared.graph.Link.{Link}
use Rattle.spec_graph.specs.States.{LeadsTo, ShareState}
use Rattle.spec_graph.specs.Laying.{Parsing}
use Rattle.spec_graph.specs.Links.{IsAt, IsWay, IsLinked, way_trees}
use Rattle.ts_graph.specs.declared.view.GraphView.{GraphView}
use Rattle.ts_graph.specs.Down.{place_at}
use Rattle.ts_table.specs.declared.view.ParseTable.{ParseTable}
use Rattle.ts_table.specs.Tables.{goto_of, IsTable}
use Rattle.ts_reductions.specs.SoundLinks.{bare_link, bare_links}
use Rattle.ts_steps.specs.Good.{EachTree}
use Rattle.ts_steps.specs.Heads.{AreStatesOf, IsOwnTree, IsOwnWithin}
use Rattle.ts_steps.proofs.NodeLemmas.{over_layer, each_append, each_left, each_right, each_turned}
use Rattle.ts_steps.proofs.OwnLemmas.{own_children, own_self}
use Rattle.ts_reductions.specs.Good.{AreGoodTrees}
use Rattle.ts_reductions.specs.Sound.{Base, parsing_from, parsing_of, IsSoundBy}
use Rattle.ts_reductions.specs.Keeping.{AreOwn, StandOnGraph}
use Rattle.ts_reductions.proofs.SmallLemmas.{bare_member, extras_turned, filling_extras, filling_tree, place_is_at}
use Rattle.ts_reductions.proofs.WayLemmas.{trees_bare, way_bare, bare_filling, way_good, way_spans}
use Rattle.ts_reductions.proofs.AskLemmas.{leads_state}
use Rattle.ts_reductions.proofs.KeepLemmas.{way_own}
use Rattle.ts_places.specs.EndLaws.{RootLaws}
use Rattle.ts_places.specs.Ends.{Accepts}
use Rattle.ts_places.specs.Best.{IsRootOn}
use Rattle.ts_places.proofs.ListLemmas.{good_right}

module _ (laws : RootLaws) (t : ParseTable) (text : Bytes) (base : Base) (g : GraphView) (sound : IsSoundBy t text base g) where
  abbrev P : Parsing
  P = parsing_from t text base

  linked : (l : Link) → Contains g.links l → IsLinked P g.heads (bare_link l)
  linked l there = sound.laid.graph.linked (bare_link l) (bare_member g.links l there)

  -- the symbols on a way lead to its head
  read_is : (way : List Link) (h place : ℕ) (read : List ℕ) → IsAt P g.heads h read place → IsWay g.links h way 0 → IsAt P g.heads h (filling (way_trees way)) place
  read_is way h place read at down =
      subst (λ (r : List ℕ). IsAt P g.heads h r place) (ap filling (trees_bare way) ∙ bare_filling laws.keeps (way_trees way))
      (laws.symbols P sound.laid.parsed.fit sound.laid.parsed.states sound.laid.parsed.grounded g.heads (bare_links g.links) sound.laid.graph h place read (bare_links way) at (way_bare g.links way h 0 down))

  spans_are : (way : List Link) (h : ℕ) → IsWay g.links h way 0 → all_spans (way_trees way) ≡ place_at g.heads h
  spans_are way h down =
      let s = way_spans P g.heads g.links sound.laid.held way h 0 down in
      let a = sound.laid.graph.start in
      let z = place_is_at g.heads 0 a.head a.is in
      let p = a.place_is in
      omega (arith, s, z, p)

  module _ (table : IsTable t) (states : States) (named : AreStatesOf t states) (st : StandOnGraph t.grammar states text base g) where
    pub way_stands : (way : List Link) (h : ℕ) → IsWay g.links h way 0 → StandOnStack t.grammar states text (way_trees way)
    way_stands [] h w = tt
    way_stands (l ∷ way) h w =
        let low = (linked l w.0).below in
        let at = read_is way l.below (linked l w.0).from (linked l w.0).under low w.2 in
        let read = filling (way_trees way) in
        let after : IsStateAfter t.grammar states at.head.state read = laws.named t states read at.head.state table named (leads_state t read at.head.state at.state) in
        let place : at.head.place ≡ all_spans (way_trees way) = sym (place_is_at g.heads l.below at.head at.is) ∙ sym (spans_are way l.below w.2) in (
          λ has.
              subst (λ (n : ℕ). Stands t.grammar read (drop n text) l.tree (node_extent l.tree)) place
              (laws.tells t.grammar states text at.head.place at.head.state l.tree read after (st.stands l at.head w.0 at.is has).0),
          λ plain n has.
              let e : Some at.head.state ≡ Some n = sym ((st.stands l at.head w.0 at.is (n, has)).1 plain) ∙ has in
              let same : at.head.state ≡ n = cc in
              subst (λ (m : ℕ). IsStateAfter t.grammar states m read) same after,
          subst (λ (n : ℕ). AllSound t.grammar states text (l.tree ∷ []) n) (place_is_at g.heads l.below at.head at.is ∙ place) (st.inner l w.0),
          way_stands way l.below w.2,
        )

  -- ---- the root on a way

  module _ (h : ℕ) (accepts : Accepts (parsing_of t text) g.heads h) (b : Tree) (r : IsRootOn g (length text) h b) where
    abbrev below : List Tree
    below = r.root.root ∷ reverse r.root.before

    abbrev trees : List Tree
    trees = reverse r.root.after ++ below

    state_is : state_of b ≡ None
    state_is =
        ap state_of r.root.node_is
        ∙ ap (λ (x : Tree-F Tree). x.state) (out-roll-Tree (over_layer (symbol_of r.root.root) (production_of r.root.root) (total_of r.root.root) (suc (length text)) None [] ((r.root.before ++ children_of r.root.root) ++ r.root.after)))

    children_are : children_of b ≡ (r.root.before ++ children_of r.root.root) ++ r.root.after
    children_are =
        ap children_of r.root.node_is
        ∙ ap (λ (x : Tree-F Tree). x.children) (out-roll-Tree (over_layer (symbol_of r.root.root) (production_of r.root.root) (total_of r.root.root) (suc (length text)) None [] ((r.root.before ++ children_of r.root.root) ++ r.root.after)))

    trees_own : AreOwn t.grammar g → EachTree (IsOwnWithin t.grammar) trees
    trees_own all = subst (λ (l : List Tree). EachTree (IsOwnWithin t.grammar) l) r.root.stack_is (way_own t text base g sound.laid.held all r.way h 0 r.is)

    pub root_own : AreOwn t.grammar g → EachTree (IsOwnWithin t.grammar) (children_of b) × (state_of b ≡ None)
    root_own all =
        let K : Tree → Type 0 = IsOwnWithin t.grammar in
        let each = trees_own all in
        let back : EachTree K r.root.after = subst (λ (l : List Tree). EachTree K l) (reverse-reverse r.root.after) (each_turned K (reverse r.root.after) (each_left K (reverse r.root.after) below each)) in
        let mine = each_right K (reverse r.root.after) below each in
        let front : EachTree K r.root.before = subst (λ (l : List Tree). EachTree K l) (reverse-reverse r.root.before) (each_turned K (reverse r.root.before) mine.1) in (
          subst (λ (l : List Tree). EachTree K l) (sym children_are)
              (each_append K (r.root.before ++ children_of r.root.root) r.root.after (each_append K r.root.before (children_of r.root.root) front (own_children t.grammar r.root.root mine.0)) back),
          state_is,
        )

    -- ---- it is the start rule's

    at_head : IsAt P g.heads h accepts.read accepts.at.head.place
    at_head = record { head = accepts.at.head; is = accepts.at.is; state = accepts.at.state; place_is = refl }

    read_on : IsAt P g.heads h (filling (way_trees r.way)) accepts.at.head.place
    read_on = read_is r.way h accepts.at.head.place accepts.read at_head r.is

    same_head : read_on.head ≡ accepts.at.head
    same_head = let e : Some read_on.head ≡ Some accepts.at.head = sym read_on.is ∙ accepts.at.is in cc

    share : ShareState (goto_of t) accepts.read (filling (way_trees r.way))
    share = (accepts.at.head.state, accepts.at.state, subst (λ (x : Head). LeadsTo (goto_of t) (filling (way_trees r.way)) x.state) same_head read_on.state)

    stays : Act t.grammar (filling (way_trees r.way)) accepts.symbol.0 accept
    stays = sound.laid.parsed.states.acts accepts.read (filling (way_trees r.way)) accepts.symbol.0 accept share accepts.stays

    is_start : symbol_of r.root.root ≡ start_symbol t.grammar
    is_start =
        let whole : filling (way_trees r.way) ≡ start_symbol t.grammar ∷ [] = (laws.accepts t.grammar (filling (way_trees r.way)) accepts.symbol.0 stays).1 in
        let cut : filling (way_trees r.way) ≡ symbol_of r.root.root ∷ filling (reverse r.root.before) =
        ap filling r.root.stack_is
        ∙ filling_extras (reverse r.root.after) below (extras_turned r.root.after r.root.after_extras)
        ∙ filling_tree r.root.root (reverse r.root.before) r.root.root_fills in
        let both : symbol_of r.root.root ∷ filling (reverse r.root.before) ≡ start_symbol t.grammar ∷ [] = sym cut ∙ whole in
        cc

    filled : AreOwn t.grammar g → span_of r.root.root ≡ all_spans (children_of r.root.root)
    filled all =
        let good : AreGoodTrees t.grammar trees = subst (λ (l : List Tree). AreGoodTrees t.grammar l) r.root.stack_is (way_good t g.links sound.good r.way h 0 r.is) in
        let settled = (good_right t.grammar (reverse r.root.after) below good).0.settled in
        let own : IsOwnTree t.grammar r.root.root = own_self t.grammar r.root.root (each_right (IsOwnWithin t.grammar) (reverse r.root.after) below (trees_own all)).0 settled in
        own.filled (own.good.rule is_start)

    within : all_spans trees ≤ length text
    within =
        let s = spans_are r.way h r.is in
        let e = ap all_spans r.root.stack_is in
        let p = place_is_at g.heads h accepts.at.head accepts.at.is in
        let w = sound.laid.within h accepts.at.head accepts.at.is in
        omega (arith, s, e, p, w)

    pub root_sound : IsTable t → (states : States) → AreStatesOf t states → AreOwn t.grammar g → StandOnGraph t.grammar states text base g → IsSound t.grammar states text b
    root_sound table states named all st =
        subst (λ (x : Tree). IsSound t.grammar states text x) (sym r.root.node_is)
        (laws.root t.grammar states text r.root.before r.root.after r.root.root (suc (length text)) (filled all)
        (subst (λ (l : List Tree). StandOnStack t.grammar states text l) r.root.stack_is (way_stands table states named st r.way h r.is)) within)
