-- What is made for a reduction that is asked for, and where it can be laid.
use Rattle.std.proofs.Common.{◌≡◌, ◌∙◌, sym, ap, refl, subst, ℕ, suc, ◌+◌, ◌<◌, ◌≤◌, ◌^◌, List, [], ◌∷◌, length, reverse, None, arith}
use Rattle.std.proofs.lemmas.List.{reverse-reverse}
use Rattle.ts_base.specs.Bytes.{Bytes}
use Rattle.spec_trees.specs.declared.tree.Tree.{Tree}
use Rattle.spec_trees.specs.Trees.{span_of, all_spans, node_extent, tree_depth, bare}
use Rattle.spec_trees.specs.Made.{Form, of_rule, of_first, of_next, form_of, reduced, BeginsFilled, EndBy, most_depth}
use Rattle.spec_graph.specs.declared.graph.Link.{Link}
use Rattle.spec_graph.specs.Laying.{Parsing, node_made}
use Rattle.spec_graph.specs.Replacing.{depth_over}
use Rattle.spec_graph.specs.Links.{IsWay, way_trees, way_depth}
use Rattle.ts_graph.specs.declared.view.GraphView.{GraphView}
use Rattle.ts_graph.specs.Down.{place_at}
use Rattle.spec_trees.specs.Reducible.{HasSmallValue}
use Rattle.ts_table.specs.declared.view.ParseTable.{ParseTable}
use Rattle.ts_table.specs.Tables.{IsTable}
use Rattle.ts_table.specs.Ranks.{unit_rank}
use Rattle.ts_reductions.specs.declared.batch.Batch.{Batch}
use Rattle.ts_reductions.specs.declared.setting.Setting.{Setting}
use Rattle.ts_reductions.specs.declared.top.Top.{Top}
use Rattle.ts_reductions.specs.SoundLinks.{CanBeParsed, bare_links}
use Rattle.ts_node.specs.Standing.{CanBeReduced}
use Rattle.ts_reductions.specs.Laws.{ReductionLaws, NodeLaws}
use Rattle.ts_reductions.specs.Good.{IsGoodTree, AreGoodTrees}
use Rattle.ts_reductions.specs.Lines.{lengthens_by}
use Rattle.ts_reductions.specs.Sound.{parsing_from}
use Rattle.ts_reductions.specs.Asking.{inner_of, outer_of, children_on, extras_on, depth_on, key_of, IsAsked, IsReadyAt}
use Rattle.ts_reductions.specs.Depths.{depth_when}
use Rattle.ts_reductions.proofs.SmallLemmas.{place_is_at, spans_turned, good_turned}
use Rattle.ts_reductions.proofs.NodeLemmas.{CanReduce, can, good_made}
use Rattle.ts_reductions.proofs.WayLemmas.{Parts, trees_bare, depths_bare, map_turned, way_good, way_spans, way_reach}
use Rattle.ts_reductions.proofs.AskLemmas as ask

-- ---- how deep

pub depth_forms : (f : Form) (ds : List ℕ) → depth_over f ds ≡ depth_when (lengthens_by f) ds
depth_forms of_rule ds = refl
depth_forms (of_first a) ds = refl
depth_forms (of_next a) [] = refl
depth_forms (of_next a) (d ∷ ds) = refl

module _ (laws : ReductionLaws) (nodes : NodeLaws) (t : ParseTable) (table : IsTable t) (text : Bytes) (s : Setting) (g : GraphView) (k : Batch) (top : Top) (number : ℕ) (way : List Link) (b : ℕ) (ready : IsReadyAt t text s g k top) (asked : IsAsked t g k top number way b) where
  abbrev P : Parsing
  P = parsing_from t text ready.base

  parsed : CanBeParsed P
  parsed = ready.sound.laid.parsed

  abbrev links : List Link
  links = bare_links g.links

  abbrev size : ℕ
  size = length text

  abbrev own : List Tree
  own = way_trees (inner_of way)

  abbrev above : List Tree
  above = way_trees (outer_of way)

  abbrev children : List Tree
  children = children_on way

  abbrev extras : List Tree
  extras = extras_on way

  abbrev e : ℕ
  e = ask.e laws t table text s g k top number way b ready asked

  abbrev end : ℕ
  end = place_at g.heads e

  abbrev now : List ℕ
  now = ask.now laws t table text s g k top number way b ready asked

  pub two : Parts way (outer_of way) (inner_of way)
  two = ask.two laws t table text s g k top number way b ready asked

  outer_way : IsWay g.links top.head (outer_of way) e
  outer_way = (ask.cut laws t table text s g k top number way b ready asked).1

  inner_way : IsWay g.links e (inner_of way) b
  inner_way = (ask.cut laws t table text s g k top number way b ready asked).2

  top_place : place_at g.heads top.head ≡ k.look
  top_place = place_is_at g.heads top.head ready.seen.at.head ready.seen.at.is ∙ ready.seen.at.place_is

  pub look_within : k.look ≤ size
  look_within = let w = ready.sound.laid.within top.head ready.seen.at.head ready.seen.at.is in let p = ready.seen.at.place_is in omega (arith, w, p)

  -- ---- places

  pub own_spans : k.begins + all_spans children ≡ end
  own_spans = let a = way_spans P g.heads g.links ready.sound.laid.held (inner_of way) e b inner_way in let c = spans_turned own in omega (arith, a, c, asked.begins)

  pub extra_spans : end + all_spans extras ≡ k.look
  extra_spans = let a = way_spans P g.heads g.links ready.sound.laid.held (outer_of way) top.head e outer_way in let c = spans_turned above in omega (arith, a, c, top_place)

  own_some : (ls : List Link) (h c : ℕ) → IsWay g.links h ls c → 0 < length (way_trees ls) → 0 < all_spans (way_trees ls)
  own_some [] h c w lt = absurd (omega (arith, lt))
  own_some (l ∷ ls) h c w lt = let x = (ready.sound.laid.held l w.0).some in omega (arith, x)

  pub some_span : 0 < all_spans children
  some_span =
      let x = own_some (inner_of way) e b inner_way (ask.some_taken laws t table text s g k top number way b ready asked) in
      let y = spans_turned own in
      omega (arith, x, y)

  pub own_reach : EndBy (suc size) k.begins children
  own_reach = subst (λ (n : ℕ). EndBy (suc size) n children) asked.begins (way_reach P g.heads g.links ready.sound.laid.held (inner_of way) e b inner_way)

  pub extra_reach : EndBy (suc size) end extras
  extra_reach = way_reach P g.heads g.links ready.sound.laid.held (outer_of way) top.head e outer_way

  pub extra_reach_on : EndBy (suc size) (k.begins + all_spans children) extras
  extra_reach_on = subst (λ (n : ℕ). EndBy (suc size) n extras) (sym own_spans) extra_reach

  pub reach_sum : k.begins + (all_spans children + (all_spans extras + top.ahead)) ≤ suc size
  reach_sum = omega (arith, own_spans, extra_spans, ready.seen.reach)

  -- what there is room for
  pub room : (limit start : ℕ) × (limit < 2 ^ 31) × EndBy limit start children × EndBy limit (start + all_spans children) extras × (start + (all_spans children + (all_spans extras + top.ahead)) ≤ limit)
  room = (suc size, k.begins, (let h = ready.sound.laid.parsed.short in omega (arith, h)), own_reach, extra_reach_on, reach_sum)

  own_good : AreGoodTrees t.grammar children
  own_good = good_turned t.grammar own (way_good t g.links ready.sound.good (inner_of way) e b inner_way)

  pub extras_good : AreGoodTrees t.grammar extras
  extras_good = good_turned t.grammar above (way_good t g.links ready.sound.good (outer_of way) top.head e outer_way)

  -- ---- the node

  module _ (small : HasSmallValue t.grammar number) (extent : ℕ) (covers : EndBy extent 0 children) (past : all_spans children < extent) where
    pub can_reduce : CanReduce t.grammar number asked.left asked.production extent children
    can_reduce = record {
      fit = ready.sound.laid.parsed.fit;
      at = asked.is;
      value = small;
      good = own_good;
      filled = ask.children_fill laws t table text s g k top number way b ready asked;
      begins = ask.children_begin laws t table text s g k top number way b ready asked;
      ends = subst BeginsFilled (sym (reverse-reverse own)) two.begins;
      short = let h = ready.sound.laid.parsed.short in omega (arith, own_spans, extra_spans, look_within, h);
      past = past;
      covers = covers;
    }

    abbrev node : Tree
    node = reduced t.grammar number extent None children

    bare_is : bare node ≡ node_made P number (reverse (way_trees (bare_links (inner_of way))))
    bare_is = laws.reduced_bare t.grammar number extent None children
        ∙ ap (λ (ts : List Tree). bare (reduced t.grammar number 0 None ts)) (map_turned bare own ∙ ap (λ (ts : List Tree). reverse ts) (sym (trees_bare (inner_of way))))

    depth_same : way_depth P number asked.left (bare_links (inner_of way)) ≡ depth_on t number asked.left way
    depth_same = ap (λ (ds : List ℕ). depth_over (form_of t.grammar asked.left number) (reverse ds)) (depths_bare (inner_of way))

    pub node_shallow : tree_depth node ≤ depth_on t number asked.left way
    node_shallow =
        let d = laws.depth P parsed.fit parsed.states parsed.grounded (unit_rank t.grammar) g.heads links ready.sound.laid.graph (key_of k) number asked.left asked.production top.head e b (bare_links (outer_of way)) (bare_links (inner_of way)) (ask.over laws t table text s g k top number way b ready asked) now end
        (ask.due laws t table text s g k top number way b ready asked) in
        let x = (laws.keeps node).depth in
        let y = ap tree_depth bare_is in
        omega (arith, d, x, y, depth_same)

    module _ (low_depth : depth_on t number asked.left way ≤ most_depth) where
      shallow : tree_depth node ≤ most_depth
      shallow = omega (arith, node_shallow, low_depth)

      pub can_be : CanBeReduced t.grammar number extent None children
      can_be = can laws nodes t.grammar number asked.left asked.production extent children can_reduce shallow

      way_shallow : way_depth P number asked.left (bare_links (inner_of way)) ≤ most_depth
      way_shallow = omega (arith, depth_same, low_depth)

      -- it is as long as its children, since it reaches from place to place
      pub node_spans : span_of node ≡ all_spans children
      node_spans =
          let l = laws.laid P parsed.fit parsed.states parsed.grounded (unit_rank t.grammar) g.heads links ready.sound.laid.graph (key_of k) number asked.left asked.production top.head e b (bare_links (outer_of way)) (bare_links (inner_of way)) (ask.over laws t table text s g k top number way b ready asked) now end
          (ask.due laws t table text s g k top number way b ready asked) ready.late way_shallow in
          let r = laws.spans P parsed.fit parsed.states parsed.grounded now (asked.left ∷ now) k.begins end (node_made P number (reverse (way_trees (bare_links (inner_of way)))) ∷ []) l in
          let q = ap span_of bare_is in
          let x = (laws.keeps node).pad in
          let y = (laws.keeps node).size in
          omega (arith, r, q, x, y, own_spans)

      pub good_node : IsGoodTree t.grammar node
      good_node = good_made laws nodes t.grammar number asked.left asked.production extent children can_reduce shallow node_spans some_span

      pub node_extent_is : node_extent node ≡ extent
      node_extent_is = (nodes.made t.grammar number extent None children).extent_is
