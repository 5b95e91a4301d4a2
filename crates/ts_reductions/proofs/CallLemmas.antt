-- What the calls need that make the node of a reduction on a way, and what they come to.
use Rattle.std.proofs.Common.{◌≡◌, ◌∙◌, sym, ap, subst, ℕ, suc, ◌+◌, ◌<◌, ◌≤◌, ◌^◌, Bool, List, [], ◌∷◌, ◌++◌, length, length-append, take, drop, reverse, slice_get, Option, Some, None, arith}
use Rattle.std.proofs.lemmas.List.{length-map}
use Rattle.std.proofs.lemmas.Option.{slice_get_within}
use Rattle.ts_base.specs.Bytes.{Bytes}
use Rattle.ts_core.specs.declared.flat.FlatGrammar.{FlatGrammar}
use Rattle.ts_core.specs.declared.flat.Production.{Production}
use Rattle.spec_grammar.specs.Symbols.{all_productions}
use Rattle.spec_trees.specs.declared.tree.Tree.{Tree}
use Rattle.spec_trees.specs.Trees.{node_extent, span_of, all_spans, tree_depth}
use Rattle.spec_trees.specs.Made.{form_of, reduced, EndBy, most_depth}
use Rattle.spec_trees.specs.Reducible.{HasSmallValue}
use Rattle.spec_runs.specs.Moves.{StandsBefore, EndsWithProduction}
use Rattle.spec_graph.specs.declared.graph.Head.{Head}
use Rattle.spec_graph.specs.declared.graph.Link.{Link}
use Rattle.spec_graph.specs.States.{LeadsTo}
use Rattle.spec_graph.specs.Laying.{Parsing}
use Rattle.spec_graph.specs.Links.{IsWay, depths_of}
use Rattle.ts_graph.specs.declared.view.GraphView.{GraphView}
use Rattle.ts_graph.specs.Ways.{AreAt}
use Rattle.ts_table.specs.declared.view.ParseTable.{ParseTable}
use Rattle.ts_table.specs.Tables.{goto_of, IsTable, IsStateOf}
use Rattle.ts_node.specs.Standing.{CanBeReduced}
use Rattle.ts_reductions.specs.Laws.{ReductionLaws, NodeLaws}
use Rattle.ts_reductions.specs.Good.{IsGoodTree}
use Rattle.ts_reductions.specs.declared.batch.Batch.{Batch}
use Rattle.ts_reductions.specs.declared.made.Made.{Made}
use Rattle.ts_reductions.specs.declared.lines.Line.{Line}
use Rattle.ts_reductions.specs.declared.setting.Setting.{Setting}
use Rattle.ts_reductions.specs.declared.top.Top.{Top}
use Rattle.ts_reductions.specs.Sound.{parsing_from}
use Rattle.ts_reductions.specs.Lines.{IsLine}
use Rattle.ts_reductions.specs.Depths.{depth_when, AreShallow}
use Rattle.ts_reductions.specs.Asking.{inner_of, outer_of, children_on, extras_on, depth_on, HasReduction, IsAsked, IsAskedDeep, IsReadyAt, IsMadeFor}
use Rattle.ts_reductions.specs.SoundLinks.{bare_link, IsSoundFor}
use Rattle.ts_reductions.proofs.SmallLemmas.{bare_member}
use Rattle.ts_reductions.proofs.WayLemmas.{way_shallow}
use Rattle.ts_reductions.proofs.LineLemmas.{left_low}
use Rattle.ts_reductions.proofs.GatherLemmas.{at_long, at_take, at_drop, cut_outer}
use Rattle.ts_reductions.proofs.AskLemmas as ask
use Rattle.ts_reductions.proofs.MadeLemmas as making
use Rattle.ts_reductions.proofs.MadeLemmas.{depth_forms}

-- a way down from a head ends at one
pub way_low : (P : Parsing) (g : GraphView) → IsSoundFor P g → (way : List Link) (h c : ℕ) → h < length g.heads → IsWay g.links h way c → c < length g.heads
way_low P g sound [] h c low is = subst (λ (n : ℕ). n < length g.heads) is low
way_low P g sound (l ∷ way) h c low is =
    let m = (sound.graph.linked (bare_link l) (bare_member g.links l is.0)).below in
    way_low P g sound way l.below c (slice_get_within g.heads l.below m.head m.is) is.2

-- a reduction that stays is by a production
module _ (laws : ReductionLaws) (t : ParseTable) (table : IsTable t) (text : Bytes) (s : Setting) (g : GraphView) (k : Batch) (top : Top) (number : ℕ) (ready : IsReadyAt t text s g k top) (h : HasReduction t g top number) where
  pub ends_of : EndsWithProduction t.grammar ready.seen.read number
  ends_of =
      let f : Some ready.seen.at.head ≡ Some h.head = sym ready.seen.at.is ∙ h.at in
      let one : ready.seen.at.head ≡ h.head = cc in
      laws.reduces t.grammar ready.seen.read top.token.0 number
      (ask.reduces_stay t table ready.seen.read h.head.state top.token.0 number (subst (λ (x : Head). LeadsTo (goto_of t) ready.seen.read x.state) one ready.seen.at.state) h.acts)

  pub line_low : number < length s.lines
  line_low =
      let m = ready.setting.lines.many in
      let e = ends_of in
      let n = slice_get_within (all_productions t.grammar) number (e.left, e.production) e.at in
      omega (arith, m, n)

  pub left_in : (l : Line) → slice_get s.lines number ≡ Some l → l.left.0 < length s.ranks
  left_in l is =
      let n = ready.setting.lines.each number l is in
      let m = ready.setting.ranks.many in
      let w = left_low t.grammar number l.left.0 n.production n.at in
      omega (arith, m, w)

module _ (laws : ReductionLaws) (nodes : NodeLaws) (t : ParseTable) (table : IsTable t) (text : Bytes) (s : Setting) (g : GraphView) (k : Batch) (top : Top) (number : ℕ) (way : List Link) (b : ℕ) (ready : IsReadyAt t text s g k top) (asked : IsAsked t g k top number way b) where
  pub number_low : number < length s.lines
  number_low =
      let m = ready.setting.lines.many in
      let n = slice_get_within (all_productions t.grammar) number (asked.left, asked.production) asked.is in
      omega (arith, m, n)

  pub below_low : b < length g.heads
  below_low = let h = ask.bottom laws t table text s g k top number way b ready asked in slice_get_within g.heads b h.head h.is

  -- ---- the numbers of the links, cut in two

  module _ (numbers : List ℕ) (at : AreAt g.links numbers way) (n : ℕ) (n_is : n ≡ length (outer_of way)) where
    whole : way ≡ outer_of way ++ inner_of way
    whole = (making.two laws nodes t table text s g k top number way b ready asked).whole

    pub split_low : n ≤ length numbers
    split_low =
        let a = at_long g.links numbers way at in
        let w = ap (λ (l : List Link). length l) whole in
        let x = length-append (outer_of way) (inner_of way) in
        omega (arith, a, w, x, n_is)

    pub outer_at : AreAt g.links (take n numbers) (outer_of way)
    outer_at =
        subst (λ (m : ℕ). AreAt g.links (take m numbers) (outer_of way)) (sym n_is)
        (subst (λ (w : List Link). AreAt g.links (take (length (outer_of way)) numbers) w) (cut_outer way (outer_of way) (inner_of way) whole).0 (at_take g.links (length (outer_of way)) numbers way at))

    pub inner_at : AreAt g.links (drop n numbers) (inner_of way)
    inner_at =
        subst (λ (m : ℕ). AreAt g.links (drop m numbers) (inner_of way)) (sym n_is)
        (subst (λ (w : List Link). AreAt g.links (drop (length (outer_of way)) numbers) w) (cut_outer way (outer_of way) (inner_of way) whole).1 (at_drop g.links (length (outer_of way)) numbers way at))

    pub inner_some : 0 < length (drop n numbers)
    inner_some =
        let a = at_long g.links (drop n numbers) (inner_of way) inner_at in
        let x = ask.some_taken laws t table text s g k top number way b ready asked in
        let m = length-map (inner_of way) (λ (l : Link). l.tree) in
        omega (arith, a, x, m)

  pub inner_shallow : AreShallow (inner_of way)
  inner_shallow =
      let c = ask.cut laws t table text s g k top number way b ready asked in
      way_shallow (parsing_from t text ready.base) g.heads g.links ready.sound.laid.held (inner_of way) c.0 b c.2

  -- ---- what is known of the production

  module _ (l : Line) (l_is : slice_get s.lines number ≡ Some l) where
    line : IsLine t.grammar number l
    line = ready.setting.lines.each number l l_is

    same : (l.left.0 ≡ asked.left) × (line.production ≡ asked.production)
    same =
        let f : ◌≡◌ {A = Option (ℕ × Production)} (Some (l.left.0, line.production)) (Some (asked.left, asked.production)) = sym line.at ∙ asked.is in
        let both : ◌≡◌ {A = ℕ × Production} (l.left.0, line.production) (asked.left, asked.production) = cc in
        (ap (λ (x : ℕ × Production). x.0) both, ap (λ (x : ℕ × Production). x.1) both)

    pub same_left : l.left.0 ≡ asked.left
    same_left = same.0

    pub depth_says : (depth : ℕ) → depth ≡ depth_when l.lengthens (reverse (depths_of (inner_of way))) → depth ≡ depth_on t number asked.left way
    depth_says depth is =
        is
        ∙ ap (λ (f : Bool). depth_when f (reverse (depths_of (inner_of way)))) (sym line.lengthens)
        ∙ sym (depth_forms (form_of t.grammar l.left.0 number) (reverse (depths_of (inner_of way))))
        ∙ ap (λ (n : ℕ). depth_on t number n way) same_left

    pub too_deep : (depth : ℕ) → depth ≡ depth_when l.lengthens (reverse (depths_of (inner_of way))) → most_depth < depth → IsAskedDeep t g k top number way b
    too_deep depth is deep = record { asked = asked; deep = let d = depth_says depth is in omega (arith, d, deep) }

    -- ---- the state behind

    pub state_requires : (head : Head) → slice_get g.heads b ≡ Some head → (read : List ℕ) × IsStateOf t read head.state × StandsBefore t.grammar read l.left.0
    state_requires head is =
        let bottom = ask.bottom laws t table text s g k top number way b ready asked in
        let f : Some bottom.head ≡ Some head = sym bottom.is ∙ is in
        let one : bottom.head ≡ head = cc in (
          ask.now laws t table text s g k top number way b ready asked,
          subst (λ (h : Head). IsStateOf t (ask.now laws t table text s g k top number way b ready asked) h.state) one (ask.leads_state t (ask.now laws t table text s g k top number way b ready asked) bottom.head.state bottom.state),
          subst (λ (n : ℕ). StandsBefore t.grammar (ask.now laws t table text s g k top number way b ready asked) n) (sym same_left)
              (ask.before laws t table text s g k top number way b ready asked),
        )

    -- ---- the node

    module _ (small : (n : ℕ) → HasSmallValue s.productions n) (cs xs : List Tree) (cs_are : cs ≡ children_on way) (xs_are : xs ≡ extras_on way) where
      pub room_for : (limit start : ℕ) × (limit < 2 ^ 31) × EndBy limit start cs × EndBy limit (start + all_spans cs) xs × (start + (all_spans cs + (all_spans xs + top.ahead)) ≤ limit)
      room_for =
          subst (λ (c : List Tree). (limit start : ℕ) × (limit < 2 ^ 31) × EndBy limit start c × EndBy limit (start + all_spans c) xs × (start + (all_spans c + (all_spans xs + top.ahead)) ≤ limit)) (sym cs_are)
          (subst (λ (x : List Tree). (limit start : ℕ) × (limit < 2 ^ 31) × EndBy limit start (children_on way) × EndBy limit (start + all_spans (children_on way)) x × (start + (all_spans (children_on way) + (all_spans x + top.ahead)) ≤ limit)) (sym xs_are)
          (making.room laws nodes t table text s g k top number way b ready asked))

      small_own : HasSmallValue t.grammar number
      small_own = subst (λ (g : FlatGrammar). HasSmallValue g number) ready.setting.productions (small number)

      module _ (extent depth : ℕ) (covers : EndBy extent 0 cs) (past : all_spans cs < extent) (depth_is : depth ≡ depth_when l.lengthens (reverse (depths_of (inner_of way)))) (low : depth ≤ most_depth) where
        own_covers : EndBy extent 0 (children_on way)
        own_covers = subst (λ (c : List Tree). EndBy extent 0 c) cs_are covers

        own_past : all_spans (children_on way) < extent
        own_past = let c = ap all_spans cs_are in omega (arith, c, past)

        own_low : depth_on t number asked.left way ≤ most_depth
        own_low = let d = depth_says depth depth_is in omega (arith, d, low)

        pub node_requires : (ks : List Tree) → ks ≡ cs → CanBeReduced s.productions number extent None ks
        node_requires ks ks_are =
            subst (λ (f : FlatGrammar). CanBeReduced f number extent None ks) (sym ready.setting.productions) (subst (λ (c : List Tree). CanBeReduced t.grammar number extent None c) (sym (ks_are ∙ cs_are))
            (making.can_be laws nodes t table text s g k top number way b ready asked small_own extent own_covers own_past own_low))

        pub made_for : (ks : List Tree) → ks ≡ cs → (m : Made) → ((start limit : ℕ) → start + (all_spans cs + (all_spans xs + top.ahead)) ≤ limit → EndBy limit start cs → EndBy limit (start + all_spans cs) xs → start + extent ≤ limit)
            → (head : Head) → slice_get g.heads b ≡ Some head → goto_of t head.state l.left.0 ≡ Some m.piece.state
            → m.below ≡ b → m.piece.node ≡ reduced s.productions number extent None ks → m.piece.depth ≡ depth → m.extras ≡ xs → m.top ≡ top → IsMadeFor t (length text) g k top number way b m
        made_for ks ks_are m most head head_is goes below_is node_is deep extras_are top_is =
            let good = making.good_node laws nodes t table text s g k top number way b ready asked small_own extent own_covers own_past own_low in
            let own_node : m.piece.node ≡ reduced t.grammar number extent None (children_on way) =
            node_is ∙ ap (λ (f : FlatGrammar). reduced f number extent None ks) ready.setting.productions ∙ ap (λ (c : List Tree). reduced t.grammar number extent None c) (ks_are ∙ cs_are) in
            let reach = most k.begins (suc (length text))
            (let c = ap all_spans cs_are in let x = ap all_spans xs_are in let h = making.reach_sum laws nodes t table text s g k top number way b ready asked in omega (arith, c, x, h))
            (subst (λ (c : List Tree). EndBy (suc (length text)) k.begins c) (sym cs_are) (making.own_reach laws nodes t table text s g k top number way b ready asked))
            (subst (λ (x : List Tree). EndBy (suc (length text)) (k.begins + all_spans cs) x) (sym xs_are) (subst (λ (c : List Tree). EndBy (suc (length text)) (k.begins + all_spans c) (extras_on way)) (sym cs_are) (making.extra_reach_on laws nodes t table text s g k top number way b ready asked))) in
            let depth_so = depth_says depth depth_is in
            record {
              asked = asked;
              below_is = below_is;
              under = head;
              under_is = head_is;
              leads = subst (λ (n : ℕ). goto_of t head.state n ≡ Some m.piece.state) same_left goes;
              small = small_own;
              extent = extent;
              covers = own_covers;
              past = own_past;
              node_is = own_node;
              good = subst (λ (u : Tree). IsGoodTree t.grammar u) (sym own_node) good;
              spans = ap span_of own_node ∙ making.node_spans laws nodes t table text s g k top number way b ready asked small_own extent own_covers own_past own_low;
              no_deeper = let d = making.node_shallow laws nodes t table text s g k top number way b ready asked small_own extent own_covers own_past in let e = ap tree_depth own_node in omega (arith, d, e, deep, depth_so);
              reach = let e = ap node_extent own_node in let f = making.node_extent_is laws nodes t table text s g k top number way b ready asked small_own extent own_covers own_past own_low in omega (arith, e, f, reach);
              depth_is = deep ∙ depth_so;
              shallow = omega (arith, deep, low);
              extras_are = extras_are ∙ xs_are;
              top_is = top_is;
            }
