-- What was made for a reduction can be laid on the head below it.
use Rattle.std.proofs.Common.{◌≡◌, ◌∙◌, sym, ap, refl, subst, ℕ, suc, ◌+◌, ◌≤◌, true, List, [], ◌∷◌, ◌++◌, append_assoc, length, map, reverse, Some, None, arith}
use Rattle.std.proofs.lemmas.List.{reverse-append, reverse-reverse}
use Rattle.ts_base.specs.Bytes.{Bytes}
use Rattle.spec_trees.specs.declared.tree.Tree.{Tree}
use Rattle.spec_trees.specs.Trees.{is_extra_node, span_of, all_spans, tree_depth, bare}
use Rattle.spec_trees.specs.Made.{form_of, reduced, EndBy, most_depth}
use Rattle.spec_runs.specs.Configurations.{AreExtras}
use Rattle.spec_graph.specs.declared.graph.Head.{Head}
use Rattle.spec_graph.specs.declared.graph.Link.{Link}
use Rattle.spec_graph.specs.States.{LeadsTo, by_goto}
use Rattle.spec_graph.specs.Laying.{Parsing, from_start, IsMet, Lays, node_made}
use Rattle.spec_graph.specs.Replacing.{depth_over}
use Rattle.spec_graph.specs.Links.{IsAt, way_trees, way_depth}
use Rattle.ts_graph.specs.declared.view.GraphView.{GraphView}
use Rattle.ts_graph.specs.Down.{place_at}
use Rattle.ts_table.specs.declared.view.ParseTable.{ParseTable}
use Rattle.ts_table.specs.Tables.{goto_of, IsTable}
use Rattle.ts_table.specs.Ranks.{unit_rank}
use Rattle.ts_reductions.specs.Laws.{ReductionLaws, NodeLaws}
use Rattle.ts_reductions.specs.Good.{AreGoodTrees}
use Rattle.ts_reductions.specs.declared.batch.Batch.{Batch}
use Rattle.ts_reductions.specs.declared.made.Made.{Made}
use Rattle.ts_reductions.specs.declared.setting.Setting.{Setting}
use Rattle.ts_reductions.specs.declared.top.Top.{Top}
use Rattle.ts_reductions.specs.SoundLinks.{CanBeParsed, bare_links}
use Rattle.ts_reductions.specs.Sound.{parsing_from}
use Rattle.ts_reductions.specs.Laying.{FitsAfter, FitExtras, CanLayMade, end_of}
use Rattle.ts_reductions.specs.Asking.{inner_of, outer_of, children_on, extras_on, key_of, IsAsked, IsReadyAt, IsMadeFor}
use Rattle.ts_reductions.proofs.SmallLemmas.{all_spans-append, spans_turned, extras_turned}
use Rattle.ts_reductions.proofs.WayLemmas.{trees_bare, depths_bare, map_turned}
use Rattle.ts_reductions.proofs.AskLemmas as ask
use Rattle.ts_reductions.proofs.MadeLemmas as making

turned_middle : (done rest : List Tree) (x : Tree) (ts : List Tree) → reverse ts ≡ done ++ x ∷ rest → ts ≡ reverse rest ++ x ∷ reverse done
turned_middle done rest x ts is =
    sym (reverse-reverse ts) ∙ ap (λ (l : List Tree). reverse l) is
    ∙ reverse-append done (x ∷ rest) ∙ ap (λ (l : List Tree). l ++ reverse done) (reverse-append (x ∷ []) rest)
    ∙ append_assoc (reverse rest) (x ∷ []) (reverse done)

map_append : (f : Tree → Tree) (xs ys : List Tree) → map f (xs ++ ys) ≡ map f xs ++ map f ys
map_append f [] ys = refl
map_append f (x ∷ xs) ys = ap (λ (l : List Tree). f x ∷ l) (map_append f xs ys)

module _ (laws : ReductionLaws) (nodes : NodeLaws) (t : ParseTable) (table : IsTable t) (text : Bytes) (s : Setting) (g : GraphView) (k : Batch) (top : Top) (number : ℕ) (way : List Link) (b : ℕ) (ready : IsReadyAt t text s g k top) (m : Made) (made : IsMadeFor t (length text) g k top number way b m) where
  abbrev P : Parsing
  P = parsing_from t text ready.base

  parsed : CanBeParsed P
  parsed = ready.sound.laid.parsed

  abbrev asked : IsAsked t g k top number way b
  asked = made.asked

  abbrev links : List Link
  links = bare_links g.links

  abbrev size : ℕ
  size = length text

  abbrev node : Tree
  node = m.piece.node

  abbrev e : ℕ
  e = ask.e laws t table text s g k top number way b ready asked

  abbrev end : ℕ
  end = place_at g.heads e

  abbrev now : List ℕ
  now = ask.now laws t table text s g k top number way b ready asked

  abbrev over : List ℕ
  over = ask.over laws t table text s g k top number way b ready asked

  abbrev above : List Tree
  above = way_trees (outer_of way)

  abbrev extras : List Tree
  extras = extras_on way

  bottom : IsAt P g.heads b now k.begins
  bottom = ask.bottom laws t table text s g k top number way b ready asked

  -- ---- the node

  node_bare : bare node ≡ node_made P number (reverse (way_trees (bare_links (inner_of way))))
  node_bare =
      ap bare made.node_is
      ∙ laws.reduced_bare t.grammar number made.extent None (children_on way)
      ∙ ap (λ (ts : List Tree). bare (reduced t.grammar number 0 None ts)) (map_turned bare (way_trees (inner_of way)) ∙ ap (λ (ts : List Tree). reverse ts) (sym (trees_bare (inner_of way))))

  depth_is : way_depth P number asked.left (bare_links (inner_of way)) ≡ m.piece.depth
  depth_is = ap (λ (ds : List ℕ). depth_over (form_of t.grammar asked.left number) (reverse ds)) (depths_bare (inner_of way)) ∙ sym made.depth_is

  shallow : way_depth P number asked.left (bare_links (inner_of way)) ≤ most_depth
  shallow = omega (arith, depth_is, made.shallow)

  pub end_is : k.begins + span_of node ≡ end
  end_is = let c = making.own_spans laws nodes t table text s g k top number way b ready asked in omega (arith, c, made.spans)

  own_laid : Lays P now k.begins (bare node ∷ []) (k.begins + span_of node) (asked.left ∷ now)
  own_laid =
      subst (λ (n : ℕ). Lays P now k.begins (bare node ∷ []) n (asked.left ∷ now)) (sym end_is)
      (subst (λ (x : Tree). Lays P now k.begins (x ∷ []) end (asked.left ∷ now)) (sym node_bare)
      (laws.laid P parsed.fit parsed.states parsed.grounded (unit_rank t.grammar) g.heads links ready.sound.laid.graph (key_of k) number asked.left asked.production top.head e b (bare_links (outer_of way)) (bare_links (inner_of way)) over now end (ask.due laws t table text s g k top number way b ready asked) ready.late shallow))

  deep_laid : IsMet P → (u : Tree) × Lays (from_start P) now k.begins (u ∷ []) (k.begins + span_of node) (asked.left ∷ now) × (tree_depth u ≡ m.piece.depth)
  deep_laid met =
      let d = laws.deepest P parsed.fit parsed.states met (unit_rank t.grammar) g.heads links ready.sound.laid.graph (key_of k) number asked.left asked.production top.head e b (bare_links (outer_of way)) (bare_links (inner_of way)) over now end (ask.due laws t table text s g k top number way b ready asked) shallow in
      (d.0, subst (λ (n : ℕ). Lays (from_start P) now k.begins (d.0 ∷ []) n (asked.left ∷ now)) (sym end_is) d.1, d.2 ∙ depth_is)

  same_under : bottom.head ≡ made.under
  same_under = let f : Some bottom.head ≡ Some made.under = sym bottom.is ∙ made.under_is in cc

  leads : LeadsTo (goto_of t) (asked.left ∷ now) m.piece.state
  leads = by_goto now made.under.state asked.left m.piece.state (subst (λ (h : Head). LeadsTo (goto_of t) now h.state) same_under bottom.state) made.leads

  look_sum : end + all_spans extras ≡ k.look
  look_sum = making.extra_spans laws nodes t table text s g k top number way b ready asked

  look_within : k.look ≤ size
  look_within = making.look_within laws nodes t table text s g k top number way b ready asked

  -- a node that is laid reads its rule, so it is no extra
  never_extra : is_extra_node node ≡ true → ⊥
  never_extra extra =
      let same = laws.passes_same P parsed.fit parsed.states parsed.grounded now (asked.left ∷ now) k.begins (k.begins + span_of node) (bare node) own_laid ((laws.keeps node).extra ∙ extra) in
      let longer : length (asked.left ∷ now) ≡ length now = ap length same in
      omega (arith, longer)

  pub fits_node : FitsAfter P now k.begins node m.piece.depth m.piece.state
  fits_node = record {
    now = asked.left ∷ now;
    leads = leads;
    lays = own_laid;
    shallow = made.no_deeper;
    flat = λ extra. absurd (never_extra extra);
    deepest = deep_laid;
    form = made.good.form;
    some = let c = making.some_span laws nodes t table text s g k top number way b ready asked in omega (arith, c, made.spans);
    reach = made.reach;
    within = omega (arith, end_is, look_sum, look_within);
    not_deep = made.shallow;
  }

  -- ---- the extras

  above_bare : way_trees (bare_links (outer_of way)) ≡ map bare above
  above_bare = trees_bare (outer_of way)

  bare_spans : (ts : List Tree) → all_spans (map bare ts) ≡ all_spans ts
  bare_spans [] = refl
  bare_spans (x ∷ ts) = let c = laws.keeps x in let p = c.pad in let z = c.size in omega (arith, bare_spans ts, p, z)

  -- an extra over those that are laid
  extra_laid : (done rest : List Tree) (x : Tree) → extras ≡ done ++ x ∷ rest
      → Lays P (asked.left ∷ now) (end + all_spans done) (bare x ∷ []) (end + all_spans done + span_of x) (asked.left ∷ now)
  extra_laid done rest x is =
      let cut : way_trees (bare_links (outer_of way)) ≡ map bare (reverse rest) ++ bare x ∷ map bare (reverse done) =
      above_bare ∙ ap (λ (l : List Tree). map bare l) (turned_middle done rest x above is) ∙ map_append bare (reverse rest) (x ∷ reverse done) in
      let one = laws.extras P parsed.fit parsed.states parsed.grounded (unit_rank t.grammar) g.heads links ready.sound.laid.graph (key_of k) number asked.left asked.production top.head e b (bare_links (outer_of way)) (bare_links (inner_of way)) over now end (ask.due laws t table text s g k top number way b ready asked) ready.late shallow
      (map bare (reverse rest)) (map bare (reverse done)) (bare x) cut in
      let c = laws.keeps x in let p = c.pad in let z = c.size in
      let low : end + all_spans (map bare (reverse done)) ≡ end + all_spans done = omega (arith, bare_spans (reverse done), spans_turned done) in
      let high : (end + all_spans (map bare (reverse done))) + span_of (bare x) ≡ end + all_spans done + span_of x = omega (arith, low, p, z) in
      subst (λ (n : ℕ). Lays P (asked.left ∷ now) (end + all_spans done) (bare x ∷ []) n (asked.left ∷ now)) high
      (subst (λ (n : ℕ). Lays P (asked.left ∷ now) n (bare x ∷ []) ((end + all_spans (map bare (reverse done))) + span_of (bare x)) (asked.left ∷ now)) low one)

  fit_rest : (done rest : List Tree) → extras ≡ done ++ rest → AreGoodTrees t.grammar rest → AreExtras rest → EndBy (suc size) (end + all_spans done) rest → end + all_spans done + all_spans rest ≤ size
      → FitExtras P (asked.left ∷ now) (end + all_spans done) m.piece.state rest
  fit_rest done [] is good all reach within = tt
  fit_rest done (x ∷ rest) is good all reach within =
      let flat : tree_depth x ≡ 1 = good.0.flat all.0 in
      let laid = extra_laid done rest x is in
      let sum : end + all_spans (done ++ x ∷ []) ≡ end + all_spans done + span_of x = omega (arith, all_spans-append done (x ∷ [])) in (
        record {
          now = asked.left ∷ now;
          leads = leads;
          lays = laid;
          shallow = omega (arith, flat);
          flat = λ e. refl;
          deepest = λ met. (bare x, laws.embeds P parsed.fit parsed.states met (asked.left ∷ now) (asked.left ∷ now) (end + all_spans done) (end + all_spans done + span_of x) (bare x ∷ []) laid, (laws.keeps x).depth ∙ flat);
          form = good.0.form;
          some = good.0.some;
          reach = reach.0;
          within = omega (arith, within);
          not_deep = omega arith;
        },
        all.0,
        subst (λ (n : ℕ). FitExtras P (asked.left ∷ now) n m.piece.state rest) sum
            (fit_rest (done ++ x ∷ []) rest (is ∙ sym (append_assoc done (x ∷ []) rest)) good.1 all.1
            (subst (λ (n : ℕ). EndBy (suc size) n rest) (sym sum) reach.1) (omega (arith, sum, within))),
      )

  all_extras : AreExtras extras
  all_extras = extras_turned above (making.two laws nodes t table text s g k top number way b ready asked).extras

  none_done : end + all_spans [] ≡ end
  none_done = omega arith

  pub fits_extras : FitExtras P (asked.left ∷ now) (k.begins + span_of node) m.piece.state m.extras
  fits_extras =
      subst (λ (l : List Tree). FitExtras P (asked.left ∷ now) (k.begins + span_of node) m.piece.state l) (sym made.extras_are)
      (subst (λ (n : ℕ). FitExtras P (asked.left ∷ now) n m.piece.state extras) (none_done ∙ sym end_is)
      (fit_rest [] extras refl (making.extras_good laws nodes t table text s g k top number way b ready asked) all_extras
      (subst (λ (n : ℕ). EndBy (suc size) n extras) (sym none_done) (making.extra_reach laws nodes t table text s g k top number way b ready asked))
      (omega (arith, look_sum, look_within))))

  node_late : ready.base.place ≤ k.begins + span_of node
  node_late =
      let h = laws.end P parsed.fit parsed.states parsed.grounded (unit_rank t.grammar) g.heads links ready.sound.laid.graph (key_of k) number asked.left asked.production top.head e b (bare_links (outer_of way)) (bare_links (inner_of way)) over now end (ask.due laws t table text s g k top number way b ready asked) ready.late in
      omega (arith, h, end_is)

  at_below : IsAt P g.heads m.below now k.begins
  at_below = subst (λ (h : ℕ). IsAt P g.heads h now k.begins) (sym made.below_is) bottom

  pub can_lay : CanLayMade P g m
  unfolding fits_node
  can_lay = record {
    sound = ready.sound.laid;
    read = now;
    from = k.begins;
    at = at_below;
    fits = fits_node;
    late = node_late;
    some = λ none. let f : asked.left ∷ now ≡ [] = none in cc;
    extras = fits_extras;
  }

  pub ends_at : end_of g m ≡ k.look
  ends_at =
      let low = ap (place_at g.heads) made.below_is in
      let x = ap all_spans made.extras_are in
      omega (arith, low, asked.begins, x, end_is, look_sum)

  pub good_extras : AreGoodTrees t.grammar m.extras
  good_extras = subst (λ (l : List Tree). AreGoodTrees t.grammar l) (sym made.extras_are) (making.extras_good laws nodes t table text s g k top number way b ready asked)
