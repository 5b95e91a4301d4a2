-- What is known of a stack from which a parser goes on to a graph, and of those below it.
use Rattle.std.proofs.Common.{◌≡◌, ◌∙◌, sym, ap, refl, subst, ℕ, zero, suc, ◌<◌, ◌⊎◌, inl, inr, List, [], ◌∷◌, ◌++◌, append_assoc, length, map, reverse, take, drop, arith}
use Rattle.std.proofs.lemmas.List.{map-append, reverse-append, take-append-drop}
use Rattle.ts_base.specs.Bytes.{Bytes}
use Rattle.ts_core.specs.declared.flat.FlatGrammar.{FlatGrammar}
use Rattle.spec_trees.specs.declared.tree.Tree.{Tree}
use Rattle.spec_trees.specs.Trees.{all_spans, bare}
use Rattle.spec_trees.specs.Made.{EndBy, filling, BeginsFilled}
use Rattle.spec_runs.specs.Configurations.{AreExtras}
use Rattle.spec_packing.specs.Packing.{PackedTree, packed_trees, AllCover}
use Rattle.spec_graph.specs.States.{LeadsTo, at_first}
use Rattle.spec_graph.specs.Laying.{IsBegun}
use Rattle.spec_graph.specs.Grounded.{AreMadeTrees, HaveExtrasBytes, BeginsWithBytes, IsGrounded}
use Rattle.ts_table.specs.declared.view.ParseTable.{ParseTable}
use Rattle.ts_table.specs.Tables.{goto_of}
use Rattle.ts_gss.specs.declared.layer.Layer.{Layer}
use Rattle.ts_gss.specs.Stacks.{stack_at, trees_on, under_top}
use Rattle.ts_steps.specs.declared.head.StackHead.{StackHead}
use Rattle.ts_steps.specs.Good.{AreGoodTrees}
use Rattle.ts_steps.specs.LiveHeads.{packed_tree, packed_layers, packed_of, HaveStates, HaveDepths, IsGoodStack}
use Rattle.ts_steps.proofs.LayerLemmas.{layers_trees}
use Rattle.ts_crossing.specs.Laws.{EnterLaws}
use Rattle.ts_reductions.specs.Sound.{Base, base_at, parsing_from}
use Rattle.ts_graph.specs.Under.{HaveBytes}
use Rattle.ts_crossing.specs.Entering.{CanEnter, IsUnder, Stands}
use Rattle.ts_crossing.proofs.BareLemmas.{spans_append, extras_bare, begins_bare, span_bare, spans_bare, filling_bare}
use Rattle.ts_crossing.proofs.PartLemmas.{end_by_split}
use Rattle.ts_crossing.proofs.TableLemmas.{state_leads}

-- ---- stacks below others

pub stands_under : (t : ParseTable) (text : Bytes) (base : Base) (layers : List Layer) → 0 < length layers → Stands t text base layers → Stands t text base (under_top layers)
stands_under t text base [] lt s = absurd (omega (arith, lt))
stands_under t text base (l ∷ layers) lt s = record {
  table = s.table;
  states = s.states.1;
  depths = s.depths.1;
  good = s.good.1;
  bytes = s.bytes.1;
  reach = (end_by_split (suc (length text)) 0 (reverse (trees_on layers)) (l.tree ∷ [])
      (subst (λ (ts : List Tree). EndBy (suc (length text)) 0 ts) (reverse-append (l.tree ∷ []) (trees_on layers)) s.reach)).0;
  within = let w = s.within in omega (arith, w);
  low = (s.low.0 ++ packed_tree l.tree l.depth ∷ [], s.low.1 ∙ sym (append_assoc s.low.0 (packed_tree l.tree l.depth ∷ []) (packed_layers layers)));
}

-- ---- where a parser goes on to a graph

drop_states : (t : ParseTable) (n : ℕ) (layers : List Layer) → HaveStates t layers → HaveStates t (drop n layers)
drop_states t zero layers s = s
drop_states t (suc n) [] s = tt
drop_states t (suc n) (l ∷ layers) s = drop_states t n layers s.1

drop_depths : (n : ℕ) (layers : List Layer) → HaveDepths layers → HaveDepths (drop n layers)
drop_depths zero layers d = d
drop_depths (suc n) [] d = tt
drop_depths (suc n) (l ∷ layers) d = drop_depths n layers d.1

-- the trees of the topmost layers, and no layers
take_trees : (es : List Tree) (layers : List Layer) (rest : List Tree) → trees_on layers ≡ es ++ rest → trees_on (take (length es) layers) ≡ es
take_trees [] layers rest e = refl
take_trees (x ∷ es) [] rest e = absurd (let h : [] ≡ x ∷ (es ++ rest) = e in cc)
take_trees (x ∷ es) (l ∷ layers) rest e =
    let h : l.tree ∷ trees_on layers ≡ x ∷ (es ++ rest) = e in
    let same : l.tree ≡ x = cc in
    let more : trees_on layers ≡ es ++ rest = cc in
    ap (λ (y : Tree). y ∷ trees_on (take (length es) layers)) same ∙ ap (λ (ys : List Tree). x ∷ ys) (take_trees es layers rest more)

no_layers : (layers : List Layer) → trees_on layers ≡ [] → layers ≡ []
no_layers [] e = refl
no_layers (l ∷ layers) e = absurd (let h : l.tree ∷ trees_on layers ≡ [] = e in cc)

-- no tree is deeper than its layer says
own_cover : (laws : EnterLaws) (layers : List Layer) → HaveDepths layers → AllCover (packed_layers layers) (packed_trees (packed_layers layers))
own_cover laws [] d = tt
own_cover laws (l ∷ layers) d = (
  record {
    symbol = refl;
    extra = refl;
    pad = refl;
    size = refl;
    depth = let k = (laws.keeps l.tree).depth in let o = d.0.own in omega (arith, k, o);
  },
  own_cover laws layers d.1,
)

good_right : (g : FlatGrammar) (xs ys : List Tree) → AreGoodTrees g (xs ++ ys) → AreGoodTrees g ys
good_right g [] ys a = a
good_right g (x ∷ xs) ys a = good_right g xs ys a.1

bytes_right : (xs ys : List Tree) → HaveBytes (xs ++ ys) → HaveBytes ys
bytes_right [] ys a = a
bytes_right (x ∷ xs) ys a = bytes_right xs ys a.1

some_bytes : (ts : List Tree) → HaveBytes ts → (ts ≡ []) ⊎ (0 < all_spans ts)
some_bytes [] b = inl refl
some_bytes (t ∷ ts) b = let h = b.0 in inr (omega (arith, h))

-- each tree that is made, but for those above
made_right : (g : FlatGrammar) (xs ys : List Tree) → AreMadeTrees g (xs ++ ys) → AreMadeTrees g ys
made_right g [] ys a = a
made_right g (x ∷ xs) ys a = made_right g xs ys a.1

bytes_extras : (laws : EnterLaws) (ts : List Tree) → HaveBytes ts → HaveExtrasBytes (map bare ts)
bytes_extras laws [] b = tt
bytes_extras laws (t ∷ ts) b = ((λ e. let h = b.0 in let s = span_bare laws.keeps t in omega (arith, h, s)), bytes_extras laws ts b.1)

bytes_begin : (laws : EnterLaws) (ts : List Tree) → HaveBytes ts → BeginsWithBytes (map bare ts)
bytes_begin laws [] b = tt
bytes_begin laws (t ∷ ts) b = let h = b.0 in let s = span_bare laws.keeps t in omega (arith, h, s)

-- the symbols up to each tree of a stack lead to a state
state_here : (laws : EnterLaws) (t : ParseTable) (ls : List Layer) → HaveStates t ls → (n : ℕ) × LeadsTo (goto_of t) (filling (map bare (trees_on ls))) n
state_here laws t [] s = (0, at_first)
state_here laws t (m ∷ ls) s =
    (m.state, subst (λ (r : List ℕ). LeadsTo (goto_of t) r m.state) (sym (filling_bare laws.keeps (trees_on (m ∷ ls)))) (state_leads t (filling (trees_on (m ∷ ls))) m.state s.0))

state_below : (laws : EnterLaws) (t : ParseTable) (ls : List Layer) → HaveStates t ls → (above below : List PackedTree) → packed_layers ls ≡ above ++ below → (n : ℕ) × LeadsTo (goto_of t) (filling (packed_trees below)) n
state_below laws t ls s [] below e =
    let h = state_here laws t ls s in
    (h.0, subst (λ (ts : List Tree). LeadsTo (goto_of t) (filling ts) h.0) (sym (layers_trees ls) ∙ ap (λ (ms : List PackedTree). packed_trees ms) e) h.1)
state_below laws t [] s (x ∷ above) below e = absurd (let h : [] ≡ x ∷ (above ++ below) = e in cc)
state_below laws t (m ∷ ls) s (x ∷ above) below e =
    let h : packed_tree m.tree m.depth ∷ packed_layers ls ≡ x ∷ (above ++ below) = e in
    let rest : packed_layers ls ≡ above ++ below = cc in
    state_below laws t ls s.1 above below rest

module _ (laws : EnterLaws) (t : ParseTable) (text : Bytes) (stacks : List (List Layer)) (h : StackHead) (can : CanEnter t text stacks h) (under : StackHead) (is : IsUnder stacks h under) where
  abbrev all : List Tree
  all = trees_on (stack_at stacks h.top)

  abbrev below : List Layer
  below = stack_at stacks under.top

  abbrev low : List Tree
  low = trees_on below

  good : IsGoodStack t (length text) (stack_at stacks h.top) h.place
  good = can.live.stack

  bytes : HaveBytes low
  bytes = bytes_right is.extras low (subst (λ (ts : List Tree). HaveBytes ts) is.lifted.trees can.bytes)

  pub place_is : under.place ≡ all_spans low
  place_is =
      let e : all_spans all ≡ all_spans (is.extras ++ low) = ap all_spans is.lifted.trees in
      let a = spans_append is.extras low in
      let s = good.spans in
      let p = is.place in
      omega (arith, e, a, s, p)

  abbrev pub low_layers : List PackedTree
  low_layers = packed_layers below

  trees_are : packed_trees low_layers ≡ map bare low
  trees_are = layers_trees below

  abbrev lifted : List Layer
  lifted = take (length is.extras) (stack_at stacks h.top)

  begun_at : IsBegun (parsing_from t text (base_at low_layers (all_spans low))) (packed_of stacks h)
  begun_at = record {
    extras = packed_layers lifted;
    stack_is = ap (λ (ls : List Layer). packed_layers ls) (sym (take-append-drop (length is.extras) (stack_at stacks h.top)))
        ∙ map-append (λ (l : Layer). packed_tree l.tree l.depth) lifted (drop (length is.extras) (stack_at stacks h.top))
        ∙ ap (λ (ls : List Layer). packed_layers lifted ++ packed_layers ls) (sym is.lifted.rest);
    all_extras = subst (λ (ts : List Tree). AreExtras ts) (sym (layers_trees lifted ∙ ap (λ (ts : List Tree). map bare ts) (take_trees is.extras (stack_at stacks h.top) low is.lifted.trees)))
        (extras_bare laws.keeps is.extras is.lifted.all_extras);
    begins = subst (λ (ts : List Tree). BeginsFilled ts) (sym trees_are) (begins_bare laws.keeps low is.lifted.no_more);
    bytes = by (some_bytes low bytes);
    place_is = sym (ap all_spans trees_are ∙ spans_bare laws.keeps low);
  }
    where
      by : (low ≡ []) ⊎ (0 < all_spans low) → (low_layers ≡ []) ⊎ (0 < all_spans low)
      by (inl e) = inl (ap (λ (ls : List Layer). packed_layers ls) (no_layers below e))
      by (inr lt) = inr lt

  pub begun : IsBegun (parsing_from t text (base_at low_layers under.place)) (packed_of stacks h)
  begun = subst (λ (n : ℕ). IsBegun (parsing_from t text (base_at low_layers n)) (packed_of stacks h)) (sym place_is) begun_at

  low_states : HaveStates t below
  low_states = subst (λ (ls : List Layer). HaveStates t ls) (sym is.lifted.rest) (drop_states t (length is.extras) (stack_at stacks h.top) good.states)

  low_depths : HaveDepths below
  low_depths = subst (λ (ls : List Layer). HaveDepths ls) (sym is.lifted.rest) (drop_depths (length is.extras) (stack_at stacks h.top) good.depths)

  low_made : AreMadeTrees t.grammar (map bare low)
  low_made =
      made_right t.grammar (map bare is.extras) (map bare low)
      (subst (λ (ts : List Tree). AreMadeTrees t.grammar ts) (ap (λ (ts : List Tree). map bare ts) is.lifted.trees ∙ map-append bare is.extras low) can.made)

  -- what lies under the extras is grounded
  pub grounded : IsGrounded (parsing_from t text (base_at low_layers under.place))
  grounded = record {
    spans = ap all_spans trees_are ∙ spans_bare laws.keeps low ∙ sym place_is;
    begins = subst (λ (ts : List Tree). BeginsFilled ts) (sym trees_are) (begins_bare laws.keeps low is.lifted.no_more);
    some = subst (λ (ts : List Tree). BeginsWithBytes ts) (sym trees_are) (bytes_begin laws low bytes);
    some_extras = subst (λ (ts : List Tree). HaveExtrasBytes ts) (sym trees_are) (bytes_extras laws low bytes);
    made = subst (λ (ts : List Tree). AreMadeTrees t.grammar ts) (sym trees_are) low_made;
    own = own_cover laws below low_depths;
    states = λ above under_it at. state_below laws t below low_states above under_it at;
  }

  pub enter_stands : Stands t text (base_at low_layers under.place) below
  enter_stands = record {
    table = can.table;
    states = low_states;
    depths = low_depths;
    good = good_right t.grammar is.extras low (subst (λ (ts : List Tree). AreGoodTrees t.grammar ts) is.lifted.trees good.good);
    bytes = bytes;
    reach = (end_by_split (suc (length text)) 0 (reverse low) (reverse is.extras)
        (subst (λ (ts : List Tree). EndBy (suc (length text)) 0 ts) (ap (λ (ts : List Tree). reverse ts) is.lifted.trees ∙ reverse-append is.extras low) good.reach)).0;
    within = let p = place_is in let q = is.place in let w = good.within in omega (arith, p, q, w);
    low = ([], refl);
  }

  pub low_bytes : HaveBytes low
  low_bytes = bytes
