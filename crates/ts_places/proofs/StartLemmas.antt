-- Reductions over nothing stay nowhere in a graph, but on texts of nothing.
use Rattle.std.proofs.Common.{◌≡◌, ◌∙◌, sym, ap, refl, subst, ℕ, ◌<◌, ◌≤◌, ◌⊎◌, inl, inr, Bool, true, false, List, [], ◌∷◌, ◌++◌, append-nil, slice_get, Some, arith}
use Rattle.std.specs.List.{Contains}
use Rattle.ts_base.specs.Bytes.{Bytes}
use Rattle.ts_core.specs.declared.action.Action.TheVariants.{Reduce}
use Rattle.ts_core.specs.declared.symbol.Symbol.{Symbol}
use Rattle.spec_lexing.specs.Lexing.{token}
use Rattle.spec_trees.specs.declared.tree.Tree.{Tree}
use Rattle.spec_trees.specs.Trees.{symbol_of, is_extra_node, span_of, all_spans}
use Rattle.spec_trees.specs.Made.{filling, BeginsFilled}
use Rattle.spec_runs.specs.Configurations.{HasMove}
use Rattle.spec_packing.specs.Packing.{PackedTree, packed_trees}
use Rattle.spec_graph.specs.declared.graph.Head.{Head}
use Rattle.spec_graph.specs.declared.graph.Link.{Link}
use Rattle.spec_graph.specs.States.{LeadsTo, at_first}
use Rattle.spec_graph.specs.Laying.{Parsing, SeesAt, PassesAt, Lays, flat, stood, shifted, passed, made}
use Rattle.spec_graph.specs.Grounded.{BeginsWithBytes}
use Rattle.spec_graph.specs.Links.{IsAt, IsWay}
use Rattle.spec_graph.proofs.ReadingLemmas.{packed_append, cover_filling, cover_spans, reading_layer}
use Rattle.ts_graph.specs.declared.view.GraphView.{GraphView}
use Rattle.ts_table.specs.declared.view.ParseTable.{ParseTable}
use Rattle.ts_table.specs.Tables.{IsTable, goto_of, actions_of}
use Rattle.ts_steps.proofs.NodeLemmas.{all_spans-append}
use Rattle.ts_reductions.specs.SoundLinks.{bare_links}
use Rattle.ts_reductions.specs.declared.top.Top.{Top}
use Rattle.ts_reductions.specs.Asking.{IsTop, TakesSome}
use Rattle.ts_reductions.specs.Sound.{Base, parsing_from, parsing_of, IsSoundBy}
use Rattle.ts_reductions.proofs.AskLemmas.{reduces_stay}
use Rattle.ts_reductions.proofs.SmallLemmas.{lead_once}
use Rattle.ts_places.specs.SweepLaws.{KeyLaws}
use Rattle.ts_places.specs.Nothing.{ComesToNothing, nothing_here, nothing_behind, IsOfNothing, IsOfSome}
use Rattle.ts_places.proofs.HeadLemmas.{one_head}

-- ---- stacks of extras alone

no_symbols : (ts : List Tree) → BeginsFilled ts → filling ts ≡ [] → ts ≡ []
no_symbols [] b e = refl
no_symbols (t ∷ ts) b e = absurd (let f : filling (t ∷ ts) ≡ symbol_of t ∷ filling ts = rw b refl in let h : symbol_of t ∷ filling ts ≡ [] = sym f ∙ e in cc)

filling_more : (t : Tree) (ts : List Tree) → filling (t ∷ []) ≡ [] → filling ts ≡ [] → filling (t ∷ ts) ≡ []
filling_more t ts one none = by (is_extra_node t) refl
  where
    by : (b : Bool) → is_extra_node t ≡ b → filling (t ∷ ts) ≡ []
    by true e = let f : filling (t ∷ ts) ≡ filling ts = rw e refl in f ∙ none
    by false e = absurd (let f : filling (t ∷ []) ≡ symbol_of t ∷ [] = rw e refl in let h : symbol_of t ∷ [] ≡ [] = sym f ∙ one in cc)

both_empty : {X : Type 0} (xs ys : List X) → xs ++ ys ≡ [] → (xs ≡ []) × (ys ≡ [])
both_empty [] ys e = (refl, e)
both_empty {X = X} (x ∷ xs) ys e = absurd (let h : x ∷ (xs ++ ys) ≡ [] = e in cc)

no_layers : (ls : List PackedTree) → packed_trees ls ≡ [] → ls ≡ []
no_layers [] e = refl
no_layers (l ∷ ls) e = absurd (let h : l.tree ∷ packed_trees ls ≡ [] = e in cc)

-- ---- heads of the empty stack

module _ (t : ParseTable) (text : Bytes) (base : Base) (g : GraphView) (sound : IsSoundBy t text base g) where
  abbrev P : Parsing
  P = parsing_from t text base

  -- the stack from which runs go on has extras alone up to the place
  record Stood (place : ℕ) : Type 0 where
    above : List PackedTree
    below : List PackedTree
    is : base.layers ≡ above ++ below
    ends : all_spans (packed_trees below) ≡ place
    extras : filling (packed_trees below) ≡ []

  -- or it is empty, and what comes to nothing from the place on does so from the start on
  abbrev Begins : ℕ → Type 0
  Begins place = Stood place ⊎ ((base.layers ≡ []) × (ComesToNothing t text place → IsOfNothing t text))

  all_stood : (place : ℕ) → base.place ≤ place → (above below : List PackedTree) → base.layers ≡ above ++ below → all_spans (packed_trees below) ≡ place → filling (packed_trees below) ≡ [] → (base.layers ≡ []) × (place ≡ 0)
  all_stood place late [] below is ends extras =
      let none = no_symbols (packed_trees below) (subst (λ (ls : List PackedTree). BeginsFilled (packed_trees ls)) is sound.laid.parsed.grounded.begins) extras in
      (is ∙ no_layers below none, sym ends ∙ ap all_spans none)
  all_stood place late (a ∷ above) below is ends extras =
      absurd (let some : 0 < span_of a.tree = subst (λ (ls : List PackedTree). BeginsWithBytes (packed_trees ls)) is sound.laid.parsed.grounded.some in
      let whole : all_spans (packed_trees (a ∷ (above ++ below))) ≡ base.place = ap (λ (ls : List PackedTree). all_spans (packed_trees ls)) (sym is) ∙ sound.laid.parsed.grounded.spans in
      let parts : all_spans (packed_trees (above ++ below)) ≡ all_spans (packed_trees above ++ packed_trees below) = ap all_spans (packed_append above below) in
      omega (arith, some, whole, parts, all_spans-append (packed_trees above) (packed_trees below), ends, late))

  begins_at : (place : ℕ) → base.place ≤ place → Begins place → (base.layers ≡ []) × (ComesToNothing t text place → IsOfNothing t text)
  begins_at place late (inr b) = b
  begins_at place late (inl s) =
      let a = all_stood place late s.above s.below s.is s.ends s.extras in
      (a.0, (λ c. subst (λ (n : ℕ). ComesToNothing t text n) a.1 c))

  -- ---- one link

  none_read : (read : List ℕ) → LeadsTo P.goto read 0 → read ≡ []
  none_read read l = sound.laid.parsed.states.begins read l

  lays_none : (read : List ℕ) (from : ℕ) (w : List Tree) (to : ℕ) (now : List ℕ) → Lays P read from w to now → w ≡ [] → (to ≡ from) × (now ≡ read)
  lays_none _ _ _ _ _ (flat read from) e = (refl, refl)
  lays_none _ _ _ _ _ (stood read from w p now u above below l at place share) e = absurd (let h : u ∷ w ≡ [] = e in cc)
  lays_none _ _ _ _ _ (shifted read from w p now s pad size l late sees acts) e = absurd cc
  lays_none _ _ _ _ _ (passed read from w p now s pad size l late passes) e = absurd cc
  lays_none _ _ _ _ _ (made read from w p now ks end over xs look number left pr l inner outer all late taken reduces count deep) e = absurd cc

  passes_first : (now : List ℕ) (place : ℕ) (s : Symbol) (pad size : ℕ) → now ≡ [] → PassesAt P now place s pad size → PassesAt (parsing_of t text) [] place s pad size
  passes_first now place s pad size e x = record {
    sees = subst (λ (r : List ℕ). SeesAt P r place (token s pad size)) e x.sees;
    extra = x.extra;
    none = λ m. x.none (subst (λ (r : List ℕ). HasMove t.grammar r s.0) (sym e) m);
  }

  by_link : (read : List ℕ) (from : ℕ) (w : List Tree) (to : ℕ) (over : List ℕ) → Lays P read from w to over → (x : Tree) → w ≡ x ∷ [] → over ≡ [] → (read ≡ [] → Begins from) → Begins to
  by_link _ _ _ _ _ (flat read from) x e o deeper = absurd (let h : [] ≡ x ∷ [] = e in cc)
  by_link _ _ _ _ _ (stood read from w p now u above below l at place share) x e o deeper =
      let both = both_empty (filling (u ∷ [])) now o in
      let zero_state = lead_once P.goto [] share.0 0 (subst (λ (r : List ℕ). LeadsTo P.goto r share.0) both.1 share.2) at_first in
      let none = none_read (filling below) (subst (λ (n : ℕ). LeadsTo P.goto (filling below) n) zero_state share.1) in
      let f = reading_layer P above below u at in
      let spans : all_spans (packed_trees (f.layer ∷ f.under)) ≡ all_spans (u ∷ below) = cover_spans (f.layer ∷ f.under) (u ∷ below) (f.covers, f.rest) in
      inl (record {
        above = f.over;
        below = f.layer ∷ f.under;
        is = f.is;
        ends = omega (arith, place, spans);
        extras = cover_filling (f.layer ∷ f.under) (u ∷ below) (f.covers, f.rest) ∙ filling_more u below both.0 none;
      })
  by_link _ _ _ _ _ (shifted read from w p now s pad size l late sees acts) x e o deeper = absurd (let h : s.0 ∷ now ≡ [] = o in cc)
  by_link _ _ _ _ _ (made read from w p now ks end over xs look number left pr l inner outer all late taken reduces count deep) x e o deeper = absurd (let h : left ∷ now ≡ [] = o in cc)
  by_link _ _ _ _ _ (passed read from w p now s pad size l late passes) x e o deeper =
      let none : w ≡ [] = cc in
      let same = lays_none read from w p now l none in
      let b = begins_at p late (subst (λ (n : ℕ). Begins n) (sym same.0) (deeper (sym same.1 ∙ o))) in
      inr (b.0, (λ c. b.1 (nothing_behind p s pad size (passes_first now p s pad size o passes) c)))

  -- ---- a way down

  down_from : (way : List Link) (h place : ℕ) → IsWay (bare_links g.links) h way 0 → IsAt P g.heads h [] place → Begins place
  down_from [] h place e at =
      let start = sound.laid.graph.start in
      let same = one_head g.heads 0 start.head at.head start.is (subst (λ (n : ℕ). slice_get g.heads n ≡ Some at.head) e at.is) in
      let place_is : 0 ≡ place = sym start.place_is ∙ ap (λ (x : Head). x.place) same ∙ at.place_is in
      inl (record { above = base.layers; below = []; is = sym (append-nil base.layers); ends = place_is; extras = refl })
  down_from (l ∷ way) h place w at =
      let k = sound.laid.graph.linked l w.0 in
      let same = one_head g.heads h k.above.head at.head (subst (λ (n : ℕ). slice_get g.heads n ≡ Some k.above.head) w.1 k.above.is) at.is in
      let zero_state : k.above.head.state ≡ 0 = ap (λ (x : Head). x.state) same ∙ lead_once P.goto [] at.head.state 0 at.state at_first in
      let over_is = none_read k.over (subst (λ (n : ℕ). LeadsTo P.goto k.over n) zero_state k.above.state) in
      let to_is : k.to ≡ place = sym k.above.place_is ∙ ap (λ (x : Head). x.place) same ∙ at.place_is in
      subst (λ (n : ℕ). Begins n) to_is (by_link k.under k.from (l.tree ∷ []) k.to k.over k.lays l.tree refl over_is
      (λ e. down_from way l.below k.from w.2 (subst (λ (r : List ℕ). IsAt P g.heads l.below r k.from) e k.below)))

  -- no reduction over nothing stays on a token that is seen where runs go on from the stack
  pub top_takes_some : (keys : KeyLaws) → IsTable t → IsOfSome t text base → (look : ℕ) → base.place ≤ look → (top : Top) → IsTop t text g look top → TakesSome t g top
  top_takes_some keys table some look late top seen head number left p is acts at none =
      let same : seen.at.head ≡ head = one_head g.heads top.head seen.at.head head seen.at.is is in
      let leads : LeadsTo (goto_of t) seen.read head.state = subst (λ (x : Head). LeadsTo (goto_of t) seen.read x.state) same seen.at.state in
      let empty : seen.read ≡ [] = keys.nothing t.grammar sound.laid.parsed.fit seen.read top.token.0 number left p (reduces_stay t table seen.read head.state top.token.0 number leads acts) at none in
      let zero_state = lead_once (goto_of t) [] head.state 0 (subst (λ (r : List ℕ). LeadsTo (goto_of t) r head.state) empty leads) at_first in
      let d = sound.laid.graph.down top.head head is in
      let b = begins_at look late (down_from d.0 top.head look d.1 (subst (λ (r : List ℕ). IsAt P g.heads top.head r look) empty seen.at)) in
      some b.0 (b.1 (nothing_here look top.token seen.pad seen.size (subst (λ (r : List ℕ). SeesAt (parsing_of t text) r look (token top.token seen.pad seen.size)) empty seen.sees)
      (Reduce number, subst (λ (n : ℕ). Contains (actions_of t n top.token.0) (Reduce number)) zero_state acts, record { number = number; is = refl; left = left; production = p; at = at; none = none })))
