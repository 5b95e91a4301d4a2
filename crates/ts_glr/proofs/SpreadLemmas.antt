-- All ways to read a text on the graph: what is known at first, and after each place.
use Rattle.std.proofs.Common.{◌≡◌, ◌∙◌, sym, ap, refl, subst, ℕ, suc, ◌<◌, ◌≤◌, true, List, [], ◌∷◌, ◌++◌, append-nil, length, map, arith}
use Rattle.std.specs.Global.{Vec}
use Rattle.ts_base.specs.Bytes.{Bytes}
use Rattle.spec_trees.specs.declared.tree.Tree.{Tree}
use Rattle.spec_trees.specs.Trees.{is_extra_node, bare}
use Rattle.spec_trees.specs.Made.{filling}
use Rattle.spec_runs.specs.BareTrees.{KeepsAll}
use Rattle.spec_runs.specs.Configurations.{AreExtras}
use Rattle.spec_packing.specs.Packing.{PackedTree, packed_trees}
use Rattle.spec_graph.specs.States.{AreRanks}
use Rattle.spec_graph.specs.Laying.{IsBegun}
use Rattle.ts_graph.specs.declared.view.GraphView.{GraphView}
use Rattle.ts_graph.specs.Down.{KeepNumbers}
use Rattle.ts_table.specs.declared.view.ParseTable.{ParseTable}
use Rattle.ts_table.specs.Ranks.{unit_rank}
use Rattle.ts_table.specs.Tables.{IsStateOf, at_first, by_goto}
use Rattle.ts_gss.specs.declared.layer.Layer.{Layer}
use Rattle.ts_gss.specs.Stacks.{stack_at, trees_on, state_on}
use Rattle.ts_reductions.specs.Laying.{head_at}
use Rattle.ts_reductions.specs.declared.setting.Setting.{Setting}
use Rattle.ts_reductions.specs.Lines.{IsSetting}
use Rattle.ts_reductions.specs.Sound.{Base, base_at, parsing_from, IsSoundBy}
use Rattle.ts_steps.specs.declared.head.StackHead.{StackHead}
use Rattle.ts_steps.specs.LiveHeads.{packed_of, HaveStates}
use Rattle.ts_steps.proofs.LayerLemmas.{layers_trees}
use Rattle.ts_steps.specs.Heads.{IsOwnHead}
use Rattle.ts_places.specs.declared.sights.Sights.{Sights}
use Rattle.ts_places.specs.Looking.{IsHeadAt}
use Rattle.ts_places.specs.Shifting.{AreAllSights}
use Rattle.ts_places.specs.Sweeping.{IsTooDeep}
use Rattle.ts_places.specs.declared.following.Next.{Next}
use Rattle.ts_places.specs.declared.following.Next.TheVariants.{Place, Nowhere, TooDeep}
use Rattle.ts_places.specs.declared.frontier.Frontier.{Frontier}
use Rattle.ts_places.specs.Frontiers.{AreOpen, IsAloneFrom}
use Rattle.ts_places.specs.Following.{GoesOnAt, IsOver, Follows}
use Rattle.ts_places.specs.declared.ends.Ends.{Ends}
use Rattle.ts_places.specs.Ends.{AreEnds, AreLater}
use Rattle.ts_places.specs.Nothing.{IsOfSome}
use Rattle.ts_crossing.specs.Entering.{IsEntered}
use Rattle.ts_glr.specs.declared.spread.Spread.{Spread}
use Rattle.ts_glr.specs.declared.spread.Passed.{Passed}
use Rattle.ts_glr.specs.declared.spread.Passed.TheVariants as passed
use Rattle.ts_glr.specs.Spreading.{IsOfSomeFrom, IsSpread, IsSpreadOut, IsSpreadDeep, PassesTo}

-- for proofs alone: what ended stays so where a graph grows, and where no heads stand
abbrev pub Stays : Type 0
Stays = (t : ParseTable) (text : Bytes) (old new : GraphView) (from to : ℕ) (ends : Ends) (base : Base) → IsSoundBy t text base new → KeepNumbers old.heads new.heads → AreLater t text base old new to
    → AreEnds t text old from to ends → AreEnds t text new from to ends

abbrev pub PassesOver : Type 0
PassesOver = (t : ParseTable) (text : Bytes) (g : GraphView) (from to next : ℕ) (ends : Ends) → ((place h : ℕ) → to ≤ place → place < next → IsHeadAt g place h → ⊥) → to ≤ next
    → AreEnds t text g from to ends → AreEnds t text g from next ends

-- for proofs alone: the ends at the place were put to those before
abbrev pub Sees : ParseTable → GraphView → Sights → Ends → Ends → Type 0
Sees t g sights old new = (text : Bytes) (base : Base) (from look : ℕ) → AreAllSights t text base g look sights → from ≤ look → AreEnds t text g from look old → AreEnds t text g from (suc look) new

-- a stack of extras alone has state 0
extras_none : (keeps : (t : Tree) → KeepsAll t) (ts : List Tree) → AreExtras (map bare ts) → filling ts ≡ []
extras_none keeps [] e = refl
extras_none keeps (t ∷ ts) e = let x : is_extra_node t ≡ true = sym (keeps t).extra ∙ e.0 in rw (x, extras_none keeps ts e.1) refl

none_first : (t : ParseTable) (read : List ℕ) (state : ℕ) → IsStateOf t read state → read ≡ [] → state ≡ 0
none_first t _ _ at_first e = refl
none_first t _ _ (by_goto read state symbol next s g) e = absurd (let h : symbol ∷ read ≡ [] = e in cc)

extras_state : (keeps : (t : Tree) → KeepsAll t) (t : ParseTable) (layers : List Layer) → HaveStates t layers → AreExtras (map bare (trees_on layers)) → state_on layers ≡ 0
extras_state keeps t [] states e = refl
extras_state keeps t (l ∷ layers) states e = none_first t (filling (trees_on (l ∷ layers))) l.state states.0 (extras_none keeps (trees_on (l ∷ layers)) e)

-- runs that go on from the empty stack begin at a stack of extras alone
some_from : (keeps : (t : Tree) → KeepsAll t) (t : ParseTable) (text : Bytes) (first : List (List Layer)) (h : StackHead) → IsOwnHead t (length text) first h → IsOfSomeFrom t text first h
    → (base : Base) → IsBegun (parsing_from t text base) (packed_of first h) → IsOfSome t text base
some_from keeps t text first h own some base begun none nothing =
    some
    (extras_state keeps t (stack_at first h.top) own.live.stack.states
    (subst (λ (ts : List Tree). AreExtras ts)
    (sym (sym (layers_trees (stack_at first h.top)) ∙ ap (λ (ls : List PackedTree). packed_trees ls) (begun.stack_is ∙ ap (λ (ls : List PackedTree). begun.extras ++ ls) none ∙ append-nil begun.extras))) begun.all_extras))
    nothing

module _ (t : ParseTable) (text : Bytes) (s : Setting) (first : List (List Layer)) (h : StackHead) where
  -- at first
  pub begun : ((t : Tree) → KeepsAll t) → IsOfSomeFrom t text first h → (most : ℕ) → AreRanks t.grammar (unit_rank t.grammar) most → IsOwnHead t (length text) first h → IsSetting t (length text) s → (g : GraphView) (place : ℕ) (frontier : Frontier) (ends : Ends) (sights : Sights) (numbers : Vec ℕ)
      → IsEntered t text first h g place → AreOpen g place frontier.heads.items → AreEnds t text g place place ends → IsSpread t text s first h (record { graph = g; frontier = frontier; ends = ends; sights = sights; numbers = numbers; place = place })
  begun keeps some most ranks own setting g place frontier ends sights numbers e are_open none = record {
    base = base_at e.layers place;
    most = most;
    begun = e.begun;
    can = record {
      setting = setting;
      whole = record { early = omega arith; ranks = ranks; sound = e.sound; whole = e.whole most ranks };
      are_open = are_open;
      some = some_from keeps t text first h own some (base_at e.layers place) e.begun;
    };
    ends = none;
    within = e.sound.laid.within g.base (head_at e.base_is.0 place) e.base_is.1;
    own = e.own own.own;
    stand = e.stand;
  }

  module _ (stays : Stays) (passes : PassesOver) (old : Spread) (p : IsSpread t text s first h old) (g : GraphView) (frontier : Frontier) (sights : Sights) (ends : Ends) (sees : Sees t g sights old.ends ends) where
    -- after a place
    module _ (next : ℕ) (on : GoesOnAt t text p.base p.most old.graph g old.place frontier sights next) where
      ends_on : AreEnds t text g p.base.place next ends
      ends_on =
          let f = on.followed in
          let before = stays t text old.graph g p.base.place old.place old.ends p.base f.seen.sound f.grows.stay f.only p.ends in
          let past = on.at.past in
          passes t text g p.base.place (suc old.place) next ends (λ place k low high st. on.at.between place k (omega (arith, low)) high st) (omega (arith, past))
          (sees text p.base p.base.place old.place f.seen p.can.whole.early before)

      pub spread_on : IsSpread t text s first h (record { graph = g; frontier = frontier; ends = ends; sights = sights; numbers = old.numbers; place = next }) × (old.place < next)
      spread_on = (
        record {
          base = p.base;
          most = p.most;
          begun = p.begun;
          can = record { setting = p.can.setting; whole = on.whole; are_open = on.at.are_open; some = p.can.some };
          ends = ends_on;
          within = (
              let st = on.at.there in
              let w = on.whole.sound.laid.within on.at.head st.0 st.1 in
              let e = st.2 in
              omega (arith, w, e));
          own = on.followed.keeps.own p.own;
          stand = λ states are stand. on.followed.keeps.stand states p.own (p.stand states are stand);
        },
        on.at.past,
      )

    -- after the last
    module _ (place : ℕ) (over : IsOver t text p.base p.most old.graph g old.place sights) where
      ends_over : AreEnds t text g p.base.place (suc (length text)) ends
      ends_over =
          let f = over.followed in
          let within = p.within in
          let before = stays t text old.graph g p.base.place old.place old.ends p.base f.seen.sound f.grows.stay f.only p.ends in
          passes t text g p.base.place (suc old.place) (suc (length text)) ends (λ at k low high st. over.last k (st.0, st.1, (let e = st.2 in omega (arith, low, e)))) (omega (arith, within))
          (sees text p.base p.base.place old.place f.seen p.can.whole.early before)

      pub spread_over : IsSpreadOut t text first h (record { graph = g; frontier = frontier; ends = ends; sights = sights; numbers = old.numbers; place = place })
      spread_over =
          let within = p.within in
          let early = p.can.whole.early in
          record {
            base = p.base;
            most = p.most;
            begun = p.begun;
            low = omega (arith, within, early);
            whole = over.whole (suc (length text)) (omega (arith, within));
            ends = ends_over;
            own = over.followed.keeps.own p.own;
            stand = λ states are stand. over.followed.keeps.stand states p.own (p.stand states are stand);
          }

  -- where a node would be too deep
  pub spread_deep : (old new : Spread) (p : IsSpread t text s first h old) → IsTooDeep t text p.base new.graph → IsSpreadDeep t text first h new
  spread_deep old new p deep = record { base = p.base; begun = p.begun; deep = deep }

-- ---- by the answer

module _ (t : ParseTable) (text : Bytes) (base : Base) (most : ℕ) (old new : GraphView) (place : ℕ) (before after : Frontier) (sights : Sights) (n : Next) (f : Follows t text base most old new place before after sights n) where
  pub on_by : (next : ℕ) → n ≡ Place next → GoesOnAt t text base most old new place after sights next
  on_by next is = subst (λ (x : Next). Follows t text base most old new place before after sights x) is f

  pub over_by : n ≡ Nowhere → IsOver t text base most old new place sights
  over_by is = subst (λ (x : Next). Follows t text base most old new place before after sights x) is f

  pub deep_by : n ≡ TooDeep → IsTooDeep t text base new
  deep_by is = subst (λ (x : Next). Follows t text base most old new place before after sights x) is f

module _ (t : ParseTable) (text : Bytes) (s : Setting) (first : List (List Layer)) (h : StackHead) (old new : Spread) (x : Passed) (p : PassesTo t text s first h old new x) where
  pub passed_on : x ≡ passed.On → IsSpread t text s first h new × (old.place < new.place)
  passed_on is = subst (λ (y : Passed). PassesTo t text s first h old new y) is p

  pub passed_over : x ≡ passed.Over → IsSpreadOut t text first h new
  passed_over is = subst (λ (y : Passed). PassesTo t text s first h old new y) is p

  pub passed_deep : x ≡ passed.Deep → IsSpreadDeep t text first h new
  passed_deep is = subst (λ (y : Passed). PassesTo t text s first h old new y) is p

-- the head of the stack over which the graph lies is where it begins
pub entered_alone : (t : ParseTable) (text : Bytes) (first : List (List Layer)) (h : StackHead) (g : GraphView) (place : ℕ) → IsEntered t text first h g place → IsAloneFrom g place
entered_alone t text first h g place e = record {
  there = (head_at e.base_is.0 place, e.base_is.1, omega arith);
  alone = λ k st. e.alone k st.0 st.1 (let low = e.low k st.0 st.1 in let high = st.2 in omega (arith, low, high));
}
