-- What following the graph came to: one stack that is left, or the outcome of the text.
use Rattle.std.proofs.Common.{◌≡◌, ◌∙◌, sym, ap, refl, subst, ℕ, zero, suc, ◌+◌, ◌<◌, ◌≤◌, ◌⊎◌, Bool, true, false, List, [], ◌∷◌, length, map, get_or, Option, Some, None, MatchOption, arith}
use Rattle.std.specs.Prelude.{IfSome}
use Rattle.std.specs.List.{Contains}
use Rattle.std.proofs.lemmas.Option.{slice_get_within}
use Rattle.ts_base.specs.Bytes.{Bytes}
use Rattle.spec_grammar.specs.Symbols.{symbol_count}
use Rattle.spec_tables.specs.Fit.{Fit}
use Rattle.spec_runs.specs.Outcomes.{Fresh}
use Rattle.spec_forced.specs.Sound.{States}
use Rattle.spec_trees.specs.declared.tree.Tree.{Tree}
use Rattle.spec_trees.specs.Trees.{is_extra_node, span_of, all_spans, bare}
use Rattle.spec_trees.specs.Made.{filling}
use Rattle.spec_graph.specs.declared.graph.Head.{Head}
use Rattle.spec_graph.specs.declared.graph.Link.{Link}
use Rattle.spec_crossing.specs.Leaving.{StandsAlone}
use Rattle.spec_crossing.specs.Resting.{IsPastStuck, AccountsForGraph}
use Rattle.ts_table.specs.declared.view.ParseTable.{ParseTable}
use Rattle.ts_table.specs.Tables.{IsTable}
use Rattle.ts_table.specs.Ranks.{unit_rank}
use Rattle.ts_gss.specs.declared.layer.Layer.{Layer}
use Rattle.ts_gss.specs.Stacks.{stack_at, trees_on}
use Rattle.ts_graph.specs.declared.view.GraphView.{GraphView}
use Rattle.ts_graph.specs.Ways.{AreAt}
use Rattle.ts_reductions.specs.declared.setting.Setting.{Setting}
use Rattle.ts_reductions.specs.SoundLinks.{bare_links}
use Rattle.ts_reductions.specs.Sound.{parsing_from, IsSoundBy}
use Rattle.ts_steps.specs.declared.head.StackHead.{StackHead}
use Rattle.ts_steps.specs.LiveHeads.{config_of, packed_of}
use Rattle.ts_steps.specs.Heads.{AreStatesOf, IsOwnHead}
use Rattle.ts_places.specs.Frontiers.{StandsFrom}
use Rattle.ts_places.specs.Best.{CanChoose, IsBestOn}
use Rattle.ts_crossing.specs.declared.leaving.Left.{Left}
use Rattle.ts_graph.specs.Under.{layers_of}
use Rattle.ts_crossing.specs.Leaving.{IsStack, HasNoStack, IsLeft}
use Rattle.ts_crossing.proofs.BareLemmas.{filling_bare, filling_tree}
use Rattle.ts_crossing.proofs.MemberLemmas.{first_contained, contained_at, place_is_at}
use Rattle.ts_glr.specs.declared.outcome.Outcome.{Outcome}
use Rattle.ts_glr.specs.declared.outcome.Outcome.TheVariants.{Accepted, Stuck, Deep}
use Rattle.ts_reductions.specs.Keeping.{AreOwn, StandOnGraph}
use Rattle.ts_places.specs.declared.frontier.Frontier.{Frontier}
use Rattle.ts_places.specs.declared.ends.Ends.{Ends}
use Rattle.ts_places.specs.Ends.{AreEnds}
use Rattle.ts_places.specs.Following.{CanFollow}
use Rattle.ts_glr.specs.declared.crossing.Asked.{Asked}
use Rattle.ts_glr.specs.declared.crossing.Asked.TheVariants.{Waits, Fails, Leaves}
use Rattle.ts_glr.specs.declared.crossing.Crossed.{Crossed}
use Rattle.ts_glr.specs.declared.spread.Spread.{Spread}
use Rattle.ts_glr.specs.Laws.{PackingLaws}
use Rattle.ts_glr.specs.Outcomes.{value_of_outcome, IsTreeOf, IsOwnOutcome, IsSoundOutcome}
use Rattle.ts_glr.specs.CrossLaws.{LeftLaws, OverLaws}
use Rattle.ts_glr.specs.Turns.{turn_weight}
use Rattle.ts_glr.specs.Forks.{LeavesOne, EndsAll, ComesTo}
use Rattle.ts_glr.specs.Spreading.{StaysSpread, IsSpread, IsSpreadOut, IsSpreadDeep, GoesBackTo, IsSpreadFor, IsLeftOf, AsksFor}
use Rattle.ts_glr.proofs.RestLemmas.{rests_start}
use Rattle.ts_glr.proofs.TurnLemmas.{turn_far}

-- ---- the height of a stack

filling_extra : (t : Tree) (ts : List Tree) → is_extra_node t ≡ true → filling (t ∷ ts) ≡ filling ts
filling_extra t ts e = rw e refl

height_more : (t : Tree) (ts : List Tree) → 0 < span_of t → length (filling ts) ≤ all_spans ts → length (filling (t ∷ ts)) ≤ span_of t + all_spans ts
height_more t ts bytes low = by (is_extra_node t) refl
  where
    by : (b : Bool) → is_extra_node t ≡ b → length (filling (t ∷ ts)) ≤ span_of t + all_spans ts
    by true e = subst (λ (xs : List ℕ). length xs ≤ span_of t + all_spans ts) (sym (filling_extra t ts e)) (omega (arith, low))
    by false e = subst (λ (xs : List ℕ). length xs ≤ span_of t + all_spans ts) (sym (filling_tree t ts e)) (omega (arith, low, bytes))

-- the trees of links have bytes, so they are no more than these
height : (heads : List Head) (links : List Link) → ((l : Link) → Contains links l → 0 < span_of l.tree) → (numbers : List ℕ) (way : List Link) → AreAt links numbers way → length (filling (trees_on (layers_of heads way))) ≤ all_spans (trees_on (layers_of heads way))
height heads links some [] [] a = omega arith
height heads links some (k ∷ numbers) [] a = omega arith
height heads links some [] (l ∷ way) a = absurd a
height heads links some (k ∷ numbers) (l ∷ way) a = height_more l.tree (trees_on (layers_of heads way)) (some l (contained_at links k l a.0)) (height heads links some numbers way a.1)

-- ---- one stack that is left

only_one : (x y : ℕ) → Contains (x ∷ []) y → x ≡ y
only_one x y w = one w.0 w.1 w.2
  where
    one : (k : ℕ) → k < 1 → get_or (x ∷ []) k y ≡ y → x ≡ y
    one zero h e = e
    one (suc k) h e = absurd (omega (arith, h))

pub only_head : (xs : List ℕ) (x : ℕ) → length xs ≡ 1 → x ≡ get_or xs 0 x → xs ≡ x ∷ []
only_head [] x e is = absurd (omega (arith, e))
only_head (y ∷ []) x e is = ap (λ (z : ℕ). z ∷ []) (sym is)
only_head (y ∷ z ∷ xs) x e is = absurd (omega (arith, e))

-- what a walk found
pub found_by : (g : GraphView) (h : ℕ) (numbers : List ℕ) (o : Option ℕ) (foot : ℕ) → o ≡ Some foot → MatchOption o (HasNoStack g h) (λ (f : ℕ). IsStack g h numbers f) → IsStack g h numbers foot
found_by g h numbers o foot is m = subst (λ (x : Option ℕ). MatchOption x (HasNoStack g h) (λ (f : ℕ). IsStack g h numbers f)) is m

-- the head that waits alone is there
pub waits_there : (t : ParseTable) (text : Bytes) (s : Setting) (first : List (List Layer)) (h : StackHead) (spread : Spread) → IsSpread t text s first h spread → (head : ℕ) → spread.frontier.heads.items ≡ head ∷ [] → head < length spread.graph.heads
waits_there t text s first h spread p head alone =
    let st = (p.can.are_open head).0 (subst (λ (xs : List ℕ). Contains xs head) (sym alone) (first_contained head [])) in
    slice_get_within spread.graph.heads head st.0 st.1

module _ (laws : LeftLaws) (over : OverLaws) (t : ParseTable) (table : IsTable t) (ranks : (x : ℕ) → unit_rank t.grammar x < symbol_count t.grammar) (text : Bytes) (s : Setting) (stacks : List (List Layer)) (before stuck : Option ℕ) (start : StackHead)
    (spread : Spread) (all : IsSpreadFor t text s stacks start spread) (l : Left) (w : IsLeftOf spread start.place l) where
  abbrev first : List (List Layer)
  first = all.first

  abbrev h : StackHead
  h = all.head

  p : IsSpread t text s first h spread
  p = all.laid

  sound : IsSoundBy t text p.base spread.graph
  sound = p.can.whole.sound

  stands : StandsFrom spread.graph spread.place w.head
  stands = (p.can.are_open w.head).0 (subst (λ (xs : List ℕ). Contains xs w.head) (sym w.alone) (first_contained w.head []))

  there : w.head < length spread.graph.heads
  there = slice_get_within spread.graph.heads w.head stands.0 stands.1

  alone : StandsAlone spread.graph.heads spread.place w.head
  alone k other at le = sym (only_one w.head k (subst (λ (xs : List ℕ). Contains xs k) w.alone ((p.can.are_open k).1 (other, at, le))))

  place_is : l.head.place ≡ stands.0.place
  place_is = w.is.place ∙ place_is_at spread.graph.heads w.head stands.0 stands.1

  far : start.place < l.head.place
  far = let a = w.past in let b = stands.2 in omega (arith, a, b, place_is)

  own : IsOwnHead t (length text) l.stacks l.head
  own = laws.own t text p.base spread.graph w.head w.numbers w.foot l.stacks l.head sound there w.stack w.is p.own

  low : length (filling (map bare (trees_on (stack_at l.stacks l.head.top)))) ≤ l.head.place
  low =
      let a = height spread.graph.heads spread.graph.links (λ x here. (sound.good x here).some) w.stack.all w.stack.way w.stack.at in
      let b : trees_on (stack_at l.stacks l.head.top) ≡ trees_on (layers_of spread.graph.heads w.stack.way) = ap (λ (ls : List Layer). trees_on ls) w.is.stack in
      let c : length (filling (map bare (trees_on (stack_at l.stacks l.head.top)))) ≡ length (filling (trees_on (stack_at l.stacks l.head.top))) = ap (λ (xs : List ℕ). length xs) (filling_bare laws.keeps (trees_on (stack_at l.stacks l.head.top))) in
      let d : length (filling (trees_on (stack_at l.stacks l.head.top))) ≡ length (filling (trees_on (layers_of spread.graph.heads w.stack.way))) = ap (λ (ts : List Tree). length (filling ts)) b in
      let e : all_spans (trees_on (stack_at l.stacks l.head.top)) ≡ all_spans (trees_on (layers_of spread.graph.heads w.stack.way)) = ap (λ (ts : List Tree). all_spans ts) b in
      let f : all_spans (trees_on (stack_at l.stacks l.head.top)) ≡ l.head.place = own.live.stack.spans in
      omega (arith, a, c, d, e, f)

  lighter : turn_weight t.grammar (length text) (config_of l.stacks l.head) < turn_weight t.grammar (length text) (config_of stacks start)
  lighter = turn_far t.grammar ranks (length text) (config_of stacks start) (config_of l.stacks l.head) far own.live.stack.within low

  pub left_one : ((q : ℕ) → IsPastStuck before q → IsPastStuck stuck q) → ((q : ℕ) → IsPastStuck spread.ends.stuck q → IsPastStuck stuck q) → ((q : ℕ) → stuck ≡ Some q → (before ≡ Some q) ⊎ (spread.ends.stuck ≡ Some q))
      → LeavesOne t text stacks before stuck start l
  left_one one other known = record {
    own = own;
    one = w.is.one;
    far = (let f = far in omega (arith, f));
    lighter = lighter;
    rests = λ r.
        let account = over.counted t text p.base spread.graph spread.place spread.ends None before stuck p.ends (over.nothing t text spread.graph spread.ends.accepting.items w.none) one other known in
        let past : h.place < spread.place = (let a = all.low in let b = w.past in omega (arith, a, b)) in
        laws.rests t text p.base spread.graph w.head w.numbers w.foot l.stacks l.head sound there w.stack w.is (packed_of first h) p.begun p.most p.can.whole.ranks spread.place p.can.whole.whole past alone before stuck account (all.back.rests before r);
    stand = λ states are stand. laws.stand t text p.base spread.graph w.head w.numbers w.foot l.stacks l.head sound there w.stack w.is table states are (p.stand states are (all.back.stand states are stand));
  }

-- ---- the outcome

pub deep_ends : (over : OverLaws) (t : ParseTable) (text : Bytes) (stacks first : List (List Layer)) (before : Option ℕ) (start h : StackHead) (spread : Spread) → GoesBackTo t text stacks start first h → IsSpreadDeep t text first h spread → EndsAll t text stacks before start Deep
deep_ends over t text stacks first before start h spread back p = record {
  form = tt;
  own = tt;
  fresh = λ r. over.deep t text p.base spread.graph p.deep (record { stack = packed_of first h; begun = p.begun; met = (back.rests before r).met });
  sound = λ states are stand. tt;
}

module _ (over : OverLaws) (t : ParseTable) (text : Bytes) (first : List (List Layer)) (before stuck : Option ℕ) (h : StackHead) (spread : Spread) (p : IsSpreadOut t text first h spread) (best : Option Tree) (is_best : IsBestOn t text spread.graph spread.ends.accepting.items best)
    (one : (q : ℕ) → IsPastStuck before q → IsPastStuck stuck q) (other : (q : ℕ) → IsPastStuck spread.ends.stuck q → IsPastStuck stuck q) (from : (q : ℕ) → stuck ≡ Some q → (before ≡ Some q) ⊎ (spread.ends.stuck ≡ Some q)) where
  account : AccountsForGraph (parsing_from t text p.base) spread.graph.heads (bare_links spread.graph.links) (suc (length text)) best before stuck
  account = over.counted t text p.base spread.graph (suc (length text)) spread.ends best before stuck p.ends is_best one other from

  -- there is a tree or a place
  pub some_ends : best ≡ None → stuck ≡ None → ⊥
  some_ends none nowhere = over.some t text p.base p.most spread.graph p.whole p.low best before stuck account none nowhere

  module _ (table : IsTable t) (stacks : List (List Layer)) (start : StackHead) (back : GoesBackTo t text stacks start first h) where
    pub tree_ends : (b : Tree) → best ≡ Some b → EndsAll t text stacks before start (Accepted b)
    tree_ends b is =
        let root = is_best.root b is in
        record {
          form = is_best.form b is;
          own = over.root_own t text p.base spread.graph root.0 b p.whole.sound (p.ends.each root.0 root.1).0 root.2 p.own;
          fresh = λ r. over.tree t text p.base p.most spread.graph (packed_of first h) p.whole p.low p.begun back.within best before stuck account (back.rests before r) b is;
          sound = λ states are stand. over.root_sound t text p.base spread.graph root.0 b p.whole.sound (p.ends.each root.0 root.1).0 root.2 table states are p.own (p.stand states are (back.stand states are stand));
        }

    pub stop_ends : (q : ℕ) → best ≡ None → stuck ≡ Some q → EndsAll t text stacks before start (Stuck q)
    stop_ends q none is = record {
      form = tt;
      own = tt;
      fresh = λ r. over.stop t text p.base p.most spread.graph (packed_of first h) p.whole p.low p.begun back.within best before stuck account (back.rests before r) q none is;
      sound = λ states are stand. tt;
    }

-- where the outcome is known, it is so from each stack on
pub all_end : (t : ParseTable) (text : Bytes) (stacks : List (List Layer)) (before : Option ℕ) (start : StackHead) (out : Outcome) → IsTreeOf t.grammar out → IsOwnOutcome t out → Fresh t.grammar text (value_of_outcome out)
    → ((states : States) → AreStatesOf t states → IsSoundOutcome t states text out) → EndsAll t text stacks before start out
all_end t text stacks before start out form own fresh sound = record { form = form; own = own; fresh = λ r. fresh; sound = λ states are stand. sound states are }

-- a stack that was moved is the same
pub comes_same : (t : ParseTable) (text : Bytes) (stacks moved : List (List Layer)) (before : Option ℕ) (start : StackHead) (x : Crossed) → moved ≡ stacks → ComesTo t text moved before start x → ComesTo t text stacks before start x
comes_same t text stacks moved before start x is w = subst (λ (ss : List (List Layer)). ComesTo t text ss before start x) is w

-- ---- the stack at which the graph begins

pub from_stack : (t : ParseTable) (text : Bytes) (s : Setting) (stacks : List (List Layer)) (start : StackHead) (spread : Spread) → IsOwnHead t (length text) stacks start → IsSpread t text s stacks start spread
    → IsSpreadFor t text s stacks start spread
from_stack t text s stacks start spread own p = record {
  first = stacks;
  head = start;
  back = record { within = own.live.stack.within; rests = λ stuck r. r; stand = λ states are stand. stand };
  low = omega arith;
  laid = p;
}

-- the start of the text
pub from_start : (packing : PackingLaws) (t : ParseTable) → Fit t.grammar → (text : Bytes) (s : Setting) (stacks first : List (List Layer)) (start : StackHead) (spread : Spread) → first ≡ [] ∷ []
    → IsSpread t text s first (record { top = 0; place = 0 }) spread → IsSpreadFor t text s stacks start spread
from_start packing t fit text s stacks first start spread is p = record {
  first = first;
  head = record { top = 0; place = 0 };
  back = subst (λ (ss : List (List Layer)). GoesBackTo t text stacks start ss (record { top = 0; place = 0 })) (sym is) (record {
    within = omega arith;
    rests = λ stuck r. rests_start packing t.grammar fit text stuck r.stuck_from;
    stand = λ states are stand. tt;
  });
  low = omega arith;
  laid = p;
}

pub can_choose : (t : ParseTable) (text : Bytes) (first : List (List Layer)) (h : StackHead) (spread : Spread) (size : ℕ) → IsSpreadOut t text first h spread → size ≡ length text → CanChoose t text spread.graph size spread.ends.accepting.items
can_choose t text _ _ spread size p size_is = record {
  sound = (p.base, p.whole.sound);
  size_is = size_is;
  each = λ k here. (p.ends.each k here).0;
}

-- ---- by the answer

-- the graph was followed over one more place
pub spread_for : (t : ParseTable) (text : Bytes) (s : Setting) (stacks : List (List Layer)) (start : StackHead) (old new : Spread) (all : IsSpreadFor t text s stacks start old) → IsSpread t text s all.first all.head new → IsSpreadFor t text s stacks start new
spread_for t text s stacks start old new all laid = record { first = all.first; head = all.head; back = all.back; low = all.low; laid = laid }

pub left_by : (old new : Spread) (from : ℕ) (x : Asked) (l : Left) → x ≡ Leaves l → AsksFor old new from x → IsLeftOf old from l
left_by old new from x l is a = subst (λ (y : Asked). AsksFor old new from y) is a

-- where none is left, all stays
pub waits_by : (old new : Spread) (from : ℕ) (x : Asked) → x ≡ Waits → AsksFor old new from x → StaysSpread old new
waits_by old new from x is a = subst (λ (y : Asked). AsksFor old new from y) is a

pub fails_by : (old new : Spread) (from : ℕ) (x : Asked) → x ≡ Fails → AsksFor old new from x → StaysSpread old new
fails_by old new from x is a = subst (λ (y : Asked). AsksFor old new from y) is a

pub some_left : (spread : Spread) (from : ℕ) (o : Option Left) (l : Left) → o ≡ Some l → IfSome o (IsLeftOf spread from) → IsLeftOf spread from l
some_left spread from o l is a = subst (λ (y : Option Left). IfSome y (IsLeftOf spread from)) is a

pub some_stack : (g : GraphView) (head : ℕ) (o : Option Left) (l : Left) → o ≡ Some l → IfSome o (λ (x : Left). (numbers : List ℕ) × (foot : ℕ) × (s : IsStack g head numbers foot) × IsLeft g head s.way x.stacks x.head)
    → (numbers : List ℕ) × (foot : ℕ) × (s : IsStack g head numbers foot) × IsLeft g head s.way l.stacks l.head
some_stack g head o l is a = subst (λ (y : Option Left). IfSome y (λ (x : Left). (numbers : List ℕ) × (foot : ℕ) × (s : IsStack g head numbers foot) × IsLeft g head s.way x.stacks x.head)) is a

-- what was begun for a stack stays so where all that was followed does
pub stays_for : (t : ParseTable) (text : Bytes) (s : Setting) (stacks : List (List Layer)) (start : StackHead) (old new : Spread) → StaysSpread old new → IsSpreadFor t text s stacks start old → IsSpreadFor t text s stacks start new
stays_for t text s stacks start old new stays all = record {
  first = all.first;
  head = all.head;
  back = all.back;
  low = all.low;
  laid = record {
    base = p.base;
    most = p.most;
    begun = p.begun;
    can = subst (λ (f : Frontier). CanFollow t text s p.base p.most new.graph new.place f) (sym stays.frontier)
        (subst (λ (n : ℕ). CanFollow t text s p.base p.most new.graph n old.frontier) (sym stays.place)
        (subst (λ (g : GraphView). CanFollow t text s p.base p.most g old.place old.frontier) (sym stays.graph) p.can));
    ends = subst (λ (e : Ends). AreEnds t text new.graph p.base.place new.place e) (sym stays.ends)
        (subst (λ (n : ℕ). AreEnds t text new.graph p.base.place n old.ends) (sym stays.place)
        (subst (λ (g : GraphView). AreEnds t text g p.base.place old.place old.ends) (sym stays.graph) p.ends));
    within = subst (λ (n : ℕ). n ≤ length text) (sym stays.place) p.within;
    own = subst (λ (g : GraphView). AreOwn t.grammar g) (sym stays.graph) p.own;
    stand = λ states are stand. subst (λ (g : GraphView). StandOnGraph t.grammar states text p.base g) (sym stays.graph) (p.stand states are stand);
  };
}
  where
    p : IsSpread t text s all.first all.head old
    p = all.laid
