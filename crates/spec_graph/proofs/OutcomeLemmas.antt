-- What a whole graph says is what all runs come to.
use Rattle.std.proofs.Common.{◌≡◌, ◌∙◌, sym, ap, refl, subst, ℕ, suc, ◌<◌, ◌≤◌, inl, Bool, true, false, List, [], ◌∷◌, ◌++◌, append-nil, length, reverse, map, Option, Some, None, arith}
use Rattle.std.specs.List.{Contains}
use Rattle.std.proofs.lemmas.List.{reverse-append, reverse-reverse, length-map, length-reverse}
use Rattle.ts_core.specs.declared.flat.FlatGrammar.{FlatGrammar}
use Rattle.ts_core.specs.declared.flat.Production.{Production}
use Rattle.ts_core.specs.declared.flat.Step.{Step}
use Rattle.ts_core.specs.declared.symbol.Symbol.{Symbol}
use Rattle.spec_grammar.specs.Symbols.{start_symbol}
use Rattle.spec_lexing.specs.Lexing.{token, absent}
use Rattle.spec_tables.specs.Actions.{Act, reduce, accept}
use Rattle.spec_trees.specs.declared.tree.Tree.{Tree}
use Rattle.spec_trees.specs.Trees.{symbol_of, is_extra_node, tree_depth, bare}
use Rattle.spec_trees.specs.Made.{accepted, form_of, reduced, filling, step_symbols, BeginsFilled, most_depth}
use Rattle.spec_trees.specs.Choice.{Better}
use Rattle.spec_runs.specs.Configurations.{Configuration, AreExtras, IsReduction}
use Rattle.spec_runs.specs.Runs.{CanMove, Run, IsReached, ComesTooDeep, AcceptsTree, StopsAt}
use Rattle.spec_runs.specs.Outcomes.{SomeIsTooDeep, SomeAccepts, SomeStopsAt, IsBestTree, IsLastStop}
use Rattle.spec_packing.proofs.RankLemmas.{no_better_chains, unbared}
use Rattle.spec_packing.proofs.MadeLemmas.{IsMade, AllMade, CanMake}
use Rattle.spec_packing.proofs.ReachedLemmas.{all_made_left, all_made_right}
use Rattle.spec_graph.specs.declared.graph.Head.{Head}
use Rattle.spec_graph.specs.declared.graph.Link.{Link}
use Rattle.spec_graph.specs.States.{LeadsTo, at_first, ShareState, AreRanks}
use Rattle.spec_graph.specs.Laying.{Parsing, from_start, IsMet, HasRun, IsReading, SeesAt, GoesOn, PassesAt, ReducesAt, node_made, Taken, some, nothing, Lays}
use Rattle.spec_graph.specs.Replacing.{Replaces, AllReplace, depth_over}
use Rattle.spec_graph.specs.Keys.{Key}
use Rattle.spec_graph.specs.Links.{IsAt, IsWay, way_trees, depths_of, HasWay, IsGraph, IsWholeTo, IsDue, way_depth}
use Rattle.spec_graph.specs.Outcomes.{GraphAccepts, GraphStopsAt, GraphIsDeep, IsBestOfGraph, IsLastOfGraph}
use Rattle.spec_graph.proofs.SightLemmas.{Facts, lead_once, sees_one, clash, sees_shared}
use Rattle.spec_graph.proofs.EntryLemmas.{node_tells, lawful_at, filling_tree, filling_append, filling_turned, filling_extras, all_made_back, all_made_turned, same_front}
use Rattle.spec_graph.proofs.ReplaceLemmas.{split, turned, same_extras, same_symbols, same_begins, replaces_bare}
use Rattle.spec_graph.proofs.NodeLemmas.{replaces_reduced}
use Rattle.spec_graph.proofs.RootLemmas.{accepted_replaces}
use Rattle.spec_graph.proofs.LayLemmas.{IsBase, can_make, lays_read, lays_made, lays_none, nothing_laid, extras_append, begins_more, reduction_parts}
use Rattle.spec_graph.proofs.GraphLemmas.{share_head, has_way, IsLaid, AreLaid, WayLaid, ways, way_reached, like}
use Rattle.spec_graph.proofs.KeyLemmas.{stand_replace, way_all_made, map_turned}
use Rattle.spec_graph.proofs.BaseLemmas.{start_facts, start_base, ground_base, embed, run_laid, within, due_last}
use Rattle.spec_graph.proofs.GroundLemmas.{start_ground, start_reading, start_run, start_met}

extras_turned : (xs : List Tree) → AreExtras xs → AreExtras (reverse xs)
extras_turned [] a = tt
extras_turned (x ∷ xs) a = subst (λ (l : List Tree). AreExtras l) (sym (reverse-append (x ∷ []) xs)) (extras_append (reverse xs) (x ∷ []) (extras_turned xs a.1) (a.0, tt))

first_of : (ts : List Tree) (u : Tree) (us : List Tree) → AllReplace ts (u ∷ us) → (t : Tree) × (rest : List Tree) × (ts ≡ t ∷ rest) × Replaces t u × AllReplace rest us
first_of [] u us a = absurd a
first_of (t ∷ ts) u us a = (t, ts, refl, a.0, a.1)

root_symbol : (stack : List Tree) (root : Tree) (before after : List Tree) (start : ℕ) → stack ≡ reverse after ++ root ∷ reverse before → AreExtras after → is_extra_node root ≡ false → filling stack ≡ start ∷ [] → symbol_of root ≡ start
root_symbol stack root before after start is extras fills read =
    let all : symbol_of root ∷ filling (reverse before) ≡ start ∷ [] =
    sym (filling_tree root (reverse before) fills) ∙ sym (filling_extras (reverse after) (root ∷ reverse before) (extras_turned after extras)) ∙ ap filling (sym is) ∙ read in
    let h : symbol_of root ≡ start = cc in h

-- what is made well between extras
pub record RootMade (g : FlatGrammar) (root : Tree) (before after : List Tree) : Type 0 where
  pub root_made : IsMade g root
  pub before_made : AllMade g before
  pub after_made : AllMade g after

root_parts : (g : FlatGrammar) (stack : List Tree) (root : Tree) (before after : List Tree) → stack ≡ reverse after ++ root ∷ reverse before → AllMade g stack → RootMade g root before after
root_parts g stack root before after is made =
    let all : AllMade g (reverse after ++ root ∷ reverse before) = subst (λ (l : List Tree). AllMade g l) is made in
    let right : AllMade g (root ∷ reverse before) = all_made_right g (reverse after) (root ∷ reverse before) all in
    record {
      root_made = right.0;
      before_made = all_made_back g before right.1;
      after_made = all_made_back g after (all_made_left g (reverse after) (root ∷ reverse before) all);
    }

-- as many trees, and in each place both are extras or neither is
abbrev pub SameKinds : List Tree → List Tree → Type 0
SameKinds [] [] = Unit {0}
SameKinds [] (u ∷ us) = ⊥
SameKinds (t ∷ ts) [] = ⊥
SameKinds (t ∷ ts) (u ∷ us) = (is_extra_node t ≡ is_extra_node u) × SameKinds ts us

pub kinds_begins : (ts us : List Tree) → SameKinds ts us → BeginsFilled us → BeginsFilled ts
kinds_begins [] us a h = tt
kinds_begins (t ∷ ts) [] a h = absurd a
kinds_begins (t ∷ ts) (u ∷ us) a h = a.0 ∙ h

pub kinds_length : (ts us : List Tree) → SameKinds ts us → length ts ≡ length us
kinds_length [] [] a = refl
kinds_length [] (u ∷ us) a = absurd a
kinds_length (t ∷ ts) [] a = absurd a
kinds_length (t ∷ ts) (u ∷ us) a = ap suc (kinds_length ts us a.1)

kinds_append : (ts us vs ws : List Tree) → SameKinds ts us → SameKinds vs ws → SameKinds (ts ++ vs) (us ++ ws)
kinds_append [] [] vs ws a b = b
kinds_append [] (u ∷ us) vs ws a b = absurd a
kinds_append (t ∷ ts) [] vs ws a b = absurd a
kinds_append (t ∷ ts) (u ∷ us) vs ws a b = (a.0, kinds_append ts us vs ws a.1 b)

pub kinds_turned : (ts us : List Tree) → SameKinds ts us → SameKinds (reverse ts) (reverse us)
kinds_turned [] [] a = tt
kinds_turned [] (u ∷ us) a = absurd a
kinds_turned (t ∷ ts) [] a = absurd a
kinds_turned (t ∷ ts) (u ∷ us) a =
    subst (λ (l : List Tree). SameKinds l (reverse (u ∷ us))) (sym (reverse-append (t ∷ []) ts))
    (subst (λ (l : List Tree). SameKinds (reverse ts ++ t ∷ []) l) (sym (reverse-append (u ∷ []) us))
    (kinds_append (reverse ts) (reverse us) (t ∷ []) (u ∷ []) (kinds_turned ts us a.1) (a.0, tt)))

pub none_long : (ts : List Tree) → length ts ≡ 0 → ts ≡ []
none_long [] e = refl
none_long (t ∷ ts) e = absurd (omega (arith, e))

way_append : (links : List Link) (h e b : ℕ) (v w : List Link) → IsWay links h v e → IsWay links e w b → IsWay links h (v ++ w) b
way_append links h e b [] w is on = subst (λ (n : ℕ). IsWay links n w b) (sym is) on
way_append links h e b (l ∷ v) w is on = (is.0, is.1, way_append links l.below e b v w is.2 on)

module _ (P : Parsing) (facts : Facts P) (base : IsBase P) where
  -- nodes over what is laid
  pub laid_nodes : (now over other : List ℕ) (place end look number left : ℕ) (p : Production) (ks us : List Tree) → Lays P now place (reverse ks) end over → Lays P now place (reverse us) end other
      → BeginsFilled us → ReducesAt P other look number left p now → length (filling us) ≡ length p.steps → AllReplace ks us → Replaces (node_made P number ks) (node_made P number us)
  laid_nodes now over other place end look number left p ks us l m begins folds count a =
      let d = can_make P facts base now place us end other look number left p m begins folds count in
      let c : CanMake P.grammar number left p ks = record {
        at = folds.at;
        filled = same_symbols ks us a ∙ d.filled;
        begins = same_begins ks us a begins;
        made = all_made_back P.grammar ks (lays_made P facts base now place (reverse ks) end over l);
      } in
      replaces_bare (reduced P.grammar number 0 None ks) (reduced P.grammar number 0 None us) (facts.laws.runs.keeps (reduced P.grammar number 0 None ks)) (facts.laws.runs.keeps (reduced P.grammar number 0 None us))
      (replaces_reduced P.grammar number left p (lawful_at P facts number left p folds.at) ks us c d a)

  pub laid_depth : (now over : List ℕ) (place end look number left : ℕ) (p : Production) (ks : List Tree) → Lays P now place (reverse ks) end over → BeginsFilled ks → ReducesAt P over look number left p now → length (filling ks) ≡ length p.steps
      → tree_depth (node_made P number ks) ≡ depth_over (form_of P.grammar left number) (map tree_depth ks)
  laid_depth now over place end look number left p ks l begins folds count =
      (node_tells P facts number left p ks
      (can_make P facts base now place ks end over look number left p l begins folds count)).depth

  module _ (heads : List Head) (links : List Link) (graph : IsGraph P heads links) where
    pub links_made : (l : Link) → Contains links l → IsMade P.grammar l.tree
    links_made l there = let k = graph.linked l there in (lays_made P facts base k.under k.from (l.tree ∷ []) k.to k.over k.lays).0

    pub own_trees : (way : List Link) (h b : ℕ) → IsWay links h way b → AreLaid P facts base heads way (way_trees way)
    own_trees [] h b is = tt
    own_trees (l ∷ way) h b is =
        let k = graph.linked l is.0 in (
          record {
            under = k.under;
            over = k.over;
            from = k.from;
            to = k.to;
            below = k.below;
            above = k.above;
            lays = k.lays;
          },
          own_trees way l.below b is.2,
        )

-- ---- what the graph says is so, where the stack from which runs go on was met

module _ (P : Parsing) (facts : Facts P) (met : IsMet P) (heads : List Head) (links : List Link) (graph : IsGraph P heads links) where
  abbrev S : Parsing
  S = from_start P

  abbrev sf : Facts S
  sf = start_facts P facts

  abbrev sb : IsBase S
  sb = start_base P facts

  start_trees : (way : List Link) (h b : ℕ) → IsWay links h way b → AreLaid S sf sb heads way (way_trees way)
  start_trees [] h b is = tt
  start_trees (l ∷ way) h b is =
      let k = graph.linked l is.0 in (
        record {
          under = k.under;
          over = k.over;
          from = k.from;
          to = k.to;
          below = k.below;
          above = k.above;
          lays = embed P facts met k.under k.from (l.tree ∷ []) k.to k.over k.lays;
        },
        start_trees way l.below b is.2,
      )

  -- trees of the depths of a way
  pub record Deepest (way : List Link) : Type 0 where
    pub trees : List Tree
    pub laid : AreLaid S sf sb heads way trees
    pub depths : map tree_depth trees ≡ depths_of way
    pub filled : filling trees ≡ filling (way_trees way)
    pub kinds : SameKinds trees (way_trees way)

  pub deepest : (way : List Link) (h b : ℕ) → IsWay links h way b → Deepest way
  deepest [] h b is = record { trees = []; laid = tt; depths = refl; filled = refl; kinds = tt }
  deepest (l ∷ way) h b is =
      let k = graph.linked l is.0 in
      let rest = deepest way l.below b is.2 in
      let d = k.deepest met in
      let t = d.0 in
      let low = k.below in
      let high = k.above in
      let same = like S sf sb heads l.below l.above k.under k.over k.under k.over k.from k.to t l.tree low high low high d.1 (embed P facts met k.under k.from (l.tree ∷ []) k.to k.over k.lays) in
      let here : IsLaid S sf sb heads l t = record {
        under = k.under;
        over = k.over;
        from = k.from;
        to = k.to;
        below = low;
        above = high;
        lays = d.1;
      } in
      record {
        trees = t ∷ rest.trees;
        laid = (here, rest.laid);
        depths = both (tree_depth t) l.depth (map tree_depth rest.trees) (depths_of way) d.2 rest.depths;
        filled = fill t l.tree rest.trees (way_trees way) same.extra same.symbol rest.filled;
        kinds = (same.extra, rest.kinds);
      }
    where
      both : (a b : ℕ) (xs ys : List ℕ) → a ≡ b → xs ≡ ys → a ∷ xs ≡ b ∷ ys
      both a b xs ys e f = cc

      fill : (t u : Tree) (ts us : List Tree) → is_extra_node t ≡ is_extra_node u → symbol_of t ≡ symbol_of u → filling ts ≡ filling us → filling (t ∷ ts) ≡ filling (u ∷ us)
      fill t u ts us e s f = by (is_extra_node u) refl
        where
          by : (b : Bool) → is_extra_node u ≡ b → filling (t ∷ ts) ≡ filling (u ∷ us)
          by true x = rw (e ∙ x, x) f
          by false x = rw (e ∙ x, x) (both (symbol_of t) (symbol_of u) (filling ts) (filling us) s f)

  way_down : (ts : List Tree) (way : List Link) (h place : ℕ) (read : List ℕ) → IsAt P heads h read place → IsWay links h way 0 → AreLaid S sf sb heads way ts
      → WayLaid S sf sb heads 0 [] 0 ts h place
  way_down ts way h place read at is laid =
      ways S sf sb heads links 0 [] 0 graph.start way ts h place read at is laid

  abbrev Down : List Tree → ℕ → ℕ → Type 0
  Down ts h place = WayLaid S sf sb heads 0 [] 0 ts h place

  down_share : (ts : List Tree) (h place : ℕ) (read : List ℕ) → IsAt P heads h read place → (w : Down ts h place) → ShareState P.goto read w.now
  down_share ts h place read at w = share_head S sf heads h read w.now place place at w.at

  down_read : (ts : List Tree) (h place : ℕ) → (w : Down ts h place) → w.now ≡ filling ts
  down_read ts h place w = lays_read S sf [] 0 ts place w.now w.lays ∙ append-nil (filling ts)

  down_reached : (ts : List Tree) (h place : ℕ) → (w : Down ts h place) → ((s : Symbol) (pad size : ℕ) → PassesAt S w.now place s pad size → ⊥) → IsReached P.grammar P.text (record { stack = ts; place = place })
  down_reached ts h place w quiet = way_reached S sf sb refl refl heads ts h place w quiet

  pub accepts_sound : (t : Tree) → GraphAccepts P heads links t → SomeAccepts P.grammar P.text t
  accepts_sound t a =
      let ts = way_trees a.way in
      let w = way_down ts a.way a.head a.place a.read a.at a.is (start_trees a.way a.head 0 a.is) in
      let share = down_share ts a.head a.place a.read a.at w in
      let sees = sees_shared S sf a.read w.now share a.place (token a.symbol a.pad a.size) a.sees in
      let stays = facts.states.acts a.read w.now a.symbol.0 accept share a.stays in
      let read = down_read ts a.head a.place w in
      let goes : GoesOn S w.now a.place = record { symbol = a.symbol; pad = a.pad; size = a.size; sees = sees; moves = (accept, stays) } in
      let run = down_reached ts a.head a.place w (λ s pad size p. clash S sf w.now a.place s pad size goes p) in
      let c : Configuration = record { stack = ts; place = a.place } in
      let done : AcceptsTree P.grammar P.text c t = record {
        move = record {
          symbol = a.symbol;
          pad = a.pad;
          size = a.size;
          next = subst (λ (r : List ℕ). SeesAt P r a.place (token a.symbol a.pad a.size)) read sees;
          stays = subst (λ (r : List ℕ). Act P.grammar r a.symbol.0 accept) read stays;
        };
        before = a.before;
        root = a.root;
        after = a.after;
        stack_is = a.trees_are;
        before_extras = a.before_extras;
        root_fills = a.root_fills;
        after_extras = a.after_extras;
        tree_is = a.tree_is;
      } in
      (c, run, done)

  pub stops_sound : (stop : ℕ) → GraphStopsAt P heads stop → SomeStopsAt P.grammar P.text stop
  stops_sound stop a =
      let down = graph.down a.head a.at.head a.at.is in
      let ts = way_trees down.0 in
      let w = way_down ts down.0 a.head a.place a.read a.at down.1 (start_trees down.0 a.head 0 down.1) in
      let share = down_share ts a.head a.place a.read a.at w in
      let sees = sees_shared S sf a.read w.now share a.place (absent a.far) a.sees in
      let read = down_read ts a.head a.place w in
      let run = down_reached ts a.head a.place w (λ s pad size p. let e = sees_one S sf w.now a.place (absent a.far) (token s pad size) sees p.sees in cc) in
      let c : Configuration = record { stack = ts; place = a.place } in
      (c, run, (a.far, subst (λ (r : List ℕ). SeesAt P r a.place (absent a.far)) read sees, a.stop_is))

  laid_append : (v w : List Link) (ts us : List Tree) → AreLaid S sf sb heads v ts → AreLaid S sf sb heads w us
      → AreLaid S sf sb heads (v ++ w) (ts ++ us)
  laid_append [] w [] us a b = b
  laid_append [] w (t ∷ ts) us a b = absurd a
  laid_append (l ∷ v) w [] us a b = absurd a
  laid_append (l ∷ v) w (t ∷ ts) us a b = (a.0, laid_append v w ts us a.1 b)

  -- a reduction in the graph, as one of a run, over trees of the depths that the links have
  module _ (rank : ℕ → ℕ) (key : Key) (number left : ℕ) (p : Production) (h e b : ℕ) (outer inner : List Link) (over now : List ℕ) (end : ℕ) (due : IsDue P rank heads links key number left p h e b outer inner over now end) where
    below : (way : List Link) × IsWay links b way 0
    below = graph.down b due.bottom.head due.bottom.is

    deep : Deepest inner
    deep = deepest inner e b due.taken_off

    abbrev low : List Tree
    low = way_trees below.0

    abbrev all : List Tree
    all = way_trees outer ++ (deep.trees ++ low)

    down : Down all h key.look
    down = way_down all (outer ++ (inner ++ below.0)) h key.look over due.top
        (way_append links h e 0 outer (inner ++ below.0) due.lifted (way_append links e b 0 inner below.0 due.taken_off below.1))
        (laid_append outer (inner ++ below.0) (way_trees outer) (deep.trees ++ low) (start_trees outer h e due.lifted)
        (laid_append inner below.0 deep.trees low deep.laid (start_trees below.0 b 0 below.1)))

    share : ShareState P.goto over down.now
    share = down_share all h key.look over due.top down

    sees : SeesAt P down.now key.look (token due.reduces.symbol due.reduces.pad due.reduces.size)
    sees = sees_shared S sf over down.now share key.look (token due.reduces.symbol due.reduces.pad due.reduces.size) due.reduces.sees

    stays : Act P.grammar down.now due.reduces.symbol.0 (reduce number)
    stays = facts.states.acts over down.now due.reduces.symbol.0 (reduce number) share due.reduces.stays

    read : down.now ≡ filling all
    read = down_read all h key.look down

    abbrev there : Configuration
    there = record { stack = all; place = key.look }

    run : IsReached P.grammar P.text there
    run = down_reached all h key.look down (λ s pad size passes.
        clash S sf down.now key.look s pad size (record { symbol = due.reduces.symbol; pad = due.reduces.pad; size = due.reduces.size; sees = sees; moves = (reduce number, stays) }) passes)

    move : CanMove P.grammar P.text there (reduce number)
    move = record {
      symbol = due.reduces.symbol;
      pad = due.reduces.pad;
      size = due.reduces.size;
      next = subst (λ (r : List ℕ). SeesAt P r key.look (token due.reduces.symbol due.reduces.pad due.reduces.size)) read sees;
      stays = subst (λ (r : List ℕ). Act P.grammar r due.reduces.symbol.0 (reduce number)) read stays;
    }

    many : length (filling deep.trees) ≡ length p.steps
    many = ap (λ (l : List ℕ). length l) deep.filled ∙ due.count

    begins : BeginsFilled (reverse deep.trees)
    begins = by due.taken
      where
        by : Taken (reverse (way_trees inner)) [] now key.begins → BeginsFilled (reverse deep.trees)
        by (some lt first last) = kinds_begins (reverse deep.trees) (reverse (way_trees inner)) (kinds_turned deep.trees (way_trees inner) deep.kinds) first
        by (nothing none none_w _ _) = kinds_begins (reverse deep.trees) (reverse (way_trees inner)) (kinds_turned deep.trees (way_trees inner) deep.kinds) (subst (λ (l : List Tree). BeginsFilled l) (sym none) tt)

    under : Down low b key.begins
    under = way_down low below.0 b key.begins now due.bottom below.1 (start_trees below.0 b 0 below.1)

    none_below : now ≡ [] → key.begins ≡ 0 → low ≡ []
    none_below empty zero_begin =
        let s = down_share low b key.begins now due.bottom under in
        let first : LeadsTo P.goto [] s.0 = subst (λ (r : List ℕ). LeadsTo P.goto r s.0) empty s.1 in
        let at_zero : s.0 ≡ 0 = lead_once P.goto [] s.0 0 first at_first in
        let none : under.now ≡ [] = facts.states.begins under.now (subst (λ (n : ℕ). LeadsTo P.goto under.now n) at_zero s.2) in
        nothing_laid S sf sb [] 0 low key.begins under.now under.lays none zero_begin

    all_begins : BeginsFilled (deep.trees ++ low)
    all_begins = by due.taken
      where
        by : Taken (reverse (way_trees inner)) [] now key.begins → BeginsFilled (deep.trees ++ low)
        by (some lt first last) =
            let turned : BeginsFilled (way_trees inner) = subst (λ (l : List Tree). BeginsFilled l) (reverse-reverse (way_trees inner)) last in
            let n = kinds_length deep.trees (way_trees inner) deep.kinds in
            let m : length (reverse (way_trees inner)) ≡ length (way_trees inner) = length-reverse (way_trees inner) in
            begins_more deep.trees low (omega (arith, lt, n, m)) (kinds_begins deep.trees (way_trees inner) deep.kinds turned)
        by (nothing none none_w empty zero_begin) =
            let n = kinds_length deep.trees (way_trees inner) deep.kinds in
            let m : length (reverse (way_trees inner)) ≡ length (way_trees inner) = length-reverse (way_trees inner) in
            let z : length (reverse (way_trees inner)) ≡ 0 = ap (λ (l : List Tree). length l) none in
            let gone : deep.trees ≡ [] = none_long deep.trees (omega (arith, n, m, z)) in
            subst (λ (l : List Tree). BeginsFilled l) (sym (ap (λ (l : List Tree). l ++ low) gone ∙ none_below empty zero_begin)) tt

    reduction : IsReduction P.grammar number all (node_made P number (reverse deep.trees)) (way_trees outer ++ node_made P number (reverse deep.trees) ∷ low)
    reduction = record {
      left = left;
      production = p;
      at = due.reduces.at;
      lifted = way_trees outer;
      children = reverse deep.trees;
      below = low;
      stack_is = ap (λ (l : List Tree). way_trees outer ++ (l ++ low)) (sym (reverse-reverse deep.trees));
      extras = due.all_extras;
      all_lifted = subst (λ (l : List Tree). BeginsFilled (l ++ low)) (sym (reverse-reverse deep.trees)) all_begins;
      count = ap (λ (l : List ℕ). length l) (filling_turned deep.trees) ∙ length-reverse (filling deep.trees) ∙ many;
      first_fills = begins;
      node_is = refl;
      after_is = refl;
    }

    make : CanMake P.grammar number left p (reverse deep.trees)
    make =
        let ends = facts.laws.runs.reduces P.grammar down.now due.reduces.symbol.0 number stays in
        let both : ◌≡◌ {A = Option (ℕ × Production)} (Some (ends.left, ends.production)) (Some (left, p)) = sym ends.at ∙ due.reduces.at in
        let pair : ◌≡◌ {A = ℕ × Production} (ends.left, ends.production) (left, p) = cc in
        let same : ends.production ≡ p = ap (λ (q : ℕ × Production). q.1) pair in
        let first : down.now ≡ filling deep.trees ++ filling low = read ∙ filling_extras (way_trees outer) (deep.trees ++ low) due.all_extras ∙ filling_append deep.trees low in
        let other : down.now ≡ reverse (step_symbols p) ++ ends.earlier = ends.read_is ∙ ap (λ (q : Production). reverse (step_symbols q) ++ ends.earlier) same in
        let count : length (filling deep.trees) ≡ length (reverse (step_symbols p)) = many ∙ sym (length-map p.steps (λ (step : Step). step.symbol.0)) ∙ sym (length-reverse (step_symbols p)) in
        let front = same_front (filling deep.trees) (reverse (step_symbols p)) (filling low) ends.earlier count (sym first ∙ other) in
        let laid = lays_made S sf sb [] 0 all key.look down.now down.lays in
        let part : AllMade P.grammar deep.trees = all_made_left P.grammar deep.trees low (all_made_right P.grammar (way_trees outer) (deep.trees ++ low) laid) in
        record {
          at = due.reduces.at;
          filled = filling_turned deep.trees ∙ ap (λ (l : List ℕ). reverse l) front ∙ reverse-reverse (step_symbols p);
          begins = begins;
          made = all_made_turned P.grammar deep.trees part;
        }

    node_depth : tree_depth (node_made P number (reverse deep.trees)) ≡ way_depth P number left inner
    node_depth =
        (node_tells P facts number left p (reverse deep.trees) make).depth
        ∙ ap (depth_over (form_of P.grammar left number)) (map_turned deep.trees ∙ ap (λ (l : List ℕ). reverse l) deep.depths)

    too_deep : most_depth < way_depth P number left inner → SomeIsTooDeep P.grammar P.text
    too_deep lt = (
      there,
      run,
      record {
        number = number;
        move = move;
        node = node_made P number (reverse deep.trees);
        after = way_trees outer ++ node_made P number (reverse deep.trees) ∷ low;
        reduction = reduction;
        deep = omega (arith, lt, node_depth);
      },
    )

  pub deep_sound : (rank : ℕ → ℕ) → GraphIsDeep P rank heads links → SomeIsTooDeep P.grammar P.text
  deep_sound rank d = too_deep rank d.key d.number d.left d.production d.top d.middle d.bottom d.outer d.inner d.over d.now d.end d.due d.deep

-- ---- what runs come to is in the graph

module _ (P : Parsing) (facts : Facts P) (base : IsBase P) (heads : List Head) (links : List Link) (graph : IsGraph P heads links) (stack : List Tree) (r : IsReading P stack) (h : HasRun P stack) (rank : ℕ → ℕ) (most : ℕ) (ranked : AreRanks P.grammar rank most) (k : Key) (whole : IsWholeTo P rank heads links k) (last : length P.text < k.look) where
  module _ (inside : P.place ≤ length P.text) where
    pub covered : (c : Configuration) → Run P.grammar P.text h.config c → HasWay P heads links 0 c.stack c.place (filling c.stack)
    covered c run =
        has_way P facts base rank most ranked heads links k whole 0 [] 0 c.stack c.place (filling c.stack) whole.start
        (due_last P facts base rank k last inside [] 0 c.stack c.place (filling c.stack) (omega arith) (run_laid P facts base stack r h c run).0)

    pub stops_whole : (c : Configuration) (stop : ℕ) → Run P.grammar P.text h.config c → StopsAt P.grammar P.text c stop → GraphStopsAt P heads stop
    stops_whole c stop run s =
        let w = covered c run in
        record { head = w.head; read = filling c.stack; place = c.place; at = w.at; far = s.0; sees = s.1; stop_is = s.2 }

    pub accepts_whole : (c : Configuration) (u : Tree) → Run P.grammar P.text h.config c → AcceptsTree P.grammar P.text c u → (t : Tree) × GraphAccepts P heads links t × (Better u t → ⊥)
    accepts_whole c u run x =
        let w = covered c run in
        let ts = way_trees w.way in
        let laid = (run_laid P facts base stack r h c run).0 in
        let replace = stand_replace w.way c.stack w.stands in
        let p = split ts (reverse x.after) (x.root ∷ reverse x.before) (subst (λ (l : List Tree). AllReplace ts l) x.stack_is replace) in
        let f = first_of p.right x.root (reverse x.before) p.second in
        let after = turned p.left x.after p.first in
        let before = turned f.1 x.before f.4 in
        let trees_are : ts ≡ reverse after.forth ++ f.0 ∷ reverse before.forth =
        p.is ∙ ap (λ (l : List Tree). l ++ p.right) after.is ∙ ap (λ (l : List Tree). reverse after.forth ++ l) (f.2 ∙ ap (λ (l : List Tree). f.0 ∷ l) before.is) in
        let mc = root_parts P.grammar c.stack x.root x.before x.after x.stack_is (lays_made P facts base [] 0 c.stack c.place (filling c.stack) laid) in
        let md = root_parts P.grammar ts f.0 before.forth after.forth trees_are (way_all_made P links (links_made P facts base heads links graph) w.way w.head 0 w.is) in
        let read = (facts.laws.runs.accepts P.grammar (filling c.stack) x.move.symbol.0 x.move.stays).1 in
        let start = root_symbol c.stack x.root x.before x.after (start_symbol P.grammar) x.stack_is x.after_extras x.root_fills read in
        let before_extras = same_extras before.forth x.before before.replace x.before_extras in
        let after_extras = same_extras after.forth x.after after.replace x.after_extras in
        let kept : Tree = accepted f.0 before.forth after.forth 0 in
        let dropped : Tree = accepted x.root x.before x.after 0 in
        let has : GraphAccepts P heads links (bare kept) = record {
          head = w.head;
          read = filling c.stack;
          place = c.place;
          at = w.at;
          symbol = x.move.symbol;
          pad = x.move.pad;
          size = x.move.size;
          sees = x.move.next;
          stays = x.move.stays;
          way = w.way;
          is = w.is;
          before = before.forth;
          root = f.0;
          after = after.forth;
          trees_are = trees_are;
          before_extras = before_extras;
          root_fills = f.3.extra ∙ x.root_fills;
          after_extras = after_extras;
          tree_is = refl;
        } in (
          bare kept,
          has,
          λ better. accepted_replaces P.grammar (facts.laws.runs.start_rule P.grammar facts.fit) f.0 x.root before.forth after.forth x.before x.after md.root_made mc.root_made start f.3
              md.before_made mc.before_made md.after_made mc.after_made before_extras x.before_extras after_extras x.after_extras before.replace after.replace
              (unbared kept dropped (facts.laws.runs.keeps kept) (facts.laws.runs.keeps dropped) (subst (λ (v : Tree). Better v (bare kept)) x.tree_is better)),
        )

    pub none_deep : (c : Configuration) → Run P.grammar P.text h.config c → ComesTooDeep P.grammar P.text c → ⊥
    none_deep c run deep =
        let laid = run_laid P facts base stack r h c run in
        let m = deep.reduction in
        let q = reduction_parts P facts base c deep.number deep.node deep.after laid.0 deep.move m in
        let low = has_way P facts base rank most ranked heads links k whole 0 [] 0 m.below q.place (filling m.below) whole.start
        (due_last P facts base rank k last inside [] 0 m.below q.place (filling m.below) (omega arith) q.low) in
        let a = within P facts base [] 0 c.stack c.place (filling c.stack) (omega arith) inside laid.0 in
        let shallow = whole.shallow low.head (filling m.below) q.place m.children q.end (filling c.stack) m.lifted c.place deep.number m.left m.production low.at
        (record {
          inner = q.inner;
          outer = q.outer;
          all_extras = m.extras;
          late = laid.1;
          taken = alone m.children m.below (filling m.below) q.place q.low q.taken;
          reduces = q.folds;
          count = m.count;
        }) (inl (omega (arith, a, last))) in
        let too : most_depth < tree_depth (node_made P deep.number m.children) = subst (λ (t : Tree). most_depth < tree_depth t) m.node_is deep.deep in
        omega (arith, shallow, too)
      where
        alone : (ks w : List Tree) (now : List ℕ) (place : ℕ) → Lays P [] 0 w place now → Taken ks w [] 0 → Taken ks [] now place
        alone ks w now place l (some lt begins ends) = some lt begins ends
        alone ks w now place l (nothing none low read zero_place) = let e = lays_none P facts base [] 0 w place now l low in nothing none refl e.1 e.0

-- ---- the outcome of the text, where runs go on from the start

module _ (P : Parsing) (facts : Facts P) (fresh : P.layers ≡ []) (zero_place : P.place ≡ 0) (rank : ℕ → ℕ) (most : ℕ) (ranked : AreRanks P.grammar rank most) (heads : List Head) (links : List Link) (graph : IsGraph P heads links) (k : Key) (whole : IsWholeTo P rank heads links k) (last : length P.text < k.look) where
  base : IsBase P
  base = ground_base P facts (start_ground P facts fresh zero_place)

  reading : IsReading P []
  reading = start_reading P facts fresh zero_place

  met : IsMet P
  met = start_met P facts fresh zero_place

  inside : P.place ≤ length P.text
  inside = omega (arith, zero_place)

  shallow : SomeIsTooDeep P.grammar P.text → ⊥
  shallow s = none_deep P facts base heads links graph [] reading (start_run P facts fresh zero_place) rank most ranked k whole last inside s.0 s.1 s.2

  pub best_tree : (t : Tree) → IsBestOfGraph P heads links t → IsBestTree P.grammar P.text t
  best_tree t b = record {
    shallow = shallow;
    accepted = accepts_sound P facts met heads links graph t b.accepts;
    best = λ other s better.
        let w = accepts_whole P facts base heads links graph [] reading (start_run P facts fresh zero_place) rank most ranked k whole last inside s.0 other s.1 s.2 in
        no_better_chains t w.0 other (b.best w.0 w.1) w.2 better;
  }

  pub last_stop : (stop : ℕ) → IsLastOfGraph P heads links stop → IsLastStop P.grammar P.text stop
  last_stop stop b = record {
    shallow = shallow;
    none = λ t s. let w = accepts_whole P facts base heads links graph [] reading (start_run P facts fresh zero_place) rank most ranked k whole last inside s.0 t s.1 s.2 in b.none w.0 w.1;
    stops = stops_sound P facts met heads links graph stop b.stops;
    greatest = λ other s. b.greatest other (stops_whole P facts base heads links graph [] reading (start_run P facts fresh zero_place) rank most ranked k whole last inside s.0 other s.1 s.2);
  }
