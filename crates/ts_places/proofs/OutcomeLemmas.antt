-- What ended while a graph grows, and what it tells in the end.
use Rattle.std.proofs.Common.{◌≡◌, ◌∙◌, sym, refl, subst, ℕ, ◌<◌, ◌≤◌, ◌⊎◌, inl, inr, ⊎_elim, List, [], slice_get, Option, Some, None, arith}
use Rattle.std.specs.List.{Contains}
use Rattle.ts_base.specs.Bytes.{Bytes}
use Rattle.ts_core.specs.declared.symbol.Symbol.{Symbol}
use Rattle.spec_lexing.specs.Lexing.{token}
use Rattle.spec_tables.specs.Actions.{accept}
use Rattle.spec_trees.specs.declared.tree.Tree.{Tree}
use Rattle.spec_trees.specs.Trees.{bare}
use Rattle.spec_trees.specs.Choice.{Better}
use Rattle.spec_runs.specs.Configurations.{HasMove}
use Rattle.spec_graph.specs.Laying.{Parsing, SeesAt}
use Rattle.spec_graph.specs.Links.{IsAt}
use Rattle.spec_graph.specs.Outcomes.{GraphAccepts, IsBestOfGraph, IsLastOfGraph}
use Rattle.spec_graph.proofs.LayLemmas.{order_cases}
use Rattle.ts_graph.specs.declared.view.GraphView.{GraphView}
use Rattle.ts_graph.specs.Down.{KeepNumbers}
use Rattle.ts_table.specs.declared.view.ParseTable.{ParseTable}
use Rattle.ts_reductions.specs.SoundLinks.{bare_links}
use Rattle.ts_reductions.specs.Laying.{HasPassed}
use Rattle.spec_crossing.specs.Resting.{AccountsForGraph}
use Rattle.ts_reductions.specs.Sound.{Base, parsing_from, parsing_of}
use Rattle.ts_places.specs.Looking.{IsHeadAt, StopsThere}
use Rattle.ts_places.proofs.SmallLemmas.{none_contained}
use Rattle.ts_places.specs.declared.ends.Ends.{Ends}
use Rattle.ts_places.specs.Choosing.{IsPastStuck}
use Rattle.ts_places.specs.Ends.{Accepts, AreEnds, AreLater}
use Rattle.ts_places.specs.Best.{AcceptsAmong, IsBestOn}

-- ---- before the start

pub nothing_ended : (t : ParseTable) (text : Bytes) (g : GraphView) (from : ℕ) (ends : Ends) → ends.accepting.items ≡ [] → ends.stuck ≡ None → AreEnds t text g from from ends
nothing_ended t text g from ends none no_place = record {
  each = λ h w. absurd (none_contained h (subst (λ (l : List ℕ). Contains l h) none w));
  all = λ h a ge lt. absurd (omega (arith, ge, lt));
  stops = λ q is. absurd (let e : None ≡ Some q = sym no_place ∙ is in cc);
  last = λ h look q s ge lt. absurd (omega (arith, ge, lt));
}

-- ---- while the graph grows

module _ (t : ParseTable) (text : Bytes) (base : Base) (old new : GraphView) where
  abbrev P : Parsing
  P = parsing_of t text

  move_at : (h : ℕ) (read : List ℕ) (place : ℕ) (a : IsAt P old.heads h read place) → slice_get new.heads h ≡ Some a.head → IsAt P new.heads h read place
  move_at h read place a is = record { head = a.head; is = is; state = a.state; place_is = a.place_is }

  back_at : (h : ℕ) (read : List ℕ) (place : ℕ) (a : IsAt P new.heads h read place) → slice_get old.heads h ≡ Some a.head → IsAt P old.heads h read place
  back_at h read place a is = record { head = a.head; is = is; state = a.state; place_is = a.place_is }

  module _ (keep : KeepNumbers old.heads new.heads) where
    pub still_accepts : (h : ℕ) → (a : Accepts P old.heads h) → (b : Accepts P new.heads h) × (b.place ≡ a.place)
    still_accepts h a = (
      record {
        read = a.read;
        place = a.place;
        at = move_at h a.read a.place a.at (keep h a.at.head a.at.is);
        symbol = a.symbol;
        pad = a.pad;
        size = a.size;
        sees = a.sees;
        stays = a.stays;
      },
      refl,
    )

    still_stops : (look h q : ℕ) → StopsThere t text old look h q → StopsThere t text new look h q
    still_stops look h q s = record { read = s.read; at = move_at h s.read look s.at (keep h s.at.head s.at.is); far = s.far; sees = s.sees; stop_is = s.stop_is }

    module _ (from to : ℕ) (ends : Ends) (later : AreLater t text base old new to)
        (quiet : (h : ℕ) → HasPassed (parsing_from t text base) new h → (look stop : ℕ) → StopsThere t text new look h stop → ⊥)
        (idle : (h : ℕ) → HasPassed (parsing_from t text base) new h → (read : List ℕ) (place : ℕ) (symbol : Symbol) (pad size : ℕ) → IsAt P new.heads h read place → SeesAt P read place (token symbol pad size) → HasMove t.grammar read symbol.0 → ⊥)
        (e : AreEnds t text old from to ends) where
      accepts_still : (h : ℕ) (a : Accepts P new.heads h) → from ≤ a.place → a.place < to → Contains ends.accepting.items h
      accepts_still h a ge lt = by (later h a.at.head a.at.is)
        where
          by : (slice_get old.heads h ≡ Some a.at.head) ⊎ ((to ≤ a.at.head.place) ⊎ HasPassed (parsing_from t text base) new h) → Contains ends.accepting.items h
          by (inl is) =
              e.all h (record {
                read = a.read;
                place = a.place;
                at = back_at h a.read a.place a.at is;
                symbol = a.symbol;
                pad = a.pad;
                size = a.size;
                sees = a.sees;
                stays = a.stays;
              }) ge lt
          by (inr (inl le)) = absurd (let p = a.at.place_is in omega (arith, le, p, lt))
          by (inr (inr passed)) = absurd (idle h passed a.read a.place a.symbol a.pad a.size a.at a.sees (accept, a.stays))

      stops_still : (h look q : ℕ) → StopsThere t text new look h q → from ≤ look → look < to → IsPastStuck ends.stuck q
      stops_still h look q s ge lt = by (later h s.at.head s.at.is)
        where
          by : (slice_get old.heads h ≡ Some s.at.head) ⊎ ((to ≤ s.at.head.place) ⊎ HasPassed (parsing_from t text base) new h) → IsPastStuck ends.stuck q
          by (inl is) = e.last h look q (record { read = s.read; at = back_at h s.read look s.at is; far = s.far; sees = s.sees; stop_is = s.stop_is }) ge lt
          by (inr (inl le)) = absurd (let p = s.at.place_is in omega (arith, le, p, lt))
          by (inr (inr passed)) = absurd (quiet h passed look q s)

      pub ends_still : AreEnds t text new from to ends
      ends_still = record {
        each = λ h w. let r = e.each h w in let b = still_accepts h r.0 in let ge = r.1 in let lt = r.2 in let p = b.1 in (b.0, omega (arith, ge, p), omega (arith, lt, p));
        all = accepts_still;
        stops = λ q is. let r = e.stops q is in (r.0, r.1, still_stops r.1 r.0 q r.2, r.3, r.4);
        last = stops_still;
      }

-- ---- past places where no head stands

module _ (t : ParseTable) (text : Bytes) (g : GraphView) (from to next : ℕ) (ends : Ends) (none : (place h : ℕ) → to ≤ place → place < next → IsHeadAt g place h → ⊥) (le : to ≤ next) (e : AreEnds t text g from to ends) where
  pub ends_passed : AreEnds t text g from next ends
  ends_passed = record {
    each = λ h w. let r = e.each h w in let lt = r.2 in (r.0, r.1, omega (arith, lt, le));
    all = λ h a ge lt. ⊎_elim (λ low. e.all h a ge low) (λ high. absurd (none a.place h high lt (a.at.head, a.at.is, a.at.place_is))) (order_cases a.place to);
    stops = λ q is. let r = e.stops q is in let lt = r.4 in (r.0, r.1, r.2, r.3, omega (arith, lt, le));
    last = λ h look q s ge lt. ⊎_elim (λ low. e.last h look q s ge low) (λ high. absurd (none look h high lt (s.at.head, s.at.is, s.at.place_is))) (order_cases look to);
  }

-- ---- in the end

module _ (t : ParseTable) (text : Bytes) (g : GraphView) (to : ℕ) (ends : Ends) (best : Option Tree) (none : (place h : ℕ) → to ≤ place → IsHeadAt g place h → ⊥) (e : AreEnds t text g 0 to ends) (is : IsBestOn t text g ends.accepting.items best) where
  abbrev Q : Parsing
  Q = parsing_of t text

  before : (h place : ℕ) → IsHeadAt g place h → place < to
  before h place at = ⊎_elim (λ lt. lt) (λ le. absurd (none place h le at)) (order_cases place to)

  among : (u : Tree) → GraphAccepts Q g.heads (bare_links g.links) u → AcceptsAmong t text g ends.accepting.items u
  among u a = (a, e.all a.head (record { read = a.read; place = a.place; at = a.at; symbol = a.symbol; pad = a.pad; size = a.size; sees = a.sees; stays = a.stays }) (omega arith) (before a.head a.place (a.at.head, a.at.is, a.at.place_is)))

  pub best_of_graph : (b : Tree) → best ≡ Some b → IsBestOfGraph Q g.heads (bare_links g.links) (bare b)
  best_of_graph b best_is = record {
    accepts = (is.accepted b best_is).0;
    best = λ u a better.
        let w = is.all u (among u a) in
        let f : Some w.0 ≡ Some b = sym w.1 ∙ best_is in
        let one : w.0 ≡ b = cc in
        w.2 (subst (λ (x : Tree). Better u (bare x)) (sym one) better);
  }

  pub last_of_graph : best ≡ None → (stop : ℕ) → ends.stuck ≡ Some stop → IsLastOfGraph Q g.heads (bare_links g.links) stop
  last_of_graph no_best stop stuck = record {
    none = λ u a. let w = is.all u (among u a) in let f : None ≡ Some w.0 = sym no_best ∙ w.1 in cc;
    stops = let r = e.stops stop stuck in let s = r.2 in record { head = r.0; read = s.read; place = r.1; at = s.at; far = s.far; sees = s.sees; stop_is = s.stop_is };
    greatest = λ other s.
        let there : StopsThere t text g s.place s.head other = record { read = s.read; at = s.at; far = s.far; sees = s.sees; stop_is = s.stop_is } in
        let r = e.last s.head s.place other there (omega arith) (before s.head s.place (s.at.head, s.at.is, s.at.place_is)) in
        let f : Some r.0 ≡ Some stop = sym r.1 ∙ stuck in
        let one : r.0 ≡ stop = cc in
        let le = r.2 in
        omega (arith, le, one);
  }

-- ---- what is told of a graph that is followed from a base on

module _ (t : ParseTable) (text : Bytes) (base : Base) (g : GraphView) (to : ℕ) (ends : Ends) (best : Option Tree) (before after : Option ℕ) (e : AreEnds t text g base.place to ends)
    (is : IsBestOn t text g ends.accepting.items best) (olds : (q : ℕ) → IsPastStuck before q → IsPastStuck after q) (news : (q : ℕ) → IsPastStuck ends.stuck q → IsPastStuck after q)
    (from : (q : ℕ) → after ≡ Some q → (before ≡ Some q) ⊎ (ends.stuck ≡ Some q)) where
  abbrev S : Parsing
  S = parsing_from t text base

  there : (h : ℕ) (read : List ℕ) (place : ℕ) → IsAt S g.heads h read place → IsAt (parsing_of t text) g.heads h read place
  there h read place a = record { head = a.head; is = a.is; state = a.state; place_is = a.place_is }

  here : (h : ℕ) (read : List ℕ) (place : ℕ) → IsAt (parsing_of t text) g.heads h read place → IsAt S g.heads h read place
  here h read place a = record { head = a.head; is = a.is; state = a.state; place_is = a.place_is }

  accepts_there : (u : Tree) → GraphAccepts S g.heads (bare_links g.links) u → GraphAccepts (parsing_of t text) g.heads (bare_links g.links) u
  accepts_there u a = record {
    head = a.head;
    read = a.read;
    place = a.place;
    at = there a.head a.read a.place a.at;
    symbol = a.symbol;
    pad = a.pad;
    size = a.size;
    sees = a.sees;
    stays = a.stays;
    way = a.way;
    is = a.is;
    before = a.before;
    root = a.root;
    after = a.after;
    trees_are = a.trees_are;
    before_extras = a.before_extras;
    root_fills = a.root_fills;
    after_extras = a.after_extras;
    tree_is = a.tree_is;
  }

  accepts_here : (u : Tree) → GraphAccepts (parsing_of t text) g.heads (bare_links g.links) u → GraphAccepts S g.heads (bare_links g.links) u
  accepts_here u a = record {
    head = a.head;
    read = a.read;
    place = a.place;
    at = here a.head a.read a.place a.at;
    symbol = a.symbol;
    pad = a.pad;
    size = a.size;
    sees = a.sees;
    stays = a.stays;
    way = a.way;
    is = a.is;
    before = a.before;
    root = a.root;
    after = a.after;
    trees_are = a.trees_are;
    before_extras = a.before_extras;
    root_fills = a.root_fills;
    after_extras = a.after_extras;
    tree_is = a.tree_is;
  }

  pub ends_counted : AccountsForGraph S g.heads (bare_links g.links) to best before after
  unfolding accepts_there
  ends_counted = record {
    accepted = λ u a ge lt. is.all u (
      accepts_there u a,
      e.all a.head (record {
        read = a.read;
        place = a.place;
        at = there a.head a.read a.place a.at;
        symbol = a.symbol;
        pad = a.pad;
        size = a.size;
        sees = a.sees;
        stays = a.stays;
      }) ge lt,
    );
    tree_from = λ b best_is. accepts_here (bare b) (is.accepted b best_is).0;
    places = λ q s ge lt. news q (e.last s.head s.place q (record { read = s.read; at = there s.head s.read s.place s.at; far = s.far; sees = s.sees; stop_is = s.stop_is }) ge lt);
    past = olds;
    stuck_from = λ q after_is. ⊎_elim (λ b. inl b) (λ n.
        let r = e.stops q n in
        let s = r.2 in
        inr (record { head = r.0; read = s.read; place = r.1; at = here r.0 s.read r.1 s.at; far = s.far; sees = s.sees; stop_is = s.stop_is })) (from q after_is);
  }

-- where no head accepts there is no tree
pub none_is_best : (t : ParseTable) (text : Bytes) (g : GraphView) (heads : List ℕ) → heads ≡ [] → IsBestOn t text g heads None
none_is_best t text g heads none = record {
  accepted = λ b is. absurd (no_tree b is);
  root = λ b is. absurd (no_tree b is);
  form = λ b is. absurd (no_tree b is);
  all = λ u a. absurd (none_contained a.0.head (subst (λ (l : List ℕ). Contains l a.0.head) none a.1));
}
  where
    no_tree : (b : Tree) → ◌≡◌ {A = Option Tree} None (Some b) → ⊥
    no_tree b is = cc
