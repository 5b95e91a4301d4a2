-- A reduction that stays at a head is due, over a way of extras and then of what it takes.
use Rattle.std.proofs.Common.{◌≡◌, ◌∙◌, sym, ap, refl, subst, ℕ, ◌<◌, List, [], ◌∷◌, ◌++◌, length, reverse, slice_get, Option, Some, arith}
use Rattle.std.proofs.lemmas.List.{length-reverse, length-map, reverse-reverse}
use Rattle.ts_core.specs.declared.flat.Production.{Production}
use Rattle.ts_core.specs.declared.flat.Step.{Step}
use Rattle.ts_core.specs.declared.symbol.Symbol.{Symbol}
use Rattle.spec_grammar.specs.Symbols.{production_at}
use Rattle.spec_lexing.specs.Lexing.{token}
use Rattle.spec_tables.specs.Actions.{Act, reduce}
use Rattle.spec_trees.specs.Made.{filling, step_symbols, BeginsFilled}
use Rattle.spec_runs.specs.Configurations.{AreExtras}
use Rattle.spec_runs.specs.Moves.{StandsBefore, EndsWithProduction}
use Rattle.spec_graph.specs.declared.graph.Head.{Head}
use Rattle.spec_graph.specs.declared.graph.Link.{Link}
use Rattle.spec_graph.specs.States.{LeadsTo, ShareState}
use Rattle.spec_graph.specs.Laying.{Parsing, SeesAt, ReducesAt, some}
use Rattle.spec_graph.specs.Keys.{Key}
use Rattle.spec_graph.specs.Links.{IsAt, IsWay, way_trees, IsGraph, IsDue}
use Rattle.spec_graph.proofs.SightLemmas.{Facts, sees_shared, stands_before}
use Rattle.spec_graph.proofs.EntryLemmas.{same_front}
use Rattle.spec_graph.proofs.LayLemmas.{IsBase, lays_read, extras_same}
use Rattle.spec_graph.proofs.GraphLemmas.{share_head, at_place, WayLaid, ways}
use Rattle.spec_graph.proofs.OutcomeLemmas.{own_trees}

module _ (P : Parsing) (facts : Facts P) (base : IsBase P) (heads : List Head) (links : List Link) (graph : IsGraph P heads links) where
  -- each head has symbols
  read_at : (h : ℕ) (head : Head) → slice_get heads h ≡ Some head → (read : List ℕ) × IsAt P heads h read head.place
  read_at h head at = by (graph.down h head at).0 (graph.down h head at).1
    where
      same : (n : ℕ) (read : List ℕ) (place : ℕ) → n ≡ h → IsAt P heads n read place → (seen : List ℕ) × IsAt P heads h seen head.place
      same n read place is a =
          let there : slice_get heads h ≡ Some a.head = ap (λ (m : ℕ). slice_get heads m) (sym is) ∙ a.is in
          let f : Some a.head ≡ Some head = sym there ∙ at in
          let one : a.head ≡ head = cc in
          (read, record { head = head; is = at; state = subst (λ (x : Head). LeadsTo P.goto read x.state) one a.state; place_is = refl })

      by : (way : List Link) → IsWay links h way 0 → (seen : List ℕ) × IsAt P heads h seen head.place
      by [] w = same 0 [] 0 (sym w) graph.start
      by (l ∷ way) w = let k = graph.linked l w.0 in same l.above k.over k.to w.1 k.above

  bottom_of : (w : List Link) (h c : ℕ) (head : Head) → slice_get heads h ≡ Some head → IsWay links h w c → (low : Head) × (slice_get heads c ≡ Some low)
  bottom_of [] h c head at is = (head, ap (λ (x : ℕ). slice_get heads x) (sym is) ∙ at)
  bottom_of (l ∷ w) h c head at is = let m = (graph.linked l is.0).below in bottom_of w l.below c m.head m.is is.2

  module _ (rank : ℕ → ℕ) (k : Key) (number left : ℕ) (p : Production) (h e b : ℕ) (outer inner : List Link) (read : List ℕ) (s : Symbol) (pad size : ℕ)
      (seen : IsAt P heads h read k.look) (sees : SeesAt P read k.look (token s pad size)) (stays : Act P.grammar read s.0 (reduce number)) (is : production_at P.grammar number ≡ Some (left, p)) (ranked : k.rank ≡ rank left)
      (lifted : IsWay links h outer e) (extras : AreExtras (way_trees outer)) (taken_off : IsWay links e inner b)
      (some_taken : 0 < length (way_trees inner)) (begins : BeginsFilled (way_trees inner)) (ends : BeginsFilled (reverse (way_trees inner))) (count : length (filling (way_trees inner)) ≡ length p.steps)
      (stands : (low : Head) → slice_get heads b ≡ Some low → low.place ≡ k.begins) where
    middle_head : (low : Head) × (slice_get heads e ≡ Some low)
    middle_head = bottom_of outer h e seen.head seen.is lifted

    bottom_head : (low : Head) × (slice_get heads b ≡ Some low)
    bottom_head = bottom_of inner e b middle_head.0 middle_head.1 taken_off

    low_at : (seen : List ℕ) × IsAt P heads b seen bottom_head.0.place
    low_at = read_at b bottom_head.0 bottom_head.1

    abbrev now : List ℕ
    now = low_at.0

    bottom : IsAt P heads b now k.begins
    bottom = at_place P facts heads b now now bottom_head.0.place k.begins refl (stands bottom_head.0 bottom_head.1) low_at.1

    abbrev end : ℕ
    end = middle_head.0.place

    mid_at : (seen : List ℕ) × IsAt P heads e seen end
    mid_at = read_at e middle_head.0 middle_head.1

    low : WayLaid P facts base heads b now k.begins (way_trees inner) e end
    low = ways P facts base heads links b now k.begins bottom inner (way_trees inner) e end mid_at.0 mid_at.1 taken_off (own_trees P facts base heads links graph inner e b taken_off)

    high : WayLaid P facts base heads e low.now end (way_trees outer) h k.look
    high = ways P facts base heads links e low.now end low.at outer (way_trees outer) h k.look read seen lifted (own_trees P facts base heads links graph outer h e lifted)

    flat_read : high.now ≡ low.now
    flat_read = extras_same P facts base (way_trees outer) low.now end k.look high.now extras high.lays

    abbrev over : List ℕ
    over = low.now

    top : IsAt P heads h over k.look
    top = at_place P facts heads h high.now over k.look k.look flat_read refl high.at

    share : ShareState P.goto read over
    share = share_head P facts heads h read over k.look k.look seen top

    acts : Act P.grammar over s.0 (reduce number)
    acts = facts.states.acts read over s.0 (reduce number) share stays

    over_is : over ≡ filling (way_trees inner) ++ now
    over_is = lays_read P facts now k.begins (way_trees inner) end over low.lays

    ended : EndsWithProduction P.grammar over number
    ended = facts.laws.runs.reduces P.grammar over s.0 number acts

    same_production : ended.production ≡ p
    same_production =
        let f : ◌≡◌ {A = Option (ℕ × Production)} (Some (ended.left, ended.production)) (Some (left, p)) = sym ended.at ∙ is in
        let both : ◌≡◌ {A = ℕ × Production} (ended.left, ended.production) (left, p) = cc in
        ap (λ (x : ℕ × Production). x.1) both

    steps_long : length (reverse (step_symbols p)) ≡ length p.steps
    steps_long = length-reverse (step_symbols p) ∙ length-map p.steps (λ (step : Step). step.symbol.0)

    fills : filling (way_trees inner) ≡ reverse (step_symbols p)
    fills = same_front (filling (way_trees inner)) (reverse (step_symbols p)) now ended.earlier (count ∙ sym steps_long)
        (sym over_is ∙ ended.read_is ∙ ap (λ (q : Production). reverse (step_symbols q) ++ ended.earlier) same_production)

    folds : ReducesAt P over k.look number left p now
    folds = record {
      symbol = s;
      pad = pad;
      size = size;
      sees = sees_shared P facts read over share k.look (token s pad size) sees;
      stays = acts;
      at = is;
      read_is = over_is ∙ ap (λ (l : List ℕ). l ++ now) fills;
    }

    due : IsDue P rank heads links k number left p h e b outer inner over now end
    due = record {
      top = top;
      middle = low.at;
      bottom = bottom;
      lifted = lifted;
      taken_off = taken_off;
      all_extras = extras;
      taken = some (let n = length-reverse (way_trees inner) in omega (arith, n, some_taken)) ends (subst BeginsFilled (sym (reverse-reverse (way_trees inner))) begins);
      reduces = folds;
      count = count;
      ranked = ranked;
    }

    before : StandsBefore P.grammar now left
    before = stands_before P facts over k.look number left p now folds

    pub asked : (seen lower : List ℕ) × (place : ℕ) × IsDue P rank heads links k number left p h e b outer inner seen lower place × (filling (way_trees inner) ≡ reverse (step_symbols p)) × StandsBefore P.grammar lower left
    asked = (over, now, end, due, fills, before)
