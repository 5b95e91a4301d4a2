-- What heads see is seen still where the graph has grown.
use Rattle.std.proofs.Common.{ℕ, List, Option, Some, None}
use Rattle.std.specs.List.{Contains}
use Rattle.ts_base.specs.Bytes.{Bytes}
use Rattle.spec_graph.specs.Laying.{Parsing}
use Rattle.ts_graph.specs.declared.view.GraphView.{GraphView}
use Rattle.ts_graph.specs.Down.{KeepNumbers}
use Rattle.ts_table.specs.declared.view.ParseTable.{ParseTable}
use Rattle.ts_reductions.specs.Sound.{parsing_of}
use Rattle.ts_places.specs.declared.sights.Sights.{Sights}
use Rattle.ts_places.specs.Looking.{AllStandAt, StopsThere, IsLastAmong, AreSights}
use Rattle.ts_places.proofs.GrowLemmas.{at_stays, at_back, sight_stays}

module _ (t : ParseTable) (text : Bytes) (old new : GraphView) (keep : KeepNumbers old.heads new.heads) (look : ℕ) (heads : List ℕ) (stand : AllStandAt old look heads) where
  abbrev P : Parsing
  P = parsing_of t text

  stops_back : (h stop : ℕ) → Contains heads h → StopsThere t text new look h stop → StopsThere t text old look h stop
  stops_back h stop there s =
      let st = stand h there in
      record { read = s.read; at = at_back P old.heads new.heads keep h st.0 st.1 s.read look s.at; far = s.far; sees = s.sees; stop_is = s.stop_is }

  stops_still : (h stop : ℕ) → StopsThere t text old look h stop → StopsThere t text new look h stop
  stops_still h stop s = record { read = s.read; at = at_stays P old.heads new.heads keep h s.read look s.at; far = s.far; sees = s.sees; stop_is = s.stop_is }

  last_still : (o : Option ℕ) → IsLastAmong t text old look heads o → IsLastAmong t text new look heads o
  last_still None none = λ h stop there s. none h stop there (stops_back h stop there s)
  last_still (Some last) l = ((l.0.0, l.0.1, stops_still l.0.0 last l.0.2), (λ h stop there s. l.1 h stop there (stops_back h stop there s)))

  pub sights_still : (s : Sights) → AreSights t text old look heads s → AreSights t text new look heads s
  sights_still s a = record {
    stand = λ h there. let st = a.stand h there in (st.0, keep h st.0 st.1, st.2);
    some = λ h there.
        let w = a.some h there in
        record { read = w.read; at = at_stays P old.heads new.heads keep h w.read look w.at; found = w.found; sees = w.sees };
    count = a.count;
    each = λ k top span x y. let w = a.each k top span x y in (sight_stays t text old new keep look top span w.0, w.1);
    all = λ h read symbol pad size there at sees. let st = a.stand h there in a.all h read symbol pad size there (at_back P old.heads new.heads keep h st.0 st.1 read look at) sees;
    stop = last_still s.stop a.stop;
  }
