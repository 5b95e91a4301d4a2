use Rattle.std.proofs.Common.{sym, subst, List, ℕ, ◌++◌}
use Rattle.ts_places.specs.Looking.{AreHeadsAt}
use Rattle.ts_places.proofs.AgainLemmas.{led_stays}
use Rattle.ts_places.proofs.SightLemmas.{all_tops}
use Rattle.ts_places.proofs.StayLemmas.{sights_still}
use Rattle.ts_places.proofs.SweepLemmas.{has_all, listed_stand}
use Rattle.ts_places.proofs.sweeping.look_new.Goals as goal

pub look_all-requires-clause-stand : goal.look_all-requires-clause-stand
look_all-requires-clause-stand g c =
    (c.args.place, listed_stand c.args.graph.now c.args.from c.args.place c.as_slice-heads.result.now (subst (λ (l : List ℕ). AreHeadsAt c.args.graph.now c.args.from c.args.place l) (sym c.as_slice-heads.ensures.value) c.in_ok-heads_at.ensures))

pub returns-clause-sights : goal.returns-clause-sights
returns-clause-sights g c = λ base old from_is keep sound a led.
    let are = subst (λ (l : List ℕ). AreHeadsAt c.args.graph.now c.args.from c.args.place l) (sym c.as_slice-heads.ensures.value) c.in_ok-heads_at.ensures in
    let tops = all_tops c.graph_laws_hold.ensures.look c.args.table.now (g.L.Text.Content.bytes c.args.text.now) old (base, a.sound) c.args.place a.heads c.args.sights.now a.sights a.all in
    let led_now = led_stays c.args.table.now (g.L.Text.Content.bytes c.args.text.now) old c.args.graph.now keep c.args.sights.now.tops.items c.args.kept.now.room (λ top there. let x = tops.each top there in (x.at.head, x.at.is)) led in
    record {
      sound = sound;
      late = a.late;
      heads = a.heads ++ c.as_slice-heads.result.now;
      sights = c.in_ok-look_all.ensures.sights c.args.place a.heads (listed_stand c.args.graph.now c.args.from c.args.place c.as_slice-heads.result.now are)
          (sights_still c.args.table.now (g.L.Text.Content.bytes c.args.text.now) old c.args.graph.now keep c.args.place a.heads a.sights.stand c.args.sights.now a.sights) led_now;
      all = has_all old c.args.graph.now c.args.place c.args.from a.heads c.as_slice-heads.result.now from_is keep a.all are;
    }
