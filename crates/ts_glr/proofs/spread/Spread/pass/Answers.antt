use Rattle.ts_glr.proofs.SpreadLemmas.{on_by, over_by, deep_by, spread_on, spread_over, spread_deep}
use Rattle.ts_glr.proofs.spread.Spread.pass.Goals as goal

pub follow_place-requires-clause-ready : goal.follow_place-requires-clause-ready
follow_place-requires-clause-ready g c = let r = c.requires.ready in (r.2.base, r.2.most, r.2.can)

pub returns-in-TooDeep-clause-passes : goal.returns-in-TooDeep-clause-passes
returns-in-TooDeep-clause-passes g c first h p =
    let t = c.args.table.now in
    let text = g.L.Text.Content.bytes c.args.text.now in
    spread_deep t text c.args.setting.now first h c.args.self.now (record { graph = c.follow_place.new.graph; frontier = c.follow_place.new.frontier; ends = c.args.self.now.ends; sights = c.follow_place.new.sights; numbers = c.args.self.now.numbers; place = c.args.self.now.place }) p
    (deep_by t text p.base p.most c.args.self.now.graph c.follow_place.new.graph c.args.self.now.place c.args.self.now.frontier c.follow_place.new.frontier c.follow_place.new.sights c.in_ok-next.next (c.in_ok-next.ensures.follows p.base p.most p.can) c.in-TooDeep.is)

pub see_ends-requires : goal.see_ends-requires
see_ends-requires g c =
    let t = c.args.table.now in
    let text = g.L.Text.Content.bytes c.args.text.now in
    let p = c.requires.ready.2 in (
      text,
      p.base,
      c.args.self.now.place,
      (over_by t text p.base p.most c.args.self.now.graph c.follow_place.new.graph c.args.self.now.place c.args.self.now.frontier c.follow_place.new.frontier c.follow_place.new.sights c.in_ok-next.next (c.in_ok-next.ensures.follows p.base p.most p.can) c.in-Nowhere.is).followed.seen,
    )

pub returns-in_ok-see_ends-in-Nowhere-clause-passes : goal.returns-in_ok-see_ends-in-Nowhere-clause-passes
returns-in_ok-see_ends-in-Nowhere-clause-passes g c first h p =
    let t = c.args.table.now in
    let text = g.L.Text.Content.bytes c.args.text.now in
    spread_over t text c.args.setting.now first h c.ends_stay.ensures.grows c.ends_stay.ensures.passes c.args.self.now p c.follow_place.new.graph c.follow_place.new.frontier c.follow_place.new.sights c.see_ends.new.ends c.in_ok-see_ends-in-Nowhere.ensures c.args.self.now.place
    (over_by t text p.base p.most c.args.self.now.graph c.follow_place.new.graph c.args.self.now.place c.args.self.now.frontier c.follow_place.new.frontier c.follow_place.new.sights c.in_ok-next.next (c.in_ok-next.ensures.follows p.base p.most p.can) c.in-Nowhere.is)

pub see_ends-requires-in-Place : goal.see_ends-requires-in-Place
see_ends-requires-in-Place g c =
    let t = c.args.table.now in
    let text = g.L.Text.Content.bytes c.args.text.now in
    let p = c.requires.ready.2 in (
      text,
      p.base,
      c.args.self.now.place,
      (on_by t text p.base p.most c.args.self.now.graph c.follow_place.new.graph c.args.self.now.place c.args.self.now.frontier c.follow_place.new.frontier c.follow_place.new.sights c.in_ok-next.next (c.in_ok-next.ensures.follows p.base p.most p.can) c.in-Place.place c.in-Place.is).followed.seen,
    )

pub returns-in_ok-see_ends-in-Place-clause-passes : goal.returns-in_ok-see_ends-in-Place-clause-passes
returns-in_ok-see_ends-in-Place-clause-passes g c first h p =
    let t = c.args.table.now in
    let text = g.L.Text.Content.bytes c.args.text.now in
    spread_on t text c.args.setting.now first h c.ends_stay.ensures.grows c.ends_stay.ensures.passes c.args.self.now p c.follow_place.new.graph c.follow_place.new.frontier c.follow_place.new.sights c.see_ends-in-Place.new.ends c.in_ok-see_ends-in-Place.ensures c.in-Place.place
    (on_by t text p.base p.most c.args.self.now.graph c.follow_place.new.graph c.args.self.now.place c.args.self.now.frontier c.follow_place.new.frontier c.follow_place.new.sights c.in_ok-next.next (c.in_ok-next.ensures.follows p.base p.most p.can) c.in-Place.place c.in-Place.is)
