use Rattle.std.proofs.Common.{ℕ, ◌≤◌, sym, refl, subst, length, arith}
use Rattle.spec_trees.specs.Made.{most_span}
use Rattle.ts_gss.specs.Stacks.{stack_at, state_on, AreExact}
use Rattle.ts_steps.specs.declared.found.FoundToken.{FoundToken}
use Rattle.ts_steps.specs.LiveHeads.{config_of, packed_of}
use Rattle.ts_steps.specs.Heads.{IsOwnHead}
use Rattle.ts_steps.specs.Looking.{IsTokenAhead}
use Rattle.ts_steps.specs.Reparsing.{IsForkFrom, StandsFor}
use Rattle.ts_steps.proofs.ReparseLemmas.{stands_on, stands_taken, ends_result, ends_fork, step_falls, taken_falls, taken_place, step_place, taken_some, goes_on, goes_reduced_on, goes_kept, ends_at, none_known, sees_kept, lengthened_some, lengthened_falls, stands_lengthened, has_some, has_one}
use Rattle.ts_steps.proofs.LayerLemmas.{exact_alone}
use Rattle.ts_steps.proofs.ThroughLemmas.{gone_none, gone_on, gone_over, gone_result}
use Rattle.ts_steps.proofs.reparsing.reparse.Goals as goal

pub loop-next-smaller-in-Some : goal.loop-next-smaller-in-Some
loop-next-smaller-in-Some g c =
    let text = g.L.Text.Content.bytes c.args.text.now in
    let long = c.requires.setting.size_is in
    let w = taken_some c.args.table.now c.args.setting.now.size (length text) long c.loop-next.graph c.take.new.graph c.loop-next.head
    (g.O.Offers.gives c.loop-next.offers c.loop-next.head.place (state_on (stack_at c.loop-next.graph c.loop-next.head.top))) c.in_ok-next.field-0 c.in-Some.next c.in-Some.is c.in_ok-next.ensures.taken in
    taken_falls c.laws_hold.ensures c.args.table.now c.stands.ensures.fit (c.unit_ranks.ensures c.args.table.now.grammar c.stands.ensures.fit) text c.loop-next.graph c.take.new.graph c.loop-next.head c.in-Some.next c.loop-next.invariant.live w.0 w.2

pub loop-next-preserved-in-Some : goal.loop-next-preserved-in-Some
loop-next-preserved-in-Some g c =
    let text = g.L.Text.Content.bytes c.args.text.now in
    let long = c.requires.setting.size_is in
    let h = c.loop-next.head in
    let state = state_on (stack_at c.loop-next.graph h.top) in
    let w = taken_some c.args.table.now c.args.setting.now.size (length text) long c.loop-next.graph c.take.new.graph h
    (g.O.Offers.gives c.loop-next.offers h.place state) c.in_ok-next.field-0 c.in-Some.next c.in-Some.is c.in_ok-next.ensures.taken in
    let far = taken_place c.args.table.now (length text) c.loop-next.graph c.take.new.graph h w.0 c.in-Some.next w.2 in
    record {
      made = c.look_once-lexed.ensures.made;
      least = (let least = c.in_ok-next.ensures.least in omega (arith, least, far));
      gives = λ place at t given. c.loop-next.invariant.gives place at t (c.in_ok-next.ensures.gives place at t given);
      lends = λ place at symbol s given. c.loop-next.invariant.lends place at symbol s (c.in_ok-next.ensures.lends place at symbol s given);
      live = w.2.taken.live;
      one = λ one. has_one c.loop-next.graph c.take.new.graph h.top c.in_ok-next.field-0 c.in-Some.next c.in-Some.is c.in_ok-next.ensures.one (c.loop-next.invariant.one one);
      later = (let before = c.loop-next.invariant.later in omega (arith, before, far));
      weight = (let fall = taken_falls c.laws_hold.ensures c.args.table.now c.stands.ensures.fit (c.unit_ranks.ensures c.args.table.now.grammar c.stands.ensures.fit) text c.loop-next.graph c.take.new.graph h c.in-Some.next c.loop-next.invariant.live w.0 w.2 in let most = c.loop-next.invariant.weight in omega (arith, fall, most));
      stands = λ states are honest lent first.
          stands_taken c.laws_hold.ensures c.sound_laws_hold.ensures c.pushed_whole.ensures.meet c.only_runs_meet.ensures.joined c.args.table.now states text (config_of c.args.graph.now c.args.start) c.loop-next.graph c.take.new.graph h c.in-Some.next w.0 c.stands.ensures are
          c.loop-next.invariant.live (c.loop-next.invariant.stands states are honest lent first) w.2
          (honest h.place state w.0 (c.loop-next.invariant.gives h.place state w.0 w.1));
      layers = λ states are honest lent first met.
          let graph = c.loop-next.graph in
          let before = has_some (AreExact (stack_at graph h.top)) c.in_ok-next.field-0 c.in-Some.next c.in-Some.is c.in_ok-next.ensures.exact in
          let after : AreExact (stack_at c.take.new.graph c.in-Some.next.top) = subst AreExact (sym w.2.taken.put) (refl, before) in
          let here : StandsFor c.args.table.now states text (config_of graph h) graph h = record { meet = c.only_runs_meet.ensures.same c.args.table.now.grammar text (config_of graph h); stand = (c.loop-next.invariant.stands states are honest lent first).stand } in
          let now = stands_taken c.laws_hold.ensures c.sound_laws_hold.ensures c.pushed_whole.ensures.meet c.only_runs_meet.ensures.joined c.args.table.now states text (config_of graph h) graph c.take.new.graph h c.in-Some.next w.0 c.stands.ensures are
          c.loop-next.invariant.live here w.2 (honest h.place state w.0 (c.loop-next.invariant.gives h.place state w.0 w.1)) in
          gone_over c.laws_hold.ensures c.pack_laws_hold.ensures c.args.table.now c.stands.ensures.fit text (c.only_runs_meet.ensures.joined c.args.table.now.grammar text) (packed_of c.args.graph.now c.args.start) graph c.take.new.graph h c.in-Some.next (c.loop-next.invariant.layers states are honest lent first met)
          (exact_alone c.laws_hold.ensures.keeps (stack_at graph h.top) before) (exact_alone c.laws_hold.ensures.keeps (stack_at c.take.new.graph c.in-Some.next.top) after) now.meet;
      known = none_known (IsTokenAhead c.args.table.now text c.take.new.graph c.in-Some.next);
    }

pub loop-next-smaller-in-On : goal.loop-next-smaller-in-On
loop-next-smaller-in-On g c =
    let text = g.L.Text.Content.bytes c.args.text.now in
    let long = sym (c.requires.setting.size_is) in
    let go = goes_on c.args.table.now text c.loop-next.graph c.take.new.graph c.go_on.new.graph c.loop-next.head c.in-On.next c.in_ok-next-in-None.field-0 (c.in_ok-next.ensures.kept c.in-None.is) c.in-On.is
    (c.in_ok-next-in-None.ensures text long (sees_kept c.args.table.now text c.loop-next.graph c.take.new.graph c.loop-next.head c.look_once-lexed.result (c.in_ok-next.ensures.kept c.in-None.is) c.look_once-lexed.ensures.sees)) in
    step_falls c.laws_hold.ensures c.args.table.now c.stands.ensures.fit (c.unit_ranks.ensures c.args.table.now.grammar c.stands.ensures.fit) text c.loop-next.graph c.go_on.new.graph c.loop-next.head c.in-On.next c.loop-next.invariant.live go.step

pub loop-next-preserved-in-On : goal.loop-next-preserved-in-On
loop-next-preserved-in-On g c =
    let text = g.L.Text.Content.bytes c.args.text.now in
    let long = sym (c.requires.setting.size_is) in
    let h = c.loop-next.head in
    let go = goes_on c.args.table.now text c.loop-next.graph c.take.new.graph c.go_on.new.graph h c.in-On.next c.in_ok-next-in-None.field-0 (c.in_ok-next.ensures.kept c.in-None.is) c.in-On.is
    (c.in_ok-next-in-None.ensures text long (sees_kept c.args.table.now text c.loop-next.graph c.take.new.graph c.loop-next.head c.look_once-lexed.result (c.in_ok-next.ensures.kept c.in-None.is) c.look_once-lexed.ensures.sees)) in
    let far = step_place c.args.table.now text c.loop-next.graph c.go_on.new.graph h c.in-On.next go.step in
    record {
      made = c.look_once-lexed.ensures.made;
      least = (let least = c.in_ok-next.ensures.least in omega (arith, least, far));
      gives = λ place at t given. c.loop-next.invariant.gives place at t (c.in_ok-next.ensures.gives place at t given);
      lends = λ place at symbol s given. c.loop-next.invariant.lends place at symbol s (c.in_ok-next.ensures.lends place at symbol s given);
      live = go.own;
      one = λ one. go.one (c.loop-next.invariant.one one);
      later = (let before = c.loop-next.invariant.later in omega (arith, before, far));
      weight = (let fall = step_falls c.laws_hold.ensures c.args.table.now c.stands.ensures.fit (c.unit_ranks.ensures c.args.table.now.grammar c.stands.ensures.fit) text c.loop-next.graph c.go_on.new.graph h c.in-On.next c.loop-next.invariant.live go.step in let most = c.loop-next.invariant.weight in omega (arith, fall, most));
      stands = λ states are honest lent first. stands_on c.only_runs_meet.ensures.joined c.only_runs_meet.ensures.step c.args.table.now states text (config_of c.args.graph.now c.args.start) c.loop-next.graph c.go_on.new.graph h c.in-On.next (c.loop-next.invariant.stands states are honest lent first) go.step (go.stand states are);
      layers = λ states are honest lent first met.
          gone_on c.laws_hold.ensures c.pack_laws_hold.ensures c.args.table.now c.stands.ensures.fit text (c.only_runs_meet.ensures.joined c.args.table.now.grammar text) (packed_of c.args.graph.now c.args.start) c.loop-next.graph c.go_on.new.graph h c.in-On.next (c.loop-next.invariant.layers states are honest lent first met) (c.only_runs_meet.ensures.step c.args.table.now.grammar text) go;
      known = none_known (IsTokenAhead c.args.table.now text c.go_on.new.graph c.in-On.next);
    }

pub take_elements-requires : goal.take_elements-requires
take_elements-requires g c κs =
    let text = g.L.Text.Content.bytes c.args.text.now in
    let long = sym (c.requires.setting.size_is) in
    let led = goes_reduced_on c.args.table.now text c.loop-next.graph c.take.new.graph c.go_on.new.graph c.loop-next.head c.in-Reduced.next c.in-Reduced.found c.in_ok-next-in-None.field-0 (c.in_ok-next.ensures.kept c.in-None.is) c.in-Reduced.is
    (c.in_ok-next-in-None.ensures text long (sees_kept c.args.table.now text c.loop-next.graph c.take.new.graph c.loop-next.head c.look_once-lexed.result (c.in_ok-next.ensures.kept c.in-None.is) c.look_once-lexed.ensures.sees)) in
    let far = step_place c.args.table.now text c.loop-next.graph c.go_on.new.graph c.loop-next.head c.in-Reduced.next led.0.step in
    let least = c.in_ok-next.ensures.least in
    let short : c.args.setting.now.size ≤ most_span = omega (arith, c.requires.setting.short, c.requires.setting.size_is) in
    let asked : g.O.Offers.least c.take.new.offers ≤ c.in-Reduced.next.place = omega (arith, least, far) in
    let live : IsOwnHead c.args.table.now c.args.setting.now.size c.go_on.new.graph c.in-Reduced.next = subst (λ (n : ℕ). IsOwnHead c.args.table.now n c.go_on.new.graph c.in-Reduced.next) long led.0.own in (
      (refl, tt),
      (
        short,
        (
          asked,
          (
            live,
            λ place state symbol s given. c.requires.lent place state symbol s (c.loop-next.invariant.lends place state symbol s (c.in_ok-next.ensures.lends place state symbol s given)),
          ),
        ),
      ),
    )

pub loop-next-smaller-in-Some-2 : goal.loop-next-smaller-in-Some-2
loop-next-smaller-in-Some-2 g c =
    let text = g.L.Text.Content.bytes c.args.text.now in
    let long = sym (c.requires.setting.size_is) in
    let led = goes_reduced_on c.args.table.now text c.loop-next.graph c.take.new.graph c.go_on.new.graph c.loop-next.head c.in-Reduced.next c.in-Reduced.found c.in_ok-next-in-None.field-0 (c.in_ok-next.ensures.kept c.in-None.is) c.in-Reduced.is
    (c.in_ok-next-in-None.ensures text long (sees_kept c.args.table.now text c.loop-next.graph c.take.new.graph c.loop-next.head c.look_once-lexed.result (c.in_ok-next.ensures.kept c.in-None.is) c.look_once-lexed.ensures.sees)) in
    let w = lengthened_some c.args.table.now c.args.setting.now.size (length text) c.requires.setting.size_is c.go_on.new.graph c.take_elements.new.graph c.in-Reduced.next
    (λ e s. g.O.Offers.lends c.take.new.offers e.place e.state e.symbol.0 s) c.in_ok-longer-in-Reduced.field-0 c.in-Some-2.longer c.in-Some-2.is c.in_ok-longer-in-Reduced.ensures.taken in
    let first = step_falls c.laws_hold.ensures c.args.table.now c.stands.ensures.fit (c.unit_ranks.ensures c.args.table.now.grammar c.stands.ensures.fit) text c.loop-next.graph c.go_on.new.graph c.loop-next.head c.in-Reduced.next c.loop-next.invariant.live led.0.step in
    let second = lengthened_falls c.laws_hold.ensures c.args.table.now c.stands.ensures.fit (c.unit_ranks.ensures c.args.table.now.grammar c.stands.ensures.fit) text c.go_on.new.graph c.take_elements.new.graph c.in-Reduced.next c.in-Some-2.longer led.0.own w.0 w.1 w.3 in
    omega (arith, first, second)

pub loop-next-preserved-in-Some-2 : goal.loop-next-preserved-in-Some-2
loop-next-preserved-in-Some-2 g c =
    let text = g.L.Text.Content.bytes c.args.text.now in
    let long = sym (c.requires.setting.size_is) in
    let h = c.loop-next.head in
    let led = goes_reduced_on c.args.table.now text c.loop-next.graph c.take.new.graph c.go_on.new.graph c.loop-next.head c.in-Reduced.next c.in-Reduced.found c.in_ok-next-in-None.field-0 (c.in_ok-next.ensures.kept c.in-None.is) c.in-Reduced.is
    (c.in_ok-next-in-None.ensures text long (sees_kept c.args.table.now text c.loop-next.graph c.take.new.graph c.loop-next.head c.look_once-lexed.result (c.in_ok-next.ensures.kept c.in-None.is) c.look_once-lexed.ensures.sees)) in
    let w = lengthened_some c.args.table.now c.args.setting.now.size (length text) c.requires.setting.size_is c.go_on.new.graph c.take_elements.new.graph c.in-Reduced.next
    (λ e s. g.O.Offers.lends c.take.new.offers e.place e.state e.symbol.0 s) c.in_ok-longer-in-Reduced.field-0 c.in-Some-2.longer c.in-Some-2.is c.in_ok-longer-in-Reduced.ensures.taken in
    record {
      made = c.look_once-lexed.ensures.made;
      least = (let least = c.in_ok-longer-in-Reduced.ensures.least in let later = w.3.later in omega (arith, least, later));
      gives = λ place at t given. c.loop-next.invariant.gives place at t (c.in_ok-next.ensures.gives place at t (c.in_ok-longer-in-Reduced.ensures.gives place at t given));
      lends = λ place at symbol s given. c.loop-next.invariant.lends place at symbol s (c.in_ok-next.ensures.lends place at symbol s (c.in_ok-longer-in-Reduced.ensures.lends place at symbol s given));
      live = w.3.own;
      one = λ one. has_one c.go_on.new.graph c.take_elements.new.graph c.in-Reduced.next.top c.in_ok-longer-in-Reduced.field-0 c.in-Some-2.longer c.in-Some-2.is c.in_ok-longer-in-Reduced.ensures.one (led.0.one (c.loop-next.invariant.one one));
      later = (
          let before = c.loop-next.invariant.later in
          let first = step_place c.args.table.now text c.loop-next.graph c.go_on.new.graph h c.in-Reduced.next led.0.step in
          let second = w.3.later in
          omega (arith, before, first, second)
          );
      weight = (
          let first = step_falls c.laws_hold.ensures c.args.table.now c.stands.ensures.fit (c.unit_ranks.ensures c.args.table.now.grammar c.stands.ensures.fit) text c.loop-next.graph c.go_on.new.graph h c.in-Reduced.next c.loop-next.invariant.live led.0.step in
          let second = lengthened_falls c.laws_hold.ensures c.args.table.now c.stands.ensures.fit (c.unit_ranks.ensures c.args.table.now.grammar c.stands.ensures.fit) text c.go_on.new.graph c.take_elements.new.graph c.in-Reduced.next c.in-Some-2.longer led.0.own w.0 w.1 w.3 in
          let most = c.loop-next.invariant.weight in
          omega (arith, first, second, most)
          );
      stands = λ states are honest lent first.
          let before = stands_on c.only_runs_meet.ensures.joined c.only_runs_meet.ensures.step c.args.table.now states text (config_of c.args.graph.now c.args.start) c.loop-next.graph c.go_on.new.graph h c.in-Reduced.next (c.loop-next.invariant.stands states are honest lent first) led.0.step (led.0.stand states are) in
          stands_lengthened c.only_runs_meet.ensures.joined c.args.table.now states text (config_of c.args.graph.now c.args.start) c.go_on.new.graph c.take_elements.new.graph c.in-Reduced.next c.in-Some-2.longer w.0 w.1 are before w.3
          (lent w.0.place w.0.state w.0.symbol.0 w.1 (c.loop-next.invariant.lends w.0.place w.0.state w.0.symbol.0 w.1 (c.in_ok-next.ensures.lends w.0.place w.0.state w.0.symbol.0 w.1 w.2)));
      layers = λ states are honest lent first met.
          let mid = c.go_on.new.graph in
          let n = c.in-Reduced.next in
          let led_on = gone_on c.laws_hold.ensures c.pack_laws_hold.ensures c.args.table.now c.stands.ensures.fit text (c.only_runs_meet.ensures.joined c.args.table.now.grammar text) (packed_of c.args.graph.now c.args.start) c.loop-next.graph mid h n (c.loop-next.invariant.layers states are honest lent first met) (c.only_runs_meet.ensures.step c.args.table.now.grammar text) led.0 in
          let before = has_some (AreExact (stack_at mid n.top)) c.in_ok-longer-in-Reduced.field-0 c.in-Some-2.longer c.in-Some-2.is c.in_ok-longer-in-Reduced.ensures.exact in
          let after = w.3.exact before in
          let here : StandsFor c.args.table.now states text (config_of mid n) mid n = record { meet = c.only_runs_meet.ensures.same c.args.table.now.grammar text (config_of mid n); stand = led.0.stand states are (c.loop-next.invariant.stands states are honest lent first).stand } in
          let now = stands_lengthened c.only_runs_meet.ensures.joined c.args.table.now states text (config_of mid n) mid c.take_elements.new.graph n c.in-Some-2.longer w.0 w.1 are here w.3
          (lent w.0.place w.0.state w.0.symbol.0 w.1 (c.loop-next.invariant.lends w.0.place w.0.state w.0.symbol.0 w.1 (c.in_ok-next.ensures.lends w.0.place w.0.state w.0.symbol.0 w.1 w.2))) in
          gone_over c.laws_hold.ensures c.pack_laws_hold.ensures c.args.table.now c.stands.ensures.fit text (c.only_runs_meet.ensures.joined c.args.table.now.grammar text) (packed_of c.args.graph.now c.args.start) mid c.take_elements.new.graph n c.in-Some-2.longer led_on (exact_alone c.laws_hold.ensures.keeps (stack_at mid n.top) before)
          (exact_alone c.laws_hold.ensures.keeps (stack_at c.take_elements.new.graph c.in-Some-2.longer.top) after) now.meet;
      known = none_known (IsTokenAhead c.args.table.now text c.take_elements.new.graph c.in-Some-2.longer);
    }

pub loop-next-smaller : goal.loop-next-smaller
loop-next-smaller g c =
    let text = g.L.Text.Content.bytes c.args.text.now in
    let long = sym (c.requires.setting.size_is) in
    let led = goes_reduced_on c.args.table.now text c.loop-next.graph c.take.new.graph c.go_on.new.graph c.loop-next.head c.in-Reduced.next c.in-Reduced.found c.in_ok-next-in-None.field-0 (c.in_ok-next.ensures.kept c.in-None.is) c.in-Reduced.is
    (c.in_ok-next-in-None.ensures text long (sees_kept c.args.table.now text c.loop-next.graph c.take.new.graph c.loop-next.head c.look_once-lexed.result (c.in_ok-next.ensures.kept c.in-None.is) c.look_once-lexed.ensures.sees)) in
    let go = goes_kept c.args.table.now text c.loop-next.graph c.go_on.new.graph c.take_elements.new.graph c.loop-next.head c.in-Reduced.next c.in-Reduced.found (c.in_ok-longer-in-Reduced.ensures.kept c.in-None-2.is) led in
    step_falls c.laws_hold.ensures c.args.table.now c.stands.ensures.fit (c.unit_ranks.ensures c.args.table.now.grammar c.stands.ensures.fit) text c.loop-next.graph c.take_elements.new.graph c.loop-next.head c.in-Reduced.next c.loop-next.invariant.live go.0.step

pub loop-next-preserved : goal.loop-next-preserved
loop-next-preserved g c =
    let text = g.L.Text.Content.bytes c.args.text.now in
    let long = sym (c.requires.setting.size_is) in
    let h = c.loop-next.head in
    let led = goes_reduced_on c.args.table.now text c.loop-next.graph c.take.new.graph c.go_on.new.graph h c.in-Reduced.next c.in-Reduced.found c.in_ok-next-in-None.field-0 (c.in_ok-next.ensures.kept c.in-None.is) c.in-Reduced.is
    (c.in_ok-next-in-None.ensures text long (sees_kept c.args.table.now text c.loop-next.graph c.take.new.graph c.loop-next.head c.look_once-lexed.result (c.in_ok-next.ensures.kept c.in-None.is) c.look_once-lexed.ensures.sees)) in
    let go = goes_kept c.args.table.now text c.loop-next.graph c.go_on.new.graph c.take_elements.new.graph c.loop-next.head c.in-Reduced.next c.in-Reduced.found (c.in_ok-longer-in-Reduced.ensures.kept c.in-None-2.is) led in
    record {
      made = c.look_once-lexed.ensures.made;
      least = c.in_ok-longer-in-Reduced.ensures.least;
      gives = λ place at t given. c.loop-next.invariant.gives place at t (c.in_ok-next.ensures.gives place at t (c.in_ok-longer-in-Reduced.ensures.gives place at t given));
      lends = λ place at symbol s given. c.loop-next.invariant.lends place at symbol s (c.in_ok-next.ensures.lends place at symbol s (c.in_ok-longer-in-Reduced.ensures.lends place at symbol s given));
      live = go.0.own;
      one = λ one. go.0.one (c.loop-next.invariant.one one);
      later = (let before = c.loop-next.invariant.later in let far = step_place c.args.table.now text c.loop-next.graph c.take_elements.new.graph h c.in-Reduced.next go.0.step in omega (arith, before, far));
      weight = (let fall = step_falls c.laws_hold.ensures c.args.table.now c.stands.ensures.fit (c.unit_ranks.ensures c.args.table.now.grammar c.stands.ensures.fit) text c.loop-next.graph c.take_elements.new.graph h c.in-Reduced.next c.loop-next.invariant.live go.0.step in let most = c.loop-next.invariant.weight in omega (arith, fall, most));
      stands = λ states are honest lent first. stands_on c.only_runs_meet.ensures.joined c.only_runs_meet.ensures.step c.args.table.now states text (config_of c.args.graph.now c.args.start) c.loop-next.graph c.take_elements.new.graph h c.in-Reduced.next (c.loop-next.invariant.stands states are honest lent first) go.0.step (go.0.stand states are);
      layers = λ states are honest lent first met.
          gone_on c.laws_hold.ensures c.pack_laws_hold.ensures c.args.table.now c.stands.ensures.fit text (c.only_runs_meet.ensures.joined c.args.table.now.grammar text) (packed_of c.args.graph.now c.args.start) c.loop-next.graph c.take_elements.new.graph h c.in-Reduced.next (c.loop-next.invariant.layers states are honest lent first met) (c.only_runs_meet.ensures.step c.args.table.now.grammar text) go.0;
      known = λ f e.
          let r = c.seen_again-ahead.ensures f e in
          subst (λ (x : FoundToken). IsTokenAhead c.args.table.now text c.take_elements.new.graph c.in-Reduced.next x) (sym r.0) (go.1 r.1);
    }

pub loop-next-init : goal.loop-next-init
loop-next-init g c = record {
  made = c.requires.made;
  least = c.requires.asked;
  gives = λ place at t given. given;
  lends = λ place at symbol s given. given;
  live = c.requires.live;
  one = λ one. one;
  later = omega arith;
  weight = omega arith;
  stands = λ states are honest lent first. record { meet = c.only_runs_meet.ensures.same c.args.table.now.grammar (g.L.Text.Content.bytes c.args.text.now) (config_of c.args.graph.now c.args.start); stand = first };
  layers = λ states are honest lent first met. gone_none c.pack_laws_hold.ensures c.args.table.now.grammar c.stands.ensures.fit (g.L.Text.Content.bytes c.args.text.now) c.args.graph.now c.args.start met;
  known = c.requires.known;
}

pub returns-in-Ended-clause-fresh : goal.returns-in-Ended-clause-fresh
returns-in-Ended-clause-fresh g c states are honest lent first =
    let text = g.L.Text.Content.bytes c.args.text.now in
    let long = sym (c.requires.setting.size_is) in
    ends_result c.only_runs_are_one_way.ensures.fresh c.only_runs_meet.ensures.ends c.only_runs_meet.ensures.fork c.args.table.now states text c.args.graph.now c.loop-next.graph c.go_on.new.graph c.args.start c.loop-next.head are (c.loop-next.invariant.stands states are honest lent first) c.in-Ended.result
    (ends_at c.args.table.now text c.loop-next.graph c.take.new.graph c.go_on.new.graph c.loop-next.head c.in-Ended.result c.in_ok-next-in-None.field-0 (c.in_ok-next.ensures.kept c.in-None.is) c.in-Ended.is
    (c.in_ok-next-in-None.ensures text long (sees_kept c.args.table.now text c.loop-next.graph c.take.new.graph c.loop-next.head c.look_once-lexed.result (c.in_ok-next.ensures.kept c.in-None.is) c.look_once-lexed.ensures.sees)))

pub returns-in-Ended-clause-forks : goal.returns-in-Ended-clause-forks
returns-in-Ended-clause-forks g c =
    let text = g.L.Text.Content.bytes c.args.text.now in
    let long = sym (c.requires.setting.size_is) in
    ends_fork c.args.table.now text (λ stacks k f. IsForkFrom c.args.table.now text c.args.graph.now stacks c.args.start (record { head = k; found = f })) c.loop-next.graph c.go_on.new.graph c.loop-next.head c.in-Ended.result
    (λ f several sees. record { own = c.loop-next.invariant.live; later = c.loop-next.invariant.later; weight = c.loop-next.invariant.weight; fork = several; one = c.loop-next.invariant.one; sees = sees })
    (ends_at c.args.table.now text c.loop-next.graph c.take.new.graph c.go_on.new.graph c.loop-next.head c.in-Ended.result c.in_ok-next-in-None.field-0 (c.in_ok-next.ensures.kept c.in-None.is) c.in-Ended.is
    (c.in_ok-next-in-None.ensures text long (sees_kept c.args.table.now text c.loop-next.graph c.take.new.graph c.loop-next.head c.look_once-lexed.result (c.in_ok-next.ensures.kept c.in-None.is) c.look_once-lexed.ensures.sees)))

pub returns-in-Ended-clause-least : goal.returns-in-Ended-clause-least
returns-in-Ended-clause-least g c =
    let text = g.L.Text.Content.bytes c.args.text.now in
    let long = sym (c.requires.setting.size_is) in
    ends_fork c.args.table.now text (λ stacks k f. g.O.Offers.least c.take.new.offers ≤ k.place) c.loop-next.graph c.go_on.new.graph c.loop-next.head c.in-Ended.result (λ f several sees. c.in_ok-next.ensures.least)
    (ends_at c.args.table.now text c.loop-next.graph c.take.new.graph c.go_on.new.graph c.loop-next.head c.in-Ended.result c.in_ok-next-in-None.field-0 (c.in_ok-next.ensures.kept c.in-None.is) c.in-Ended.is
    (c.in_ok-next-in-None.ensures text long (sees_kept c.args.table.now text c.loop-next.graph c.take.new.graph c.loop-next.head c.look_once-lexed.result (c.in_ok-next.ensures.kept c.in-None.is) c.look_once-lexed.ensures.sees)))

pub returns-in-Ended-clause-layers : goal.returns-in-Ended-clause-layers
returns-in-Ended-clause-layers g c states are honest lent first met =
    let text = g.L.Text.Content.bytes c.args.text.now in
    let long = sym (c.requires.setting.size_is) in
    gone_result c.laws_hold.ensures c.pack_laws_hold.ensures c.args.table.now c.stands.ensures.fit text (c.only_runs_are_one_way.ensures.fresh c.args.table.now.grammar text) (c.only_runs_meet.ensures.ends c.args.table.now.grammar text) (c.only_runs_meet.ensures.fork c.args.table.now.grammar text) c.args.graph.now c.loop-next.graph c.go_on.new.graph c.args.start c.loop-next.head met
    (c.loop-next.invariant.layers states are honest lent first met) c.in-Ended.result
    (ends_at c.args.table.now text c.loop-next.graph c.take.new.graph c.go_on.new.graph c.loop-next.head c.in-Ended.result c.in_ok-next-in-None.field-0 (c.in_ok-next.ensures.kept c.in-None.is) c.in-Ended.is
    (c.in_ok-next-in-None.ensures text long (sees_kept c.args.table.now text c.loop-next.graph c.take.new.graph c.loop-next.head c.look_once-lexed.result (c.in_ok-next.ensures.kept c.in-None.is) c.look_once-lexed.ensures.sees)))
