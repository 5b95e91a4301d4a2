use Rattle.std.proofs.Common.{◌≡◌, sym, refl, subst, ℕ, ◌≤◌, List, length, Option, Some, None, arith}
use Rattle.ts_gss.specs.declared.layer.Layer.{Layer}
use Rattle.ts_gss.specs.Stacks.{IsOneStack}
use Rattle.ts_gss.proofs.OneLemmas.{one_first}
use Rattle.ts_steps.specs.declared.found.FoundToken.{FoundToken}
use Rattle.ts_steps.specs.Settings.{IsParseSetting}
use Rattle.ts_steps.specs.Reparsing.{IsForkFrom}
use Rattle.ts_glr.proofs.ParseLemmas.{own_start, start_rests, start_stands, accepts_sound, stuck_at, too_deep, fork_rests, own_root, at_fork, leaves_one, ends_all, turn_falls}
use Rattle.ts_glr.proofs.parsing.parse_with.Goals as goal

pub loop-spread-init : goal.loop-spread-init
loop-spread-init g c =
    let text = g.L.Text.Content.bytes c.args.text.now in
    record {
      made = c.requires.made;
      least = omega (arith, c.requires.asked);
      gives = λ place state t given. given;
      lends = λ place state symbol s given. given;
      own = own_start c.args.table.now (length text) c.new-stacks.result c.new-stacks.ensures;
      one = subst (λ (ss : List (List Layer)). IsOneStack ss 0) (sym c.new-stacks.ensures) one_first;
      kept = tt;
      rests = λ states are honest lent. (
        start_rests c.packing_laws_hold.ensures c.args.table.now c.stands.ensures.fit text c.new-stacks.result None c.new-stacks.ensures refl,
        start_stands c.args.table.now states text c.new-stacks.result c.new-stacks.ensures,
      );
    }

pub reparse-requires : goal.reparse-requires
reparse-requires g c κs = (
  (refl, tt),
  (
    c.loop-spread.invariant.made,
    (
      subst (λ (n : ℕ). IsParseSetting c.args.table.now n c.in_ok-setting.setting) c.len.ensures c.in_ok-setting.ensures,
      (
        c.loop-spread.invariant.own,
        (
          (λ f e. absurd (let q : ◌≡◌ {A = Option FoundToken} None (Some f) = e in cc)),
          (
            c.loop-spread.invariant.least,
            (
              (λ place state t given. c.requires.own place state t (c.loop-spread.invariant.gives place state t given)),
              λ place state symbol s given. c.requires.lent place state symbol s (c.loop-spread.invariant.lends place state symbol s given),
            ),
          ),
        ),
      ),
    ),
  ),
)

pub follow_fork-requires-clause-setting : goal.follow_fork-requires-clause-setting
follow_fork-requires-clause-setting g c = subst (λ (n : ℕ). IsParseSetting c.args.table.now n c.in_ok-setting.setting) c.len.ensures c.in_ok-setting.ensures

pub follow_fork-requires-clause-own : goal.follow_fork-requires-clause-own
follow_fork-requires-clause-own g c =
    let text = g.L.Text.Content.bytes c.args.text.now in
    (at_fork (λ k. IsForkFrom c.args.table.now text c.loop-spread.stacks c.reparse.new.graph c.loop-spread.head k) c.in_ok-root.field-0 c.in-Forks.fork c.in-Forks.is c.in_ok-root.ensures.forks).own

pub follow_fork-requires-clause-fork : goal.follow_fork-requires-clause-fork
follow_fork-requires-clause-fork g c =
    let text = g.L.Text.Content.bytes c.args.text.now in
    (at_fork (λ k. IsForkFrom c.args.table.now text c.loop-spread.stacks c.reparse.new.graph c.loop-spread.head k) c.in_ok-root.field-0 c.in-Forks.fork c.in-Forks.is c.in_ok-root.ensures.forks).fork

pub follow_fork-requires-clause-one : goal.follow_fork-requires-clause-one
follow_fork-requires-clause-one g c =
    let text = g.L.Text.Content.bytes c.args.text.now in
    (at_fork (λ k. IsForkFrom c.args.table.now text c.loop-spread.stacks c.reparse.new.graph c.loop-spread.head k) c.in_ok-root.field-0 c.in-Forks.fork c.in-Forks.is c.in_ok-root.ensures.forks).one c.loop-spread.invariant.one

pub follow_fork-requires-clause-kept : goal.follow_fork-requires-clause-kept
follow_fork-requires-clause-kept g c = c.loop-spread.invariant.kept

pub loop-spread-smaller : goal.loop-spread-smaller
loop-spread-smaller g c =
    let text = g.L.Text.Content.bytes c.args.text.now in
    let fork = at_fork (λ k. IsForkFrom c.args.table.now text c.loop-spread.stacks c.reparse.new.graph c.loop-spread.head k) c.in_ok-root.field-0 c.in-Forks.fork c.in-Forks.is c.in_ok-root.ensures.forks in
    let left = leaves_one c.args.table.now text c.reparse.new.graph c.loop-spread.stuck c.in-Forks.fork.head c.in_ok-left-in-Forks.field-0 c.in_ok-left-in-Forks.ensures.comes c.in-One.left c.in-One.place c.in-One.is in
    turn_falls c.args.table.now text c.loop-spread.stacks c.reparse.new.graph c.in-One.left.stacks c.loop-spread.head c.in-One.left.head c.in-Forks.fork fork left.lighter

pub loop-spread-preserved : goal.loop-spread-preserved
loop-spread-preserved g c =
    let text = g.L.Text.Content.bytes c.args.text.now in
    let left = leaves_one c.args.table.now text c.reparse.new.graph c.loop-spread.stuck c.in-Forks.fork.head c.in_ok-left-in-Forks.field-0 c.in_ok-left-in-Forks.ensures.comes c.in-One.left c.in-One.place c.in-One.is in
    let near : g.O.Offers.least c.reparse.new.offers ≤ c.in-Forks.fork.head.place = at_fork (λ k. g.O.Offers.least c.reparse.new.offers ≤ k.head.place) c.in_ok-root.field-0 c.in-Forks.fork c.in-Forks.is c.in_ok-root.ensures.least in
    let far = left.far in
    record {
      made = c.in_ok-left-in-Forks.ensures.made;
      least = omega (arith, near, far);
      gives = λ place state t given. c.loop-spread.invariant.gives place state t (c.in_ok-root.ensures.gives place state t given);
      lends = λ place state symbol s given. c.loop-spread.invariant.lends place state symbol s (c.in_ok-root.ensures.lends place state symbol s given);
      own = left.own;
      one = left.one;
      kept = c.in_ok-left-in-Forks.ensures.kept;
      rests = λ states are honest lent.
          let before = c.loop-spread.invariant.rests states are honest lent in
          let result = c.in_ok-root.ensures.fresh states are (λ place state t given. honest place state t (c.loop-spread.invariant.gives place state t given)) (λ place state symbol s given. lent place state symbol s (c.loop-spread.invariant.lends place state symbol s given)) before.1 in
          let layers = c.in_ok-root.ensures.layers states are (λ place state t given. honest place state t (c.loop-spread.invariant.gives place state t given)) (λ place state symbol s given. lent place state symbol s (c.loop-spread.invariant.lends place state symbol s given)) before.1 in
          let fork = fork_rests c.packing_laws_hold.ensures c.args.table.now c.stands.ensures.fit states text c.loop-spread.stacks c.reparse.new.graph c.loop-spread.head c.loop-spread.stuck c.in_ok-root.field-0 result layers before.0 c.in-Forks.fork c.in-Forks.is in
          (left.rests fork.0, left.stand states are fork.1);
    }

pub returns-in-Accepted-clause-form : goal.returns-in-Accepted-clause-form
returns-in-Accepted-clause-form g c = (own_root c.args.table.now c.in_ok-root.field-0 c.in-Accepted.root c.in-Accepted.is c.in_ok-root.ensures.own).0

pub returns-in-Accepted-clause-own : goal.returns-in-Accepted-clause-own
returns-in-Accepted-clause-own g c = let own = own_root c.args.table.now c.in_ok-root.field-0 c.in-Accepted.root c.in-Accepted.is c.in_ok-root.ensures.own in (own.1, own.2)

pub returns-in-Accepted-clause-fresh : goal.returns-in-Accepted-clause-fresh
returns-in-Accepted-clause-fresh g c states are honest lent =
    let text = g.L.Text.Content.bytes c.args.text.now in
    let before = c.loop-spread.invariant.rests states are honest lent in
    let result = c.in_ok-root.ensures.fresh states are (λ place state t given. honest place state t (c.loop-spread.invariant.gives place state t given)) (λ place state symbol s given. lent place state symbol s (c.loop-spread.invariant.lends place state symbol s given)) before.1 in
    let layers = c.in_ok-root.ensures.layers states are (λ place state t given. honest place state t (c.loop-spread.invariant.gives place state t given)) (λ place state symbol s given. lent place state symbol s (c.loop-spread.invariant.lends place state symbol s given)) before.1 in
    accepts_sound c.packing_laws_hold.ensures c.args.table.now c.stands.ensures.fit states text c.loop-spread.stacks c.reparse.new.graph c.loop-spread.head c.loop-spread.stuck c.in_ok-root.field-0 result layers before.0 c.in-Accepted.root c.in-Accepted.is

pub returns-in-Stuck-clause-fresh : goal.returns-in-Stuck-clause-fresh
returns-in-Stuck-clause-fresh g c states are honest lent =
    let text = g.L.Text.Content.bytes c.args.text.now in
    let before = c.loop-spread.invariant.rests states are honest lent in
    let result = c.in_ok-root.ensures.fresh states are (λ place state t given. honest place state t (c.loop-spread.invariant.gives place state t given)) (λ place state symbol s given. lent place state symbol s (c.loop-spread.invariant.lends place state symbol s given)) before.1 in
    let layers = c.in_ok-root.ensures.layers states are (λ place state t given. honest place state t (c.loop-spread.invariant.gives place state t given)) (λ place state symbol s given. lent place state symbol s (c.loop-spread.invariant.lends place state symbol s given)) before.1 in
    (stuck_at c.packing_laws_hold.ensures c.args.table.now c.stands.ensures.fit states text c.loop-spread.stacks c.reparse.new.graph c.loop-spread.head c.loop-spread.stuck c.in_ok-root.field-0 result layers before.0 c.in-Stuck.place c.furthest.result c.in-Stuck.is c.furthest.ensures.mine c.furthest.ensures.others c.furthest.ensures.from, tt)

pub returns-in-Deep-clause-fresh : goal.returns-in-Deep-clause-fresh
returns-in-Deep-clause-fresh g c states are honest lent =
    let text = g.L.Text.Content.bytes c.args.text.now in
    let before = c.loop-spread.invariant.rests states are honest lent in
    let result = c.in_ok-root.ensures.fresh states are (λ place state t given. honest place state t (c.loop-spread.invariant.gives place state t given)) (λ place state symbol s given. lent place state symbol s (c.loop-spread.invariant.lends place state symbol s given)) before.1 in
    let layers = c.in_ok-root.ensures.layers states are (λ place state t given. honest place state t (c.loop-spread.invariant.gives place state t given)) (λ place state symbol s given. lent place state symbol s (c.loop-spread.invariant.lends place state symbol s given)) before.1 in
    (too_deep c.packing_laws_hold.ensures c.args.table.now c.stands.ensures.fit states text c.loop-spread.stacks c.reparse.new.graph c.loop-spread.head c.loop-spread.stuck c.in_ok-root.field-0 result layers before.0 c.in-Deep.is, tt)

pub returns-in-Told-clause-form : goal.returns-in-Told-clause-form
returns-in-Told-clause-form g c =
    (ends_all c.args.table.now (g.L.Text.Content.bytes c.args.text.now) c.reparse.new.graph c.loop-spread.stuck c.in-Forks.fork.head c.in_ok-left-in-Forks.field-0 c.in_ok-left-in-Forks.ensures.comes c.in-Told.outcome c.in-Told.is).form

pub returns-in-Told-clause-own : goal.returns-in-Told-clause-own
returns-in-Told-clause-own g c =
    (ends_all c.args.table.now (g.L.Text.Content.bytes c.args.text.now) c.reparse.new.graph c.loop-spread.stuck c.in-Forks.fork.head c.in_ok-left-in-Forks.field-0 c.in_ok-left-in-Forks.ensures.comes c.in-Told.outcome c.in-Told.is).own

pub returns-in-Told-clause-fresh : goal.returns-in-Told-clause-fresh
returns-in-Told-clause-fresh g c states are honest lent =
    let text = g.L.Text.Content.bytes c.args.text.now in
    let all = ends_all c.args.table.now text c.reparse.new.graph c.loop-spread.stuck c.in-Forks.fork.head c.in_ok-left-in-Forks.field-0 c.in_ok-left-in-Forks.ensures.comes c.in-Told.outcome c.in-Told.is in
    let before = c.loop-spread.invariant.rests states are honest lent in
    let result = c.in_ok-root.ensures.fresh states are (λ place state t given. honest place state t (c.loop-spread.invariant.gives place state t given)) (λ place state symbol s given. lent place state symbol s (c.loop-spread.invariant.lends place state symbol s given)) before.1 in
    let layers = c.in_ok-root.ensures.layers states are (λ place state t given. honest place state t (c.loop-spread.invariant.gives place state t given)) (λ place state symbol s given. lent place state symbol s (c.loop-spread.invariant.lends place state symbol s given)) before.1 in
    let fork = fork_rests c.packing_laws_hold.ensures c.args.table.now c.stands.ensures.fit states text c.loop-spread.stacks c.reparse.new.graph c.loop-spread.head c.loop-spread.stuck c.in_ok-root.field-0 result layers before.0 c.in-Forks.fork c.in-Forks.is in
    (all.fresh fork.0, all.sound states are fork.1)
