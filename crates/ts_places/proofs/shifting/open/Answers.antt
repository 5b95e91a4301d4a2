use Rattle.std.proofs.Common.{sym, refl, ◌∙◌}
use Rattle.ts_places.proofs.OpenLemmas.{stay_done}
use Rattle.ts_places.proofs.shifting.open.Goals as goal

pub shift-requires : goal.shift-requires
shift-requires c =
    let r = c.requires in (
      c.args.table.now,
      r.0,
      r.1,
      r.2,
      record {
        can = r.3;
        actions = c.actions.result.now;
        have = (c.head-head.result, c.head-head.ensures, sym c.actions.ensures.list);
        shifts = c.in-Shift.ensures;
      },
    )

pub pass-requires : goal.pass-requires
pass-requires c =
    let r = c.requires in (
      c.args.table.now,
      r.0,
      r.1,
      r.2,
      record {
        can = r.3;
        head = c.head-head.result;
        at = c.head-head.ensures;
        state_is = refl;
        none = sym c.actions.ensures.list ∙ c.in-Pass.ensures;
      },
    )

pub returns-in_ok-shift-in-Shift : goal.returns-in_ok-shift-in-Shift
returns-in_ok-shift-in-Shift c = λ text base look can.
    c.in_ok-shift-in-Shift.ensures c.args.table.now text base look (record {
      can = can;
      actions = c.actions.result.now;
      have = (c.head-head.result, c.head-head.ensures, sym c.actions.ensures.list);
      shifts = c.in-Shift.ensures;
    })

pub returns-in_ok-pass-in-Pass : goal.returns-in_ok-pass-in-Pass
returns-in_ok-pass-in-Pass c = λ text base look can.
    c.in_ok-pass-in-Pass.ensures c.args.table.now text base look (record {
      can = can;
      head = c.head-head.result;
      at = c.head-head.ensures;
      state_is = refl;
      none = sym c.actions.ensures.list ∙ c.in-Pass.ensures;
    })

pub returns-in-Stay : goal.returns-in-Stay
returns-in-Stay c = λ text base look can.
    let w = c.in-Stay.ensures in
    stay_done c.look_laws_hold.ensures c.leaf_laws_hold.ensures c.args.table.now text base c.args.graph.now look c.args.top c.args.span can c.actions.result.now (c.head-head.result, c.head-head.ensures, sym c.actions.ensures.list) w.0 w.1
