use Rattle.std.proofs.Common.{◌∙◌, sym, subst, List, length}
use Rattle.ts_gss.specs.declared.layer.Layer.{Layer}
use Rattle.ts_gss.specs.Stacks.{IsOneStack}
use Rattle.ts_gss.proofs.OneLemmas.{one_first}
use Rattle.ts_crossing.specs.Entering.{CanEnter}
use Rattle.ts_glr.proofs.ParseLemmas.{own_start}
use Rattle.ts_glr.proofs.CrossLemmas.{from_stack, from_start}
use Rattle.ts_glr.proofs.crossing.begin.Goals as goal

pub state-requires : goal.state-requires
state-requires c = c.requires.can.2.live.there

pub begin-requires-clause-can : goal.begin-requires-clause-can
begin-requires-clause-can c = c.requires.can

pub begin-requires-clause-one : goal.begin-requires-clause-one
begin-requires-clause-one c = c.requires.one

pub returns-then-state-ne0 : goal.returns-then-state-ne0
returns-then-state-ne0 c t text s can own some setting =
    from_stack t text s c.args.stacks c.args.start c.begin.new.self own (c.in_ok-begin.ensures t text s can own some setting)

pub begin-requires-2-clause-can : goal.begin-requires-2-clause-can
begin-requires-2-clause-can c =
    let r = c.requires.can in (
      r.0,
      r.1,
      subst (λ (ss : List (List Layer)). CanEnter r.0 r.1 ss (record { top = 0; place = 0 })) (sym c.new-none.ensures) (c.own_stacks_enter.ensures.start r.0 r.1 r.2.table r.2.short),
    )

pub begin-requires-2-clause-one : goal.begin-requires-2-clause-one
begin-requires-2-clause-one c = subst (λ (ss : List (List Layer)). IsOneStack ss 0) (sym c.new-none.ensures) one_first

pub returns : goal.returns
returns c t text s can own some setting =
    let none = c.new-none.result in
    let start = subst (λ (ss : List (List Layer)). CanEnter t text ss (record { top = 0; place = 0 })) (sym c.new-none.ensures) (c.own_stacks_enter.ensures.start t text can.table can.short) in
    from_start c.packing_laws_hold.ensures t can.table.fit text s c.args.stacks none c.args.start c.begin-2.new.self c.new-none.ensures
    (c.in_ok-begin-2.ensures t text s start (own_start t (length text) none c.new-none.ensures) (λ zero. some (sym c.state.ensures ∙ c.if-state-ne0.false)) setting)
