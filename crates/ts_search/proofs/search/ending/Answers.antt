use Rattle.std.proofs.Common.{List, [], sym, subst, ◌↔◌}
use Rattle.std.specs.List.{Contains}
use Rattle.spec_matches.specs.declared.placing.Placing.{Placing}
use Rattle.spec_matches.specs.Embedding.{IsWayFrom}
use Rattle.ts_search.specs.Table.{Takes}
use Rattle.ts_search.proofs.HeadLemmas.{end_way, no_end}
use Rattle.ts_search.proofs.search.ending.Goals as goal

pub returns-then-not-may_end : goal.returns-then-not-may_end
returns-then-not-may_end c f =
    subst (λ (l : List Placing). Contains l f ↔ IsWayFrom (Takes c.args.siblings.now.table) c.args.siblings.now.named c.args.siblings.now.closed [] c.args.number c.args.lo c.args.beside f) (sym c.new.ensures.items)
    (no_end c.args.siblings.now c.args.number c.args.lo c.args.beside (λ h. let t = c.may_end.ensures.1 h in let e = c.if-not-may_end.true in cc) f)

pub returns : goal.returns
returns c f =
    subst (λ (l : List Placing). Contains l f ↔ IsWayFrom (Takes c.args.siblings.now.table) c.args.siblings.now.named c.args.siblings.now.closed [] c.args.number c.args.lo c.args.beside f) (sym c.in_ok-out.ensures)
    (end_way c.args.siblings.now c.args.number c.args.lo c.args.beside (c.may_end.ensures.0 c.if-not-may_end.false) f)
