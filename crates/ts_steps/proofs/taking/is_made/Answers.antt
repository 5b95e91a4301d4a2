use Rattle.std.proofs.Common.{refl}
use Rattle.ts_steps.proofs.BeginLemmas.{made_token, made_by_child}
use Rattle.ts_steps.proofs.taking.is_made.Goals as goal

pub returns-then-is_token : goal.returns-then-is_token
returns-then-is_token c = ((λ e. made_token c.args.table.now.grammar c.kind.result c.args.node.now c.kind.ensures (c.is_token.ensures.0 c.if-is_token.true)), (λ m. refl))

pub returns-else-is_token : goal.returns-else-is_token
returns-else-is_token c =
    made_by_child c.args.table.now.grammar c.kind.result c.args.node.now c.is_token.result c.begins_with_child.result c.kind.ensures c.requires.own c.requires.settled c.if-is_token.false c.is_token.ensures c.begins_with_child.ensures
