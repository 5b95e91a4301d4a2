use Rattle.std.proofs.Common.{◌≡◌, subst, true, false}
use Rattle.ts_node.specs.declared.kind.NodeKind.{NodeKind}
use Rattle.ts_node.specs.Kinds.{IsOfKind}
use Rattle.ts_crossing.proofs.TokenLemmas.{leaf_token, leaf_extra, no_rule, no_repetition}
use Rattle.ts_crossing.proofs.leaving.is_token.Goals as goal

pub returns-in-Leaf-clause-yes : goal.returns-in-Leaf-clause-yes
returns-in-Leaf-clause-yes c = λ e. leaf_token c.args.node.now (subst (λ (k : NodeKind). IsOfKind k c.args.node.now) c.in-Leaf.is c.kind.ensures) c.extra.result c.extra.ensures e

pub returns-in-Leaf-clause-no : goal.returns-in-Leaf-clause-no
returns-in-Leaf-clause-no c = λ e. leaf_extra c.args.node.now c.extra.result c.extra.ensures e

pub returns-in-Rule-clause-yes : goal.returns-in-Rule-clause-yes
returns-in-Rule-clause-yes c = λ e. absurd (let h : false ≡ true = e in cc)

pub returns-in-Rule-clause-no : goal.returns-in-Rule-clause-no
returns-in-Rule-clause-no c = λ e. no_rule c.args.node.now c.in-Rule.field-0 (subst (λ (k : NodeKind). IsOfKind k c.args.node.now) c.in-Rule.is c.kind.ensures)

pub returns-in-Repetition-clause-yes : goal.returns-in-Repetition-clause-yes
returns-in-Repetition-clause-yes c = λ e. absurd (let h : false ≡ true = e in cc)

pub returns-in-Repetition-clause-no : goal.returns-in-Repetition-clause-no
returns-in-Repetition-clause-no c = λ e. no_repetition c.args.node.now (subst (λ (k : NodeKind). IsOfKind k c.args.node.now) c.in-Repetition.is c.kind.ensures)
