use Rattle.std.proofs.Common.{subst}
use Rattle.ts_core.specs.declared.flat.FlatGrammar.{FlatGrammar}
use Rattle.ts_node.specs.Entries.{IsEntry}
use Rattle.ts_node.proofs.productions.Productions.entry.Goals as goal

pub returns : goal.returns
returns c = subst (λ (g : FlatGrammar). IsEntry g c.args.number c.get.result.now) c.self.view_is (c.self.invariant.each _ _ c.get.ensures)
