use Rattle.std.proofs.Common.{◌≡◌, map, take}
use Rattle.serde_json.specs.Data.{string}
use Rattle.serde_json.specs.View.{view}
use Rattle.spec_grammar.specs.Symbols.{node_name}
use Rattle.ts_core.specs.declared.symbol.Symbol.{Symbol}
use Rattle.ts_front.proofs.fault_lines.name_values.Given as goal

abbrev pub invariant-loop-rule : goal.invariant-loop-rule
invariant-loop-rule l = map view l.values.items ≡ map string (map (λ (rule : Symbol). node_name l.grammar rule.0) (take l.rule-index l.rules))
