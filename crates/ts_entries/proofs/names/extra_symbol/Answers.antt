use Rattle.ts_numbering.specs.Numberings.{numbers_of}
use Rattle.ts_entries.proofs.NameLemmas.{extra_named}
use Rattle.ts_entries.proofs.names.extra_symbol.Goals as goal

pub returns-in-Some : goal.returns-in-Some
returns-in-Some c = extra_named (numbers_of c.args.numbering.now) c.args.tree.now c.symbol_name.result c.in-Some.name c.rule_symbol.result c.symbol_name.ensures c.in-Some.is c.rule_symbol.ensures
