use Rattle.std.proofs.lemmas.Result.{err_from_is_err_and}
use Rattle.ts_front.specs.Grammars.{by_grammar_file}
use Rattle.ts_front.proofs.RefusalLemmas.{normal_refuses}
use Rattle.ts_front.proofs.grammar.normal_form.Goals as goal

pub flatten-requires : goal.flatten-requires
flatten-requires c = record { file = c.read_grammars_are_file_grammars.ensures c.args.bytes.now c.requires.file.value c.args.grammar.now c.requires.short c.requires.file.reads c.requires.file.grammar }

pub returns-in_err-flatten-clause-refused : goal.returns-in_err-flatten-clause-refused
returns-in_err-flatten-clause-refused c =
    let p = err_from_is_err_and c.from_residual.result c.from_residual.ensures.1 in
    rw (p.1, p.2) (normal_refuses c.args.bytes.now c.args.grammar.now c.in_err-flatten.field-0.0 c.requires.file c.in_err-flatten.ensures.refused)

pub returns-clause-ok : goal.returns-clause-ok
returns-clause-ok c = by_grammar_file c.args.grammar.now c.requires.file c.in_ok-flatten.ensures.normal
