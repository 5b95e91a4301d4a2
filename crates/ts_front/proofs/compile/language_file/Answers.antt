use Rattle.std.proofs.Common.{◌∙◌, ap}
use Rattle.std.proofs.lemmas.Result.{err_from_is_err_and}
use Rattle.ts_langfile.specs.Spelling.{spelling}
use Rattle.ts_front.proofs.compile.language_file.Goals as goal

pub returns-in_err-file-clause-refused : goal.returns-in_err-file-clause-refused
returns-in_err-file-clause-refused c =
    let p = err_from_is_err_and c.from_residual-in_err-file.result c.from_residual-in_err-file.ensures.1 in
    rw (p.1, p.2) tt

pub returns-clause-compiled : goal.returns-clause-compiled
returns-clause-compiled c = record {
  form = c.in_ok-table.table.grammar;
  is_form = c.in_ok-table.ensures.form;
  table = c.in_ok-table.ensures.has;
  bytes_are = c.in_ok-file.ensures ∙ ap spelling c.grammar.ensures;
}

pub returns-clause-again : goal.returns-clause-again
returns-clause-again c f is shallow = c.compiled_again.ensures.grammar_file c.args.bytes.now c.in_ok-file.file.items f is shallow (record {
  form = c.in_ok-table.table.grammar;
  is_form = c.in_ok-table.ensures.form;
  table = c.in_ok-table.ensures.has;
  bytes_are = c.in_ok-file.ensures ∙ ap spelling c.grammar.ensures;
})
