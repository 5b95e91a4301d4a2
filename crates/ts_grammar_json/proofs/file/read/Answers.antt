use Rattle.std.proofs.lemmas.Result.{err_from_is_err_and}
use Rattle.ts_grammar_json.proofs.ListLemmas.{first_before}
use Rattle.ts_grammar_json.proofs.FileLemmas.{after}
use Rattle.ts_grammar_json.proofs.file.read.Goals as goal

pub returns-in_err-rules : goal.returns-in_err-rules
returns-in_err-rules c =
    let p = err_from_is_err_and c.from_residual-in_err-rules.result c.from_residual-in_err-rules.ensures.1 in
    rw (p.1, p.2) (λ other. after _ _ _ c.in_ok-name.ensures.0 (first_before _ _ _ (c.in_err-rules.ensures other)))

pub returns-in_err-extras : goal.returns-in_err-extras
returns-in_err-extras c =
    let p = err_from_is_err_and c.from_residual-in_err-extras.result c.from_residual-in_err-extras.ensures.1 in
    rw (p.1, p.2) (λ other. after _ _ _ c.in_ok-name.ensures.0 (after _ _ _ c.in_ok-rules.ensures.0 (after _ _ _ c.in_ok-word.ensures.0 (first_before _ _ _ (c.in_err-extras.ensures other)))))

pub returns-in_err-conflicts : goal.returns-in_err-conflicts
returns-in_err-conflicts c =
    let p = err_from_is_err_and c.from_residual-in_err-conflicts.result c.from_residual-in_err-conflicts.ensures.1 in
    rw (p.1, p.2) (λ other. after _ _ _ c.in_ok-name.ensures.0 (after _ _ _ c.in_ok-rules.ensures.0 (after _ _ _ c.in_ok-word.ensures.0 (after _ _ _ c.in_ok-extras.ensures.0 (first_before _ _ _ (c.in_err-conflicts.ensures other))))))

pub returns-in_err-precedences : goal.returns-in_err-precedences
returns-in_err-precedences c =
    let p = err_from_is_err_and c.from_residual-in_err-precedences.result c.from_residual-in_err-precedences.ensures.1 in
    rw (p.1, p.2) (λ other. after _ _ _ c.in_ok-name.ensures.0 (after _ _ _ c.in_ok-rules.ensures.0 (after _ _ _ c.in_ok-word.ensures.0 (after _ _ _ c.in_ok-extras.ensures.0 (after _ _ _ c.in_ok-conflicts.ensures.0 (first_before _ _ _ (c.in_err-precedences.ensures other)))))))

pub returns-in_err-no_externals : goal.returns-in_err-no_externals
returns-in_err-no_externals c =
    let p = err_from_is_err_and c.from_residual-in_err-no_externals.result c.from_residual-in_err-no_externals.ensures.1 in
    rw (p.1, p.2) (λ other. after _ _ _ c.in_ok-name.ensures.0 (after _ _ _ c.in_ok-rules.ensures.0 (after _ _ _ c.in_ok-word.ensures.0 (after _ _ _ c.in_ok-extras.ensures.0 (after _ _ _ c.in_ok-conflicts.ensures.0 (after _ _ _ c.in_ok-precedences.ensures.0 (first_before _ _ _ (c.in_err-no_externals.ensures other))))))))

pub returns-in_err-no_reserved : goal.returns-in_err-no_reserved
returns-in_err-no_reserved c =
    let p = err_from_is_err_and c.from_residual-in_err-no_reserved.result c.from_residual-in_err-no_reserved.ensures.1 in
    rw (p.1, p.2) (λ other. after _ _ _ c.in_ok-name.ensures.0 (after _ _ _ c.in_ok-rules.ensures.0 (after _ _ _ c.in_ok-word.ensures.0 (after _ _ _ c.in_ok-extras.ensures.0 (after _ _ _ c.in_ok-conflicts.ensures.0 (after _ _ _ c.in_ok-precedences.ensures.0 (after _ _ _ c.in_ok-no_externals.ensures.0 (first_before _ _ _ (c.in_err-no_reserved.ensures other)))))))))

pub returns-in_err-inline : goal.returns-in_err-inline
returns-in_err-inline c =
    let p = err_from_is_err_and c.from_residual-in_err-inline.result c.from_residual-in_err-inline.ensures.1 in
    rw (p.1, p.2) (λ other. after _ _ _ c.in_ok-name.ensures.0 (after _ _ _ c.in_ok-rules.ensures.0 (after _ _ _ c.in_ok-word.ensures.0 (after _ _ _ c.in_ok-extras.ensures.0 (after _ _ _ c.in_ok-conflicts.ensures.0 (after _ _ _ c.in_ok-precedences.ensures.0 (after _ _ _ c.in_ok-no_externals.ensures.0 (after _ _ _ c.in_ok-no_reserved.ensures.0 (first_before _ _ _ (c.in_err-inline.ensures other))))))))))
