use Rattle.std.proofs.Common.{◌∙◌, sym, ap}
use Rattle.std.proofs.lemmas.Result.{err_from_is_err_and}
use Rattle.ts_base.specs.Bytes.{Bytes}
use Rattle.ts_ojson.specs.Json.{json_of}
use Rattle.ts_grammar_json.specs.Pointer.{step}
use Rattle.ts_grammar_json.specs.Faults.{under, first}
use Rattle.ts_grammar_json.specs.Rules.{rule_faults, rule_of}
use Rattle.ts_grammar_json.proofs.FileLemmas.{rule_named}
use Rattle.ts_grammar_json.proofs.file.named_rule.Goals as goal

pub returns-in_err-tree : goal.returns-in_err-tree
returns-in_err-tree c =
    let j = json_of c.args.value.now in
    let p = err_from_is_err_and c.from_residual.result c.from_residual.ensures.1 in
    rw (p.1, p.2) (λ other. ap (λ (n : Bytes). first (under (step n) (rule_faults j))) (sym c.text.ensures) ∙ c.in_err-tree.ensures (rule_faults j) (rule_of j) c.rule.ensures other)

pub returns : goal.returns
returns c =
    let j = json_of c.args.value.now in
    let read = c.in_ok-tree.ensures (rule_faults j) (rule_of j) c.rule.ensures in (
      ap (λ (n : Bytes). under (step n) (rule_faults j)) (sym c.text.ensures) ∙ read.0,
      rule_named c.in_ok-from_text.field-0 c.args.name.now c.in_ok-tree.tree (rule_of j) (c.in_ok-from_text.ensures ∙ c.text-2.ensures) read.1,
    )
