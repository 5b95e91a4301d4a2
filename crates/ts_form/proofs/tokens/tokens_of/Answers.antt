use Rattle.std.proofs.Common.{◌≡◌, ◌∙◌, sym, ap, subst, List, All}
use Rattle.ts_core.specs.declared.rule.Rule.{Rule}
use Rattle.ts_rules.specs.FirstSights.{Each}
use Rattle.ts_rules.specs.Tokens.{IsTokenDef}
use Rattle.ts_tokens.specs.Definitions.{IsNaming, trees_of}
use Rattle.ts_tokens.specs.Patterns.{meaning}
use Rattle.ts_tokens.specs.declared.definition.NamedToken.{NamedToken}
use Rattle.ts_form.proofs.tokens.tokens_of.Goals as goal

pub returns : goal.returns
returns c =
    let g = c.args.grammar.now in
    let value : c.as_slice.result.now ≡ c.in_ok-tokens.tokens.items = c.as_slice.ensures.value in
    let all : All (IsNaming g) c.as_slice.result.now = subst (λ (ts : List NamedToken). All (IsNaming g) ts) (sym value) c.in_ok-tokens.ensures.names in
    subst (λ (ts : List Rule). Each (IsTokenDef (meaning c.args.patterns.now) g) ts c.in_ok-found.found) (ap trees_of value ∙ c.in_ok-tokens.ensures.trees)
    (c.in_ok-found.ensures c.requires.file c.word_token-word.ensures all)
