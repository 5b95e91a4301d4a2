use Rattle.std.proofs.Common.{◌∙◌, ap, subst, Bool, List, length}
use Rattle.ts_base.specs.Bytes.{Bytes}
use Rattle.ts_rules.specs.Names.{told}
use Rattle.ts_tokens.specs.Definitions.{AreDefined}
use Rattle.ts_tokens.specs.Names.{HaveSame}
use Rattle.ts_tokens.specs.Patterns.{meaning}
use Rattle.ts_tokens.proofs.DefinitionLemmas.{all_defined}
use Rattle.ts_tokens.proofs.definition.token_definitions.Goals as goal

pub definitions-requires : goal.definitions-requires
definitions-requires c = ap (λ (xs : List Bool). length xs) c.as_slice-2.ensures.value ∙ c.in_ok-keywords.ensures.count

pub returns : goal.returns
returns c = λ file word names_are.
    let g = c.args.grammar.now in
    let pattern = meaning c.args.patterns.now in
    let names = told c.in_ok-supertypes.supertypes.keys in
    let tokens = c.args.tokens.now in
    let flags = c.in_ok-keywords.keywords.items in
    let same = subst (λ (xs : List Bytes). HaveSame names xs) c.as_slice.ensures c.in_ok-supertypes.ensures in
    let are = subst (λ (fs : List Bool). AreDefined pattern names tokens fs (length tokens) c.in_ok-defs.defs) c.as_slice-2.ensures.value c.in_ok-defs.ensures in
    all_defined pattern g names tokens flags c.in_ok-defs.defs same names_are c.in_ok-keywords.ensures.count (c.in_ok-keywords.ensures.keywords g file word) are
