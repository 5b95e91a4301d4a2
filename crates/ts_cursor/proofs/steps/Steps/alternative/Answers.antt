use Rattle.std.proofs.Common.{◌≡◌, ◌∙◌, ◌+◌, ap, get_or, map, [], List, Bor}
use Rattle.ts_core.specs.declared.flat.Step.{Step}
use Rattle.ts_core.specs.declared.flat.FlatGrammar.{FlatGrammar}
use Rattle.spec_trees.specs.VisibleNodes.{steps_at}
use Rattle.ts_cursor.proofs.NumberLemmas.{steps_read}
use Rattle.ts_cursor.proofs.steps.Steps.alternative.Goals as goal

pub returns : goal.returns
returns c =
    let s : c.as_slice.result.now ≡ c.self.inside.steps.items = c.as_slice.ensures.value in
    c.steps_past.ensures
    ∙ ap (λ (xs : List (Bor (List Step))). get_or (map (λ x. x.now) xs) (c.args.first + c.args.alternative) []) s
    ∙ steps_read c.self.inside.grammar.now c.self.inside.firsts.items (map (λ x. x.now) c.self.inside.steps.items) (c.args.first + c.args.alternative) c.self.invariant
    ∙ ap (λ (g : FlatGrammar). steps_at g (c.args.first + c.args.alternative)) c.self.view_is
