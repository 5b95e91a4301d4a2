use Rattle.std.proofs.Common.{◌∙◌, ap, ℕ, List, [], ◌∷◌, ◌++◌}
use Rattle.ts_places.proofs.FrontierLemmas.{alone_open}
use Rattle.ts_places.proofs.frontier.Frontier.begin.Goals as goal

pub returns : goal.returns
returns c = λ place alone.
    alone_open c.args.graph.now place c.push.new.self.items
    (c.in_ok-push.ensures.items ∙ ap (λ (hs : List ℕ). hs ++ c.base.result ∷ []) c.clear.ensures.items ∙ ap (λ (n : ℕ). n ∷ []) c.base.ensures.is) alone
