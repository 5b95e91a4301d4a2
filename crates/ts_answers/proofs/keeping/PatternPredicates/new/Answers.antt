use Rattle.std.proofs.Common.{◌≡◌, ◌∙◌, sym}
use Rattle.std.proofs.lemmas.List.Elements.{All-get_or}
use Rattle.ts_answers.proofs.KeepingLemmas.{same_rules}
use Rattle.ts_answers.proofs.keeping.PatternPredicates.new.Goals as goal

pub invariant_of-result : goal.invariant_of-result
invariant_of-result g c = λ k d within.
    let p = All-get_or (λ rules. (rules.query ≡ c.args.query.now) × ((rules.text ≡ c.args.text.now) × (rules.hosts ≡ c.args.hosts.now))) c.loop.each.items k d within c.loop.invariant in
    let none = c.new-none.ensures in
    same_rules _ c.new-none.result (p.0 ∙ sym none.query) (p.1.0 ∙ sym none.text) (p.1.1 ∙ sym none.hosts)
