use Rattle.std.proofs.Common.{◌≡◌, not, sym, ap, ◌∙◌}
use Rattle.ts_ojson.specs.Gathered.{has_name, leading}
use Rattle.ts_ojson.proofs.CodeLemmas.{is_claimed, taken_or_new}
use Rattle.ts_ojson.proofs.gathered.Gathered.claim.Goals as goal

pub invariant_of-result : goal.invariant_of-result
invariant_of-result g c n = is_claimed n c.args.name c.self.inside.members c.in_ok-key_of.field-0 _ _ c.in_ok-key_of.ensures (c.self.invariant n) (c.in_ok-insert.ensures.updates.0 (leading n, n))

pub returns-then-branch : goal.returns-then-branch
returns-then-branch g c =
    let same : c.self.inside.members ≡ c.args.self = cc (c.self.view_is) in
    let is = taken_or_new c.args.name c.self.inside.members c.in_ok-key_of.field-0 c.self.inside.names c.in_ok-insert.field-0 c.in_ok-key_of.ensures (c.self.invariant c.args.name) c.in_ok-insert.ensures.added in
    (sym (ap (has_name c.args.name) same) ∙ is ∙ ap not c.if-branch.true, ap (λ t. (t, c.args.name)) same)

pub returns : goal.returns
returns g c =
    let same : c.self.inside.members ≡ c.args.self = cc (c.self.view_is) in
    let is = taken_or_new c.args.name c.self.inside.members c.in_ok-key_of.field-0 c.self.inside.names c.in_ok-insert.field-0 c.in_ok-key_of.ensures (c.self.invariant c.args.name) c.in_ok-insert.ensures.added in
    sym (ap (has_name c.args.name) same) ∙ is ∙ ap not c.if-branch.false
