use Rattle.std.proofs.Common.{◌≡◌, Some, slice_get, subst, sym}
use Rattle.std.proofs.lemmas.Option.{slice_get-get_or, slice_get_within}
use Rattle.ts_search.specs.declared.group.Group.{Group}
use Rattle.ts_search.proofs.IndexLemmas.{puts_at}
use Rattle.ts_search.proofs.index.add.Goals as goal

pub returns : goal.returns
returns c =
    puts_at c.args.groups.now.items c.args.one.now c.args.at c.index_mut.result.now c.push.new.self
    (subst (λ (g : Group). slice_get c.args.groups.now.items c.args.at ≡ Some g) (sym c.index_mut.ensures.value) (slice_get-get_or c.args.groups.now.items c.args.at _ (slice_get_within c.args.groups.now.items c.args.at c.requires.0 c.requires.1))) c.requires c.in_ok-push.ensures.items
