use Rattle.std.proofs.Common.{◌≡◌, ◌∙◌, ap, sym, subst, length, inl, inr, ⊎_elim, List, arith}
use Rattle.std.specs.Global.{Vec}
use Rattle.std.specs.List.{Contains}
use Rattle.std.proofs.lemmas.Result.{err_from_is_err_and}
use Rattle.ts_items.specs.declared.part.Part.{Part}
use Rattle.ts_items.specs.Closing.{AreLineParts, Closes}
use Rattle.ts_items.proofs.ListLemmas.{one_at}
use Rattle.ts_items.proofs.GotoLemmas.{over_at, states_grown, gotos_end}
use Rattle.ts_items.proofs.StandLemmas.{are_too_many}
use Rattle.ts_items.proofs.numbering.state_of.Goals as goal

pub close-requires-clause-parts : goal.close-requires-clause-parts
close-requires-clause-parts c =
    let k = c.kernel_at.ensures in
    subst (AreLineParts (length c.args.tabled.now.tables.productions.items) c.args.pool.now.keys) (sym k.2) (c.requires.states c.args.at k.0 k.1).parts

pub moved-requires : goal.moved-requires
moved-requires c q h = (c.in_ok-parts.ensures.closes.parts_are q (subst (λ (l : List Part). Contains l q) c.as_slice.ensures.value h)).line

pub gotos_of-requires : goal.gotos_of-requires
gotos_of-requires c =
    let few = c.stands.ensures.few in
    let size = c.stands.ensures.firsts.count in
    let all = ap (λ (l : List (Vec Part)). length l) c.as_slice-2.ensures.value in
    let count = c.in_ok-over.ensures.count in
    omega (arith, few, size, all, count)

pub returns-clause-states : goal.returns-clause-states
returns-clause-states c =
    let over = over_at c.args.tabled.now.grammar (length c.args.tabled.now.tables.productions.items) c.args.at c.args.pool.now.keys c.close.new.pool.keys c.args.kernels.now.keys c.kernel_at.result.now c.in_ok-parts.parts.items c.as_slice.result.now c.in_ok-over.over.items c.as_slice-2.result.now c.kernel_at.ensures c.requires.states c.in_ok-parts.ensures.grows
    c.in_ok-parts.ensures.closes c.as_slice.ensures.value c.as_slice-2.ensures.value c.in_ok-over.ensures.moved in
    c.gotos_of.ensures.states c.args.tabled.now.grammar (length c.args.tabled.now.tables.productions.items) c.close.new.pool.keys c.in_ok-parts.parts.items over
    (states_grown c.args.tabled.now.grammar (length c.args.tabled.now.tables.productions.items) c.args.pool.now.keys c.close.new.pool.keys c.args.kernels.now.keys c.in_ok-parts.ensures.grows c.requires.states)

pub returns-clause-done : goal.returns-clause-done
returns-clause-done c k at =
    let over = over_at c.args.tabled.now.grammar (length c.args.tabled.now.tables.productions.items) c.args.at c.args.pool.now.keys c.close.new.pool.keys c.args.kernels.now.keys c.kernel_at.result.now c.in_ok-parts.parts.items c.as_slice.result.now c.in_ok-over.over.items c.as_slice-2.result.now c.kernel_at.ensures c.requires.states c.in_ok-parts.ensures.grows
    c.in_ok-parts.ensures.closes c.as_slice.ensures.value c.as_slice-2.ensures.value c.in_ok-over.ensures.moved in
    let w = c.kernel_at.ensures in
    let same : c.kernel_at.result.now ≡ k.items = w.2 ∙ ap (λ (v : Vec Part). v.items) (one_at c.args.kernels.now.keys c.args.at w.0 k w.1 at) in
    let count : length c.as_slice-2.result.now ≡ length c.args.tabled.now.tables.firsts.items = ap (λ (l : List (Vec Part)). length l) c.as_slice-2.ensures.value ∙ c.in_ok-over.ensures.count in
    record {
      closes = subst (λ (l : List Part). Closes c.args.tabled.now.grammar (length c.args.tabled.now.tables.productions.items) c.close.new.pool.keys l c.in_ok-parts.parts.items) same c.in_ok-parts.ensures.closes;
      gotos = gotos_end c.args.tabled.now.grammar c.close.new.pool.keys c.gotos_of.new.kernels.keys c.in_ok-parts.parts.items (length c.as_slice-2.result.now) (length c.args.tabled.now.tables.firsts.items) c.in_ok-gotos.gotos.items count
          (c.in_ok-gotos.ensures.gotos c.args.tabled.now.grammar (length c.args.tabled.now.tables.productions.items) c.close.new.pool.keys c.in_ok-parts.parts.items over);
    }

pub returns-in_err-gotos-clause-many : goal.returns-in_err-gotos-clause-many
returns-in_err-gotos-clause-many c =
    let p = err_from_is_err_and c.from_residual-in_err-gotos.result c.from_residual-in_err-gotos.ensures.1 in
    rw (p.1, p.2) (⊎_elim (λ m. inl m) (λ w. inr (
      w.0,
      λ once.
          let over = over_at c.args.tabled.now.grammar (length c.args.tabled.now.tables.productions.items) c.args.at c.args.pool.now.keys c.close.new.pool.keys c.args.kernels.now.keys c.kernel_at.result.now c.in_ok-parts.parts.items c.as_slice.result.now c.in_ok-over.over.items c.as_slice-2.result.now c.kernel_at.ensures c.requires.states c.in_ok-parts.ensures.grows
          c.in_ok-parts.ensures.closes c.as_slice.ensures.value c.as_slice-2.ensures.value c.in_ok-over.ensures.moved in
          let states = c.gotos_of.ensures.states c.args.tabled.now.grammar (length c.args.tabled.now.tables.productions.items) c.close.new.pool.keys c.in_ok-parts.parts.items over
          (states_grown c.args.tabled.now.grammar (length c.args.tabled.now.tables.productions.items) c.args.pool.now.keys c.close.new.pool.keys c.args.kernels.now.keys c.in_ok-parts.ensures.grows c.requires.states) in
          are_too_many c.same_words.ensures c.args.tabled.now.grammar c.args.tabled.now.tables.width (length c.args.tabled.now.tables.productions.items) c.close.new.pool.keys c.gotos_of.new.kernels.keys c.in_ok-parts.ensures.pool states (c.gotos_of.ensures.once once) w.1,
    )) c.in_err-gotos.ensures.many)
