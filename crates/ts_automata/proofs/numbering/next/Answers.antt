use Rattle.std.proofs.Common.{◌≡◌, ◌∙◌, sym, subst, List, ℕ, Some}
use Rattle.std.specs.List.{Contains}
use Rattle.ts_automata.specs.Sets.{Same, Moves}
use Rattle.ts_automata.proofs.numbering.next.Goals as goal

pub returns-clause-next : goal.returns-clause-next
returns-clause-next c s at =
    let same : Some c.set_at.result.now ≡ Some s = sym c.set_at.ensures ∙ at in
    let one : c.set_at.result.now ≡ s = cc in
    let closed = rw c.as_slice.ensures.value at c.in_ok-set.ensures in
    record {
      kernel = c.in_ok-kernel.kernel.items;
      moves = subst (λ (l : List ℕ). Same (Contains c.in_ok-kernel.kernel.items) (Moves c.args.nodes.now l c.args.c)) one c.in_ok-kernel.ensures;
      set = c.in_ok-set.set.items;
      at = c.in_ok-number.ensures.at;
      closed = closed;
    }
