use Rattle.std.proofs.Common.{ap, List, ℕ, ◌∷◌, []}
use Rattle.ts_automata.proofs.machine.kernels_of.Goals as goal

pub returns : goal.returns
returns c = rw (c.in_ok-push.ensures.items, c.new-kernels.ensures.items) (ap (λ (l : List ℕ). l ∷ []) c.in_ok-from_slice.ensures.items)
