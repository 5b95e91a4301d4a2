use Rattle.std.proofs.Common.{ℕ, ◌+◌, List, Option, Some, map, drop}
use Rattle.ts_automata.specs.declared.node.Node.{Node}
use Rattle.spec_lexing.specs.Words.{regular_of, all_of, any_of, repeat}
use Rattle.ts_automata.specs.Grows.{Grows, plus}
use Rattle.ts_automata.proofs.compile.+compile.Given as goal

abbrev pub invariant-add_all-loop-i : goal.invariant-add_all-loop-i
invariant-add_all-loop-i l = Grows (all_of (map regular_of (drop l.i l.parts))) l.next l.fn.nodes.items l.nodes.items l.to

abbrev pub invariant-add_any-loop-i : goal.invariant-add_any-loop-i
invariant-add_any-loop-i l = Grows (any_of (map regular_of (drop l.i l.parts))) l.next l.fn.nodes.items l.nodes.items l.to

abbrev pub invariant-add_times-loop-done : goal.invariant-add_times-loop-done
invariant-add_times-loop-done l = (least : ℕ) (most : Option ℕ) (next : ℕ) (start : List Node)
    → Grows (repeat (regular_of l.inner) least most) next start l.fn.nodes.items l.to
    → Grows (repeat (regular_of l.inner) (l._done + least) (plus l._done most)) next start l.nodes.items l.place

abbrev pub invariant-add_up_to-loop-done : goal.invariant-add_up_to-loop-done
invariant-add_up_to-loop-done l = Grows (repeat (regular_of l.inner) 0 (Some l._done)) l.next l.fn.nodes.items l.nodes.items l.place
