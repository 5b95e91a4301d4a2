use Rattle.std.proofs.Common.{◌≡◌, take}
use Rattle.std.specs.List.{Contains}
use Rattle.ts_items.specs.Closing.{AddsParts}
use Rattle.ts_items.proofs.closing.add_lines.Given as goal

abbrev pub invariant-loop-line : goal.invariant-loop-line
invariant-loop-line l = AddsParts (λ q. Contains (take l.line-index l.lines) q.line × (q.dot ≡ 0) × (q.tokens ≡ l.tokens)) l.initial.parts.items l.parts.items
