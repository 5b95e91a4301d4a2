use Rattle.std.proofs.Common.{drop}
use Rattle.json.specs.Written.{Written}
use Rattle.ts_print.specs.Written.{AddsTokens}
use Rattle.ts_print.proofs.WrittenLemmas.{names_left}
use Rattle.ts_print.proofs.tree.put_fields.Given as goal

-- whatever ends it well from here ends it well from the start
abbrev pub invariant-loop-field : goal.invariant-loop-field
invariant-loop-field l =
    (end : Written) → AddsTokens (names_left l.grammar (drop l.field-index l.fields)) l.out end
    → AddsTokens (names_left l.grammar l.fields) l.initial.out end
