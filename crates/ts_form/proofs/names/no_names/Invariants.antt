use Rattle.std.proofs.Common.{◌≡◌, length, All}
use Rattle.ts_form.specs.Forms.{IsNothing}
use Rattle.ts_form.proofs.names.no_names.Given as goal

abbrev pub invariant-loop : goal.invariant-loop
invariant-loop l = (length l.names.items ≡ l.counter) × All IsNothing l.names.items
