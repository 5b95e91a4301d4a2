use Rattle.std.proofs.Common.{◌<◌, length, arith}
use Rattle.std.proofs.lemmas.Grind.{common_steps}
use Rattle.std.proofs.lemmas.Bool.Decides.{nat_tests}
use Rattle.ts_items.proofs.GotoLemmas.{enters_some, goto_some, some_parts}
use Rattle.ts_items.proofs.numbering.add_goto.Goals as goal

pub returns-clause-enters : goal.returns-clause-enters
returns-clause-enters c =
    let some : 0 < length c.args.parts.now = grind (arith, nat_tests, common_steps, c.if-is_empty.ensures) in
    enters_some c.args.parts.now c.in_ok-kernel.kernel c.args.kernels.now.keys c.number_of.new.kernels.keys (some_parts c.args.parts.now some) c.in_ok-kernel.ensures c.in_ok-number.ensures.grows c.in_ok-number.ensures.of c.in_ok-number.ensures.once

pub returns-clause-goto : goal.returns-clause-goto
returns-clause-goto c =
    let some : 0 < length c.args.parts.now = grind (arith, nat_tests, common_steps, c.if-is_empty.ensures) in
    goto_some c.number_of.new.kernels.keys c.args.symbol c.in_ok-number.number c.args.parts.now c.in_ok-kernel.kernel c.args.gotos.now.items c.push.new.self.items (some_parts c.args.parts.now some) c.in_ok-kernel.ensures c.in_ok-number.ensures.place c.in_ok-push.ensures.items
