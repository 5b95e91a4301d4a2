use Rattle.std.proofs.Common.{◌∙◌, ◌++◌, ap, subst, length, List}
use Rattle.std.specs.Global.{Vec}
use Rattle.ts_items.specs.declared.part.Part.{Part}
use Rattle.ts_items.specs.Closing.{AreBegun}
use Rattle.ts_items.proofs.AskLemmas.{closes}
use Rattle.ts_items.proofs.closing.close.Goals as goal

pub returns-clause-closes : goal.returns-clause-closes
returns-clause-closes c =
    let start = c.in_ok-extend_from_slice.ensures.items ∙ ap (λ (l : List Part). l ++ c.args.kernel.now) c.new-parts.ensures.items in
    let begun = subst (λ (l : List Part). AreBegun c.args.tabled.now.tables.lines.items c.ask_for.new.asked c.add_begun.new.pool.keys (length c.ask_for.new.asked) l c.add_begun.new.parts.items) start
    (subst (λ (l : List (Vec _)). AreBegun l c.ask_for.new.asked c.add_begun.new.pool.keys (length c.ask_for.new.asked) c.extend_from_slice.new.self.items c.add_begun.new.parts.items) c.lines.ensures c.in_ok-add_begun.ensures.begun) in
    closes c.args.tabled.now.grammar c.args.tabled.now.tables c.args.pool.now.keys c.add_begun.new.pool.keys c.ask_for.new.asked c.args.kernel.now c.add_begun.new.parts.items c.stands.ensures c.requires.parts c.in_ok-add_begun.ensures.grows
    (c.in_ok-add_begun.ensures.pool c.args.tabled.now.tables.width c.requires.pool c.in_ok-ask_for.ensures.wide) c.same_words.ensures c.in_ok-ask_for.ensures.asked begun
