use Rattle.ts_numbering.proofs.TokenLemmas.{lent_new, lent_again}
use Rattle.ts_numbering.proofs.gather.note.Goals as goal

pub returns-in_ok-insert-2 : goal.returns-in_ok-insert-2
returns-in_ok-insert-2 c seen before =
    lent_again seen c.args.tokens.now.first.keys c.insert.new.self.keys c.args.tokens.now.again.keys c.insert-then-not-branch.new.self.keys c.args.tree c.in_ok-insert.field-0 c.in_ok-insert.ensures.added c.if-not-branch.true c.in_ok-insert.ensures.keys c.in_ok-insert-2.ensures.keys before

pub returns-else-not-branch : goal.returns-else-not-branch
returns-else-not-branch c seen before =
    lent_new seen c.args.tokens.now.first.keys c.insert.new.self.keys c.args.tokens.now.again.keys c.args.tree c.in_ok-insert.field-0 c.in_ok-insert.ensures.added c.if-not-branch.false c.in_ok-insert.ensures.keys before
