use Rattle.std.proofs.Common.{refl, None}
use Rattle.spec_grammar.specs.Symbols.{symbol_count}
use Rattle.ts_glr.proofs.SpreadLemmas.{begun, entered_alone}
use Rattle.ts_glr.proofs.spread.Spread.begin.Goals as goal

pub enter-self-requires-clause-can : goal.enter-self-requires-clause-can
enter-self-requires-clause-can c = c.requires.can

pub enter-self-requires-clause-one : goal.enter-self-requires-clause-one
enter-self-requires-clause-one c = c.requires.one

pub returns : goal.returns
returns c t text s can own some setting =
    let ranks = c.unit_ranks.ensures t.grammar can.table.fit in
    let g = c.enter-self.new.graph in
    let place = c.enter-self.result in
    let e = c.enter-self.ensures t text can in
    begun t text s c.args.stacks c.args.start c.left_laws_hold.ensures.keeps some (symbol_count t.grammar) (record { below = ranks.below; single = ranks.unit }) own setting g place c.begin.new.self
    (record { accepting = c.clear.new.self; stuck = None }) c.args.self.now.sights c.args.self.now.numbers e
    (c.in_ok-begin.ensures place (entered_alone t text c.args.stacks c.args.start g place e))
    (c.ends_begin.ensures t text g place (record { accepting = c.clear.new.self; stuck = None }) c.clear.ensures.items refl)
