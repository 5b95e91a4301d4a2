use Rattle.ts_automata.proofs.NumberLemmas.{numbers_key}
use Rattle.ts_automata.proofs.numbering.number_of.Goals as goal

pub returns : goal.returns
returns c =
    let s = c.in_ok-number.ensures.stored in
    numbers_key c.args.sets.now.keys c.insert_full.new.self.keys c.args.set c.in_ok-number.number c.in_ok-number.ensures.keys s.0 s.1 s.2
