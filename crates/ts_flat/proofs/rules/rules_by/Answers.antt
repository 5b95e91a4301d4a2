use Rattle.std.proofs.Common.{◌∙◌, sym, ap, subst, List, length}
use Rattle.ts_core.specs.declared.symbol.Symbol.{Symbol}
use Rattle.ts_entries.specs.Owners.{IsOwnerSymbol}
use Rattle.ts_numbering.specs.Numberings.{numbers_of, lists_of}
use Rattle.ts_rules.specs.FirstSights.{Each}
use Rattle.ts_flat.proofs.EachLemmas.{each_long}
use Rattle.ts_flat.proofs.rules.rules_by.Goals as goal

pub repetitions-requires-clause-owners : goal.repetitions-requires-clause-owners
repetitions-requires-clause-owners c =
    ap length c.as_slice.ensures.value
    ∙ sym (each_long (IsOwnerSymbol c.args.grammar.now (numbers_of c.args.numbering.now)) (lists_of c.args.numbering.now).contents c.in_ok-owners.owners.items c.in_ok-owners.ensures)

pub returns : goal.returns
returns c =
    let n = numbers_of c.args.numbering.now in
    let x = lists_of c.args.numbering.now in
    let owners = subst (λ (os : List Symbol). Each (IsOwnerSymbol c.args.grammar.now n) x.contents os) (sym c.as_slice.ensures.value) c.in_ok-owners.ensures in
    record {
      own = c.in_ok-rules.rules;
      repetitions = c.in_ok-more.more;
      is = c.in_ok-append.ensures;
      are_own = c.in_ok-rules.ensures;
      are_repetitions = c.in_ok-more.ensures c.args.grammar.now owners;
    }
