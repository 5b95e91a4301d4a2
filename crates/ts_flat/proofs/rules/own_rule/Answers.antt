use Rattle.ts_numbering.specs.Numberings.{numbers_of, lists_of}
use Rattle.ts_flat.proofs.rules.own_rule.Goals as goal
use Rattle.std.proofs.Common.{◌≡◌, ◌∙◌, sym, ap, subst}
use Rattle.ts_base.specs.Bytes.{Bytes}
use Rattle.ts_rules.specs.Normal.{IsOwnRule}
use Rattle.ts_rules.specs.Productions.{symbol}
use Rattle.ts_rules.specs.Tokens.{IsKind}

pub returns : goal.returns
returns c = λ g rule same at.
    let name = c.name_at-name.ensures rule at in
    record {
      name = c.in_ok-copy.ensures ∙ c.text.ensures ∙ sym name;
      kind = subst (λ (n : Bytes). IsKind g n c.kind_of.result) (sym name) (c.kind_of.ensures g same);
      owner = c.rule_symbol.ensures ∙ ap (λ (n : Bytes). symbol ((numbers_of c.args.numbering.now).rule n)) (sym name);
      productions = c.in_ok-productions.ensures (numbers_of c.args.numbering.now) (lists_of c.args.numbering.now) rule c.requires.sources at;
    }
