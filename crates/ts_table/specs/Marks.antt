-- What productions say of precedences.
use Rattle.std.specs.Prelude.{◌≡◌, ℕ, zero, suc, List, map, slice_get, Option, None, option_map, unwrap_or, ◌⊎◌}
use Rattle.ts_core.specs.declared.flat.FlatGrammar.{FlatGrammar}
use Rattle.ts_core.specs.declared.flat.FlatRule.{FlatRule}
use Rattle.ts_core.specs.declared.flat.Production.{Production}
use Rattle.ts_core.specs.declared.flat.Step.{Step}
use Rattle.ts_core.specs.declared.flat.Prec.TheVariants as prec
use Rattle.ts_core.specs.declared.flat.Assoc.TheVariants as assoc
use Rattle.spec_grammar.specs.Symbols.{productions_from, all_productions, start_symbol}
use Rattle.spec_tables.specs.Items.{Line}
use Rattle.spec_tables.specs.Actions.{step_before, rule_in, key_by, prec_number, IsEarlier, AreOrdered, IsGreater}
use Rattle.ts_table.specs.declared.marks.Mark.{Mark}
use Rattle.ts_table.specs.declared.marks.Marked.{Marked}
use Rattle.ts_table.specs.declared.marks.Marks.{Marks}
use Rattle.ts_table.specs.declared.marks.Weight.{Weight}

-- what a step says of precedences
abbrev pub mark_of : Step → Mark
mark_of step = record { symbol = step.symbol.0; prec = step.prec; assoc = step.assoc }

-- what steps say of precedences, in order
abbrev pub marks_in : List Step → List Mark
marks_in steps = map mark_of steps

-- a left side and the marks on the right
abbrev pub marked : ℕ × Production → ℕ × List Mark
marked p = (p.0, marks_in p.1.steps)

-- the productions of one rule, each as this left side and the marks on the right
abbrev pub marked_rule : ℕ → List Production → List (ℕ × List Mark)
marked_rule left productions = map (λ production. marked (left, production)) productions

-- the productions of rules, the first of which has this symbol
abbrev pub marked_rules : ℕ → List FlatRule → List (ℕ × List Mark)
marked_rules first rules = map marked (productions_from first rules)

-- the productions of the code, each as a left side and the marks on the right
abbrev pub seen_marked : List Marked → List (ℕ × List Mark)
seen_marked productions = map (λ p. (p.left, p.steps.items)) productions

-- these are the productions of the grammar, by their numbers
pub record AreMarksOf (g : FlatGrammar) (m : Marks) : Type 0 where
  pub start : m.start ≡ start_symbol g
  pub productions : seen_marked m.productions.items ≡ map marked (all_productions g)

-- the mark before a dot
abbrev pub mark_before : List Mark → ℕ → Option Mark
mark_before marks zero = None
mark_before marks (suc dot) = slice_get marks dot

-- the symbol at a place
abbrev pub symbol_of_mark : List Mark → ℕ → Option ℕ
symbol_of_mark marks at = option_map (λ mark. mark.symbol) (slice_get marks at)

-- what a mark says in a production of a rule
abbrev pub weight_by : Option Mark → ℕ → Weight
weight_by before rule = record {
  prec = unwrap_or (option_map (λ mark. mark.prec) before) prec.Absent;
  assoc = unwrap_or (option_map (λ mark. mark.assoc) before) assoc.Absent;
  rule = rule;
}

-- what is compared of the items with this production and dot
abbrev pub weight_of : FlatGrammar → Line → ℕ → Weight
weight_of g line dot = record {
  prec = unwrap_or (option_map (λ step. step.prec) (step_before g line dot)) prec.Absent;
  assoc = unwrap_or (option_map (λ step. step.assoc) (step_before g line dot)) assoc.Absent;
  rule = rule_in g line;
}

-- the first is higher: by the orderings, or else by the numbers
abbrev pub HigherBy : FlatGrammar → Weight → Weight → Type 0
HigherBy g a b =
    IsEarlier g (key_by a.prec a.rule) (key_by b.prec b.rule)
    ⊎ ((AreOrdered g (key_by a.prec a.rule) (key_by b.prec b.rule) → ⊥)
    × IsGreater (prec_number a.prec) (prec_number b.prec))
