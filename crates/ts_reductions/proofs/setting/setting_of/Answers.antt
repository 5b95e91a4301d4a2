use Rattle.std.proofs.Common.{◌∙◌, ◌≤◌, ◌<◌, ◌^◌, length, refl, sym, subst}
use Rattle.ts_core.specs.declared.flat.FlatGrammar.{FlatGrammar}
use Rattle.spec_grammar.specs.Symbols.{all_productions, symbol_count}
use Rattle.ts_reductions.specs.Lines.{HasAllLines}
use Rattle.ts_reductions.specs.Ranking.{AreRanksOf}
use Rattle.ts_reductions.proofs.LineLemmas.{few_symbols, few_productions}
use Rattle.ts_reductions.proofs.setting.setting_of.Goals as goal

pub new-requires-clause-symbols : goal.new-requires-clause-symbols
new-requires-clause-symbols c = subst (λ (g : FlatGrammar). symbol_count g ≤ 2 ^ 16) (sym c.grammar-flat.ensures) (few_symbols c.args.table.now.grammar c.stands.ensures.fit)

pub new-requires-clause-productions : goal.new-requires-clause-productions
new-requires-clause-productions c = subst (λ (g : FlatGrammar). length (all_productions g) < 2 ^ 32) (sym c.grammar-flat.ensures) (few_productions c.args.table.now.grammar c.stands.ensures.fit)

pub lines_of-requires-clause-symbols : goal.lines_of-requires-clause-symbols
lines_of-requires-clause-symbols c = subst (λ (g : FlatGrammar). symbol_count g ≤ 2 ^ 16) (sym c.grammar-flat.ensures) (few_symbols c.args.table.now.grammar c.stands.ensures.fit)

pub lines_of-requires-clause-productions : goal.lines_of-requires-clause-productions
lines_of-requires-clause-productions c = subst (λ (g : FlatGrammar). length (all_productions g) < 2 ^ 32) (sym c.grammar-flat.ensures) (few_productions c.args.table.now.grammar c.stands.ensures.fit)

pub ranks_of-requires : goal.ranks_of-requires
ranks_of-requires c = record { symbols = subst (λ (g : FlatGrammar). symbol_count g ≤ 2 ^ 16) (sym c.grammar-flat.ensures) (few_symbols c.args.table.now.grammar c.stands.ensures.fit) }

pub returns : goal.returns
returns c = record {
  productions = c.in_ok-productions.ensures ∙ c.grammar-flat.ensures;
  lines = subst (λ (g : FlatGrammar). HasAllLines g c.in_ok-lines.lines) c.grammar-flat.ensures c.in_ok-lines.ensures;
  ranks = subst (λ (g : FlatGrammar). AreRanksOf g c.in_ok-ranks.ranks) c.grammar-flat.ensures c.in_ok-ranks.ensures;
  size_is = refl;
  short = c.requires.short;
}
