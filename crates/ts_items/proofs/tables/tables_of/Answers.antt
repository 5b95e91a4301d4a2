use Rattle.std.proofs.Common.{◌≡◌, ◌∙◌, ◌+◌, ℕ, List, [], ◌∷◌, ◌++◌, length, ap, subst, arith}
use Rattle.spec_grammar.specs.Symbols.{symbol_count, start_symbol}
use Rattle.ts_items.specs.declared.plain.Plain.{Plain}
use Rattle.ts_items.specs.Edges.{IsAskEdge, AreEdges}
use Rattle.ts_items.specs.Tables.{AreLines}
use Rattle.ts_items.proofs.FitLemmas.{plain_inside, few_plain, inside_both, some_rule}
use Rattle.ts_items.proofs.tables.tables_of.Goals as goal

pub lines_of-requires-clause-inside : goal.lines_of-requires-clause-inside
lines_of-requires-clause-inside c = inside_both (symbol_count c.args.grammar.now) _ c.in_ok-productions.productions.items c.as_slice.result.now (omega (arith, c.len.ensures, c.len-2.ensures)) c.as_slice.ensures.value (plain_inside c.args.grammar.now c.in_ok-productions.productions.items c.requires c.in_ok-productions.ensures)

pub lines_of-requires-clause-few : goal.lines_of-requires-clause-few
lines_of-requires-clause-few c = let few = few_plain c.args.grammar.now c.in_ok-productions.productions.items c.requires c.in_ok-productions.ensures in let e = ap (λ (l : List Plain). length l) c.as_slice.ensures.value in omega (arith, few, e)

pub ask_edges-requires : goal.ask_edges-requires
ask_edges-requires c = inside_both (symbol_count c.args.grammar.now) _ c.in_ok-productions.productions.items c.as_slice-2.result.now (omega (arith, c.len.ensures, c.len-2.ensures)) c.as_slice-2.ensures.value (plain_inside c.args.grammar.now c.in_ok-productions.productions.items c.requires c.in_ok-productions.ensures)

pub first_sets-requires-clause-inside : goal.first_sets-requires-clause-inside
first_sets-requires-clause-inside c = inside_both (symbol_count c.args.grammar.now) _ c.in_ok-productions.productions.items c.as_slice-3.result.now (omega (arith, c.len.ensures, c.len-2.ensures)) c.as_slice-3.ensures.value (plain_inside c.args.grammar.now c.in_ok-productions.productions.items c.requires c.in_ok-productions.ensures)

pub invariant_of-result : goal.invariant_of-result
invariant_of-result c =
    let g = c.args.grammar.now in
    let ps = c.in_ok-productions.productions.items in
    let count : c.len.result + c.len-2.result + 1 ≡ symbol_count g = omega (arith, c.len.ensures, c.len-2.ensures) in
    let few = c.requires.few_symbols in
    let start : c.len-4.result + 1 ≡ start_symbol g = omega (arith, c.len-4.ensures) in
    record {
      start = c.in_ok-push.ensures.items ∙ ap (λ (l : List ℕ). l ++ (c.len-4.result + 1) ∷ []) c.new-start.ensures.items ∙ ap (λ (n : ℕ). n ∷ []) start;
      few = omega (arith, few);
      some = some_rule g c.requires;
      plain = c.in_ok-productions.ensures;
      inside = plain_inside g ps c.requires c.in_ok-productions.ensures;
      few_productions = few_plain g ps c.requires c.in_ok-productions.ensures;
      lines = subst (λ (n : ℕ). AreLines ps n c.in_ok-lines.lines.items) count (subst (λ (l : List Plain). AreLines l (c.len.result + c.len-2.result + 1) c.in_ok-lines.lines.items) c.as_slice.ensures.value c.in_ok-lines.ensures);
      edges = subst (λ (n : ℕ). AreEdges IsAskEdge ps n c.in_ok-edges.edges.items) count (subst (λ (l : List Plain). AreEdges IsAskEdge l (c.len.result + c.len-2.result + 1) c.in_ok-edges.edges.items) c.as_slice-2.ensures.value c.in_ok-edges.ensures);
      firsts = c.in_ok-firsts.ensures;
      room = omega arith;
      narrow = omega (arith, c.len-3.ensures, few);
    }
