use Rattle.std.proofs.Common.{refl, sym, subst, ℕ}
use Rattle.ts_table.specs.declared.arrays.Arrays.{Arrays}
use Rattle.ts_table.specs.declared.arrays.RowPlaces.{RowPlaces}
use Rattle.spec_grammar.specs.Symbols.{start_symbol}
use Rattle.ts_table.specs.Rows.{IsLeastTo, IsRowAt}
use Rattle.ts_table.proofs.BuildLemmas.{rows_more, row_made, least_next}
use Rattle.ts_table.proofs.building.add_state.Goals as goal

pub token_row-requires-clause-ready : goal.token_row-requires-clause-ready
token_row-requires-clause-ready c = c.in_ok-set.ensures.ready c.args.grammar.now c.requires.source

pub returns-clause-rows : goal.returns-clause-rows
returns-clause-rows c =
    let g = c.args.grammar.now in
    let items = c.args.items.now in
    let p : RowPlaces = record { gotos = c.in_ok-gotos.gotos; actions = c.in_ok-actions.actions } in
    let b : Arrays = record { states = c.push.new.self; gotos = c.place_of_gotos.new.rows; actions = c.place_of_actions.new.rows; lists = c.token_row.new.lists } in
    rows_more g items c.args.arrays.now b c.args.at p c.place_of_gotos.ensures.grows c.place_of_actions.ensures.grows c.in_ok-found.ensures.grows c.in_ok-push.ensures.items c.requires.rows
    (subst (λ (n : ℕ). IsRowAt g items b n p) c.in_ok-set.ensures.at
    (row_made g items b c.in_ok-set.set p c.in_ok-found.found.row.items c.token_row.new.lists.keys (c.in_ok-set.ensures.ready g c.requires.source) c.in_ok-gotos.ensures.place c.in_ok-actions.ensures.place refl c.in_ok-found.ensures.row))

pub returns-clause-least : goal.returns-clause-least
returns-clause-least c h =
    let g = c.args.grammar.now in
    let items = c.args.items.now in
    least_next g items c.args.at c.in_ok-found.found.least
    (subst (λ (n : ℕ). IsLeastTo g items n (start_symbol g) c.in_ok-found.found.least) c.in_ok-set.ensures.at
    (c.in_ok-found.ensures.least (subst (λ (n : ℕ). IsLeastTo g items n 0 c.args.old) (sym c.in_ok-set.ensures.at) h)))
