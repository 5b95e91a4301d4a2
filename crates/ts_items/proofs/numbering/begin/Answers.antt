use Rattle.std.proofs.Common.{◌∙◌, ◌∷◌, ◌++◌, [], ap, sym, refl, subst, ℕ, List, length, arith}
use Rattle.ts_items.specs.declared.part.Part.{Part}
use Rattle.ts_bits.specs.Members.{IsWide}
use Rattle.ts_items.specs.Closing.{IsPool}
use Rattle.ts_items.proofs.PoolLemmas.{pool_begins}
use Rattle.ts_items.proofs.GotoLemmas.{begin_collecting, begin_few, end_set, single_sorted}
use Rattle.ts_items.proofs.numbering.begin.Goals as goal

pub insert-requires : goal.insert-requires
insert-requires c = let room = c.stands.ensures.room in let size = c.in_ok-end.ensures.wide.words in omega (arith, room, size)

pub returns-clause-few : goal.returns-clause-few
returns-clause-few c =
    let pool = c.place_of.new.pool.keys in
    let tokens = c.in_ok-tokens.tokens in
    let set = end_set pool tokens 0 c.insert.new.self c.in_ok-end.end c.in_ok-tokens.ensures.same c.insert.ensures.members refl c.in_ok-end.ensures.empty in
    let is = c.in_ok-push.ensures.items ∙ ap (λ (l : List Part). l ++ record { line = 0; dot = 0; tokens = tokens } ∷ []) c.new-start.ensures.items in
    begin_few c.args.tabled.now.grammar 0 0 tokens pool c.push.new.self c.args.kernels.now.keys c.number_of.new.kernels.keys c.in_ok-tokens.ensures.inside set is c.requires.empty.1 c.in_ok-number_of.ensures.of c.in_ok-number_of.ensures.once c.in_ok-number_of.field-0 c.in_ok-number_of.ensures.place

pub returns-clause-begun : goal.returns-clause-begun
returns-clause-begun c =
    let pool = c.place_of.new.pool.keys in
    let tokens = c.in_ok-tokens.tokens in
    let set = end_set pool tokens 0 c.insert.new.self c.in_ok-end.end c.in_ok-tokens.ensures.same c.insert.ensures.members refl c.in_ok-end.ensures.empty in
    let is = c.in_ok-push.ensures.items ∙ ap (λ (l : List Part). l ++ record { line = 0; dot = 0; tokens = tokens } ∷ []) c.new-start.ensures.items in
    begin_collecting c.args.tabled.now.grammar (length c.args.tabled.now.tables.productions.items) (length c.args.tabled.now.tables.firsts.items) tokens pool c.push.new.self c.args.kernels.now.keys c.number_of.new.kernels.keys c.in_ok-tokens.ensures.inside set is c.requires.empty.1 c.in_ok-number_of.ensures.of c.in_ok-number_of.ensures.once c.in_ok-number_of.field-0 c.in_ok-number_of.ensures.place (single_sorted (record { line = 0; dot = 0; tokens = tokens }))

pub returns-clause-pool : goal.returns-clause-pool
returns-clause-pool c = c.in_ok-tokens.ensures.pool c.args.tabled.now.tables.width (subst (IsPool c.args.tabled.now.tables.width) (sym c.requires.empty.0) (pool_begins c.args.tabled.now.tables.width)) (c.insert.ensures.wide c.args.tabled.now.tables.width (subst (λ (n : ℕ). IsWide n c.in_ok-end.end) c.width.ensures c.in_ok-end.ensures.wide))
