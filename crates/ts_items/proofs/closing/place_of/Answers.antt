use Rattle.std.proofs.Common.{◌∙◌, sym}
use Rattle.ts_items.proofs.PoolLemmas.{pool_grows, pool_insert, same_place, found_place, words_same}
use Rattle.ts_items.proofs.closing.place_of.Goals as goal

pub returns-in-Some-clause-same : goal.returns-in-Some-clause-same
returns-in-Some-clause-same c = found_place c.args.pool.now.keys c.in-Some.place c.args.set.now c.in-Some.ensures.index

pub returns-clause-pool : goal.returns-clause-pool
returns-clause-pool c n pool wide = pool_insert n c.args.pool.now.keys c.insert_full.new.self.keys c.args.set.now c.in_ok-copy.field-0 c.in_ok-copy.ensures c.in_ok-place.ensures.keys pool wide

pub returns-clause-same : goal.returns-clause-same
returns-clause-same c = let s = c.in_ok-place.ensures.stored in same_place c.insert_full.new.self.keys c.in_ok-place.place s.0 c.args.set.now s.1 (sym (words_same c.in_ok-copy.field-0 s.0 s.2) ∙ c.in_ok-copy.ensures)

pub returns-clause-grows : goal.returns-clause-grows
returns-clause-grows c = pool_grows c.args.pool.now.keys c.insert_full.new.self.keys c.in_ok-copy.field-0 c.in_ok-place.ensures.keys
