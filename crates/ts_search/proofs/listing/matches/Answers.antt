use Rattle.ts_search.proofs.HitLemmas.{all_listed, few_of, too_many}
use Rattle.ts_search.proofs.listing.matches.Goals as goal

pub returns-then-is_full-clause-many : goal.returns-then-is_full-clause-many
returns-then-is_full-clause-many g c e = too_many c.args.sight.now (g.K.Keep.kept c.args.keep.now) c.args.patterns.now c.one_order.ensures.one_match c.in_ok-found.found c.in_ok-found.ensures.matches (c.is_full.ensures.full.0 c.if-is_full.true) c.is_full.ensures.order

pub returns-clause-all : goal.returns-clause-all
returns-clause-all g c = rw c.from_vec.ensures (all_listed c.args.sight.now (g.K.Keep.kept c.args.keep.now) c.args.patterns.now c.one_order.ensures.one_match c.in_ok-found.found c.in_ok-found.ensures.matches c.in_ok-found-2.found.items
    (λ h. let t = c.is_full.ensures.full.1 h in let f = c.if-is_full.false in cc) c.in_ok-found-2.ensures.matches c.in_ok-found-2.ensures.order)

pub returns-clause-few : goal.returns-clause-few
returns-clause-few g c = rw c.from_vec.ensures (few_of c.in_ok-found.found c.in_ok-found-2.found.items (λ h. let t = c.is_full.ensures.full.1 h in let f = c.if-is_full.false in cc) c.in_ok-found-2.ensures.matches)
