-- The search that ranks the nodes of a graph.
use Rattle.std.proofs.Common.{◌≡◌, ◌∙◌, refl, sym, ap, subst, ℕ, ◌+◌, ◌<◌, ◌≤◌, ◌⊎◌, inl, inr, ⊎_elim, cond, true, false, List, length, map, set, get_or, slice_get, Option, Some, option_map, arith}
use Rattle.std.specs.Global.{Vec}
use Rattle.std.specs.List.{Contains}
use Rattle.std.proofs.lemmas.Bool.{cases_eq, cases_lt}
use Rattle.std.proofs.lemmas.List.{length-map, length-set}
use Rattle.std.proofs.lemmas.List.Sums.{sum_by-set}
use Rattle.std.proofs.lemmas.Option.{slice_get_within, slice_get-get_or, slice_get-map, get_or_from_slice_get}
use Rattle.ts_base.proofs.PlaceLemmas.{set_here, set_there}
use Rattle.ts_tokens.proofs.MemberLemmas.{there, at_of}
use Rattle.ts_tokens.specs.declared.paths.Mark.{Mark}
use Rattle.ts_tokens.specs.declared.paths.Mark.TheVariants.{Unseen, Open, Done}
use Rattle.ts_tokens.specs.Paths.{GoesTo, Path, one, more, StaysInside, AreNodeRanks, AllRanked, RanksFall, Continues, IsRanked, OpenLead, is_unseen, rank_of, unseen_count, graph_of}

-- ---- lists

-- what stands at a place after a write: what was written, or what was there
pub set_cases : (xs : List Mark) (i k : ℕ) (v m : Mark) → i < length xs → slice_get (set xs i v) k ≡ Some m → ((k ≡ i) × (v ≡ m)) ⊎ ((k ≡ i → ⊥) × (slice_get xs k ≡ Some m))
set_cases xs i k v m below is = ⊎_elim
    (λ e. inl (e, (let f : Some v ≡ Some m = sym (set_here xs i v below) ∙ ap (λ (j : ℕ). slice_get (set xs i v) j) (sym e) ∙ is in cc)))
    (λ other. inr (other, sym (set_there xs i k v other) ∙ is))
    (cases_eq k i)

other_than : (xs : List Mark) (k i : ℕ) (m n : Mark) → slice_get xs k ≡ Some m → slice_get xs i ≡ Some n → (m ≡ n → ⊥) → k ≡ i → ⊥
other_than xs k i m n is at differ e = differ (let f : Some m ≡ Some n = sym is ∙ ap (λ (j : ℕ). slice_get xs j) e ∙ at in cc)

done_unseen : (r : ℕ) → Done r ≡ Unseen → ⊥
done_unseen r e = cc

done_open : (r : ℕ) → Done r ≡ Open → ⊥
done_open r e = cc

seen_unseen : (m : Mark) → is_unseen m ≡ false → m ≡ Unseen → ⊥
seen_unseen m seen e = let f : true ≡ false = ap is_unseen (sym e) ∙ seen in cc

-- ---- how many are unseen

abbrev weight : Mark → ℕ
weight m = cond (is_unseen m) 1 0

weight_at : (xs : List Mark) (i : ℕ) (m : Mark) → slice_get xs i ≡ Some m → weight (get_or xs i m) ≡ weight m
weight_at xs i m is = ap weight (get_or_from_slice_get xs i m m is)

unseen_set : (xs : List Mark) (i : ℕ) (m v : Mark) → slice_get xs i ≡ Some m → unseen_count (set xs i v) + weight m ≡ unseen_count xs + weight v
unseen_set xs i m v is = rw (← weight_at xs i m is) (sum_by-set weight xs i v m (slice_get_within xs i m is))

pub unseen_opened : (xs : List Mark) (i : ℕ) → slice_get xs i ≡ Some Unseen → unseen_count (set xs i Open) + 1 ≡ unseen_count xs
unseen_opened xs i is = let e = unseen_set xs i Unseen Open is in omega arith

unseen_done : (xs : List Mark) (i r : ℕ) → slice_get xs i ≡ Some Open → unseen_count (set xs i (Done r)) ≡ unseen_count xs
unseen_done xs i r is = let e = unseen_set xs i Open (Done r) is in omega arith

-- ---- which nodes lead to which

pub path_on : (g : List (List ℕ)) (from through to : ℕ) → Path g from through → GoesTo g through to → Path g from to
path_on g _ _ to (one a b s) t = more a b to s (one b to t)
path_on g _ _ to (more a m b s rest) t = more a m to s (path_on g m b to rest t)

-- ---- the search

pub continues_none : (marks : List Mark) (next : ℕ) → Continues marks marks next next
continues_none marks next = record {
  size = refl;
  kept = λ k m seen is. is;
  opened = λ k is. is;
  rises = omega arith;
  room = omega arith;
}

pub continues_both : (a b c : List Mark) (x y z : ℕ) → Continues a b x y → Continues b c y z → Continues a c x z
continues_both a b c x y z p q = record {
  size = q.size ∙ p.size;
  kept = λ k m seen is. q.kept k m seen (p.kept k m seen is);
  opened = λ k is. p.opened k (q.opened k is);
  rises = omega arith;
  room = omega arith;
}

done_kept : (old new : List Mark) (next after to : ℕ) → Continues old new next after → IsRanked old to → IsRanked new to
done_kept old new next after to goes d = record { rank = d.rank; is = goes.kept to (Done d.rank) refl d.is }

-- what the loop over the steps of an open node keeps
pub record Going (g : List (List ℕ)) (old now : List Mark) (node next after : ℕ) (row : List ℕ) (index : ℕ) : Type 0 where
  pub goes : Continues (set old node Open) now next after
  pub falls : RanksFall g now after
  pub done : (j to : ℕ) → j < index → slice_get row j ≡ Some to → IsRanked now to

falls_opened : (g : List (List ℕ)) (old : List Mark) (node next : ℕ) → slice_get old node ≡ Some Unseen → RanksFall g old next → RanksFall g (set old node Open) next
falls_opened g old node next is before = record {
  one_each = length-set old node Open ∙ before.one_each;
  below = λ k rank at. before.below k rank (was k rank at);
  falls = λ k rank to at s.
      let w = before.falls k rank to (was k rank at) s in
      (w.0, set_there old node to Open (other_than old to node (Done w.0) Unseen w.1 is (done_unseen w.0)) ∙ w.1, w.2);
}
  where
    was : (k rank : ℕ) → slice_get (set old node Open) k ≡ Some (Done rank) → slice_get old k ≡ Some (Done rank)
    was k rank at = ⊎_elim
        (λ e. absurd (let f = e.1 in done_open rank (sym f)))
        (λ w. w.1)
        (set_cases old node k Open (Done rank) (slice_get_within old node Unseen is) at)

pub going_begins : (g : List (List ℕ)) (old : List Mark) (node next : ℕ) (row : List ℕ) → slice_get old node ≡ Some Unseen → RanksFall g old next → Going g old (set old node Open) node next next row 0
going_begins g old node next row is before = record {
  goes = continues_none (set old node Open) next;
  falls = falls_opened g old node next is before;
  done = λ j to below at. absurd (omega arith);
}

pub going_more : (g : List (List ℕ)) (old now new : List Mark) (node next after later : ℕ) (row : List ℕ) (index : ℕ) → index < length row
    → Going g old now node next after row index → Continues now new after later → RanksFall g new later
    → ((to : ℕ) → slice_get row index ≡ Some to → IsRanked new to) → Going g old new node next later row (index + 1)
going_more g old now new node next after later row index below before goes falls last = record {
  goes = continues_both (set old node Open) now new next after later before.goes goes;
  falls = falls;
  done = λ j to lt at. ⊎_elim
      (λ w. done_kept now new after later to goes (before.done j to w at))
      (λ ge.
      let same : j ≡ index = omega arith in
      last to (ap (λ (n : ℕ). slice_get row n) (sym same) ∙ at))
      (cases_lt j index);
}

-- a step of an open node: all open nodes lead to it
pub lead_step : (g : List (List ℕ)) (old now : List Mark) (node next after to : ℕ) (row : List ℕ) (index : ℕ) → slice_get old node ≡ Some Unseen → OpenLead g old node
    → Going g old now node next after row index → GoesTo g node to → OpenLead g now to
lead_step g old now node next after to row index is lead going stands = record {
  lead = λ k at. ⊎_elim
      (λ e. subst (λ (n : ℕ). Path g n to) (sym e.0) (one node to stands))
      (λ w. path_on g k node to (lead.lead k w.1) stands)
      (set_cases old node k Open Open (slice_get_within old node Unseen is) (going.goes.opened k at));
}

pub room_step : (g : List (List ℕ)) (old now : List Mark) (node next after : ℕ) (row : List ℕ) (index : ℕ) → slice_get old node ≡ Some Unseen
    → Going g old now node next after row index → (after + unseen_count now + 1 ≤ next + unseen_count old) × (unseen_count now + 1 ≤ unseen_count old) × (length now ≡ length old)
room_step g old now node next after row index is going =
    let u = unseen_opened old node is in
    let a = going.goes.room in
    let b = going.goes.rises in
    (omega arith, omega arith, going.goes.size ∙ length-set old node Open)

still_open : (g : List (List ℕ)) (old now : List Mark) (node next after : ℕ) (row : List ℕ) (index : ℕ) → slice_get old node ≡ Some Unseen
    → Going g old now node next after row index → slice_get now node ≡ Some Open
still_open g old now node next after row index is going = going.goes.kept node Open refl (set_here old node Open (slice_get_within old node Unseen is))

-- all nodes to which it goes are done
row_done : (g : List (List ℕ)) (old now : List Mark) (node next after to : ℕ) (row : List ℕ) (index : ℕ) → slice_get g node ≡ Some row → length row ≤ index
    → Going g old now node next after row index → GoesTo g node to → IsRanked now to
row_done g old now node next after to row index at past going s =
    let e : Some s.row ≡ Some row = sym s.at ∙ at in
    let same : s.row ≡ row = cc in
    let w : Contains row to = subst (λ (l : List ℕ). Contains l to) same s.member in
    let below : w.0 < index = (let x = w.1 in omega arith) in
    going.done w.0 to below (at_of row to w)

pub visited_goes : (g : List (List ℕ)) (old now : List Mark) (node next after : ℕ) (row : List ℕ) (index : ℕ) → slice_get old node ≡ Some Unseen
    → Going g old now node next after row index → Continues old (set now node (Done after)) next (after + 1)
visited_goes g old now node next after row index is going = record {
  size = length-set now node (Done after) ∙ going.goes.size ∙ length-set old node Open;
  kept = λ k m seen at.
      let other = other_than old k node m Unseen at is (seen_unseen m seen) in
      set_there now node k (Done after) other ∙ going.goes.kept k m seen (set_there old node k Open other ∙ at);
  opened = λ k at. ⊎_elim
      (λ e. absurd (done_open after e.1))
      (λ w. ⊎_elim
      (λ e. absurd (w.0 e.0))
      (λ v. v.1)
      (set_cases old node k Open Open (slice_get_within old node Unseen is) (going.goes.opened k w.1)))
      (set_cases now node k (Done after) Open (slice_get_within now node Open (still_open g old now node next after row index is going)) at);
  rises = let b = going.goes.rises in omega arith;
  room =
      let a = room_step g old now node next after row index is going in
      let u = unseen_done now node after (still_open g old now node next after row index is going) in
      omega arith;
}

pub visited_falls : (g : List (List ℕ)) (old now : List Mark) (node next after : ℕ) (row : List ℕ) (index : ℕ) → slice_get g node ≡ Some row → length row ≤ index
    → slice_get old node ≡ Some Unseen → Going g old now node next after row index → RanksFall g (set now node (Done after)) (after + 1)
visited_falls g old now node next after row index at past is going = record {
  one_each = length-set now node (Done after) ∙ going.falls.one_each;
  below = λ k rank here. ⊎_elim
      (λ e. let f : Done after ≡ Done rank = e.1 in let x : after ≡ rank = cc in omega arith)
      (λ w. let x = going.falls.below k rank w.1 in omega arith)
      (set_cases now node k (Done after) (Done rank) within here);
  falls = λ k rank to here s. ⊎_elim
      (λ e.
      let f : Done after ≡ Done rank = e.1 in
      let x : after ≡ rank = cc in
      let d = row_done g old now node next after to row index at past going (subst (λ (n : ℕ). GoesTo g n to) e.0 s) in
      (d.rank, still to d.rank d.is, (let y = going.falls.below to d.rank d.is in omega arith)))
      (λ w. let d = going.falls.falls k rank to w.1 s in (d.0, still to d.0 d.1, d.2))
      (set_cases now node k (Done after) (Done rank) within here);
}
  where
    open_here : slice_get now node ≡ Some Open
    open_here = still_open g old now node next after row index is going

    within : node < length now
    within = slice_get_within now node Open open_here

    still : (to rank : ℕ) → slice_get now to ≡ Some (Done rank) → slice_get (set now node (Done after)) to ≡ Some (Done rank)
    still to rank there = set_there now node to (Done after) (other_than now to node (Done rank) Open there open_here (done_open rank)) ∙ there

pub node_within : (g : List (List ℕ)) (old now : List Mark) (node next after : ℕ) (row : List ℕ) (index : ℕ) → slice_get old node ≡ Some Unseen
    → Going g old now node next after row index → node < length now
node_within g old now node next after row index is going = slice_get_within now node Open (still_open g old now node next after row index is going)

pub visited_done : (g : List (List ℕ)) (old now : List Mark) (node next after : ℕ) (row : List ℕ) (index : ℕ) → slice_get old node ≡ Some Unseen
    → Going g old now node next after row index → IsRanked (set now node (Done after)) node
visited_done g old now node next after row index is going = record {
  rank = after;
  is = set_here now node (Done after) (slice_get_within now node Open (still_open g old now node next after row index is going));
}

-- the node that the loop has come to
pub node_goes : (g : List (List ℕ)) (node to index : ℕ) (row : List ℕ) → slice_get g node ≡ Some row → slice_get row index ≡ Some to → GoesTo g node to
node_goes g node to index row at is = record { row = row; at = at; member = there row index to is }

pub here : (rows : List (Vec ℕ)) (marks : List Mark) (node : ℕ) → length marks ≡ length (graph_of rows) → slice_get marks node ≡ Some Unseen → node < length (graph_of rows)
here rows marks node same is = let w = slice_get_within marks node Unseen is in omega arith

-- the row of a node
pub row_at : (rows : List (Vec ℕ)) (node : ℕ) (v : Vec ℕ) (row : List ℕ) → node < length (graph_of rows) → v ≡ get_or rows node v → row ≡ v.items → slice_get (graph_of rows) node ≡ Some row
row_at rows node v row below is same =
    slice_get-map (λ (x : Vec ℕ). x.items) rows node
    ∙ ap (λ (o : Option (Vec ℕ)). option_map (λ (x : Vec ℕ). x.items) o) (slice_get-get_or rows node v (let e = length-map rows (λ (x : Vec ℕ). x.items) in omega arith) ∙ ap Some (sym is))
    ∙ ap Some (sym same)

-- ---- all nodes

-- what the loop over all nodes keeps
pub record Ranking (g : List (List ℕ)) (marks : List Mark) (next node : ℕ) : Type 0 where
  pub falls : RanksFall g marks next
  pub closed : (k : ℕ) → slice_get marks k ≡ Some Open → ⊥
  pub done : (k : ℕ) → k < node → IsRanked marks k
  pub room : next + unseen_count marks ≤ length marks

pub ranking_more : (g : List (List ℕ)) (old new : List Mark) (next after node : ℕ) → Ranking g old next node → Continues old new next after → RanksFall g new after → IsRanked new node → Ranking g new after (node + 1)
ranking_more g old new next after node before goes falls last = record {
  falls = falls;
  closed = λ k is. before.closed k (goes.opened k is);
  done = λ k lt. ⊎_elim
      (λ w. done_kept old new next after k goes (before.done k w))
      (λ ge. let same : node ≡ k = omega arith in subst (λ (n : ℕ). IsRanked new n) same last)
      (cases_lt k node);
  room = let a = goes.room in let b = before.room in let e = goes.size in omega arith;
}

-- the ranks of all nodes fall along the steps
pub ranks_fall : (g : List (List ℕ)) (marks : List Mark) → AllRanked g marks → AreNodeRanks g (map rank_of marks)
ranks_fall g marks all = record {
  one_each = length-map marks rank_of ∙ all.falls.one_each;
  falls = λ from to high low s at there.
      let d = all.done from (let w = slice_get_within g from s.row s.at in let e = all.falls.one_each in omega arith) in
      let w = all.falls.falls from d.rank to d.is s in
      let a : Some high ≡ Some d.rank = sym at ∙ rank_is from d.rank d.is in
      let b : Some low ≡ Some w.0 = sym there ∙ rank_is to w.0 w.1 in
      let x : high ≡ d.rank = cc in
      let y : low ≡ w.0 = cc in
      let c = w.2 in
      omega arith;
}
  where
    rank_is : (k rank : ℕ) → slice_get marks k ≡ Some (Done rank) → slice_get (map rank_of marks) k ≡ Some rank
    rank_is k rank is = slice_get-map rank_of marks k ∙ ap (λ (o : Option Mark). option_map rank_of o) is

-- where ranks fall no node comes back to itself
pub ranked_acyclic : (g : List (List ℕ)) (ranks : List ℕ) → StaysInside g → AreNodeRanks g ranks → (k : ℕ) → Path g k k → ⊥
ranked_acyclic g ranks closed ranked k path = let w = below k k path in omega arith
  where
    within : (k : ℕ) → k < length g → slice_get ranks k ≡ Some (get_or ranks k 0)
    within k lt = slice_get-get_or ranks k 0 (let e = ranked.one_each in omega arith)

    step : (from to : ℕ) → GoesTo g from to → get_or ranks to 0 < get_or ranks from 0
    step from to s = ranked.falls from to (get_or ranks from 0) (get_or ranks to 0) s (within from (slice_get_within g from s.row s.at)) (within to (closed from to s))

    below : (from to : ℕ) → Path g from to → get_or ranks to 0 < get_or ranks from 0
    below _ _ (one from to s) = step from to s
    below _ _ (more from through to s rest) = let a = step from through s in let b = below through to rest in omega arith
