-- What is open can be closed: some query begins with its signs.
use Rattle.std.proofs.Common.{◌≡◌, true, List, [], ◌∷◌, ◌++◌, Option, Some, None, refl, sym, ap, subst, ◌∙◌, append-nil, true≢false}
use Rattle.std.proofs.lemmas.List.{append_assoc}
use Rattle.std.proofs.lemmas.Option.{none-some, same_Some}
use Rattle.ts_query_tree.specs.declared.tree.Written.{Written}
use Rattle.ts_query_tree.specs.declared.tree.Head.{Head}
use Rattle.ts_query_tree.specs.declared.tree.Head.TheVariants.{Any, Text, Node, Group, Choice}
use Rattle.ts_query_tree.specs.declared.level.Bracket.{Bracket}
use Rattle.ts_query_tree.specs.declared.level.Bracket.TheVariants.{Top, Opened, Inside}
use Rattle.ts_query_tree.specs.declared.level.Pending.{Pending}
use Rattle.ts_query_tree.specs.declared.level.Pending.TheVariants as pending
use Rattle.ts_query_tree.specs.declared.level.Content.{Content}
use Rattle.ts_query_tree.specs.declared.level.Level.{Level}
use Rattle.ts_query_tree.specs.declared.sign.Sign.{Sign}
use Rattle.ts_query_tree.specs.declared.sign.Sign.TheVariants as sign
use Rattle.ts_query_tree.specs.Trees.{Parts, empty, more, Part, item, predicate, wild, spelling, part_spelling, head_spelling, may_follow, is_fitting, is_filled}
use Rattle.ts_query_tree.specs.Machine.{Open, frame_of, ready, flushed, holds_groups, is_due, within, put, next}
use Rattle.ts_query_tree.proofs.Shapes.{Shape, shape, before_of, last_of, takes_mark, content_of, groups_at, asks_at, level_at, levels, open_at, shape_spelling, spelled, bracket_spelling, pending_spelling, holds, Formed, IsStarted}
use Rattle.ts_query_tree.specs.Reads.{IsQueryTree, Begins}
use Rattle.ts_query_tree.specs.Machine.{run_from, start}
use Rattle.ts_query_tree.proofs.ShapeLemmas.{attach_part, attach_begun, spelled_more, unit_spells, flushed_all, content_predicate, field_in, with_unit, field_is, unit_added, started_more, unit_follows, wild_follows, group_follows}
use Rattle.ts_query_tree.proofs.SignLemmas.{fits, opened_empty}
use Rattle.ts_query_tree.proofs.GrowLemmas.{begins_node, begins_choice, ends, asked_follows, grows}
use Rattle.ts_query_tree.proofs.RunLemmas.{go, stepped, any_goes, run_query}

-- some signs lead to a query
pub record Closes (x : Shape) (os : List Shape) : Type 0 where
  pub rest : List Sign
  pub query : Parts
  pub is : IsQueryTree query
  pub spells : spelling query ≡ spelled x os ++ rest
  pub run : go x os rest ≡ Some (open_at (shape Top query pending.Nothing) [])

before : (x y : Shape) (os rs : List Shape) (s : Sign) → next (level_at x os) (levels os) s ≡ Some (open_at y rs) → spelled y rs ≡ spelled x os ++ s ∷ [] → Closes y rs → Closes x os
before x y os rs s e signs c = record {
  rest = s ∷ c.rest;
  query = c.query;
  is = c.is;
  spells = c.spells ∙ ap (λ (t : List Sign). t ++ c.rest) signs ∙ append_assoc (spelled x os) (s ∷ []) c.rest;
  run = stepped x y os rs s c.rest e ∙ c.run;
}

wild_spells : (b : Bracket) (ps : Parts) (os : List Shape) → spelled (shape b (more ps (item None (Any 0) empty None [])) pending.Nothing) os ≡ spelled (shape b ps pending.Nothing) os ++ sign.Name (wild 0) ∷ []
wild_spells b ps os = spelled_more (shape b ps pending.Nothing) (with_unit b ps pending.Nothing (Any 0) empty) os (sign.Name (wild 0) ∷ []) (unit_spells b ps pending.Nothing (Any 0) empty refl)

round_spells : (h : Head) (s : Sign) (ps : Parts) (b : Bracket) (rs : Parts) (q : Pending) (os : List Shape) → is_due q ≡ true →
    head_spelling h (spelling ps) ≡ shape_spelling (shape (Inside h) ps pending.Nothing) ++ s ∷ [] →
    spelled (with_unit b rs q h ps) os ≡ spelled (shape (Inside h) ps pending.Nothing) (shape b rs q ∷ os) ++ s ∷ []
round_spells h s ps b rs q os d signs =
    spelled_more (shape b rs q) (with_unit b rs q h ps) os (head_spelling h (spelling ps)) (unit_spells b rs q h ps d)
    ∙ ap (λ (u : List Sign). spelled (shape b rs q) os ++ u) signs ∙ sym (append_assoc (spelled (shape b rs q) os) (shape_spelling (shape (Inside h) ps pending.Nothing)) (s ∷ []))

abbrev lone_item : Part
lone_item = item None (Any 0) empty None []

-- a `_` more
wild_formed : (b : Bracket) (ps : Parts) (os : List Shape) → Formed (shape b ps pending.Nothing) os → holds b ≡ true → IsStarted (shape b ps pending.Nothing) → Formed (shape b (more ps lone_item) pending.Nothing) os
wild_formed b ps os f g s = record { here = record { parts = ((refl, refl, tt), wild_follows b ps 0 g s, f.here.parts); begun = tt; link = f.here.link }; round = f.round }

-- what was in a bracket as an item of the one round it
round_formed : (h : Head) (ps : Parts) (b : Bracket) (rs : Parts) (q : Pending) (os : List Shape) → Formed (shape (Inside h) ps pending.Nothing) (shape b rs q ∷ os) →
    may_follow b rs (item (field_in q) h ps None []) ≡ true → is_filled h ps ≡ true → is_fitting (field_in q) h ps None [] ≡ true → Formed (with_unit b rs q h ps) os
round_formed h ps b rs q os f follows filled fitting = record {
  here = record { parts = ((filled, fitting, f.here.parts), follows, f.round.1.parts); begun = tt; link = f.round.1.link };
  round = f.round.2;
}

put_goes : (h : Head) (ps : Parts) (b : Bracket) (rs : Parts) (q : Pending) (os : List Shape) → holds b ≡ true → is_due q ≡ true →
    put h (content_of ps) (takes_mark h ps) (levels (shape b rs q ∷ os)) ≡ Some (open_at (with_unit b rs q h ps) os)
put_goes h ps b rs q os g d = ap (within (levels os)) (unit_added b rs q os h ps (flushed (before_of ps) (last_of ps)) (takes_mark h ps) g d (flushed_all ps) refl)

module _ (b : Bracket) (rs : Parts) (q : Pending) (os : List Shape) (onward : (h : Head) (ps : Parts) → Formed (with_unit b rs q h ps) os → Closes (with_unit b rs q h ps) os) where
  closes_node : (kind : Written) (ps : Parts) → Formed (shape (Inside (Node kind)) ps pending.Nothing) (shape b rs q ∷ os) → Closes (shape (Inside (Node kind)) ps pending.Nothing) (shape b rs q ∷ os)
  closes_node kind ps f =
      before (shape (Inside (Node kind)) ps pending.Nothing) (with_unit b rs q (Node kind) ps) (shape b rs q ∷ os) os sign.Close (put_goes (Node kind) ps b rs q os f.round.0.0 f.round.0.1)
      (round_spells (Node kind) sign.Close ps b rs q os f.round.0.1 (ap (λ (u : List Sign). sign.Open ∷ sign.Name kind ∷ u) (ends (spelling ps) sign.Close)))
      (onward (Node kind) ps (round_formed (Node kind) ps b rs q os f (unit_follows b rs (field_in q) (Node kind) ps f.round.0.0 refl (begins_node (field_in q) kind ps)) refl
      (fits b rs q (Node kind) ps f.round.1.begun f.round.0.1 refl)))

  closes_choice : (ps : Parts) → Formed (shape (Inside Choice) ps pending.Nothing) (shape b rs q ∷ os) → Closes (shape (Inside Choice) ps pending.Nothing) (shape b rs q ∷ os)
  closes_choice ps f =
      let qs : Parts = more ps lone_item in
      let g = wild_formed (Inside Choice) ps (shape b rs q ∷ os) f refl tt in
      before (shape (Inside Choice) ps pending.Nothing) (shape (Inside Choice) qs pending.Nothing) (shape b rs q ∷ os) (shape b rs q ∷ os) (sign.Name (wild 0)) (any_goes (Inside Choice) ps None 0 (shape b rs q ∷ os) refl) (wild_spells (Inside Choice) ps (shape b rs q ∷ os))
      (before (shape (Inside Choice) qs pending.Nothing) (with_unit b rs q Choice qs) (shape b rs q ∷ os) os sign.CloseChoice (put_goes Choice qs b rs q os f.round.0.0 f.round.0.1)
      (round_spells Choice sign.CloseChoice qs b rs q os f.round.0.1 (ap (λ (u : List Sign). sign.OpenChoice ∷ u) (ends (spelling qs) sign.CloseChoice)))
      (onward Choice qs (round_formed Choice qs b rs q os g (unit_follows b rs (field_in q) Choice qs f.round.0.0 refl (begins_choice (field_in q) qs)) refl
      (fits b rs q Choice qs f.round.1.begun f.round.0.1 refl))))

  closes_group : (ps : Parts) → q ≡ pending.Nothing → Formed (shape (Inside Group) ps pending.Nothing) (shape b rs q ∷ os) → IsStarted (shape (Inside Group) ps pending.Nothing) →
      holds_groups b ≡ true → Closes (shape (Inside Group) ps pending.Nothing) (shape b rs q ∷ os)
  closes_group ps e f s k =
      let qs : Parts = more ps lone_item in
      let g = wild_formed (Inside Group) ps (shape b rs q ∷ os) f refl s in
      before (shape (Inside Group) ps pending.Nothing) (shape (Inside Group) qs pending.Nothing) (shape b rs q ∷ os) (shape b rs q ∷ os) (sign.Name (wild 0)) (any_goes (Inside Group) ps None 0 (shape b rs q ∷ os) refl) (wild_spells (Inside Group) ps (shape b rs q ∷ os))
      (before (shape (Inside Group) qs pending.Nothing) (with_unit b rs q Group qs) (shape b rs q ∷ os) os sign.Close (put_goes Group qs b rs q os f.round.0.0 f.round.0.1)
      (round_spells Group sign.Close qs b rs q os f.round.0.1 (ap (λ (u : List Sign). sign.Open ∷ u) (ends (spelling qs) sign.Close)))
      (onward Group qs (round_formed Group qs b rs q os g
      (subst (λ (p : Pending). may_follow b rs (item (field_in p) Group qs None []) ≡ true) (sym e) (group_follows b rs qs f.round.0.0 k)) refl
      (subst (λ (p : Pending). is_fitting (field_in p) Group qs None [] ≡ true) (sym e) refl))))

  closes_opened : (ps : Parts) → Formed (shape Opened ps pending.Nothing) (shape b rs q ∷ os) → Closes (shape Opened ps pending.Nothing) (shape b rs q ∷ os)
  closes_opened ps f =
      subst (λ (qs : Parts). Closes (shape Opened qs pending.Nothing) (shape b rs q ∷ os)) (sym (opened_empty ps f.here.parts))
      (before (shape Opened empty pending.Nothing) (shape (Inside (Node (wild 0))) empty pending.Nothing) (shape b rs q ∷ os) (shape b rs q ∷ os) (sign.Name (wild 0)) refl
      (spelled_more (shape Opened empty pending.Nothing) (shape (Inside (Node (wild 0))) empty pending.Nothing) (shape b rs q ∷ os) (sign.Name (wild 0) ∷ []) refl)
      (closes_node (wild 0) empty (record { here = record { parts = tt; begun = tt; link = tt }; round = f.round })))

group_round : (b : Bracket) (rs : Parts) (q : Pending) (os : List Shape) → groups_at (shape b rs q ∷ os) ≡ true → (q ≡ pending.Nothing) × (holds_groups b ≡ true)
group_round b rs pending.Nothing os e = (refl, e)
group_round b rs (pending.Name w) os e = absurd (true≢false (sym e))
group_round b rs (pending.Field w) os e = absurd (true≢false (sym e))
group_round b rs (pending.Predicate w xs) os e = absurd (true≢false (sym e))

closes_in : (os : List Shape) (b : Bracket) (ps : Parts) → Formed (shape b ps pending.Nothing) os → IsStarted (shape b ps pending.Nothing) → Closes (shape b ps pending.Nothing) os
closes_in [] Top ps f s = record { rest = []; query = ps; is = f.here.parts; spells = sym (append-nil (spelling ps ++ []) ∙ append-nil (spelling ps)); run = refl }
closes_in [] Opened ps f s = absurd f.here.link
closes_in [] (Inside h) ps f s = absurd f.here.link
closes_in (r ∷ os) Top ps f s = absurd f.here.link
closes_in (shape c rs q ∷ os) Opened ps f s = closes_opened c rs q os (λ h qs g. closes_in os c (more rs (item (field_in q) h qs None [])) g (started_more c rs (item (field_in q) h qs None []) pending.Nothing)) ps f
closes_in (shape c rs q ∷ os) (Inside (Any at)) ps f s = absurd f.here.link
closes_in (shape c rs q ∷ os) (Inside (Text text)) ps f s = absurd f.here.link
closes_in (shape c rs q ∷ os) (Inside (Node kind)) ps f s = closes_node c rs q os (λ h qs g. closes_in os c (more rs (item (field_in q) h qs None [])) g (started_more c rs (item (field_in q) h qs None []) pending.Nothing)) kind ps f
closes_in (shape c rs q ∷ os) (Inside Group) ps f s =
    let k = group_round c rs q os f.here.link in
    closes_group c rs q os (λ h qs g. closes_in os c (more rs (item (field_in q) h qs None [])) g (started_more c rs (item (field_in q) h qs None []) pending.Nothing)) ps k.0 f s k.1
closes_in (shape c rs q ∷ os) (Inside Choice) ps f s = closes_choice c rs q os (λ h qs g. closes_in os c (more rs (item (field_in q) h qs None [])) g (started_more c rs (item (field_in q) h qs None []) pending.Nothing)) ps f

-- what is begun behind the last part goes on as an item or a predicate
closes_field : (b : Bracket) (ps : Parts) (w : Written) (os : List Shape) → Formed (shape b ps (pending.Field w)) os → Closes (shape b ps (pending.Field w)) os
closes_field b ps w os f =
    let q : Part = item (Some w) (Any 0) empty None [] in
    before (shape b ps (pending.Field w)) (shape b (more ps q) pending.Nothing) os os (sign.Name (wild 0)) (any_goes b ps (Some w) 0 os f.here.begun)
    (spelled_more (shape b ps (pending.Field w)) (shape b (more ps q) pending.Nothing) os (sign.Name (wild 0) ∷ []) (unit_spells b ps (pending.Field w) (Any 0) empty refl))
    (closes_in os b (more ps q)
    (record {
      here = record {
        parts = ((refl, refl, tt), unit_follows b ps (Some w) (Any 0) empty f.here.begun refl refl, f.here.parts);
        begun = tt;
        link = f.here.link;
      };
      round = f.round;
    })
    (started_more b ps q pending.Nothing))

pub closes : (x : Shape) (os : List Shape) → Formed x os → IsStarted x → Closes x os
closes (shape b ps pending.Nothing) os f s = closes_in os b ps f s
closes (shape b ps (pending.Name w)) os f s =
    before (shape b ps (pending.Name w)) (shape b ps (pending.Field w)) os os sign.Colon (ap (λ (l : Level). Some (l, levels os)) (field_is b ps w os))
    (spelled_more (shape b ps (pending.Name w)) (shape b ps (pending.Field w)) os (sign.Colon ∷ []) (attach_begun (bracket_spelling b) (spelling ps) (sign.Name w ∷ []) (sign.Name w ∷ sign.Colon ∷ []) (sign.Colon ∷ []) refl))
    (closes_field b ps w os (record { here = record { parts = f.here.parts; begun = f.here.begun; link = f.here.link }; round = f.round }))
closes (shape b ps (pending.Field w)) os f s = closes_field b ps w os f
closes (shape b ps (pending.Predicate w xs)) os f s =
    before (shape b ps (pending.Predicate w xs)) (shape b (more ps (predicate w xs)) pending.Nothing) os os sign.Close
    (ap (λ (c : Content). Some (ready (frame_of b (groups_at os) (asks_at os) c), levels os)) (content_predicate ps w xs))
    (spelled_more (shape b ps (pending.Predicate w xs)) (shape b (more ps (predicate w xs)) pending.Nothing) os (sign.Close ∷ [])
    (attach_part (bracket_spelling b) (spelling ps) (pending_spelling (pending.Predicate w xs)) (part_spelling (predicate w xs)) (sign.Close ∷ []) refl))
    (closes_in os b (more ps (predicate w xs))
    (record { here = record { parts = (tt, asked_follows b ps w xs f.here.begun.1, f.here.parts); begun = tt; link = f.here.link }; round = f.round })
    (started_more b ps (predicate w xs) pending.Nothing))

-- ---- what some query begins with

pub run_append : (o : Option Open) (ss ts : List Sign) → run_from o (ss ++ ts) ≡ run_from (run_from o ss) ts
run_append None ss ts = refl
run_append (Some z) [] ts = refl
run_append (Some z) (s ∷ ss) ts = run_append (next z.0 z.1 s) ss ts

-- what the signs lead to, with the trees in it
pub record Reaches (ss : List Sign) (z : Open) : Type 0 where
  pub inner : Shape
  pub round : List Shape
  pub same : z ≡ open_at inner round
  pub spells : spelled inner round ≡ ss
  pub formed : Formed inner round
  pub started : IsStarted inner

next_some : (o : Option Open) (ss : List Sign) (y : Open) → run_from o ss ≡ Some y → (z : Open) × (o ≡ Some z)
next_some None ss y e = absurd (none-some y e)
next_some (Some z) ss y e = (z, refl)

reaches_more : (us ss : List Sign) (x : Shape) (os : List Shape) (y : Open) → spelled x os ≡ us → Formed x os → IsStarted x → go x os ss ≡ Some y → Reaches (us ++ ss) y
reaches_more us [] x os y signs f s e = record {
  inner = x;
  round = os;
  same = sym (same_Some _ _ e);
  spells = signs ∙ sym (append-nil us);
  formed = f;
  started = s;
}
reaches_more us (t ∷ ss) x os y signs f s e =
    let n = next_some (next (level_at x os) (levels os) t) ss y e in
    let g = grows x os t n.0 f s n.1 in
    subst (λ (vs : List Sign). Reaches vs y) (append_assoc us (t ∷ []) ss)
    (reaches_more (us ++ t ∷ []) ss g.inner g.round y (g.spells ∙ ap (λ (vs : List Sign). vs ++ t ∷ []) signs) g.formed g.started
    (subst (λ (o : Option Open). run_from o ss ≡ Some y) (n.1 ∙ ap (λ (z : Open). Some z) g.same) e))

pub reaches : (ss : List Sign) (y : Open) → run_from start ss ≡ Some y → Reaches ss y
reaches ss y e =
    reaches_more [] ss (shape Top empty pending.Nothing) [] y refl (record { here = record { parts = tt; begun = tt; link = tt }; round = tt }) tt e

pub begins : (ss : List Sign) (z : Open) → run_from start ss ≡ Some z → Begins ss
begins ss z e =
    let r = reaches ss z e in
    let c = closes r.inner r.round r.formed r.started in
    (c.rest, c.query, c.is, c.spells ∙ ap (λ (t : List Sign). t ++ c.rest) r.spells)

-- after what cannot stand, nothing can
pub stuck : (ss : List Sign) (t : Sign) (z : Open) → run_from start ss ≡ Some z → next z.0 z.1 t ≡ None → Begins (ss ++ t ∷ []) → ⊥
stuck ss t z e n b =
    let whole : run_from start ((ss ++ t ∷ []) ++ b.0) ≡ Some (open_at (shape Top b.1 pending.Nothing) []) = ap (run_from start) (sym b.3) ∙ run_query b.1 b.2 in
    let last : run_from start (ss ++ t ∷ []) ≡ None = run_append start ss (t ∷ []) ∙ ap (λ (o : Option Open). run_from o (t ∷ [])) e ∙ ap (λ (o : Option Open). run_from o []) n in
    none-some _ (sym (run_append start (ss ++ t ∷ []) b.0 ∙ ap (λ (o : Option Open). run_from o b.0) last) ∙ whole)
