-- What the parts of a kernel ask for, and the parts of its closed set.
use Rattle.std.proofs.Common.{◌≡◌, ◌∙◌, sym, ap, refl, subst, ℕ, suc, ◌<◌, ◌⊎◌, inl, inr, ⊎_elim, List, length, slice_get, Option, Some, None, arith, ◌↔◌}
use Rattle.std.specs.Prelude.{MatchOption}
use Rattle.std.specs.Global.{Vec}
use Rattle.std.specs.List.{Contains}
use Rattle.std.proofs.lemmas.List.Elements.{Contains-append_left, Contains-append_right, Contains-append_cases}
use Rattle.std.proofs.lemmas.Option.{slice_get_within}
use Rattle.ts_core.specs.declared.flat.FlatGrammar.{FlatGrammar}
use Rattle.spec_grammar.specs.Symbols.{symbol_count}
use Rattle.spec_tables.specs.Items.{Line, Item, IsProductionOf, CanBeginWith}
use Rattle.ts_bits.specs.declared.set.BitSet.{BitSet}
use Rattle.ts_bits.specs.Members.{Has, IsWide}
use Rattle.ts_items.specs.declared.part.Part.{Part}
use Rattle.ts_items.specs.declared.plain.Plain.{Plain}
use Rattle.ts_items.specs.declared.flow.Edge.{Edge}
use Rattle.ts_items.specs.declared.tables.Tables.{Tables}
use Rattle.ts_items.specs.Productions.{right_of}
use Rattle.ts_items.specs.Parts.{line_of, In}
use Rattle.ts_items.specs.Rows.{FromOne}
use Rattle.ts_items.specs.Sets.{HasAt, GainsTokens}
use Rattle.ts_items.specs.Flow.{Spread, given, brought, Hands, Brings, IsNet, Spreads}
use Rattle.ts_items.specs.Tables.{IsLineOf, IsTables}
use Rattle.ts_items.specs.Closing.{Behind, Wants, Turns, Asked, Begun, Closed, SameItems, AskedBy, IsLinePart, AreLineParts, BeginsAt, AreBegun, AddsSets, IsPool, Closes}
use Rattle.ts_items.proofs.ListLemmas.{there, at_of, one_at, some_at}
use Rattle.ts_items.proofs.GainLemmas.{has_at}
use Rattle.ts_items.proofs.EdgeLemmas.{ask_net}
use Rattle.ts_items.proofs.PlainLemmas.{plain_at, at_plain}
use Rattle.ts_items.proofs.TableLemmas.{right_inside}
use Rattle.ts_items.proofs.PartLemmas.{grown_has, grown_length}

pub net_of : (g : FlatGrammar) (t : Tables) (edges : List (Vec Edge)) (gives : List BitSet) (count : ℕ) → IsTables g t → edges ≡ t.edges.items → gives ≡ t.firsts.items → count ≡ length t.firsts.items → IsNet edges gives count
net_of g t edges gives count tables same rows size =
    let all : count ≡ symbol_count g = size ∙ tables.firsts.count in
    subst (λ (n : ℕ). IsNet edges gives n) (sym all) (subst (λ (l : List BitSet). IsNet edges l (symbol_count g)) (sym rows) (subst (λ (l : List (Vec Edge)). IsNet l t.firsts.items (symbol_count g)) (sym same)
    (ask_net t.productions.items (symbol_count g) t.edges.items t.firsts.items tables.inside tables.edges tables.firsts.count)))

-- a relation that spreads with more steps from more
pub spread_more : (B C : ℕ → ℕ → ℕ → ℕ → Type 0) (P Q : ℕ → ℕ → Type 0) → ((y t : ℕ) → P y t → Q y t) → ((y t z u : ℕ) → B y t z u → C y t z u) → (y t : ℕ) → Spread B P y t → Spread C Q y t
spread_more B C P Q from step y t (given _ _ p) = given y t (from y t p)
spread_more B C P Q from step z u (brought y t _ _ s b) = brought y t z u (spread_more B C P Q from step y t s) (step y t z u b)

module _ (g : FlatGrammar) (t : Tables) (tables : IsTables g t) where
  hands_to : (o : Option ℕ) (y u : ℕ) → Hands t.firsts.items o y u → Behind g o y u
  hands_to None y u h = sym h
  hands_to (Some x) y u h = (tables.firsts.members x u).0 h

  hands_back : (o : Option ℕ) (y u : ℕ) → Behind g o y u → Hands t.firsts.items o y u
  hands_back None y u h = sym h
  hands_back (Some x) y u h = (tables.firsts.members x u).1 h

  turns_of : (y b z u : ℕ) → Brings t.edges.items t.firsts.items y b z u → Turns g y b z u
  turns_of y b z u e =
      let m = (tables.edges.members y e.edge).0 e.there in
      let p = m.by in
      let n = m.there.0 in
      let at = plain_at g t.productions.items n p tables.plain (at_of t.productions.items p m.there) in
      record {
        number = n;
        production = subst (λ (k : ℕ). IsProductionOf g k n) (sym m.gives.from) at.production;
        first = ap (λ (l : List ℕ). slice_get l 0) at.right ∙ m.gives.to ∙ ap Some e.to;
        follows = subst (λ (o : Option ℕ). Behind g o b u) (m.gives.behind ∙ ap (λ (l : List ℕ). slice_get l 1) (sym at.right)) (hands_to e.edge.behind b u e.hands);
      }

  brings_of : (y b z u : ℕ) → Turns g y b z u → Brings t.edges.items t.firsts.items y b z u
  brings_of y b z u w =
      let p = at_plain g t.productions.items y w.number tables.plain w.production in
      let at = plain_at g t.productions.items w.number p.0 tables.plain p.1 in
      let edge : Edge = record { to = z; behind = slice_get p.0.right.items 1 } in
      record {
        edge = edge;
        there = (tables.edges.members y edge).1 (record { by = p.0; there = there t.productions.items w.number p.0 p.1; gives = record { from = sym p.2; to = ap (λ (l : List ℕ). slice_get l 0) (sym at.right) ∙ w.first; behind = refl } });
        to = refl;
        hands = hands_back (slice_get p.0.right.items 1) b u (subst (λ (o : Option ℕ). Behind g o b u) (ap (λ (l : List ℕ). slice_get l 1) at.right) w.follows);
      }

  -- what parts ask for at once
  abbrev item_of : Part → ℕ → Item
  item_of q u = record { line = line_of q.line; dot = q.dot; token = u }

  in_of : (pool : List BitSet) (parts : List Part) (q : Part) (u : ℕ) → Contains parts q → HasAt pool q.tokens u → In pool parts (item_of q u)
  in_of pool parts q u h has = record { part = q; there = h; is = record { line = refl; dot = refl; set = has.set; at = has.at; has = has.has } }

  wants_by : (pool : List BitSet) (kernel : List Part) (q : Part) (y u : ℕ) → Contains kernel q → (v : ℕ) × HasAt pool q.tokens v → AskedBy g pool q y u → (o : Option ℕ) → slice_get (right_of g (line_of q.line)) (suc q.dot) ≡ o
      → MatchOption o (HasAt pool q.tokens u) (λ x. CanBeginWith g x u) → Wants g (In pool kernel) y u
  wants_by pool kernel q y u h some a None e f = record { item = item_of q u; there = in_of pool kernel q u h f; before = a.before; follows = subst (λ (o : Option ℕ). Behind g o u u) (sym e) refl }
  wants_by pool kernel q y u h some a (Some x) e f = record { item = item_of q some.0; there = in_of pool kernel q some.0 h some.1; before = a.before; follows = subst (λ (o : Option ℕ). Behind g o some.0 u) (sym e) f }

  follow_of : (pool : List BitSet) (q : Part) (v u : ℕ) → HasAt pool q.tokens v → (o : Option ℕ) → Behind g o v u → MatchOption o (HasAt pool q.tokens u) (λ x. CanBeginWith g x u)
  follow_of pool q v u has None b = subst (HasAt pool q.tokens) (sym b) has
  follow_of pool q v u has (Some x) b = b

  asked_by : (pool : List BitSet) (kernel : List Part) (y u : ℕ) → Wants g (In pool kernel) y u → FromOne (AskedBy g pool) kernel y u
  asked_by pool kernel y u w =
      let q = w.there.part in
      let is = w.there.is in
      record {
        by = q;
        there = w.there.there;
        gives = record {
          before = subst (λ (d : ℕ). slice_get (right_of g (line_of q.line)) d ≡ Some y) is.dot (subst (λ (l : Line). slice_get (right_of g l) w.item.dot ≡ Some y) is.line w.before);
          follows = follow_of pool q w.item.token u (record { set = is.set; at = is.at; has = is.has }) (slice_get (right_of g (line_of q.line)) (suc q.dot))
              (subst (λ (d : ℕ). Behind g (slice_get (right_of g (line_of q.line)) (suc d)) w.item.token u) is.dot (subst (λ (l : Line). Behind g (slice_get (right_of g l) (suc w.item.dot)) w.item.token u) is.line w.follows));
        };
      }

pub asked_are : (g : FlatGrammar) (t : Tables) (pool : List BitSet) (kernel : List Part) (old a b : List BitSet) → IsTables g t → AreLineParts (length t.productions.items) pool kernel → length old ≡ length t.firsts.items → ((y u : ℕ) → HasAt old y u → ⊥)
    → GainsTokens (FromOne (AskedBy g pool) kernel) old a → Spreads t.edges.items t.firsts.items a b → (y u : ℕ) → HasAt b y u ↔ Asked g (In pool kernel) y u
asked_are g t pool kernel old a b tables parts size none gains spreads y u = (
  (λ h. spread_more (Brings t.edges.items t.firsts.items) (Turns g) (HasAt a) (Wants g (In pool kernel)) from (λ v w x z e. turns_of g t tables v w x z e) y u ((spreads.members y u).0 h)),
  (λ h. (spreads.members y u).1 (spread_more (Turns g) (Brings t.edges.items t.firsts.items) (Wants g (In pool kernel)) (HasAt a) to (λ v w x z e. brings_of g t tables v w x z e) y u h)),
)
  where
    from : (y u : ℕ) → HasAt a y u → Wants g (In pool kernel) y u
    from y u h = ⊎_elim (λ w. absurd (none y u w))
        (λ w.
        let e = w.1 in
        wants_by g t tables pool kernel e.by y u e.there (parts e.by e.there).some e.gives (slice_get (right_of g (line_of e.by.line)) (suc e.by.dot)) refl e.gives.follows)
        ((gains.members y u).0 h)

    to : (y u : ℕ) → Wants g (In pool kernel) y u → HasAt a y u
    to y u w =
        let e = asked_by g t tables pool kernel y u w in
        let lt = right_inside g t e.by.line e.by.dot y tables (parts e.by e.there).line e.gives.before in
        let n = tables.firsts.count in
        (gains.members y u).1 (inr (omega (arith, lt, size, n), e))

-- ---- closed sets

pub in_grown : (old new : List BitSet) (lines : ℕ) (parts : List Part) → AddsSets old new → AreLineParts lines old parts → SameItems (In new parts) (In old parts)
in_grown old new lines parts grows are i = (
  (λ h. let g = (grown_has old new h.part.tokens grows (are h.part h.there).tokens i.token).0 (record { set = h.is.set; at = h.is.at; has = h.is.has }) in
      record { part = h.part; there = h.there; is = record { line = h.is.line; dot = h.is.dot; set = g.set; at = g.at; has = g.has } }),
  (λ h. let g = (grown_has old new h.part.tokens grows (are h.part h.there).tokens i.token).1 (record { set = h.is.set; at = h.is.at; has = h.is.has }) in
      record { part = h.part; there = h.there; is = record { line = h.is.line; dot = h.is.dot; set = g.set; at = g.at; has = g.has } }),
)

pub wants_more : (g : FlatGrammar) (K L : Item → Type 0) → ((i : Item) → K i → L i) → (y t : ℕ) → Wants g K y t → Wants g L y t
wants_more g K L more y t w = record { item = w.item; there = more w.item w.there; before = w.before; follows = w.follows }

pub asked_more : (g : FlatGrammar) (K L : Item → Type 0) → ((i : Item) → K i → L i) → (y t : ℕ) → Asked g K y t → Asked g L y t
asked_more g K L more = spread_more (Turns g) (Turns g) (Wants g K) (Wants g L) (wants_more g K L more) (λ y t z u h. h)

pub part_grown : (old new : List BitSet) (lines : ℕ) (q : Part) → AddsSets old new → IsLinePart lines old q → IsLinePart lines new q
part_grown old new lines q grows p = record { line = p.line; tokens = grown_length old new q.tokens grows p.tokens; some = (p.some.0, (grown_has old new q.tokens grows p.tokens p.some.0).1 p.some.1) }

pub closes : (g : FlatGrammar) (t : Tables) (old pool asked : List BitSet) (kernel parts : List Part) → IsTables g t → AreLineParts (length t.productions.items) old kernel → AddsSets old pool → IsPool t.width pool
    → ((n : ℕ) (a b : BitSet) → IsWide n a → IsWide n b → ((u : ℕ) → Has a u ↔ Has b u) → a.words.items ≡ b.words.items)
    → ((y u : ℕ) → HasAt asked y u ↔ Asked g (In old kernel) y u) → AreBegun t.lines.items asked pool (length asked) kernel parts → Closes g (length t.productions.items) pool kernel parts
closes g t old pool asked kernel parts tables are grows is_pool law is begun = record {
  parts_are = λ q h. ⊎_elim (λ w. part_grown old pool (length ps) q grows (are q w)) (λ w. begun_is q (begun.only q w)) (in_parts q h);
  items = λ i. ((λ h. to i h), (λ h. ⊎_elim (λ k. of_kernel i k) (λ b. of_begun i b) h));
  apart = λ k p q hp hq line dot. ⊎_elim
      (λ a. ⊎_elim (λ b. k.apart p q a b line dot) (λ b. absurd (mixed p q (k.dot p a) (begun.only q b) line dot)) (in_parts q hq))
      (λ a. ⊎_elim (λ b. absurd (mixed q p (k.dot q b) (begun.only p a) (sym line) (sym dot))) (λ b. both p q (begun.only p a) (begun.only q b) line dot) (in_parts q hq))
      (in_parts p hp);
}
  where
    ps : List Plain
    ps = t.productions.items

    in_parts : (q : Part) → Contains parts q → Contains kernel q ⊎ Contains begun.more q
    in_parts q h = Contains-append_cases kernel begun.more q (subst (λ (l : List Part). Contains l q) begun.is h)

    line_is : (y : ℕ) (q : Part) → BeginsAt t.lines.items asked pool y q → IsLineOf ps y q.line
    line_is y q b = (tables.lines.members y q.line).0 b.line

    begun_is : (q : Part) → (y : ℕ) × BeginsAt t.lines.items asked pool y q → IsLinePart (length ps) pool q
    begun_is q (y, b) =
        let l = line_is y q b in
        let lt = slice_get_within ps l.number l.production l.at in
        let e = l.is in
        record { line = omega (arith, lt, e); tokens = b.inside; some = (b.some.0, (b.same b.some.0).1 b.some.1) }

    kernel_in : SameItems (In pool kernel) (In old kernel)
    kernel_in = in_grown old pool (length ps) kernel grows are

    to : (i : Item) → In pool parts i → Closed g (In pool kernel) i
    to i h = ⊎_elim (λ w. inl (record { part = h.part; there = w; is = h.is })) (λ w. inr (of (begun.only h.part w))) (in_parts h.part h.there)
      where
        of : (y : ℕ) × BeginsAt t.lines.items asked pool y h.part → Begun g (In pool kernel) i
        of (y, b) =
            let l = line_is y h.part b in
            let at = plain_at g ps l.number l.production tables.plain l.at in
            record {
              symbol = y;
              number = l.number;
              production = subst (λ (k : ℕ). IsProductionOf g k l.number) (sym l.left) at.production;
              line = h.is.line ∙ ap line_of l.is;
              begins = h.is.dot ∙ b.dot;
              asked = asked_more g (In old kernel) (In pool kernel) (λ j k. (kernel_in j).1 k) y i.token ((is y i.token).0 ((b.same i.token).0 (record { set = h.is.set; at = h.is.at; has = h.is.has })));
            }

    of_kernel : (i : Item) → In pool kernel i → In pool parts i
    of_kernel i h = record { part = h.part; there = subst (λ (l : List Part). Contains l h.part) (sym begun.is) (Contains-append_left kernel begun.more h.part h.there); is = h.is }

    of_begun : (i : Item) → Begun g (In pool kernel) i → In pool parts i
    of_begun i b =
        let p = at_plain g ps b.symbol b.number tables.plain b.production in
        let row = (tables.lines.members b.symbol (suc b.number)).1 (record { number = b.number; is = refl; production = p.0; at = p.1; left = sym p.2 }) in
        let has = (is b.symbol i.token).1 (asked_more g (In pool kernel) (In old kernel) (λ j k. (kernel_in j).0 k) b.symbol i.token b.asked) in
        let q = begun.added b.symbol (suc b.number) i.token (slice_get_within asked b.symbol has.set has.at) row has in
        let o = begun.only q.0 q.1 in
        let l = line_is o.0 q.0 o.1 in
        let same : l.number ≡ b.number = let e = l.is in let f = q.2 in omega (arith, e, f) in
        let one : l.production ≡ p.0 = one_at ps b.number l.production p.0 (subst (λ (k : ℕ). slice_get ps k ≡ Some l.production) same l.at) p.1 in
        let y : o.0 ≡ b.symbol = l.left ∙ ap (λ (x : Plain). x.left) one ∙ p.2 in
        let set = (o.1.same i.token).1 (subst (λ (k : ℕ). HasAt asked k i.token) (sym y) has) in
        record {
          part = q.0;
          there = subst (λ (l : List Part). Contains l q.0) (sym begun.is) (Contains-append_right kernel begun.more q.0 q.1);
          is = record { line = b.line ∙ ap line_of (sym q.2); dot = b.begins ∙ sym o.1.dot; set = set.set; at = set.at; has = set.has };
        }

    mixed : (p q : Part) → (0 < p.dot) ⊎ (p.line ≡ 0) → (y : ℕ) × BeginsAt t.lines.items asked pool y q → p.line ≡ q.line → p.dot ≡ q.dot → ⊥
    mixed p q k (y, b) line dot = ⊎_elim (λ lt. let e = b.dot in omega (arith, lt, e, dot)) (λ e. let l = (line_is y q b).is in omega (arith, e, l, line)) k

    both : (p q : Part) → (y : ℕ) × BeginsAt t.lines.items asked pool y p → (z : ℕ) × BeginsAt t.lines.items asked pool z q → p.line ≡ q.line → p.dot ≡ q.dot → p ≡ q
    both p q (y, b) (z, c) line dot =
        let l = line_is y p b in
        let m = line_is z q c in
        let n : l.number ≡ m.number = let e = l.is in let f = m.is in omega (arith, e, f, line) in
        let one : l.production ≡ m.production = one_at ps m.number l.production m.production (subst (λ (k : ℕ). slice_get ps k ≡ Some l.production) n l.at) m.at in
        let same : y ≡ z = l.left ∙ ap (λ (x : Plain). x.left) one ∙ sym m.left in
        let s = some_at pool p.tokens b.inside in
        let r = some_at pool q.tokens c.inside in
        let words = law t.width s.0 r.0 (is_pool.wide p.tokens s.0 s.1) (is_pool.wide q.tokens r.0 r.1) (λ u. (
          (λ h. (has_at pool q.tokens r.0 r.1 u).0 ((c.same u).1 (subst (λ (k : ℕ). HasAt asked k u) same ((b.same u).0 ((has_at pool p.tokens s.0 s.1 u).1 h))))),
          (λ h. (has_at pool p.tokens s.0 s.1 u).0 ((b.same u).1 (subst (λ (k : ℕ). HasAt asked k u) (sym same) ((c.same u).0 ((has_at pool q.tokens r.0 r.1 u).1 h))))),
        )) in
        let tokens = is_pool.one p.tokens q.tokens s.0 r.0 s.1 r.1 words in
        λ k. record { line = line k; dot = dot k; tokens = tokens k }
