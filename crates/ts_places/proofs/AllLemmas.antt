-- What all heads of a place see is done, one after another.
use Rattle.std.proofs.Common.{◌≡◌, ◌∙◌, sym, ap, subst, ℕ, suc, ◌+◌, ◌<◌, ◌≤◌, ◌⊎◌, inl, inr, ⊎_elim, List, [], ◌∷◌, length, slice_get, Some, arith}
use Rattle.std.proofs.lemmas.Bool.{cases_order}
use Rattle.std.proofs.lemmas.Option.{slice_get_within}
use Rattle.ts_base.specs.Bytes.{Bytes}
use Rattle.ts_core.specs.declared.symbol.Symbol.{Symbol}
use Rattle.spec_lexing.specs.Lexing.{token}
use Rattle.spec_graph.specs.declared.graph.Head.{Head}
use Rattle.ts_core.specs.declared.flat.Production.{Production}
use Rattle.spec_trees.specs.declared.tree.Tree.{Tree}
use Rattle.spec_graph.specs.Laying.{Parsing, SeesAt, CanMakeNode}
use Rattle.spec_graph.specs.Grounded.{IsGrounded}
use Rattle.spec_graph.specs.Keys.{Key, Earlier, LaysBefore}
use Rattle.spec_graph.specs.Links.{IsAt, HasLink, AreAdded, IsOpened}
use Rattle.ts_graph.specs.declared.view.GraphView.{GraphView}
use Rattle.ts_table.specs.declared.view.ParseTable.{ParseTable}
use Rattle.ts_table.specs.Tables.{IsTable}
use Rattle.ts_table.specs.Ranks.{unit_rank}
use Rattle.ts_reductions.specs.SoundLinks.{bare_links}
use Rattle.ts_reductions.specs.declared.top.Top.{Top}
use Rattle.ts_reductions.specs.Sound.{Base, parsing_from}
use Rattle.ts_reductions.proofs.KeepLemmas.{keeps_none, keeps_on}
use Rattle.ts_places.specs.declared.sights.Span.{Span}
use Rattle.ts_places.specs.declared.sights.Sights.{Sights}
use Rattle.ts_places.specs.ShiftLaws.{LeafLaws}
use Rattle.ts_places.specs.Looking.{IsTopWith}
use Rattle.ts_places.specs.Shifting.{CanOpen, OpensHead, IsHeadOpened, AreAllSights, AreShifted, AreShiftedUpTo}
use Rattle.ts_places.proofs.SmallLemmas.{at_contained, read_at}
use Rattle.ts_places.proofs.GrowLemmas.{sight_stays, grows_none, grows_more, grows_grown, opens_stays, behind_more}
use Rattle.ts_places.proofs.FarLemmas.{none_before, no_node_before}

-- what stands in the place of one that is not there
abbrev pub no_top : Top
no_top = record { head = 0; token = record { 0 = 0 }; ahead = 0 }

abbrev pub no_span : Span
no_span = record { pad = 0; size = 0 }

module _ (laws : LeafLaws) (t : ParseTable) (table : IsTable t) (text : Bytes) (base : Base) (old : GraphView) (look : ℕ) (s : Sights) (all : AreAllSights t text base old look s) where
  abbrev P : Parsing
  P = parsing_from t text base

  abbrev tops : List Top
  tops = s.tops.items

  -- each top has its bytes
  spans_too : (k : ℕ) (top : Top) → slice_get tops k ≡ Some top → (span : Span) × (slice_get s.spans.items k ≡ Some span)
  spans_too k top is = let low = slice_get_within tops k top is in let n = all.sights.count in read_at s.spans.items k (omega (arith, low, n))

  sight_at : (k : ℕ) (top : Top) (span : Span) → slice_get tops k ≡ Some top → slice_get s.spans.items k ≡ Some span → IsTopWith t text old look top span
  sight_at k top span x y = (all.sights.each k top span x y).0

  top_head : (k : ℕ) (top : Top) → slice_get tops k ≡ Some top → (head : Head) × (slice_get old.heads top.head ≡ Some head)
  top_head k top is = let r = spans_too k top is in let a = (sight_at k top r.0 is r.1).at in (a.head, a.is)

  -- ---- the loop

  pub none_done : AreShiftedUpTo t text base old old look tops 0
  none_done = record {
    sound = all.sound;
    grows = grows_none laws old;
    keeps = keeps_none t.grammar text base old;
    behind = λ h head is. inl is;
    opens = λ k top low is. absurd (omega (arith, low));
  }

  module _ (mid : GraphView) (k : ℕ) (done : AreShiftedUpTo t text base old mid look tops k) (top : Top) (is : slice_get tops k ≡ Some top) where
    pub can_open : (span : Span) → slice_get s.spans.items k ≡ Some span → CanOpen t text base mid look top span
    can_open span span_is = record {
      table = table;
      sound = done.sound;
      late = all.late;
      sight = sight_stays t text old mid done.grows.stay look top span (sight_at k top span is span_is);
    }

    pub one_done : (new : GraphView) → IsHeadOpened t text base mid new look top.head → AreShiftedUpTo t text base old new look tops (k + 1)
    one_done new o = record {
      sound = o.sound;
      grows = grows_more laws old mid new done.grows o.grows;
      keeps = keeps_on t.grammar text base old mid new done.keeps o.keeps;
      behind = behind_more old mid new look done.behind o.behind;
      opens = λ j x low x_is. by j x low x_is (cases_order j k);
    }
      where
        by : (j : ℕ) (x : Top) → j < k + 1 → slice_get tops j ≡ Some x → (j ≡ k) ⊎ ((j < k) ⊎ (k < j)) → OpensHead P new.heads (bare_links new.links) look x.head
        by j x low x_is (inl e) =
            let f : Some top ≡ Some x = sym is ∙ ap (λ (n : ℕ). slice_get tops n) (sym e) ∙ x_is in
            let one : top ≡ x = cc in
            subst (λ (y : Top). OpensHead P new.heads (bare_links new.links) look y.head) one o.opens
        by j x low x_is (inr (inl lt)) =
            let h = top_head j x x_is in
            opens_stays laws P mid new o.grows look x.head h.0 (done.grows.stay x.head h.0 h.1) (done.opens j x lt x_is)
        by j x low x_is (inr (inr lt)) = absurd (omega (arith, low, lt))

  -- ---- all of them

  module _ (new : GraphView) (k : ℕ) (many : length tops ≤ k) (done : AreShiftedUpTo t text base old new look tops k) where
    -- a head at the place was there
    was_there : (b : ℕ) (read : List ℕ) → IsAt P new.heads b read look → IsAt P old.heads b read look
    was_there b read a = ⊎_elim
        (λ was. record { head = a.head; is = was; state = a.state; place_is = a.place_is })
        (λ past. absurd (let p = a.place_is in omega (arith, past, p)))
        (done.behind b a.head a.is)

    opens_at : (b : ℕ) (read : List ℕ) (symbol : Symbol) (pad size : ℕ) → IsAt P new.heads b read look → SeesAt P read look (token symbol pad size) → OpensHead P new.heads (bare_links new.links) look b
    opens_at b read symbol pad size at sees =
        let a = was_there b read at in
        let r = all.sights.all b read symbol pad size (all.all b (a.head, a.is, a.place_is)) a sees in
        let j = at_contained tops r.0 r.1 in
        let low = slice_get_within tops j.0 r.0 j.1 in
        subst (λ (n : ℕ). OpensHead P new.heads (bare_links new.links) look n) r.2 (done.opens j.0 r.0 (omega (arith, low, many)) j.1)

    opened : IsOpened P new.heads (bare_links new.links) look
    opened = record {
      shifts = λ b read symbol pad size at sees act. (opens_at b read symbol pad size at sees).shifts read symbol pad size at sees act;
      passes = λ b read symbol pad size at passes. (opens_at b read symbol pad size at passes.sees).passes read symbol pad size at passes;
    }

    ground : IsGrounded P
    ground = all.sound.laid.parsed.grounded

    -- a head was there, or little is laid on it
    abbrev HasLittle : Key → ℕ → List ℕ → ℕ → Type 0
    HasLittle m b read from =
        IsAt P old.heads b read from
        ⊎ (((u : Tree) (place : ℕ) (now : List ℕ) → LaysBefore P (unit_rank t.grammar) m read from (u ∷ []) place now → HasLink P new.heads (bare_links new.links) b u place now)
        × ((ks : List Tree) (end : ℕ) (over : List ℕ) (xs : List Tree) (at number left : ℕ) (p : Production) → CanMakeNode P read from ks end over xs at number left p
        → Earlier (record { look = at; begins = from; rank = unit_rank t.grammar left }) m → ⊥))

    added : (m : Key) → m.look ≤ suc look → AreAdded P (unit_rank t.grammar) old.heads new.heads (bare_links new.links) m
    added m low = record { each = λ b read from a. by b read from a (done.behind b a.head a.is) }
      where
        by : (b : ℕ) (read : List ℕ) (from : ℕ) (a : IsAt P new.heads b read from) → (slice_get old.heads b ≡ Some a.head) ⊎ (look < a.head.place) → HasLittle m b read from
        by b read from a (inl was) = inl (record { head = a.head; is = was; state = a.state; place_is = a.place_is })
        by b read from a (inr past) =
            let p = a.place_is in let early = all.late in inr (
              (λ u place now l. absurd (none_before laws t table text base ground (unit_rank t.grammar) m read from (omega (arith, past, p)) (omega (arith, past, p, early)) (omega (arith, past, p, low)) u place now l)),
              (λ ks end over xs at number left production c earlier. no_node_before laws t table text base ground (unit_rank t.grammar) m read from (omega (arith, past, p)) (omega (arith, past, p, early)) (omega (arith, past, p, low)) ks end over xs at number left production c earlier),
            )

    pub all_done : AreShifted t text base old new look
    all_done = record {
      sound = done.sound;
      grows = done.grows;
      keeps = done.keeps;
      grown = grows_grown laws P old new done.grows;
      behind = done.behind;
      opened = opened;
      added = added;
    }
