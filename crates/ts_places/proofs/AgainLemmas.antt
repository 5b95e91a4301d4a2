-- What a head sees behind a reduction is the token on which that stayed.
use Rattle.std.proofs.Common.{◌≡◌, ◌∙◌, sym, ap, subst, ℕ, List, [], ◌∷◌, ◌++◌, append_assoc, length, length-append, slice_get, Some, arith}
use Rattle.std.specs.List.{Contains}
use Rattle.std.proofs.lemmas.List.Elements.{Contains-append_left}
use Rattle.ts_base.specs.Bytes.{Bytes}
use Rattle.spec_lexing.specs.Lexing.{token}
use Rattle.spec_graph.specs.declared.graph.Head.{Head}
use Rattle.spec_graph.specs.States.{LeadsTo}
use Rattle.spec_graph.specs.Laying.{SeesAt}
use Rattle.ts_graph.specs.declared.view.GraphView.{GraphView}
use Rattle.ts_graph.specs.Down.{KeepNumbers}
use Rattle.ts_table.specs.declared.view.ParseTable.{ParseTable}
use Rattle.ts_table.specs.Tables.{goto_of, IsTable}
use Rattle.ts_lexer.specs.declared.lexed.Lexed.{Lexed}
use Rattle.ts_lexer.specs.declared.lexed.Lexed.TheVariants.{Token, Absent}
use Rattle.ts_reductions.specs.SoundLinks.{bare_links}
use Rattle.ts_reductions.specs.declared.room.Room.{Room}
use Rattle.ts_reductions.specs.declared.top.Top.{Top}
use Rattle.ts_reductions.specs.Sound.{parsing_from, parsing_of, IsSoundOver}
use Rattle.ts_reductions.specs.Again.{LedNone, AreLed}
use Rattle.ts_places.specs.declared.sights.Span.{Span}
use Rattle.ts_places.specs.declared.sights.Sights.{Sights}
use Rattle.ts_places.specs.Looking.{IsHeadAt, IsTopWith, top_with, span_with, SeesThere, AreSights, IsSeenAgain, AddsSight}
use Rattle.ts_places.proofs.ActionLemmas.{some_move}
use Rattle.ts_places.proofs.HeadLemmas.{leads_state, head_reads, one_head}

module _ (t : ParseTable) (table : IsTable t) (text : Bytes) (g : GraphView) (sound : IsSoundOver t text g) (look : ℕ) (before : List ℕ) (s : Sights) (a : AreSights t text g look before s) (room : Room) (led : AreLed t text g s.tops.items room) (h : ℕ) (st : IsHeadAt g look h)
    (lexed : Lexed) (i : IsSeenAgain t g room s h lexed) where
  reads : (read : List ℕ) × LeadsTo (goto_of t) read i.head.state
  reads = head_reads (parsing_from t text sound.0) g.heads (bare_links g.links) sound.1.laid.graph h i.head i.at

  with_top : IsTopWith t text g look i.top i.span
  with_top = (a.each i.sight.0 i.top i.span i.sight.1 i.sight.2).0

  sees : SeesAt (parsing_of t text) reads.0 look (token i.top.token i.span.pad i.span.size)
  sees =
      (led i.head.state i.top i.led).1 with_top.at.head with_top.at.is with_top.read reads.0 look i.span.pad i.span.size with_top.at.state reads.1
      (some_move t table reads.0 i.head.state i.top.token.0 (leads_state t reads.0 i.head.state reads.1) i.acts) with_top.sees

  here : IsTopWith t text g look (top_with h i.top.token i.top.ahead) (span_with i.span.pad i.span.size)
  here = record {
    read = reads.0;
    at = record { head = i.head; is = i.at; state = reads.1; place_is = ap (λ (x : Head). x.place) (one_head g.heads h i.head st.0 i.at st.1) ∙ st.2 };
    sees = sees;
    past = with_top.past;
    reach = with_top.reach;
    some = with_top.some;
  }

  pub again_there : SeesThere t text g look h lexed
  again_there = subst (λ (x : Lexed). SeesThere t text g look h x) (sym i.is) here

-- ---- more that is seen

pub count_more : (h : ℕ) (lexed : Lexed) (old new : Sights) → AddsSight h lexed old new → length old.tops.items ≡ length old.spans.items → length new.tops.items ≡ length new.spans.items
count_more h (Token symbol pad size extent) old new adds n =
    let x = ap (λ (l : List Top). length l) adds.0 in
    let y = ap (λ (l : List Span). length l) adds.1 in
    omega (arith, n, x, y, length-append old.tops.items (top_with h symbol extent ∷ []), length-append old.spans.items (span_with pad size ∷ []))
count_more h (Absent place extent) old new adds n = ap (λ (l : List Top). length l) adds.0 ∙ n ∙ ap (λ (l : List Span). length l) (sym adds.1)

pub tops_more : (h : ℕ) (lexed : Lexed) (start : List Top) (old new : Sights) → AddsSight h lexed old new → ((more : List Top) × (old.tops.items ≡ start ++ more)) → (more : List Top) × (new.tops.items ≡ start ++ more)
tops_more h (Token symbol pad size extent) start old new adds m = (m.0 ++ top_with h symbol extent ∷ [], adds.0 ∙ ap (λ (l : List Top). l ++ top_with h symbol extent ∷ []) m.1 ∙ append_assoc start m.0 (top_with h symbol extent ∷ []))
tops_more h (Absent place extent) start old new adds m = (m.0, adds.0 ∙ m.1)

pub led_more : (t : ParseTable) (text : Bytes) (g : GraphView) (room : Room) (start all : List Top) → ((more : List Top) × (all ≡ start ++ more)) → AreLed t text g start room → AreLed t text g all room
led_more t text g room start all m led state top has =
    let l = led state top has in
    (subst (λ (ts : List Top). Contains ts top) (sym m.1) (Contains-append_left start m.0 top l.0), l.1)

-- where heads keep their numbers, what was told of them stays so
pub led_stays : (t : ParseTable) (text : Bytes) (old new : GraphView) → KeepNumbers old.heads new.heads → (tops : List Top) (room : Room) → ((top : Top) → Contains tops top → (head : Head) × (slice_get old.heads top.head ≡ Some head)) → AreLed t text old tops room → AreLed t text new tops room
led_stays t text old new keep tops room there led state top has =
    let l = led state top has in
    let h = there top l.0 in
    (l.0, λ head at. let f : Some h.0 ≡ Some head = sym (keep top.head h.0 h.1) ∙ at in let one : h.0 ≡ head = cc in l.1 head (h.1 ∙ ap (λ (x : Head). Some x) one))

-- nothing is told where no reduction was done
pub led_none : (t : ParseTable) (text : Bytes) (g : GraphView) (tops : List Top) (room : Room) → LedNone room → AreLed t text g tops room
led_none t text g tops room none state top has = absurd (none state top has)
