-- The ends at a place, put to those of earlier places.
use Rattle.std.proofs.Common.{◌≡◌, ◌∙◌, sym, ap, refl, subst, ℕ, suc, ◌+◌, ◌<◌, ◌≤◌, ◌⊎◌, inl, inr, ⊎_elim, List, [], ◌∷◌, ◌++◌, length, get_or, take, slice_get, Option, Some, None, arith}
use Rattle.std.specs.List.{Contains}
use Rattle.std.proofs.lemmas.Bool.{cases_order}
use Rattle.std.proofs.lemmas.List.{take_all}
use Rattle.std.proofs.lemmas.List.Elements.{Contains-append_left, Contains-push, Contains-push_cases}
use Rattle.std.proofs.lemmas.Option.{slice_get_within}
use Rattle.ts_base.specs.Bytes.{Bytes}
use Rattle.ts_core.specs.declared.action.Action.{Action}
use Rattle.ts_core.specs.declared.action.Action.TheVariants.{Shift, Reduce, Accept}
use Rattle.ts_core.specs.declared.symbol.Symbol.{Symbol}
use Rattle.spec_lexing.specs.Lexing.{token}
use Rattle.spec_tables.specs.Actions.{Act, accept}
use Rattle.spec_graph.specs.declared.graph.Head.{Head}
use Rattle.spec_graph.specs.States.{LeadsTo}
use Rattle.spec_graph.specs.Laying.{Parsing, SeesAt}
use Rattle.spec_graph.specs.Links.{IsAt}
use Rattle.ts_graph.specs.declared.view.GraphView.{GraphView}
use Rattle.ts_table.specs.declared.view.ParseTable.{ParseTable}
use Rattle.ts_table.specs.Tables.{IsTable, goto_of, actions_of, ActsBy, accepts}
use Rattle.ts_reductions.specs.declared.top.Top.{Top}
use Rattle.ts_reductions.specs.Asking.{HasAction}
use Rattle.ts_reductions.specs.Sound.{Base, parsing_of}
use Rattle.ts_reductions.proofs.AskLemmas.{leads_state}
use Rattle.ts_places.specs.declared.sights.Span.{Span}
use Rattle.ts_places.specs.declared.sights.Sights.{Sights}
use Rattle.ts_places.specs.Looking.{StopsThere, IsTopWith, IsLastAmong}
use Rattle.ts_places.specs.Shifting.{AreAllSights}
use Rattle.ts_places.proofs.SmallLemmas.{none_contained, at_contained, read_at, one_taken}
use Rattle.ts_places.specs.declared.ends.Ends.{Ends}
use Rattle.ts_places.specs.Choosing.{IsPastStuck}
use Rattle.ts_places.specs.Ends.{Accepts, AreEnds}

-- ---- acceptance among actions

abbrev pub HasNoAccept : List Action → Type 0
HasNoAccept actions = Contains actions Accept → ⊥

pub shift_is_no_accept : (a : Action) (n : ℕ) → a ≡ Shift n → a ≡ Accept → ⊥
shift_is_no_accept a n e f = let h : Shift n ≡ Accept = sym e ∙ f in cc

pub reduce_is_no_accept : (a : Action) (n : ℕ) → a ≡ Reduce n → a ≡ Accept → ⊥
reduce_is_no_accept a n e f = let h : Reduce n ≡ Accept = sym e ∙ f in cc

pub no_accept_more : (all : List Action) (i : ℕ) (a : Action) → i < length all → a ≡ get_or all i a → (a ≡ Accept → ⊥) → HasNoAccept (take i all) → HasNoAccept (take (i + 1) all)
no_accept_more all i a low is other none w =
    ⊎_elim none other (Contains-push_cases (take i all) a Accept (subst (λ (l : List Action). Contains l Accept) (sym (one_taken all i a low is)) w))

pub no_accept_all : (all : List Action) (i : ℕ) → length all ≤ i → HasNoAccept (take i all) → HasNoAccept all
no_accept_all all i many none = subst HasNoAccept (take_all i all many) none

acts_accept : (t : ParseTable) (read : List ℕ) (seen : ℕ) → ActsBy t read seen Accept → Act t.grammar read seen accept
acts_accept t read seen (accepts a) = a

module _ (t : ParseTable) (table : IsTable t) (read : List ℕ) (state seen : ℕ) (leads : LeadsTo (goto_of t) read state) where
  pub accept_stays : Contains (actions_of t state seen) Accept → Act t.grammar read seen accept
  accept_stays there = acts_accept t read seen ((table.actions read state seen Accept (leads_state t read state leads)).0 there)

  pub stays_accept : Act t.grammar read seen accept → Contains (actions_of t state seen) Accept
  stays_accept acts = (table.actions read state seen Accept (leads_state t read state leads)).1 (accepts acts)

-- ---- some of the heads that see a token

-- Of these heads those that accept were put to the others.
pub record SeesUpTo (t : ParseTable) (g : GraphView) (tops : List Top) (old new : Ends) : Type 0 where
  pub each : (h : ℕ) → Contains new.accepting.items h
      → Contains old.accepting.items h ⊎ ((top : Top) × Contains tops top × (top.head ≡ h) × HasAction t g top Accept)
  pub olds : (h : ℕ) → Contains old.accepting.items h → Contains new.accepting.items h
  pub all : (top : Top) → Contains tops top → HasAction t g top Accept → Contains new.accepting.items top.head
  pub stuck : new.stuck ≡ old.stuck

module _ (t : ParseTable) (g : GraphView) where
  pub sees_none : (old : Ends) → SeesUpTo t g [] old old
  sees_none old = record { each = λ h w. inl w; olds = λ h w. w; all = λ top w. absurd (none_contained top w); stuck = refl }

  module _ (all : List Top) (i : ℕ) (x : Top) (low : i < length all) (is : x ≡ get_or all i x) (old mid : Ends) (s : SeesUpTo t g (take i all) old mid) where
    pub sees_no : (HasAction t g x Accept → ⊥) → SeesUpTo t g (take (i + 1) all) old mid
    sees_no none = subst (λ (l : List Top). SeesUpTo t g l old mid) (one_taken all i x low is) (record {
      each = λ h w. ⊎_elim (λ o. inl o) (λ v. inr (v.0, Contains-append_left (take i all) (x ∷ []) v.0 v.1, v.2, v.3)) (s.each h w);
      olds = s.olds;
      all = λ top w has. ⊎_elim (λ o. s.all top o has) (λ e. absurd (none (subst (λ (y : Top). HasAction t g y Accept) (sym e) has))) (Contains-push_cases (take i all) x top w);
      stuck = s.stuck;
    })

    pub sees_yes : HasAction t g x Accept → (new : Ends) → new.accepting.items ≡ mid.accepting.items ++ x.head ∷ [] → new.stuck ≡ mid.stuck → SeesUpTo t g (take (i + 1) all) old new
    sees_yes has new more stuck = subst (λ (l : List Top). SeesUpTo t g l old new) (one_taken all i x low is) (record {
      each = λ h w. ⊎_elim
          (λ o. ⊎_elim (λ v. inl v) (λ v. inr (v.0, Contains-append_left (take i all) (x ∷ []) v.0 v.1, v.2, v.3)) (s.each h o))
          (λ e. inr (x, Contains-push (take i all) x, e, has))
          (Contains-push_cases mid.accepting.items x.head h (subst (λ (l : List ℕ). Contains l h) more w));
      olds = λ h w. subst (λ (l : List ℕ). Contains l h) (sym more) (Contains-append_left mid.accepting.items (x.head ∷ []) h (s.olds h w));
      all = λ top w other. subst (λ (l : List ℕ). Contains l top.head) (sym more) (⊎_elim
          (λ o. Contains-append_left mid.accepting.items (x.head ∷ []) top.head (s.all top o other))
          (λ e. subst (λ (y : Top). Contains (mid.accepting.items ++ x.head ∷ []) y.head) e (Contains-push mid.accepting.items x.head))
          (Contains-push_cases (take i all) x top w));
      stuck = stuck ∙ s.stuck;
    })

-- ---- all of them

module _ (t : ParseTable) (table : IsTable t) (text : Bytes) (base : Base) (g : GraphView) (look : ℕ) (s : Sights) (a : AreAllSights t text base g look s) where
  abbrev P : Parsing
  P = parsing_of t text

  -- what a head sees that sees a token
  pub top_seen : (top : Top) → Contains s.tops.items top → (span : Span) × IsTopWith t text g look top span
  top_seen top w =
      let k = at_contained s.tops.items top w in
      let n = a.sights.count in
      let low = slice_get_within s.tops.items k.0 top k.1 in
      let r = read_at s.spans.items k.0 (omega (arith, low, n)) in
      (r.0, (a.sights.each k.0 top r.0 k.1 r.1).0)

  pub top_low : (top : Top) → Contains s.tops.items top → top.head < length g.heads
  top_low top w = let r = top_seen top w in slice_get_within g.heads top.head r.1.at.head r.1.at.is

  -- a head that accepts on what it sees
  top_accepts : (top : Top) → Contains s.tops.items top → HasAction t g top Accept → (b : Accepts P g.heads top.head) × (b.place ≡ look)
  top_accepts top w has =
      let r = top_seen top w in
      let f : Some has.head ≡ Some r.1.at.head = sym has.at ∙ r.1.at.is in
      let one : has.head ≡ r.1.at.head = cc in (
        record {
          read = r.1.read;
          place = look;
          at = r.1.at;
          symbol = top.token;
          pad = r.0.pad;
          size = r.0.size;
          sees = r.1.sees;
          stays = accept_stays t table r.1.read r.1.at.head.state top.token.0 r.1.at.state (subst (λ (x : Head). Contains (actions_of t x.state top.token.0) Accept) one has.acts);
        },
        refl,
      )

  -- one that accepts is among those that see a token
  accepts_top : (h : ℕ) (b : Accepts P g.heads h) → b.place ≡ look → (top : Top) × Contains s.tops.items top × (top.head ≡ h) × HasAction t g top Accept
  accepts_top h b e =
      let at : IsAt P g.heads h b.read look = record { head = b.at.head; is = b.at.is; state = b.at.state; place_is = b.at.place_is ∙ e } in
      let sees : SeesAt P b.read look (token b.symbol b.pad b.size) = subst (λ (n : ℕ). SeesAt P b.read n (token b.symbol b.pad b.size)) e b.sees in
      let r = a.sights.all h b.read b.symbol b.pad b.size (a.all h (b.at.head, b.at.is, b.at.place_is ∙ e)) at sees in
      let acts = stays_accept t table b.read b.at.head.state b.symbol.0 b.at.state b.stays in (
        r.0,
        r.1,
        r.2,
        record {
          head = b.at.head;
          at = ap (λ (n : ℕ). slice_get g.heads n) r.2 ∙ b.at.is;
          acts = subst (λ (x : Symbol). Contains (actions_of t b.at.head.state x.0) Accept) (sym r.3) acts;
        },
      )

  module _ (old mid new : Ends) (up : SeesUpTo t g s.tops.items old mid) (same : new.accepting.items ≡ mid.accepting.items)
      (mine : (q : ℕ) → s.stop ≡ Some q → IsPastStuck new.stuck q)
      (others : (q : ℕ) → IsPastStuck mid.stuck q → IsPastStuck new.stuck q)
      (from : (q : ℕ) → new.stuck ≡ Some q → (mid.stuck ≡ Some q) ⊎ (s.stop ≡ Some q)) (begin : ℕ) (early : begin ≤ look) (e : AreEnds t text g begin look old) where
    each_new : (h : ℕ) → Contains new.accepting.items h → (b : Accepts P g.heads h) × (begin ≤ b.place) × (b.place < suc look)
    each_new h w = by (up.each h (subst (λ (l : List ℕ). Contains l h) same w))
      where
        by : Contains old.accepting.items h ⊎ ((top : Top) × Contains s.tops.items top × (top.head ≡ h) × HasAction t g top Accept) → (b : Accepts P g.heads h) × (begin ≤ b.place) × (b.place < suc look)
        by (inl o) = let r = e.each h o in let lt = r.2 in (r.0, r.1, omega (arith, lt))
        by (inr v) = subst (λ (n : ℕ). (b : Accepts P g.heads n) × (begin ≤ b.place) × (b.place < suc look)) v.2 (let r = top_accepts v.0 v.1 v.3 in let p = r.1 in (r.0, omega (arith, p, early), omega (arith, p)))

    all_new : (h : ℕ) (b : Accepts P g.heads h) → begin ≤ b.place → b.place < suc look → Contains new.accepting.items h
    all_new h b ge lt = subst (λ (l : List ℕ). Contains l h) (sym same) (by (cases_order b.place look))
      where
        by : (b.place ≡ look) ⊎ ((b.place < look) ⊎ (look < b.place)) → Contains mid.accepting.items h
        by (inl here) = let r = accepts_top h b here in subst (λ (n : ℕ). Contains mid.accepting.items n) r.2 (up.all r.0 r.1 r.3)
        by (inr (inl less)) = up.olds h (e.all h b ge less)
        by (inr (inr more)) = absurd (omega (arith, lt, more))

    stops_new : (q : ℕ) → new.stuck ≡ Some q → (h at : ℕ) × StopsThere t text g at h q × (begin ≤ at) × (at < suc look)
    stops_new q is = by (from q is)
      where
        by : (mid.stuck ≡ Some q) ⊎ (s.stop ≡ Some q) → (h at : ℕ) × StopsThere t text g at h q × (begin ≤ at) × (at < suc look)
        by (inl o) = let r = e.stops q (sym up.stuck ∙ o) in let lt = r.4 in (r.0, r.1, r.2, r.3, omega (arith, lt))
        by (inr o) =
            let l : IsLastAmong t text g look a.heads (Some q) = subst (λ (x : Option ℕ). IsLastAmong t text g look a.heads x) o a.sights.stop in
            (l.0.0, look, l.0.2, early, omega arith)

    last_new : (h at q : ℕ) → StopsThere t text g at h q → begin ≤ at → at < suc look → IsPastStuck new.stuck q
    last_new h at q st ge lt = by (cases_order at look)
      where
        among : (o : Option ℕ) → s.stop ≡ o → StopsThere t text g look h q → Contains a.heads h → IsPastStuck new.stuck q
        among None is here w = absurd (let l : IsLastAmong t text g look a.heads None = subst (λ (x : Option ℕ). IsLastAmong t text g look a.heads x) is a.sights.stop in l h q w here)
        among (Some last) is here w =
            let l : IsLastAmong t text g look a.heads (Some last) = subst (λ (x : Option ℕ). IsLastAmong t text g look a.heads x) is a.sights.stop in
            let le = l.1 h q w here in
            let r = mine last is in
            let past = r.2 in
            (r.0, r.1, omega (arith, le, past))

        by : (at ≡ look) ⊎ ((at < look) ⊎ (look < at)) → IsPastStuck new.stuck q
        by (inl here) =
            let there : StopsThere t text g look h q = subst (λ (n : ℕ). StopsThere t text g n h q) here st in
            among s.stop refl there (a.all h (there.at.head, there.at.is, there.at.place_is))
        by (inr (inl less)) = let r = e.last h at q st ge less in others q (r.0, up.stuck ∙ r.1, r.2)
        by (inr (inr more)) = absurd (omega (arith, lt, more))

    pub ends_more : AreEnds t text g begin (suc look) new
    ends_more = record { each = each_new; all = all_new; stops = stops_new; last = last_new }
