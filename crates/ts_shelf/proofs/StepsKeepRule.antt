-- A load, a try to take the turn, and a turn given back or up keep the rule of the shelf.
use Rattle.std.proofs.Common.{Some, ◌≡◌, ◌≢◌, ◌∙◌, sym, ap, refl, subst, ℕ, ◌+◌, ◌*◌, ◌/◌, ◌<◌, ◌≤◌, inl, inr, ⊎_elim, Bool, true, false, ◌==◌, eqb-true, List, [], ◌∷◌, ◌++◌, set, get_or, All, append_assoc, arith}
use Rattle.std.proofs.lemmas.Bool.{false≢true}
use Rattle.std.proofs.lemmas.List.{append-nil}
use Rattle.std.proofs.lemmas.List.Elements.{All-nil, All-push, All-weaker, All-append}
use mathlib.Core.Option.{Option, some, none, some-injective}
use Rattle.std.specs.Prelude.{MatchBool}
use mathlib.Core.Logic.{dite}
use native.Mathlib.Decide.{ℕ_discrete}
use prog.Atomic.{either}
use lib.ListN.{get_elem?}
use Rattle.atomic_table.specs.Table.{State, Step, step, Act, keeps, takes, gives, Valid, Allows, stepped, carried_after}
use Rattle.atomic_table.proofs.Lists.{set_here, set_else}
use Rattle.ts_shelf.specs.declared.journal.Entry.{Entry}
use Rattle.ts_shelf.specs.declared.view.View.{View}
use Rattle.ts_shelf.specs.Entries.{most_turns, occurrences, once_below, RisesWithin, Extends}
use Rattle.ts_shelf.specs.Rule.{FitsHistory, Noted, IsHome, IsOut, IsShelf}
use Rattle.ts_shelf.specs.Steps.{AsksBeforeSplit, Learns, HasLooked, HasOffered, HasTurn, Tries, Loads, GivesBack, GivesUp}
use Rattle.ts_shelf.specs.Views.{sum_over, IsLive, told_view, holding, after_turn, after_give_up, asking, Seated, IsIdle}
use Rattle.ts_shelf.proofs.RisingEntries.{all_prefix, extends_more, rises_le, rises_append}
use Rattle.ts_shelf.proofs.TurnLists.{once_most, occurrences_push, one_more}
use Rattle.ts_shelf.proofs.ViewSums.{within, views_else, views_at, not_holding, total_set, same_total, member_total}

module _ {J S I : Type 0} (entries : J → List (Entry I)) (room : J → ℕ) (opening : J → S)
    (fits : S → I → Type 0) where
  abbrev Rule : State J (View S I) → Type 0
  Rule = IsShelf entries room opening fits

  abbrev Home : S → ℕ → List (Entry I) → State J (View S I) → Type 0
  Home = IsHome entries room opening fits

  abbrev Out : ℕ → List (Entry I) → State J (View S I) → Type 0
  Out = IsOut entries room opening fits

  -- the word is about twice the number of turns that are over
  word_is : (s : State J (View S I)) (h : Rule s) → (get_or s.words 0 0 ≤ 2 * h.turn + 1)
      × (2 * h.turn ≤ get_or s.words 0 0)
  word_is s h =
      ⊎_elim (λ p. let e =
      ap (λ (ws : List ℕ). get_or ws 0 0) p.words in (omega arith, omega arith))
      (λ p. let e =
      ap (λ (ws : List ℕ). get_or ws 0 0) p.words in (omega arith, omega arith)) h.place

  -- a view that holds no turn, and what it becomes
  record Quiet (s : State J (View S I)) (id : ℕ) (v w : View S I) : Type 0 where
    at : get_elem? s.views id ≡ some v
    free : v.notes.holds ≡ false
    free_after : w.notes.holds ≡ false
    taken : w.knows.taken ≡ v.knows.taken
    offers : w.knows.offers ≡ v.knows.offers
    first : w.knows.first ≡ v.knows.first
    other : w.notes.other ≡ v.notes.other
    out : w.knows.out ≡ v.knows.out
    opened : w.knows.opening ≡ v.knows.opening

  quiet : (s : State J (View S I)) (id : ℕ) (v w : View S I) → Rule s → Quiet s id v w
      → ((t : ℕ) (history : List (Entry I)) → get_or s.words 0 0 ≤ 2 * t + 1
      → FitsHistory t history v.knows → FitsHistory t history w.knows)
      → (Noted v → Noted w) → Rule (stepped s 0 (get_or s.words 0 0) id [] w keeps)
  quiet s id v w h q agrees notes = record {
    base = h.base;
    all_fit = h.all_fit;
    each_opens =
        views_at s.views id w (λ _ u. IsLive u → u.knows.opening ≡ Some h.base) h.each_opens
        (λ live. q.opened ∙ h.each_opens id v q.at (λ z o. live (q.first ∙ z) (q.other ∙ o)));
    turn = h.turn;
    history = h.history;
    few = h.few;
    rises = h.rises;
    each = views_at s.views id w (λ _ u. FitsHistory h.turn h.history u.knows) h.each
        (agrees h.turn h.history (word_is s h).0 (h.each id v q.at));
    noted = views_at s.views id w (λ _ u. Noted u) h.noted (notes (h.noted id v q.at));
    once = λ x.
        let a = total_set (λ (u : View S I). occurrences x u.knows.taken) s.views id v w q.at in
        let b = ap (occurrences x) q.taken in
        let c = h.once x in
        omega arith;
    one_first =
        same_total (λ (u : View S I). u.knows.first) s.views id v w q.at q.first ∙ h.one_first;
    others_out =
        same_total (λ (u : View S I). u.notes.other) s.views id v w q.at q.other ∙ h.others_out
        ∙ sym (same_total (λ (u : View S I). u.knows.out) s.views id v w q.at q.out);
    place = ⊎_elim (λ p. inl (home p)) (λ p. inr (out p)) h.place;
  }
    where
      offers_same : sum_over (λ (u : View S I). u.knows.offers) (set s.views id w)
          ≡ sum_over (λ (u : View S I). u.knows.offers) s.views
      offers_same = same_total (λ (u : View S I). u.knows.offers) s.views id v w q.at q.offers

      home : Home h.base h.turn h.history s
          → Home h.base h.turn h.history (stepped s 0 (get_or s.words 0 0) id [] w keeps)
      home p = record {
        words = ap (λ (ws : List ℕ). set ws 0 (get_or ws 0 0)) p.words;
        journal = p.journal;
        homes = p.homes;
        opens = p.opens;
        entries_are = p.entries_are;
        offers = subst (λ (n : ℕ). n ≤ room p.journal) (sym offers_same) p.offers;
        free = views_at s.views id w (λ _ u. u.notes.holds ≡ false) p.free q.free_after;
      }

      out : Out h.turn h.history s
          → Out h.turn h.history (stepped s 0 (get_or s.words 0 0) id [] w keeps)
      out p = record {
        words = ap (λ (ws : List ℕ). set ws 0 (get_or ws 0 0)) p.words;
        homes = p.homes;
        holder = p.holder;
        view = p.view;
        there = set_else s.views id p.holder w
            (not_holding s.views id p.holder v p.view q.at q.free p.there p.holds.0) ∙ p.there;
        holds = p.holds;
        offers = subst (λ (n : ℕ). n ≤ p.view.notes.held_room) (sym offers_same) p.offers;
        others = views_at s.views id w (λ k u. k ≢ p.holder → u.notes.holds ≡ false) p.others
            (λ _. q.free_after);
      }

  quiet_self : (s : State J (View S I)) (id : ℕ) (v w : View S I) → get_elem? s.views id ≡ some v
      → v.notes.holds ≡ false
      → w.notes.holds ≡ false → w.knows ≡ v.knows → w.notes.other ≡ v.notes.other → Quiet s id v w
  quiet_self s id v w at free free_after same other = record {
    at = at;
    free = free;
    free_after = free_after;
    taken = ap (λ k. k.taken) same;
    offers = ap (λ k. k.offers) same;
    first = ap (λ k. k.first) same;
    other = other;
    out = ap (λ k. k.out) same;
    opened = ap (λ k. k.opening) same;
  }

  loads_view : (id : ℕ) (v : View S I) → v.notes.holds ≡ false
      → Allows Rule 1 id (v, []) 0 (λ n. n) (Loads (step 1 0 0 0 none) (v, []))
  loads_view id v free s h slots at big =
      let n : ℕ = get_or s.words 0 0 in
      let w : View S I = told_view v (n / 2) in
      let over : v.knows.reached ≤ n / 2 = (let a = (h.each id v at).reached in
      let b = (word_is s h).1 in omega arith) in (
        w,
        keeps,
        tt,
        quiet s id v w h
            (record {
              at = at;
              free = free;
              free_after = free;
              taken = refl;
              offers = refl;
              first = refl;
              other = refl;
              out = refl;
              opened = refl;
            })
            (λ t history small f. record {
              rest = f.rest;
              is = f.is;
              early = f.early;
              late = f.late;
              reached =
                  omega arith;
              known = (let a = f.known in omega arith);
              taken = f.taken;
            })
            (λ f. record {
              rank = f.rank;
              single = f.single;
              spent = f.spent;
              own = f.own;
              others = f.others;
              fewer = f.fewer;
            }),
        (refl, (let a = (word_is s h).0 in let b = h.few in omega arith), over),
      )

  -- one view takes the turn, and the journal with it
  taken_at : (s : State J (View S I)) (id t : ℕ) (v : View S I) (h : Rule s)
      → get_elem? s.views id ≡ some v
      → v.notes.holds ≡ false → IsLive v → t ≡ h.turn → (p : Home h.base h.turn h.history s)
      → Rule (stepped s 0 (2 * t + 1) id [] (holding v t (entries p.journal) (room p.journal))
      (takes 0 p.journal))
  taken_at s id t v h at free live is p =
      let w : View S I = holding v t (entries p.journal) (room p.journal) in
      let offers = same_total (λ (u : View S I). u.knows.offers) s.views id v w at refl in
      let f = h.noted id v at in
      record {
        base = h.base;
        all_fit = h.all_fit;
        each_opens =
            views_at s.views id w (λ _ u. IsLive u → u.knows.opening ≡ Some h.base) h.each_opens
            (h.each_opens id v at);
        turn = h.turn;
        history = h.history;
        few = h.few;
        rises = h.rises;
        each = views_at s.views id w (λ _ u. FitsHistory h.turn h.history u.knows) h.each
            (h.each id v at);
        noted = views_at s.views id w (λ _ u. Noted u) h.noted
            (record {
              rank = f.rank;
              single = f.single;
              spent =
                  λ z o. absurd (live z o);
              own = f.own;
              others = f.others;
              fewer = f.fewer;
            });
        once = λ x. same_total
            (λ (u : View S I). occurrences x u.knows.taken) s.views id v w at refl ∙ h.once x;
        one_first =
            same_total (λ (u : View S I). u.knows.first) s.views id v w at refl ∙ h.one_first;
        others_out =
            same_total (λ (u : View S I). u.notes.other) s.views id v w at refl ∙ h.others_out
            ∙ sym (same_total (λ (u : View S I). u.knows.out) s.views id v w at refl);
        place = inr (record {
          words = ap (λ (ws : List ℕ). set ws 0 (2 * t + 1)) p.words
              ∙ ap (λ (m : ℕ). (2 * m + 1) ∷ []) is;
          homes = ap (λ (hs : List (Option J)). set hs 0 none) p.homes;
          holder = id;
          view = w;
          there = set_here s.views id w (within s.views id v at);
          holds = (refl, is, p.entries_are);
          offers = subst (λ (n : ℕ). n ≤ room p.journal) (sym offers) p.offers;
          others = views_at s.views id w (λ k u. k ≢ id → u.notes.holds ≡ false)
              (λ k u e ne. p.free k u e) (λ ne. absurd (ne refl));
        });
      }

  -- what a try to take the turn t finds
  tries_case : (s : State J (View S I)) (id t : ℕ) (v : View S I) (b : Bool)
      → (get_or s.words 0 0 == 2 * t) ≡ b → Rule s
      → get_elem? s.views id ≡ some v → v.notes.holds ≡ false → IsLive v → t < most_turns
      → (w : View S I) × (a : Act J) × Valid s.homes [] a
      × Rule (stepped s 0 (either b (2 * t + 1) (get_or s.words 0 0)) id [] w a)
      × MatchBool b
      ((m : ℕ) × (2 * t ≡ 2 * m)
      × HasTurn entries room opening fits v m (w, carried_after [] a))
      (◌≡◌ {A = Seated J S I} (w, carried_after [] a) (v, []))
  tries_case s id t v false is h at free live few = (
    v,
    keeps,
    tt,
    quiet s id v v h (quiet_self s id v v at free free refl refl)
        (λ t history small f. f) (λ f. f),
    refl,
  )
  tries_case s id t v true is h at free live few =
      ⊎_elim
      (λ p.
      let e : t
      ≡ h.turn = (let a = ap (λ (ws : List ℕ). get_or ws 0 0) p.words in
      let b = n_is in omega arith) in (
        holding v t (entries p.journal) (room p.journal),
        takes 0 p.journal,
        ap (λ (hs : List (Option J)). get_elem? hs 0) p.homes,
        taken_at s id t v h at free live e p,
        (
          t,
          refl,
          record {
            journal = p.journal;
            carried = refl;
            view = refl;
            few = few;
            rises = subst (λ (l : List (Entry I)). RisesWithin 0 t l) (sym p.entries_are)
                (subst (λ (m : ℕ). RisesWithin 0 m h.history) (sym e) h.rises);
            opens = h.each_opens id v at live ∙ ap Some (sym p.opens);
            all_fit = subst (λ (b : S). All (λ x. fits b x.item) (entries p.journal)) (sym p.opens)
                (subst (λ (l : List (Entry I)). All (λ x. fits h.base x.item) l)
                (sym p.entries_are) h.all_fit);
            agrees = subst (λ (l : List (Entry I)). FitsHistory t l v.knows) (sym p.entries_are)
                (subst (λ (m : ℕ). FitsHistory m h.history v.knows) (sym e) (h.each id v at));
            offers = (let a = member_total (λ (x : View S I). x.knows.offers) s.views id v at in
                let b = p.offers in omega arith);
          },
        ),
      ))
      (λ p. absurd (let a = ap (λ (ws : List ℕ). get_or ws 0 0) p.words in
      let b = n_is in omega arith))
      h.place
    where
      n_is : get_or s.words 0 0 ≡ 2 * t
      n_is = eqb-true _ _ is

  -- a seat that carries nothing
  alone : (m : Seated J S I) → m.1 ≡ [] → m ≡ (m.0, [])
  alone m e = λ k. (m.0, e k)

  -- a load
  pub loads_keeps : (id : ℕ) (m : Seated J S I) → IsIdle m
      → Allows Rule 1 id m 0 (λ n. n) (Loads (step 1 0 0 0 none) m)
  loads_keeps id m pass =
      subst (λ (x : Seated J S I). Allows Rule 1 id x 0 (λ n. n) (Loads (step 1 0 0 0 none) x))
      (sym (alone m pass.0))
      (loads_view id m.0 pass.1)

  -- a try
  pub tries_keeps : (id t : ℕ) (m : Seated J S I) → IsIdle m → t < most_turns
      → Allows Rule 1 id m 0 (λ n. either (n == 2 * t) (2 * t + 1) n)
      (Tries entries room opening fits (step 1 0 (2 * t) (2 * t + 1) none) m)
  tries_keeps id t m pass few =
      subst (λ (x : Seated J S I). Allows Rule 1 id x 0 (λ n. either (n == 2 * t) (2 * t + 1) n)
      (Tries entries room opening fits (step 1 0 (2 * t) (2 * t + 1) none) x))
      (sym (alone m pass.0))
      (λ s h slots at big. tries_case s id t m.0
      (get_or s.words 0 0 == 2 * t) refl h at pass.1 pass.2 few)

  -- a view that holds a turn is the one that the rule knows of
  record Holder (s : State J (View S I)) (v : View S I) (h : Rule s) : Type 0 where
    out : Out h.turn h.history s
    turn : v.notes.held_turn ≡ h.turn
    all : v.notes.held_entries ≡ h.history
    left : sum_over (λ (u : View S I). u.knows.offers) s.views ≤ v.notes.held_room

  holder_of : (s : State J (View S I)) (id : ℕ) (v : View S I) (h : Rule s)
      → get_elem? s.views id ≡ some v
      → v.notes.holds ≡ true
      → Holder s v h
      × ((k : ℕ) (u : View S I) → get_elem? s.views k ≡ some u → k ≢ id → u.notes.holds ≡ false)
  holder_of s id v h at holds =
      ⊎_elim
      (λ p. absurd (false≢true (sym (p.free id v at) ∙ holds)))
      (λ p. dite (ℕ_discrete id p.holder)
      (λ e.
      let same : some p.view ≡ some v = sym p.there ∙ ap (get_elem? s.views) (sym e) ∙ at in
      let one : p.view ≡ v = some-injective p.view v same in (
        record {
          out = p;
          turn = ap (λ (u : View S I). u.notes.held_turn) (sym one) ∙ p.holds.1;
          all = ap (λ (u : View S I). u.notes.held_entries) (sym one) ∙ p.holds.2;
          left = subst
              (λ (u : View S I). sum_over
              (λ (x : View S I). x.knows.offers) s.views ≤ u.notes.held_room) one p.offers;
        },
        (λ k u e' ne. p.others k u e' (λ f. ne (f ∙ sym e))),
      ))
      (λ ne. absurd (false≢true (sym (p.others id v at ne) ∙ holds))))
      h.place

  -- a holder is live, and knows the journal's opening
  base_is : (s : State J (View S I)) (id : ℕ) (v : View S I) (j : J) (h : Rule s)
      → get_elem? s.views id ≡ some v
      → v.notes.holds ≡ true → v.knows.opening ≡ Some (opening j) → h.base ≡ opening j
  base_is s id v j h at holds opens =
      let live : IsLive v = λ z o. false≢true (sym ((h.noted id v at).spent z o).1 ∙ holds) in
      let both : Some h.base ≡ Some (opening j) = sym (h.each_opens id v at live) ∙ opens in
      cc

  -- the journal comes back, with at most one entry of the turn
  back_at : (s : State J (View S I)) (id : ℕ) (v : View S I) (j : J) (more : List (Entry I))
      (used : ℕ) → Rule s
      → get_elem? s.views id ≡ some v → v.notes.holds ≡ true → v.notes.held_turn < most_turns
      → entries j ≡ v.notes.held_entries ++ more
      → RisesWithin v.notes.held_turn (v.notes.held_turn + 1) more
      → used ≤ v.knows.offers → v.notes.held_room ≤ room j + used
      → v.knows.opening ≡ Some (opening j)
      → All (λ e. fits (opening j) e.item) more
      → Rule (stepped s 0 (2 * v.notes.held_turn + 2) id ((0, j) ∷ [])
      (after_turn v (entries j) used) gives)
  back_at s id v j more used h at holds few is late some_left left opens new_fit =
      let w : View S I = after_turn v (entries j) used in
      let q = holder_of s id v h at holds in
      let t : ℕ = v.notes.held_turn in
      let turn : t ≡ h.turn = q.0.turn in
      let history : List (Entry I) = entries j in
      let history_is : history ≡ h.history ++ more =
      is ∙ ap (λ (l : List (Entry I)). l ++ more) q.0.all in
      let rises : RisesWithin 0 t h.history =
      subst (λ (n : ℕ). RisesWithin 0 n h.history) (sym turn) h.rises in
      let rises' : RisesWithin 0 (t + 1) history =
      subst (RisesWithin 0 (t + 1)) (sym history_is)
      (rises_append 0 t (t + 1) h.history more rises late) in
      let offers = total_set (λ (u : View S I). u.knows.offers) s.views id v w at in
      let own = h.each id v at in
      let notes = h.noted id v at in
      let base : h.base ≡ opening j = base_is s id v j h at holds opens in
      record {
        base = h.base;
        all_fit = subst (λ (l : List (Entry I)). All (λ e. fits h.base e.item) l) (sym history_is)
            (All-append (λ (e : Entry I). fits h.base e.item) h.history more h.all_fit
            (subst (λ (b : S). All (λ e. fits b e.item) more) (sym base) new_fit));
        each_opens =
            views_at s.views id w (λ _ u. IsLive u → u.knows.opening ≡ Some h.base) h.each_opens
            (h.each_opens id v at);
        turn = t + 1;
        history = history;
        few = omega arith;
        rises = rises';
        each = views_at s.views id w (λ _ u. FitsHistory (t + 1) history u.knows)
            (λ k u e.
            let f = h.each k u e in
            let reached = f.reached in
            record {
              rest = f.rest ++ more;
              is = history_is ∙ ap (λ (l : List (Entry I)). l ++ more) f.is
                  ∙ append_assoc u.knows.seen f.rest more;
              early = f.early;
              late = rises_append u.knows.turn t (t + 1) f.rest more
                  (subst (λ (n : ℕ). RisesWithin u.knows.turn n f.rest) (sym turn) f.late) late;
              reached = omega arith;
              known = f.known;
              taken = f.taken;
            })
            (record {
              rest = [];
              is = sym (append-nil history);
              early = rises';
              late = le_refl (t + 1);
              reached = le_refl (t + 1);
              known = le_refl (t + 1);
              taken = All-push (λ x. x < t + 1) v.knows.taken t
                  (All-weaker (λ x. x < v.knows.turn) (λ x. x < t + 1)
                  (λ x lt. let a =
                  rises_le v.knows.turn h.turn own.rest own.late in omega arith) v.knows.taken
                  own.taken)
                  (omega arith);
            });
        noted = views_at s.views id w (λ _ u. Noted u) h.noted
            (record {
              rank = notes.rank;
              single = notes.single;
              spent = λ z o. absurd (false≢true (sym (notes.spent z o).1 ∙ holds));
              own = more_seen v.notes.own_turn v.notes.own_seen notes.own;
              others = more_seen v.notes.other_turn v.notes.other_seen notes.others;
              fewer = notes.fewer;
            });
        once = λ x.
            let a = total_set (λ (u : View S I). occurrences x u.knows.taken) s.views id v w at in
            let b = occurrences_push x v.knows.taken t in
            let c = h.once x in
            let d = one_more x t in
            let e = ap (once_below x) turn in
            omega arith;
        one_first =
            same_total (λ (u : View S I). u.knows.first) s.views id v w at refl ∙ h.one_first;
        others_out =
            same_total (λ (u : View S I). u.notes.other) s.views id v w at refl ∙ h.others_out
            ∙ sym (same_total (λ (u : View S I). u.knows.out) s.views id v w at refl);
        place = inl (record {
          words = ap (λ (ws : List ℕ). set ws 0 (2 * t + 2)) q.0.out.words
              ∙ ap (λ (m : ℕ). m ∷ []) (let twice : 2 * t + 2 ≡ 2 * (t + 1) = omega arith in twice);
          journal = j;
          homes = ap (λ (hs : List (Option J)). set hs 0 (some j)) q.0.out.homes;
          entries_are = refl;
          opens = sym base;
          offers = (let a = q.0.left in omega arith);
          free = views_else s.views id w (λ k u. u.notes.holds ≡ false) q.1 refl;
        });
      }
    where
      le_refl : (n : ℕ) → n ≤ n
      le_refl n = omega arith

      more_seen : (low : ℕ) (xs : List (Entry I)) → Extends low v.knows.turn v.knows.seen xs
          → Extends low (v.notes.held_turn + 1) (entries j) xs
      more_seen low xs st =
          let q = holder_of s id v h at holds in
          let f = h.each id v at in
          let all : entries j ≡ v.knows.seen ++ (f.rest ++ more) =
          is ∙ ap (λ (l : List (Entry I)). l ++ more) (q.0.all ∙ f.is)
          ∙ append_assoc v.knows.seen f.rest more in
          let tail : RisesWithin v.knows.turn (v.notes.held_turn + 1) (f.rest ++ more) =
          rises_append v.knows.turn v.notes.held_turn (v.notes.held_turn + 1) f.rest more
          (subst (λ (n : ℕ). RisesWithin v.knows.turn n f.rest) (sym q.0.turn) f.late) late in
          subst (λ (l : List (Entry I)). Extends low (v.notes.held_turn + 1) l xs) (sym all)
          (extends_more low v.knows.turn (v.notes.held_turn + 1) v.knows.seen xs
          (f.rest ++ more) st tail)

  -- the journal comes back as it was, and the turn is not over
  up_at : (s : State J (View S I)) (id : ℕ) (v : View S I) (j : J) → Rule s
      → get_elem? s.views id ≡ some v
      → v.notes.holds ≡ true → entries j ≡ v.notes.held_entries → v.notes.held_room ≤ room j
      → v.knows.opening ≡ Some (opening j)
      → Rule (stepped s 0 (2 * v.notes.held_turn) id ((0, j) ∷ []) (after_give_up v) gives)
  up_at s id v j h at holds is left opens =
      let w : View S I = after_give_up v in
      let q = holder_of s id v h at holds in
      let offers = same_total (λ (u : View S I). u.knows.offers) s.views id v w at refl in
      let f = h.noted id v at in
      let base : h.base ≡ opening j = base_is s id v j h at holds opens in
      record {
        base = h.base;
        all_fit = h.all_fit;
        each_opens =
            views_at s.views id w (λ _ u. IsLive u → u.knows.opening ≡ Some h.base) h.each_opens
            (h.each_opens id v at);
        turn = h.turn;
        history = h.history;
        few = h.few;
        rises = h.rises;
        each = views_at s.views id w (λ _ u. FitsHistory h.turn h.history u.knows) h.each
            (h.each id v at);
        noted = views_at s.views id w (λ _ u. Noted u) h.noted
            (record {
              rank = f.rank;
              single = f.single;
              spent =
                  λ z o. ((f.spent z o).0, refl);
              own = f.own;
              others = f.others;
              fewer = f.fewer;
            });
        once = λ x. same_total
            (λ (u : View S I). occurrences x u.knows.taken) s.views id v w at refl ∙ h.once x;
        one_first =
            same_total (λ (u : View S I). u.knows.first) s.views id v w at refl ∙ h.one_first;
        others_out =
            same_total (λ (u : View S I). u.notes.other) s.views id v w at refl ∙ h.others_out
            ∙ sym (same_total (λ (u : View S I). u.knows.out) s.views id v w at refl);
        place = inl (record {
          words = ap (λ (ws : List ℕ). set ws 0 (2 * v.notes.held_turn)) q.0.out.words
              ∙ ap (λ (m : ℕ). (2 * m) ∷ []) q.0.turn;
          journal = j;
          homes = ap (λ (hs : List (Option J)). set hs 0 (some j)) q.0.out.homes;
          opens = sym base;
          entries_are = is ∙ q.0.all;
          offers = (let a = q.0.left in omega arith);
          free = views_else s.views id w (λ k u. u.notes.holds ≡ false) q.1 refl;
        });
      }

  abbrev Gives : ℕ → Seated J S I → ℕ → (Step J → Seated J S I → ℕ → Seated J S I → Type 0) → Type 0
  Gives id m new says = Allows Rule 1 id m 0 (λ _. new) (λ _. says (step 1 0 new 0 none) m new)

  carrying : (m : Seated J S I) (j : J) → m.1 ≡ (0, j) ∷ [] → m ≡ (m.0, (0, j) ∷ [])
  carrying m j e = λ k. (m.0, e k)

  one_journal : (j i : J) → ◌≡◌ {A = List (ℕ × J)} ((0, j) ∷ []) ((0, i) ∷ []) → j ≡ i
  one_journal j i e = ap (λ (l : List (ℕ × J)). (get_or l 0 (0, j)).1) e

  back_pair : (id : ℕ) (v : View S I) (j : J) (more : List (Entry I)) (used : ℕ)
      → v.notes.holds ≡ true
      → v.notes.held_turn < most_turns → entries j ≡ v.notes.held_entries ++ more
      → RisesWithin v.notes.held_turn (v.notes.held_turn + 1) more → used ≤ v.knows.offers
      → v.notes.held_room ≤ room j + used → v.knows.opening ≡ Some (opening j)
      → All (λ e. fits (opening j) e.item) more
      → Gives id (v, (0, j) ∷ []) (2 * v.notes.held_turn + 2) (GivesBack entries used)
  back_pair id v j more used holds few is late some_left left opens new_fit s h slots at big = (
    after_turn v (entries j) used,
    gives,
    tt,
    back_at s id v j more used h at holds few is late some_left left opens new_fit,
    (λ i e. ap (λ (x : J). let after : Seated J S I = (after_turn v (entries x) used, []) in after)
        (one_journal j i e)),
  )

  up_pair : (id : ℕ) (v : View S I) (j : J) → v.notes.holds ≡ true
      → entries j ≡ v.notes.held_entries
      → v.notes.held_room ≤ room j → v.knows.opening ≡ Some (opening j)
      → Gives id (v, (0, j) ∷ []) (2 * v.notes.held_turn) GivesUp
  up_pair id v j holds is left opens s h slots at big =
      (after_give_up v, gives, tt, up_at s id v j h at holds is left opens, refl)

  -- the end of a look
  pub look_back_keeps : (id t : ℕ) (m : Seated J S I) → HasLooked entries room opening fits t m
      → Gives id m (2 * t + 2) (GivesBack entries 0)
  look_back_keeps id t m h =
      let few : m.0.notes.held_turn < most_turns = (let a = h.holds.1 in
      let b = h.holds.2 in omega arith) in
      let left : m.0.notes.held_room ≤ room h.journal + 0 = (let a = h.room_left in omega arith) in
      let late : RisesWithin m.0.notes.held_turn (m.0.notes.held_turn + 1) (nothing) =
      omega arith in
      subst (λ (n : ℕ). Gives id m (2 * n + 2) (GivesBack entries 0)) h.holds.1
      (subst (λ (x : Seated J S I). Gives id x (2 * m.0.notes.held_turn + 2) (GivesBack entries 0))
      (sym (carrying m h.journal h.carried))
      (back_pair id m.0 h.journal [] 0 h.holds.0 few
      (h.same ∙ sym (append-nil m.0.notes.held_entries)) late (omega arith) left
      h.opens (All-nil (λ (e : Entry I). fits (opening h.journal) e.item))))
    where
      nothing : List (Entry I)
      nothing = []

  -- the end of an offer
  pub offer_back_keeps : (id t : ℕ) (m : Seated J S I) → HasOffered entries room opening fits t m
      → Gives id m (2 * t + 2) (GivesBack entries 1)
  offer_back_keeps id t m h =
      let few : m.0.notes.held_turn < most_turns = (let a = h.holds.1 in
      let b = h.holds.2 in omega arith) in
      let late : RisesWithin m.0.notes.held_turn (m.0.notes.held_turn + 1) h.more =
      subst (λ (n : ℕ). RisesWithin n (n + 1) h.more) (sym h.holds.1) h.late in
      subst (λ (n : ℕ). Gives id m (2 * n + 2) (GivesBack entries 1)) h.holds.1
      (subst (λ (x : Seated J S I). Gives id x (2 * m.0.notes.held_turn + 2) (GivesBack entries 1))
      (sym (carrying m h.journal h.carried))
      (back_pair id m.0 h.journal h.more 1 h.holds.0 few h.is late h.offers h.room_left h.opens
      h.new_fit))

  -- a turn that is given up
  pub give_up_keeps : (id t : ℕ) (m : Seated J S I) → HasLooked entries room opening fits t m
      → Gives id m (2 * t) GivesUp
  give_up_keeps id t m h =
      subst (λ (n : ℕ). Gives id m (2 * n) GivesUp) h.holds.1
      (subst (λ (x : Seated J S I). Gives id x (2 * m.0.notes.held_turn) GivesUp)
      (sym (carrying m h.journal h.carried))
      (up_pair id m.0 h.journal h.holds.0 h.same h.room_left h.opens))

  same_word : (n k : ℕ) → either (n == k) k n ≡ n
  same_word n k = by (n == k) refl
    where
      by : (b : Bool) → (n == k) ≡ b → either b k n ≡ n
      by true e = sym (eqb-true n k e)
      by false e = refl

  asks_view : (id k : ℕ) (v : View S I) → v.notes.holds ≡ false
      → Allows Rule 1 id (v, []) 0 (λ n. either (n == k) k n) (AsksBeforeSplit (step 1 0 k k none) (v, []))
  asks_view id k v free s h slots at big =
      let n : ℕ = get_or s.words 0 0 in
      let w : View S I = asking v k in (
        w,
        keeps,
        tt,
        subst (λ (m : ℕ). Rule (stepped s 0 m id [] w keeps)) (sym (same_word n k))
            (quiet s id v w h (quiet_self s id v w at free free refl refl) (λ t history small f. f)
            (λ f. record {
              rank = f.rank;
              single = f.single;
              spent = f.spent;
              own = f.own;
              others = f.others;
              fewer = f.fewer;
            })),
        refl,
      )

  -- the exchange before a split, which changes no word
  pub asks_keeps : (id k : ℕ) (m : Seated J S I) → IsIdle m
      → Allows Rule 1 id m 0 (λ n. either (n == k) k n) (AsksBeforeSplit (step 1 0 k k none) m)
  asks_keeps id k m pass =
      subst (λ (x : Seated J S I). Allows Rule 1 id x 0 (λ n. either (n == k) k n)
      (AsksBeforeSplit (step 1 0 k k none) x)) (sym (alone m pass.0))
      (asks_view id k m.0 pass.1)

  learns_view : (id : ℕ) (v : View S I) → v.notes.holds ≡ false → IsLive v
      → Allows Rule 1 id (v, []) 0 (λ n. n) (Learns fits (step 1 0 0 0 none) (v, []))
  learns_view id v free live s h slots at big =
      let f = h.each id v at in
      let notes = h.noted id v at in (
        v,
        keeps,
        tt,
        quiet s id v v h (quiet_self s id v v at free free refl refl) (λ t history small f. f)
            (λ f. f),
        (
          refl,
          record {
            own = notes.own;
            others = notes.others;
            fewer = notes.fewer;
            apart = λ x.
                let a = member_total
                (λ (u : View S I). occurrences x u.knows.taken) s.views id v at in
                let b = h.once x in
                let c = once_most x h.turn in
                omega arith;
            pass = record {
              opening = h.base;
              opens = h.each_opens id v at live;
              fit = all_prefix (λ (e : Entry I). fits h.base e.item) v.knows.seen f.rest
                  (subst (λ (l : List (Entry I)). All (λ e. fits h.base e.item) l) f.is h.all_fit);
              rises = f.early;
              taken = f.taken;
              known = f.known;
              few = (let a = f.reached in let b = h.few in omega arith);
            };
          },
        ),
      )

  -- the load after a join
  pub learns_keeps : (id : ℕ) (m : Seated J S I) → IsIdle m
      → Allows Rule 1 id m 0 (λ n. n) (Learns fits (step 1 0 0 0 none) m)
  learns_keeps id m pass =
      subst (λ (x : Seated J S I). Allows Rule 1 id x 0 (λ n. n)
      (Learns fits (step 1 0 0 0 none) x)) (sym (alone m pass.0))
      (learns_view id m.0 pass.1 pass.2)
