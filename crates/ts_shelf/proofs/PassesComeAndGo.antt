-- A shelf opens with the rule, a split and a join keep it, and at the end it gives the journal.
use Rattle.std.proofs.Common.{Some, ◌≡◌, ◌∙◌, sym, ap, refl, subst, ℕ, zero, suc, ◌+◌, ◌-◌, ◌<◌, ◌≤◌, ◌⊎◌, inl, inr, ⊎_elim, Bool, true, false, ◌==◌, eqb-true, List, [], ◌∷◌, ◌++◌, set, All, max, nat_lt, if◌then◌else◌, arith}
use Rattle.std.proofs.lemmas.Bool.{false≢true, cases_lt}
use Rattle.std.proofs.lemmas.List.{append-nil}
use Rattle.std.proofs.lemmas.List.Elements.{All-nil, All-weaker, All-append}
use Rattle.std.proofs.lemmas.Bool.Decides.{nat_tests}
use mathlib.Core.Option.{Option, some, some-injective, some-ne-none}
use lib.ListN.{get_elem?}
use Rattle.atomic_table.specs.Table.{State, Splits, Joins, Final, Seen}
use Rattle.atomic_table.specs.Table as table
use Rattle.atomic_table.proofs.Lists.{at_snoc, at_longer, set_else}
use Rattle.ts_shelf.specs.declared.journal.Entry.{Entry}
use Rattle.ts_shelf.specs.declared.view.Knowledge.{Knowledge}
use Rattle.ts_shelf.specs.declared.view.View.{View}
use Rattle.ts_shelf.specs.Calls.{Closes}
use Rattle.ts_shelf.specs.Entries.{occurrences, once_below, RisesWithin, Extends}
use Rattle.ts_shelf.specs.Rule.{FitsHistory, Noted, IsHome, IsOut, IsShelf}
use Rattle.ts_shelf.specs.Views.{sum_over, IsLive, first_view, asking, kept_part, split_part, joined_known, joined_view, spent_view, Seated, IsIdle}
use Rattle.ts_shelf.proofs.RisingEntries.{extends_self, rises_none, seen_by_turn}
use Rattle.ts_shelf.proofs.TurnLists.{occurrences_append, once_counts}
use Rattle.ts_shelf.proofs.ViewSums.{views_else, views_at, not_holding, total_set, total_append, member_total, sole}

-- a turn that stands in the list is below a number that is above all turns there
stands_below : (x turn : ℕ) (ys : List ℕ) → 0 < occurrences x ys → All (λ y. y < turn) ys → x < turn
stands_below x turn [] some_here below = absurd (omega arith)
stands_below x turn (y ∷ ys) some_here below =
    by (x == y) refl (below 0 y (omega arith))
    (λ more. stands_below x turn ys more (λ k d lt. below (suc k) d (omega arith)))
  where
    by : (b : Bool) → (x == y) ≡ b → y < turn → (0 < occurrences x ys → x < turn) → x < turn
    by true e here rest = let same = eqb-true x y e in omega arith
    by false e here rest = rest (grind (arith, nat_tests))

-- where each turn below t was taken, and the turns taken are below another number, that number is
-- not less
below_all : (t turn : ℕ) (taken : List ℕ) → ((x : ℕ) → occurrences x taken ≡ once_below x t)
    → All (λ x. x < turn) taken → t ≤ turn
below_all zero turn taken once below = omega arith
below_all (suc t) turn taken once below =
    let h = stands_below t turn taken (let a = once t in
    let b = last t in omega arith) below in omega arith
  where
    last : (t : ℕ) → once_below t (suc t) ≡ 1
    last t = grind (arith, nat_tests)

module _ {J S I : Type 0} (entries : J → List (Entry I)) (room : J → ℕ) (opening : J → S)
    (fits : S → I → Type 0) where
  abbrev Rule : State J (View S I) → Type 0
  Rule = IsShelf entries room opening fits

  abbrev Place : S → ℕ → List (Entry I) → State J (View S I) → Type 0
  Place base t history s = IsHome entries room opening fits base t history s
      ⊎ IsOut entries room opening fits t history s

  -- a place does not change, where only views that hold no turn change, and their offers sum to as
  -- much
  placed : (base : S) (t : ℕ) (history : List (Entry I)) (s : State J (View S I))
      (views : List (View S I))
      → sum_over (λ (u : View S I). u.knows.offers) views
      ≡ sum_over (λ (u : View S I). u.knows.offers) s.views
      → ((k : ℕ) (u : View S I) → get_elem? views k ≡ some u → (u.notes.holds ≡ false)
      ⊎ (get_elem? s.views k ≡ some u))
      → ((k : ℕ) (u : View S I) → get_elem? s.views k ≡ some u → u.notes.holds ≡ true
      → get_elem? views k ≡ some u)
      → Place base t history s
      → Place base t history (record { words = s.words; homes = s.homes; views = views })
  placed base t history s views same old kept (inl p) = inl (record {
    words = p.words;
    journal = p.journal;
    homes = p.homes;
    opens = p.opens;
    entries_are = p.entries_are;
    offers = subst (λ (n : ℕ). n ≤ room p.journal) (sym same) p.offers;
    free = λ k u e. ⊎_elim (λ x. x) (λ x. p.free k u x) (old k u e);
  })
  placed base t history s views same old kept (inr p) = inr (record {
    words = p.words;
    homes = p.homes;
    holder = p.holder;
    view = p.view;
    there = kept p.holder p.view p.there p.holds.0;
    holds = p.holds;
    offers = subst (λ (n : ℕ). n ≤ p.view.notes.held_room) (sym same) p.offers;
    others = λ k u e ne. ⊎_elim (λ x. x) (λ x. p.others k u x ne) (old k u e);
  })

  splits_view : (id : ℕ) (v : View S I) → v.notes.holds ≡ false → v.knows.first ≡ 1
      → v.notes.asked ≤ v.knows.offers
      → Splits Rule id v (kept_part v) (split_part v)
  splits_view id v free first some_left s h at =
      let l : View S I = kept_part v in
      let r : View S I = split_part v in
      let views : List (View S I) = set s.views id l ++ r ∷ [] in
      let live : IsLive v = (λ z o. let a = first in omega arith) in
      let f = h.each id v at in
      let notes = h.noted id v at in
      let sums : (g : View S I → ℕ) → sum_over g views + g v ≡ sum_over g s.views + g l + g r =
      (λ g. let a = total_set g s.views id v l at in
      let b = total_append g (set s.views id l) r in omega arith) in
      record {
        base = h.base;
        all_fit = h.all_fit;
        each_opens = λ k u e. ⊎_elim
            (λ x. views_at s.views id l
            (λ _ u. IsLive u → u.knows.opening ≡ Some h.base) h.each_opens
            (λ _. h.each_opens id v at live) k u x)
            (λ x. subst (λ (y : View S I). IsLive y → y.knows.opening ≡ Some h.base) x
            (λ _. h.each_opens id v at live))
            (at_snoc (set s.views id l) r u k e);
        turn = h.turn;
        history = h.history;
        few = h.few;
        rises = h.rises;
        each = λ k u e. ⊎_elim
            (λ x. views_at s.views id l (λ _ u. FitsHistory h.turn h.history u.knows) h.each
            (record {
              rest = f.rest;
              is = f.is;
              early = f.early;
              late = f.late;
              reached = f.reached;
              known = f.known;
              taken = f.taken;
            }) k u x)
            (λ x. subst (λ (y : View S I). FitsHistory h.turn h.history y.knows) x
            (record {
              rest = f.rest;
              is = f.is;
              early = f.early;
              late = f.late;
              reached = f.reached;
              known = f.known;
              taken = All-nil (λ x. x < v.knows.turn);
            }))
            (at_snoc (set s.views id l) r u k e);
        noted = λ k u e. ⊎_elim
            (λ x. views_at s.views id l (λ _ u. Noted u) h.noted
            (record {
              rank =
                  λ z. absurd (let a = first in omega arith);
              single = notes.single;
              spent =
                  λ z o. absurd
                  (let a = first in omega arith);
              own = notes.own;
              others = notes.others;
              fewer = notes.fewer;
            }) k u x)
            (λ x. subst (λ (y : View S I). Noted y) x
            (record {
              rank = λ z. refl;
              single = omega arith;
              spent =
                  λ z o. (refl, refl);
              own = (v.knows.seen, refl, f.early);
              others =
                  (v.knows.seen, refl, f.early);
              fewer = refl;
            }))
            (at_snoc (set s.views id l) r u k e);
        once = λ x. let a = sums (λ u. occurrences x u.knows.taken) in
            let c = h.once x in omega arith;
        one_first = (let a = sums (λ u. u.knows.first) in let b = h.one_first in omega arith);
        others_out = (let a = sums (λ u. u.notes.other) in let b = sums (λ u. u.knows.out) in
            let c = h.others_out in omega arith);
        place = placed h.base h.turn h.history s views
            (let a = sums (λ u. u.knows.offers) in omega arith)
            (λ k u e. ⊎_elim
            (λ x. views_else s.views id l
            (λ k u. (u.notes.holds ≡ false) ⊎ (get_elem? s.views k ≡ some u))
            (λ k u y ne. inr y) (inl free) k u x)
            (λ x. inl (ap (λ (y : View S I). y.notes.holds) (sym x)))
            (at_snoc (set s.views id l) r u k e))
            (λ k u e holds. at_longer (set s.views id l) (r ∷ []) k u
            (set_else s.views id k l (not_holding s.views id k v u at free e holds) ∙ e))
            h.place;
      }

  -- a split, once it was asked for so many offers
  pub split_keeps : (id k : ℕ) (m n : Seated J S I) → IsIdle m → m.0.knows.first ≡ 1
      → k ≤ m.0.knows.offers
      → n ≡ (asking m.0 k, []) → Splits Rule id n.0 (kept_part n.0) (split_part n.0)
  split_keeps id k m n pass first some_left is =
      subst (λ (x : Seated J S I). Splits Rule id x.0 (kept_part x.0) (split_part x.0)) (sym is)
      (splits_view id (asking m.0 k) pass.1 first some_left)

  -- of two passes the one of the lesser turn has seen a prefix
  seen_before : (t : ℕ) (history : List (Entry I)) (a b : Knowledge S I) → FitsHistory t history a
      → FitsHistory t history b → a.turn ≤ b.turn
      → Extends a.turn b.turn b.seen a.seen
  seen_before t history a b x y le =
      seen_by_turn 0 a.turn b.turn t a.seen x.rest b.seen y.rest
      (sym x.is ∙ y.is) x.early x.late y.early y.late le

  -- what both know, put together, agrees with the history, and what both had seen is a prefix
  joined_agrees : (t : ℕ) (history : List (Entry I)) (k l : Knowledge S I) → FitsHistory t history k
      → FitsHistory t history l
      → let both : Knowledge S I = joined_known k l in
      FitsHistory t history both × Extends k.turn both.turn both.seen k.seen
      × Extends l.turn both.turn both.seen l.seen
  joined_agrees t history k l f g = by (nat_lt k.turn l.turn) refl
    where
      below : (m : ℕ) → k.turn ≤ m → l.turn ≤ m → All (λ x. x < m) (k.taken ++ l.taken)
      below m a b = All-append (λ x. x < m) k.taken l.taken
          (All-weaker (λ x. x < k.turn) (λ x. x < m) (λ x lt. omega arith) k.taken f.taken)
          (All-weaker (λ x. x < l.turn) (λ x. x < m) (λ x lt. omega arith) l.taken g.taken)

      reached_ : max k.reached l.reached ≤ t
      reached_ = let a = f.reached in let b = g.reached in omega arith

      with_all : Knowledge S I → Knowledge S I
      with_all m =
          record k {
            seen = m.seen;
            turn = m.turn;
            taken = k.taken ++ l.taken;
            reached =
                max k.reached l.reached;
            offers = k.offers + l.offers;
            out = k.out - 1;
          }

      by : (b : Bool) → nat_lt k.turn l.turn ≡ b
          → let m : Knowledge S I =
          if b then l else k in FitsHistory t history (with_all m) × Extends k.turn m.turn m.seen k.seen
          × Extends l.turn m.turn m.seen l.seen
      by true e =
          let lt : k.turn < l.turn = grind (arith, nat_tests) in (
            record {
              rest = g.rest;
              is = g.is;
              early = g.early;
              late = g.late;
              reached = reached_;
              known = (let a = g.known in omega arith);
              taken = below l.turn (omega arith)
                  (omega arith);
            },
            seen_before t history k l f g (omega arith),
            extends_self l.turn l.seen,
          )
      by false e =
          let le : l.turn ≤ k.turn = grind (arith, nat_tests) in (
            record {
              rest = f.rest;
              is = f.is;
              early = f.early;
              late = f.late;
              reached = reached_;
              known = (let a = f.known in omega arith);
              taken = below k.turn (omega arith)
                  (omega arith);
            },
            extends_self k.turn k.seen,
            seen_before t history l k g f le,
          )

  -- a join of the first pass with another
  pub join_keeps : (id other : ℕ) (v w : View S I) → v.notes.holds ≡ false → v.knows.first ≡ 1
      → w.notes.holds ≡ false
      → w.knows.first ≡ 0 → IsLive w → Joins Rule id v other w (joined_view v w) spent_view
  join_keeps id other v w free first free' not_first live s h at apart at' =
      let b : View S I = joined_view v w in
      let e : View S I = spent_view in
      let one : List (View S I) = set s.views id b in
      let views : List (View S I) = set one other e in
      let w_at : get_elem? s.views other ≡ some w = sym (set_else s.views id other b apart) ∙ at' in
      let notes = h.noted id v at in
      let notes' = h.noted other w w_at in
      let w_other : w.notes.other
      ≡ 1 = (let a = notes'.single in ⊎_elim (λ z. absurd (live not_first (omega arith)))
      (λ z. omega arith) (cases_lt w.notes.other 1)) in
      let v_out : sum_over (λ (u : View S I). u.knows.out) s.views ≡ v.knows.out =
      sole (λ (u : View S I). u.knows.out) s.views id v at h.one_first first
      (λ j u x z. (h.noted j u x).rank z) in
      let w_most = member_total (λ (u : View S I). u.notes.other) s.views other w w_at in
      let some_out : 0 < v.knows.out = (let a = h.others_out in omega arith) in
      let joined =
      joined_agrees h.turn h.history v.knows w.knows (h.each id v at) (h.each other w w_at) in
      let sums : (g : View S I → ℕ) → sum_over g views + g w + g v ≡ sum_over g s.views + g b + g e =
      (λ g. let a = total_set g s.views id v b at in
      let c = total_set g one other w e at' in omega arith) in
      record {
        base = h.base;
        all_fit = h.all_fit;
        each_opens = views_at one other e (λ _ u. IsLive u → u.knows.opening ≡ Some h.base)
            (views_at s.views id b (λ _ u. IsLive u → u.knows.opening ≡ Some h.base) h.each_opens
            (λ _. h.each_opens id v at (λ z o. let a = first in omega arith)))
            (λ dead. absurd (dead refl refl));
        turn = h.turn;
        history = h.history;
        few = h.few;
        rises = h.rises;
        each = views_at one other e (λ _ u. FitsHistory h.turn h.history u.knows)
            (views_at s.views id b (λ _ u. FitsHistory h.turn h.history u.knows) h.each joined.0)
            (record {
              rest = h.history;
              is = refl;
              early = omega arith;
              late = h.rises;
              reached =
                  omega arith;
              known = omega arith;
              taken = All-nil (λ x. x < 0);
            });
        noted = views_at one other e (λ _ u. Noted u)
            (views_at s.views id b (λ _ u. Noted u) h.noted
            (record {
              rank =
                  λ z. absurd (let a = first in omega arith);
              single = notes.single;
              spent =
                  λ z o. absurd
                  (let a = first in omega arith);
              own = joined.1;
              others = joined.2;
              fewer =
                  omega arith;
            }))
            (record {
              rank = λ z. refl;
              single = omega arith;
              spent =
                  λ z o. (refl, refl);
              own = ([], refl, omega arith);
              others =
                  ([], refl, omega arith);
              fewer = refl;
            });
        once = λ x. let a = sums (λ u. occurrences x u.knows.taken) in let c = h.once x in
            let d = occurrences_append x v.knows.taken w.knows.taken in omega arith;
        one_first = (let a = sums (λ u. u.knows.first) in let c = h.one_first in omega arith);
        others_out = (let a = sums (λ u. u.notes.other) in let c = sums (λ u. u.knows.out) in
            let d = h.others_out in let r = notes'.rank not_first in omega arith);
        place = placed h.base h.turn h.history s views
            (let a = sums (λ u. u.knows.offers) in omega arith)
            (views_else one other e
            (λ k u. (u.notes.holds ≡ false) ⊎ (get_elem? s.views k ≡ some u))
            (λ k u y ne. views_else s.views id b
            (λ k u. (u.notes.holds ≡ false) ⊎ (get_elem? s.views k ≡ some u))
            (λ k u y ne. inr y) (inl free) k u y) (inl refl))
            (λ k u x holds. set_else one other k e
            (not_holding s.views other k w u w_at free' x holds)
            ∙ (set_else s.views id k b (not_holding s.views id k v u at free x holds) ∙ x))
            h.place;
      }

  -- the first pass is idle after a join
  pub join_idle : (m n w : Seated J S I) → IsIdle m → m.0.knows.first ≡ 1
      → n ≡ (joined_view m.0 w.0, m.1) → IsIdle n
  join_idle m n w pass first is =
      subst (λ (x : Seated J S I). IsIdle x) (sym is)
      (pass.0, pass.1, (λ z o. absurd (let a = first in omega arith)))

  -- what is left at the end, where the first pass has no other out
  pub closes_with : (id : ℕ) (v : View S I) (words : List ℕ) (xs : List J) (y : J)
      → v.notes.holds ≡ false
      → v.knows.first ≡ 1 → v.knows.out ≡ 0 → Final (Seen Rule id v) words xs
      → get_elem? xs 0 ≡ some y
      → Closes entries room opening v.knows y
  closes_with id v words xs y free first none_out end is =
      let s = end.0 in
      let h = end.1.0 in
      let at = end.1.1 in
      let v_out : sum_over (λ (u : View S I). u.knows.out) s.views ≡ v.knows.out =
      sole (λ (u : View S I). u.knows.out) s.views id v at h.one_first first
      (λ j u x z. (h.noted j u x).rank z) in
      let no_other : sum_over (λ (u : View S I). u.notes.other) s.views
      ≡ 0 = (let a = h.others_out in omega arith) in
      let spent : (j : ℕ) (u : View S I) → get_elem? s.views j ≡ some u → u.knows.first ≡ 0
      → (u.knows.taken ≡ []) × (u.notes.holds ≡ false) =
      (λ j u x z. (h.noted j u x).spent z
      (let a = member_total (λ (u : View S I). u.notes.other) s.views j u x in omega arith)) in
      ⊎_elim
      (λ p.
      let there : get_elem? s.homes 0 ≡ some (some p.journal) =
      ap (λ (hs : List (Option J)). get_elem? hs 0) p.homes in
      let same : some p.journal ≡ some y = sym (end.4 0 p.journal there) ∙ is in
      let one : p.journal ≡ y = some-injective p.journal y same in
      let f = h.each id v at in
      let once : (x : ℕ) → occurrences x v.knows.taken ≡ once_below x h.turn =
      (λ x. sym
      (sole (λ (u : View S I). occurrences x u.knows.taken) s.views id v at h.one_first first
      (λ j u e z. ap (occurrences x) (spent j u e z).0)) ∙ h.once x) in
      let not_less = below_all h.turn v.knows.turn v.knows.taken once f.taken in
      let turn : h.turn ≡ v.knows.turn = (let a = f.known in let b = f.reached in omega arith) in
      let all : h.history ≡ v.knows.seen =
      f.is ∙ ap (λ (l : List (Entry I)). v.knows.seen ++ l)
      (rises_none v.knows.turn f.rest
      (subst (λ (n : ℕ). RisesWithin v.knows.turn n f.rest) turn f.late))
      ∙ append-nil v.knows.seen in
      record {
        all_seen = ap entries (sym one) ∙ p.entries_are ∙ all;
        once = λ x. once x ∙ ap (once_below x) turn;
        count = once_counts v.knows.taken h.turn once ∙ turn;
        reached = (let a = f.known in let b = f.reached in omega arith);
        opens = h.each_opens id v at (λ z o. let a = first in omega arith)
            ∙ ap Some (sym p.opens ∙ ap opening one);
        room_left = subst (λ (j : J). v.knows.offers ≤ room j) one
            (let a = member_total (λ (u : View S I). u.knows.offers) s.views id v at in
            let b = p.offers in omega arith);
      })
      (λ p. absurd (holder_none s id v h at p free first (λ u x. (spent p.holder u x))))
      h.place
    where
      holder_none : (s : State J (View S I)) (id : ℕ) (v : View S I) (h : Rule s)
          → get_elem? s.views id ≡ some v
          → (p : IsOut entries room opening fits h.turn h.history s) → v.notes.holds ≡ false
          → v.knows.first ≡ 1
          → ((u : View S I) → get_elem? s.views p.holder ≡ some u → u.knows.first ≡ 0
          → (u.knows.taken ≡ []) × (u.notes.holds ≡ false)) → ⊥
      holder_none s id v h at p free first spent =
          let ne = not_holding s.views id p.holder v p.view at free p.there p.holds.0 in
          let none : List (View S I) = set s.views id spent_view in
          let sum = total_set (λ (u : View S I). u.knows.first) s.views id v spent_view at in
          let most = member_total (λ (u : View S I). u.knows.first) none p.holder p.view
          (set_else s.views id p.holder spent_view ne ∙ p.there) in
          let zero : p.view.knows.first
          ≡ 0 = (let a = h.one_first in let b = first in omega arith) in
          false≢true (sym (spent p.view p.there zero).1 ∙ p.holds.0)

  -- the rule holds at the start
  pub opens_with : (offers : ℕ) (j : J) → entries j ≡ [] → offers ≡ room j
      → Rule (table.opening (0 ∷ []) (j ∷ []) (first_view (opening j) offers))
  opens_with offers j empty some_room = record {
    base = opening j;
    all_fit = All-nil (λ (e : Entry I). fits (opening j) e.item);
    each_opens = λ k u e live. ap (λ (x : View S I). x.knows.opening) (sym (first_of k u e));
    turn = 0;
    history = [];
    few = omega arith;
    rises = omega arith;
    each = λ k u e. subst (λ (x : View S I). FitsHistory 0 [] x.knows) (first_of k u e)
        (record {
          rest = [];
          is = refl;
          early = omega arith;
          late = omega arith;
          reached =
              omega arith;
          known = omega arith;
          taken = All-nil (λ x. x < 0);
        });
    noted = λ k u e. subst (λ (x : View S I). Noted x) (first_of k u e)
        (record {
          rank = λ z. refl;
          single = omega arith;
          spent =
              λ z o. (refl, refl);
          own = ([], refl, omega arith);
          others =
              ([], refl, omega arith);
          fewer = refl;
        });
    once = λ x. grind (arith, nat_tests);
    one_first = refl;
    others_out = refl;
    place = inl (record {
      words = refl;
      journal = j;
      homes = refl;
      entries_are = empty;
      opens = refl;
      offers = omega arith;
      free = λ k u e. ap (λ (x : View S I). x.notes.holds) (sym (first_of k u e));
    });
  }
    where
      first_of : (k : ℕ) (u : View S I) → get_elem? (first_view (opening j) offers ∷ []) k ≡ some u
          → first_view (opening j) offers ≡ u
      first_of zero u e = some-injective (first_view (opening j) offers) u e
      first_of (suc k) u e = absurd (some-ne-none u (sym e))
