-- Reductions that stay at heads, with their first keys, one after another.
use Rattle.std.proofs.Common.{◌≡◌, ◌∙◌, sym, ap, refl, subst, ℕ, ◌+◌, ◌<◌, ◌≤◌, ◌⊎◌, inl, inr, ⊎_elim, List, [], ◌∷◌, ◌++◌, append-nil, append_assoc, length, take, get_or, slice_get, Option, Some, None, arith}
use Rattle.std.specs.List.{Contains}
use Rattle.std.proofs.lemmas.List.{take_more, take_all}
use Rattle.std.proofs.lemmas.List.Elements.{Contains-append_left, Contains-append_right, Contains-append_cases, Contains-push, Contains-push_cases}
use Rattle.ts_core.specs.declared.action.Action.{Action}
use Rattle.ts_core.specs.declared.action.Action.TheVariants.{Reduce}
use Rattle.spec_graph.specs.declared.graph.Head.{Head}
use Rattle.ts_graph.specs.declared.view.GraphView.{GraphView}
use Rattle.ts_table.specs.declared.view.ParseTable.{ParseTable}
use Rattle.ts_table.specs.Tables.{actions_of}
use Rattle.ts_reductions.specs.declared.batch.Batch.{Batch}
use Rattle.ts_reductions.specs.declared.top.Top.{Top}
use Rattle.spec_graph.specs.declared.graph.Link.{Link}
use Rattle.ts_reductions.specs.Asking.{HasReduction, ByNumber}
use Rattle.ts_reductions.proofs.AddLemmas.{no_top}
use Rattle.ts_places.specs.declared.seeking.Seek.{Seek}
use Rattle.ts_places.specs.declared.seeking.Due.{Due}
use Rattle.ts_places.specs.declared.seeking.First.{First}
use Rattle.ts_places.specs.declared.seeking.First.TheVariants.{Unknown, Nothing, Is}
use Rattle.ts_places.specs.Seeking.{IsSought, Seeks, IsFirst, IsKnown, IsDue, IsEarlierOf, OfAction, OfTop, OfTops, OfKnown, AddsDue, AreDue}
use Rattle.ts_places.proofs.SeekLemmas.{seeks_none, seeks_as, seeks_more}

none_in : {X : Type 0} (x : X) → Contains [] x → ⊥
none_in x h = let low = h.1 in omega (arith, low)

one_taken : {X : Type 0} (all : List X) (i : ℕ) (x : X) → i < length all → x ≡ get_or all i x → take i all ++ x ∷ [] ≡ take (i + 1) all
one_taken {X = X} all i x low is = ap (λ (y : X). take i all ++ y ∷ []) is ∙ sym (take_more all i x low)

-- the reduction that is read where there is none
abbrev pub no_due : Due
no_due = record { top = no_top; number = 0; first = Unknown }

-- those by these actions
abbrev pub OfActions : Top → List Action → Top → ℕ → Type 0
OfActions top actions = λ u n. (u ≡ top) × Contains actions (Reduce n)

module _ (t : ParseTable) (g : GraphView) (seek : Seek) where
  pub adds_none : (A : Top → ℕ → Type 0) (old : List Due) → ((u : Top) (n : ℕ) → A u n → HasReduction t g u n → ⊥) → AddsDue t g seek A old old
  adds_none A old none = record {
    more = [];
    is = sym (append-nil old);
    each = λ d there. absurd (none_in d there);
    all = λ u n m has. absurd (none u n m has);
  }

  pub adds_as : (A B : Top → ℕ → Type 0) (old new : List Due) → ((u : Top) (n : ℕ) → A u n → B u n) → ((u : Top) (n : ℕ) → B u n → HasReduction t g u n → A u n) → AddsDue t g seek A old new → AddsDue t g seek B old new
  adds_as A B old new wider back a = record {
    more = a.more;
    is = a.is;
    each = λ d there. let w = a.each d there in (wider d.top d.number w.0, w.1);
    all = λ u n m has. a.all u n (back u n m has) has;
  }

  pub adds_more : (A B C : Top → ℕ → Type 0) → ((u : Top) (n : ℕ) → A u n → C u n) → ((u : Top) (n : ℕ) → B u n → C u n) → ((u : Top) (n : ℕ) → C u n → A u n ⊎ B u n) → (old mid new : List Due)
      → AddsDue t g seek A old mid → AddsDue t g seek B mid new → AddsDue t g seek C old new
  adds_more A B C first second split old mid new a b = record {
    more = a.more ++ b.more;
    is = b.is ∙ ap (λ (l : List Due). l ++ b.more) a.is ∙ append_assoc old a.more b.more;
    each = λ d there. each_by d (Contains-append_cases a.more b.more d there);
    all = λ u n m has. all_by u n has (split u n m);
  }
    where
      each_by : (d : Due) → Contains a.more d ⊎ Contains b.more d → C d.top d.number × IsDue t g seek d
      each_by d (inl w) = let r = a.each d w in (first d.top d.number r.0, r.1)
      each_by d (inr w) = let r = b.each d w in (second d.top d.number r.0, r.1)

      all_by : (u : Top) (n : ℕ) → HasReduction t g u n → A u n ⊎ B u n → (d : Due) × Contains (a.more ++ b.more) d × (d.top ≡ u) × (d.number ≡ n)
      all_by u n has (inl m) = let r = a.all u n m has in (r.0, Contains-append_left a.more b.more r.0 r.1, r.2, r.3)
      all_by u n has (inr m) = let r = b.all u n m has in (r.0, Contains-append_right a.more b.more r.0 r.1, r.2, r.3)

  -- ---- heads

  pub no_tops : (old : List Due) → AddsDue t g seek (OfTops []) old old
  no_tops old = adds_none (OfTops []) old (λ u n m has. none_in u m)

  pub tops_on : (tops : List Top) (i : ℕ) (x : Top) (old mid new : List Due) → i < length tops → x ≡ get_or tops i x → AddsDue t g seek (OfTops (take i tops)) old mid → AddsDue t g seek (OfTop x) mid new → AddsDue t g seek (OfTops (take (i + 1) tops)) old new
  tops_on tops i x old mid new low is a b =
      subst (λ (l : List Top). AddsDue t g seek (OfTops l) old new) (one_taken tops i x low is)
      (adds_more (OfTops (take i tops)) (OfTop x) (OfTops (take i tops ++ x ∷ []))
      (λ u n m. Contains-append_left (take i tops) (x ∷ []) u m)
      (λ u n e. subst (λ (y : Top). Contains (take i tops ++ x ∷ []) y) (sym e) (Contains-push (take i tops) x))
      (λ u n m. ⊎_elim (λ p. inl p) (λ e. inr (sym e)) (Contains-push_cases (take i tops) x u m)) old mid new a b)

  pub tops_end : (tops : List Top) (i : ℕ) (old new : List Due) → length tops ≤ i → AddsDue t g seek (OfTops (take i tops)) old new → AddsDue t g seek (OfTops tops) old new
  tops_end tops i old new long a = subst (λ (l : List Top). AddsDue t g seek (OfTops l) old new) (take_all i tops long) a

  -- new heads with those that were there
  pub tops_more : (tops more all : List Top) (old new : List Due) → all ≡ tops ++ more → AreDue t g seek tops old → AddsDue t g seek (OfTops more) old new → AreDue t g seek all new
  tops_more tops more all old new is a b =
      subst (λ (l : List Top). AreDue t g seek l new) (sym is)
      (adds_more (OfTops tops) (OfTops more) (OfTops (tops ++ more)) (λ u n m. Contains-append_left tops more u m) (λ u n m. Contains-append_right tops more u m) (λ u n m. Contains-append_cases tops more u m) [] old new a b)

  -- ---- actions

  pub no_actions : (top : Top) (old : List Due) → AddsDue t g seek (OfActions top []) old old
  no_actions top old = adds_none (OfActions top []) old (λ u n m has. none_in (Reduce n) m.1)

  pub actions_on : (top : Top) (actions : List Action) (i : ℕ) (x : Action) (old mid new : List Due) → i < length actions → x ≡ get_or actions i x → AddsDue t g seek (OfActions top (take i actions)) old mid → AddsDue t g seek (OfAction top x) mid new
      → AddsDue t g seek (OfActions top (take (i + 1) actions)) old new
  actions_on top actions i x old mid new low is a b =
      subst (λ (l : List Action). AddsDue t g seek (OfActions top l) old new) (one_taken actions i x low is)
      (adds_more (OfActions top (take i actions)) (OfAction top x) (OfActions top (take i actions ++ x ∷ []))
      (λ u n m. (m.0, Contains-append_left (take i actions) (x ∷ []) (Reduce n) m.1))
      (λ u n m. (m.0, subst (λ (y : Action). Contains (take i actions ++ x ∷ []) y) m.1 (Contains-push (take i actions) x)))
      (λ u n m. ⊎_elim (λ p. inl (m.0, p)) (λ e. inr (m.0, e)) (Contains-push_cases (take i actions) x (Reduce n) m.1)) old mid new a b)

  pub actions_end : (top : Top) (head : Head) (actions : List Action) (i : ℕ) (old new : List Due) → slice_get g.heads top.head ≡ Some head → actions ≡ actions_of t head.state top.token.0 → length actions ≤ i
      → AddsDue t g seek (OfActions top (take i actions)) old new → AddsDue t g seek (OfTop top) old new
  actions_end top head actions i old new at is long a =
      adds_as (OfActions top actions) (OfTop top) old new (λ u n m. m.0) (λ u n e has. (e, acts n (subst (λ (y : Top). HasReduction t g y n) e has)))
      (subst (λ (l : List Action). AddsDue t g seek (OfActions top l) old new) (take_all i actions long) a)
    where
      acts : (n : ℕ) → HasReduction t g top n → Contains actions (Reduce n)
      acts n has =
          let f : Some has.head ≡ Some head = sym has.at ∙ at in
          let one : has.head ≡ head = cc in
          subst (λ (l : List Action). Contains l (Reduce n)) (sym is) (subst (λ (h : Head). Contains (actions_of t h.state top.token.0) (Reduce n)) one has.acts)

  -- an action that is a reduction, and one that is none
  abbrev unknown : Top → ℕ → Due
  unknown top number = record { top = top; number = number; first = Unknown }

  pub by_reduction : (top : Top) (action : Action) (number : ℕ) (old new : List Due) → action ≡ Reduce number → HasReduction t g top number → new ≡ old ++ unknown top number ∷ [] → AddsDue t g seek (OfAction top action) old new
  by_reduction top action number old new is has new_is = record {
    more = unknown top number ∷ [];
    is = new_is;
    each = λ x there. subst (λ (y : Due). OfAction top action y.top y.number × IsDue t g seek y) (only x there) ((refl, is), (has, tt));
    all = λ u n m has_it. (unknown top number, (0, omega arith, refl), sym m.0, same_number n (sym is ∙ m.1));
  }
    where
      same_number : (n : ℕ) → Reduce number ≡ Reduce n → number ≡ n
      same_number n e = cc

      only : (x : Due) → Contains (unknown top number ∷ []) x → unknown top number ≡ x
      only x there = ⊎_elim (λ p. absurd (none_in x p)) (λ e. e) (Contains-push_cases [] (unknown top number) x there)

  pub no_reduction : (top : Top) (action : Action) (old : List Due) → ((n : ℕ) → action ≡ Reduce n → ⊥) → AddsDue t g seek (OfAction top action) old old
  no_reduction top action old none = adds_none (OfAction top action) old (λ u n m has. none n m.1)

-- ---- the first of the keys that are known

module _ (t : ParseTable) (g : GraphView) (seek : Seek) where
  -- what is known of one reduction
  first_seeks : (top : Top) (number : ℕ) (first : First) → IsKnown first → IsFirst t g seek top number first → (found new : Option Batch) → IsEarlierOf seek.below found first new → Seeks t g seek (ByNumber top number) found new
  first_seeks top number Unknown known is found new e = absurd known
  first_seeks top number Nothing known is found new e =
      subst (λ (o : Option Batch). Seeks t g seek (ByNumber top number) found o) (sym e)
      (record { more = omega arith; all = λ k s. absurd (is k s); each = λ k f. inl f })
  first_seeks top number (Is j) known is found new e = record {
    more = e.more;
    all = λ k s. let low = is.1 k s in let own = e.own is.0.after in omega (arith, low, own);
    each = λ k f. ⊎_elim (λ old. inl old) (λ r. inr (subst (λ (b : Batch). IsSought t g seek (ByNumber top number) b) (sym r.0) is.0)) (e.each k f);
  }

  unknown_seeks : (first : First) → (IsKnown first → ⊥) → (found new : Option Batch) → IsEarlierOf seek.below found first new → new ≡ found
  unknown_seeks Unknown none found new e = e
  unknown_seeks Nothing none found new e = e
  unknown_seeks (Is j) none found new e = absurd (none tt)

  known_or : (first : First) → IsKnown first ⊎ (IsKnown first → ⊥)
  known_or Unknown = inr (λ k. k)
  known_or Nothing = inl tt
  known_or (Is j) = inl tt

  pub known_none : Seeks t g seek (OfKnown []) None None
  known_none = seeks_none t g seek (OfKnown []) None (λ k u n w b m asked. none_in m.0 m.1)

  module _ (dues : List Due) (i : ℕ) (d : Due) (low : i < length dues) (is : d ≡ get_or dues i d) (found new : Option Batch) (due : IsDue t g seek d) (e : IsEarlierOf seek.below found d.first new) (s : Seeks t g seek (OfKnown (take i dues)) None found) where
    before : (u : Top) (n : ℕ) (w : List Link) (b : ℕ) → OfKnown (take i dues) u n w b → OfKnown (take (i + 1) dues) u n w b
    before u n w b m = (m.0, subst (λ (l : List Due). Contains l m.0) (one_taken dues i d low is) (Contains-append_left (take i dues) (d ∷ []) m.0 m.1), m.2, m.3, m.4)

    last : Contains (take (i + 1) dues) d
    last = subst (λ (l : List Due). Contains l d) (one_taken dues i d low is) (Contains-push (take i dues) d)

    split : (u : Top) (n : ℕ) (w : List Link) (b : ℕ) → OfKnown (take (i + 1) dues) u n w b → OfKnown (take i dues) u n w b ⊎ ((d.top ≡ u) × (d.number ≡ n) × IsKnown d.first)
    split u n w b m = ⊎_elim (λ old. inl (m.0, old, m.2, m.3, m.4))
        (λ same. inr (ap (λ (x : Due). x.top) same ∙ m.2, ap (λ (x : Due). x.number) same ∙ m.3, subst (λ (x : Due). IsKnown x.first) (sym same) m.4))
        (Contains-push_cases (take i dues) d m.0 (subst (λ (l : List Due). Contains l m.0) (sym (one_taken dues i d low is)) m.1))

    pub known_more : Seeks t g seek (OfKnown (take (i + 1) dues)) None new
    known_more = by (known_or d.first)
      where
        by : IsKnown d.first ⊎ (IsKnown d.first → ⊥) → Seeks t g seek (OfKnown (take (i + 1) dues)) None new
        by (inl known) = seeks_more t g seek (OfKnown (take i dues)) (ByNumber d.top d.number) (OfKnown (take (i + 1) dues))
            (λ k u n w b m asked. before u n w b m)
            (λ k u n w b m asked. (d, last, sym m.0, sym m.1, known))
            (λ u n w b m. ⊎_elim (λ old. inl old) (λ own. inr (sym own.0, sym own.1)) (split u n w b m)) None found new s (first_seeks d.top d.number d.first known due.1 found new e)
        by (inr none) =
            subst (λ (o : Option Batch). Seeks t g seek (OfKnown (take (i + 1) dues)) None o) (sym (unknown_seeks d.first none found new e))
            (seeks_as t g seek (OfKnown (take i dues)) (OfKnown (take (i + 1) dues)) None found (λ k u n w b m asked. before u n w b m) (λ k u n w b m asked. ⊎_elim (λ old. old) (λ own. absurd (none own.2)) (split u n w b m)) s)

  pub known_all : (dues : List Due) (i : ℕ) (found : Option Batch) → length dues ≤ i → Seeks t g seek (OfKnown (take i dues)) None found → Seeks t g seek (OfKnown dues) None found
  known_all dues i found long s = subst (λ (l : List Due). Seeks t g seek (OfKnown l) None found) (take_all i dues long) s
