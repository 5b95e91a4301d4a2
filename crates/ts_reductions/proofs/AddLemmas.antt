-- What is made, put together.
use Rattle.std.proofs.Common.{◌≡◌, ◌∙◌, sym, ap, refl, subst, ℕ, ◌⊎◌, inl, inr, ⊎_elim, Bool, true, false, List, [], ◌∷◌, ◌++◌, append-nil, append_assoc, length, take, get_or, zero, suc, ◌+◌, ◌<◌, ◌≤◌, slice_get, Option, Some, None, IfSome, MatchOption, arith}
use Rattle.std.specs.List.{Contains}
use Rattle.std.proofs.lemmas.List.{take_more, take_all}
use Rattle.std.proofs.lemmas.List.Elements.{Contains-get_or, Contains-append_left, Contains-append_right, Contains-append_cases, Contains-push, Contains-push_cases}
use Rattle.ts_core.specs.declared.action.Action.{Action}
use Rattle.ts_core.specs.declared.action.Action.TheVariants.{Reduce}
use Rattle.ts_core.specs.declared.flat.Production.{Production}
use Rattle.spec_grammar.specs.Symbols.{production_at}
use Rattle.spec_graph.specs.declared.graph.Head.{Head}
use Rattle.spec_graph.specs.declared.graph.Link.{Link}
use Rattle.ts_graph.specs.declared.view.GraphView.{GraphView}
use Rattle.ts_graph.specs.declared.ways.Way.{Way}
use Rattle.ts_graph.specs.Down.{place_at}
use Rattle.ts_graph.specs.Ways.{AreAt, TakesFilled, IsOnlyWay, ListsWaysTo}
use Rattle.ts_table.specs.declared.view.ParseTable.{ParseTable}
use Rattle.ts_table.specs.Tables.{actions_of}
use Rattle.ts_table.specs.Ranks.{unit_rank}
use Rattle.ts_base.specs.Bytes.{Bytes}
use Rattle.ts_reductions.specs.declared.batch.Batch.{Batch}
use Rattle.ts_reductions.specs.declared.setting.Setting.{Setting}
use Rattle.ts_reductions.specs.declared.made.Made.{Made}
use Rattle.ts_reductions.specs.declared.top.Top.{Top}
use Rattle.ts_reductions.specs.Sound.{Base}
use Rattle.ts_reductions.specs.Asking.{IsOfKey, IsAsked, IsMadeFor, IsAskedDeep, IsReadyAt, IsReady, AreMade, SomeAreDeep, Adds, OnWay, ByNumber, ByAction, ByTop, ByTops}
use Rattle.ts_reductions.proofs.GatherLemmas.{at_one}

-- the case of an option
pub in_some : {X : Type 0} (A : Type 0) (B : X → Type 0) (o : Option X) (x : X) → o ≡ Some x → MatchOption o A B → B x
in_some {X = X} A B o x is m = subst (λ (p : Option X). MatchOption p A B) is m

pub in_none : {X : Type 0} (A : Type 0) (B : X → Type 0) (o : Option X) → o ≡ None → MatchOption o A B → A
in_none {X = X} A B o is m = subst (λ (p : Option X). MatchOption p A B) is m

pub in_told : {X : Type 0} (P : X → Type 0) (o : Option X) (x : X) → o ≡ Some x → IfSome o P → P x
in_told {X = X} P o x is told = subst (λ (p : Option X). IfSome p P) is told

none_in : {X : Type 0} (x : X) → Contains [] x → ⊥
none_in x h = let low = h.1 in omega (arith, low)

-- an element of a list that was read at a place
pub item_in : {X : Type 0} (all ys : List X) (i : ℕ) (x : X) → i < length all → x ≡ get_or all i x → all ≡ ys → Contains ys x
item_in {X = X} all ys i x low is same = subst (λ (l : List X). Contains l x) same (subst (λ (y : X). Contains all y) (sym is) (Contains-get_or all i x low))

-- an element that is there does not rest on the default
pub read_any : {X : Type 0} (xs : List X) (i : ℕ) (d e : X) → i < length xs → get_or xs i d ≡ get_or xs i e
read_any [] i d e low = absurd (omega (arith, low))
read_any (x ∷ xs) zero d e low = refl
read_any (x ∷ xs) (suc i) d e low = read_any xs i d e (let h : suc i < suc (length xs) = low in omega (arith, h))

-- no head, in the place of one that is not there
abbrev pub no_top : Top
no_top = record { head = 0; token = record { 0 = 0 }; ahead = 0 }

one_taken : {X : Type 0} (all : List X) (i : ℕ) (x : X) → i < length all → x ≡ get_or all i x → take i all ++ x ∷ [] ≡ take (i + 1) all
one_taken {X = X} all i x low is = ap (λ (y : X). take i all ++ y ∷ []) is ∙ sym (take_more all i x low)

module _ (t : ParseTable) (size : ℕ) (g : GraphView) (k : Batch) where
  pub made_none : (A : Top → ℕ → List Link → ℕ → Type 0) → ((u : Top) (n : ℕ) (w : List Link) (b : ℕ) → A u n w b → IsAsked t g k u n w b → ⊥) → AreMade t size g k A []
  made_none A none = record {
    each = λ m there. absurd (none_in m there);
    all = λ u n w b a asked. absurd (none u n w b a asked);
  }

  pub deep_wider : (A B : Top → ℕ → List Link → ℕ → Type 0) → ((u : Top) (n : ℕ) (w : List Link) (b : ℕ) → A u n w b → B u n w b) → SomeAreDeep t g k A → SomeAreDeep t g k B
  deep_wider A B wider d = record {
    top = d.top;
    number = d.number;
    way = d.way;
    b = d.b;
    means = wider d.top d.number d.way d.b d.means;
    deep = d.deep;
  }

  -- the same for others that are meant, where they ask for the same
  pub made_as : (A B : Top → ℕ → List Link → ℕ → Type 0) (xs : List Made) → ((u : Top) (n : ℕ) (w : List Link) (b : ℕ) → A u n w b → B u n w b)
      → ((u : Top) (n : ℕ) (w : List Link) (b : ℕ) → B u n w b → IsAsked t g k u n w b → A u n w b) → AreMade t size g k A xs → AreMade t size g k B xs
  made_as A B xs wider back a = record {
    each = λ m there. let r = a.each m there in (r.0, r.1, r.2, r.3, wider r.0 r.1 r.2 r.3 r.4, r.5);
    all = λ u n w b means asked. a.all u n w b (back u n w b means asked) asked;
  }

  module _ (A B C : Top → ℕ → List Link → ℕ → Type 0) (first : (u : Top) (n : ℕ) (w : List Link) (b : ℕ) → A u n w b → C u n w b) (second : (u : Top) (n : ℕ) (w : List Link) (b : ℕ) → B u n w b → C u n w b)
      (cases : (u : Top) (n : ℕ) (w : List Link) (b : ℕ) → C u n w b → IsAsked t g k u n w b → A u n w b ⊎ B u n w b) where
    pub made_more : (xs ys : List Made) → AreMade t size g k A xs → AreMade t size g k B ys → AreMade t size g k C (xs ++ ys)
    made_more xs ys a b = record { each = each; all = all }
      where
        each_by : (m : Made) → Contains xs m ⊎ Contains ys m → (top : Top) × (number : ℕ) × (way : List Link) × (c : ℕ) × C top number way c × IsMadeFor t size g k top number way c m
        each_by m (inl h) = let r = a.each m h in (r.0, r.1, r.2, r.3, first r.0 r.1 r.2 r.3 r.4, r.5)
        each_by m (inr h) = let r = b.each m h in (r.0, r.1, r.2, r.3, second r.0 r.1 r.2 r.3 r.4, r.5)

        each : (m : Made) → Contains (xs ++ ys) m → (top : Top) × (number : ℕ) × (way : List Link) × (c : ℕ) × C top number way c × IsMadeFor t size g k top number way c m
        each m there = each_by m (Contains-append_cases xs ys m there)

        all : (u : Top) (n : ℕ) (w : List Link) (c : ℕ) → C u n w c → IsAsked t g k u n w c → (m : Made) × Contains (xs ++ ys) m × IsMadeFor t size g k u n w c m
        all u n w c means asked = ⊎_elim
            (λ x. let r = a.all u n w c x asked in (r.0, Contains-append_left xs ys r.0 r.1, r.2))
            (λ y. let r = b.all u n w c y asked in (r.0, Contains-append_right xs ys r.0 r.1, r.2))
            (cases u n w c means asked)

    pub adds_more : (old mid new : List Made) → Adds t size g k A old mid true → Adds t size g k B mid new true → Adds t size g k C old new true
    adds_more old mid new a b = (
      a.0 ++ b.0,
      b.1 ∙ ap (λ (l : List Made). l ++ b.0) a.1 ∙ append_assoc old a.0 b.0,
      made_more a.0 b.0 a.2 b.2,
    )

  pub adds_none : (A : Top → ℕ → List Link → ℕ → Type 0) (old : List Made) → ((u : Top) (n : ℕ) (w : List Link) (b : ℕ) → A u n w b → IsAsked t g k u n w b → ⊥) → Adds t size g k A old old true
  adds_none A old none = ([], sym (append-nil old), made_none A none)

  pub adds_as : (A B : Top → ℕ → List Link → ℕ → Type 0) (old new : List Made) → ((u : Top) (n : ℕ) (w : List Link) (b : ℕ) → A u n w b → B u n w b)
      → ((u : Top) (n : ℕ) (w : List Link) (b : ℕ) → B u n w b → IsAsked t g k u n w b → A u n w b) → Adds t size g k A old new true → Adds t size g k B old new true
  adds_as A B old new wider back a = (a.0, a.1, made_as A B a.0 wider back a.2)

-- ---- one more head, action or way

-- the reductions on ways of a list
abbrev pub OnWays : List Link → Top → ℕ → List Way → Top → ℕ → List Link → ℕ → Type 0
OnWays links top number ways = λ u n w c. (u ≡ top) × (n ≡ number) × (z : Way) × Contains ways z × AreAt links z.links w × (z.below ≡ c)

-- the reductions of actions of a list
abbrev pub ByActions : Top → List Action → Top → ℕ → List Link → ℕ → Type 0
ByActions top actions = λ u n w c. (u ≡ top) × Contains actions (Reduce n)

module _ (t : ParseTable) (size : ℕ) (g : GraphView) (k : Batch) (old : List Made) where
  pub no_tops : Adds t size g k (ByTops []) old old true
  no_tops = adds_none t size g k (ByTops []) old (λ u n w b h asked. none_in u h)

  pub more_tops : (tops : List Top) (x : Top) (mid new : List Made) → Adds t size g k (ByTops tops) old mid true → Adds t size g k (ByTop x) mid new true → Adds t size g k (ByTops (tops ++ x ∷ [])) old new true
  more_tops tops x mid new a b =
      adds_more t size g k (ByTops tops) (ByTop x) (ByTops (tops ++ x ∷ []))
      (λ u n w c h. Contains-append_left tops (x ∷ []) u h)
      (λ u n w c e. subst (λ (y : Top). Contains (tops ++ x ∷ []) y) (sym e) (Contains-push tops x))
      (λ u n w c h asked. ⊎_elim (λ p. inl p) (λ e. inr (sym e)) (Contains-push_cases tops x u h)) old mid new a b

  pub deep_top : (tops : List Top) (x : Top) → Contains tops x → SomeAreDeep t g k (ByTop x) → SomeAreDeep t g k (ByTops tops)
  deep_top tops x there d = deep_wider t size g k (ByTop x) (ByTops tops) (λ u n w c e. subst (λ (y : Top). Contains tops y) (sym e) there) d

  pub no_actions : (top : Top) → Adds t size g k (ByActions top []) old old true
  no_actions top = adds_none t size g k (ByActions top []) old (λ u n w b h asked. none_in (Reduce n) h.1)

  -- one more action
  pub more_actions : (top : Top) (actions : List Action) (x : Action) (mid new : List Made) → Adds t size g k (ByActions top actions) old mid true → Adds t size g k (ByAction top x) mid new true
      → Adds t size g k (ByActions top (actions ++ x ∷ [])) old new true
  more_actions top actions x mid new a b =
      adds_more t size g k (ByActions top actions) (ByAction top x) (ByActions top (actions ++ x ∷ []))
      (λ u n w c h. (h.0, Contains-append_left actions (x ∷ []) (Reduce n) h.1))
      (λ u n w c h. (h.0, subst (λ (y : Action). Contains (actions ++ x ∷ []) y) h.1 (Contains-push actions x)))
      (λ u n w c h asked. ⊎_elim (λ p. inl (h.0, p)) (λ e. inr (h.0, e)) (Contains-push_cases actions x (Reduce n) h.1)) old mid new a b

  pub deep_action : (top : Top) (x : Action) → SomeAreDeep t g k (ByAction top x) → SomeAreDeep t g k (ByTop top)
  deep_action top x d = deep_wider t size g k (ByAction top x) (ByTop top) (λ u n w c h. h.0) d

  -- an action that is a reduction
  pub by_reduction : (top : Top) (action : Action) (number : ℕ) (new : List Made) (b : Bool) → action ≡ Reduce number → Adds t size g k (ByNumber top number) old new b → Adds t size g k (ByAction top action) old new b
  by_reduction top action number new true is a =
      adds_as t size g k (ByNumber top number) (ByAction top action) old new (λ u n w c h. (h.0, is ∙ ap (λ (m : ℕ). Reduce m) (sym h.1))) (λ u n w c h asked. (h.0, same_number n (sym is ∙ h.1))) a
    where
      same_number : (n : ℕ) → Reduce number ≡ Reduce n → n ≡ number
      same_number n e = cc
  by_reduction top action number new false is d = deep_wider t size g k (ByNumber top number) (ByAction top action) (λ u n w c h. (h.0, is ∙ ap (λ (m : ℕ). Reduce m) (sym h.1))) d

  -- an action that is none
  pub no_reduction : (top : Top) (action : Action) → ((n : ℕ) → action ≡ Reduce n → ⊥) → Adds t size g k (ByAction top action) old old true
  no_reduction top action none = adds_none t size g k (ByAction top action) old (λ u n w b h asked. none n h.1)

  -- all actions of a head
  pub all_actions : (top : Top) (head : Head) (actions : List Action) (new : List Made) → slice_get g.heads top.head ≡ Some head → actions ≡ actions_of t head.state top.token.0 → Adds t size g k (ByActions top actions) old new true → Adds t size g k (ByTop top) old new true
  all_actions top head actions new at is a =
      adds_as t size g k (ByActions top actions) (ByTop top) old new (λ u n w c h. h.0)
      (λ u n w c e asked. (e, acts n (subst (λ (y : Top). IsAsked t g k y n w c) e asked))) a
    where
      acts : (n : ℕ) {w : List Link} {c : ℕ} → IsAsked t g k top n w c → Contains actions (Reduce n)
      acts n asked =
          let f : Some asked.head ≡ Some head = sym asked.at ∙ at in
          let one : asked.head ≡ head = cc in
          subst (λ (l : List Action). Contains l (Reduce n)) (sym is) (subst (λ (h : Head). Contains (actions_of t h.state top.token.0) (Reduce n)) one asked.acts)

  pub no_ways : (top : Top) (number : ℕ) → Adds t size g k (OnWays g.links top number []) old old true
  no_ways top number = adds_none t size g k (OnWays g.links top number []) old (λ u n w b h asked. none_in h.2 h.3)

  pub more_ways : (top : Top) (number : ℕ) (ways : List Way) (x : Way) (links : List Link) (mid new : List Made) → AreAt g.links x.links links → Adds t size g k (OnWays g.links top number ways) old mid true → Adds t size g k (OnWay top number links x.below) mid new true
      → Adds t size g k (OnWays g.links top number (ways ++ x ∷ [])) old new true
  more_ways top number ways x links mid new at a b =
      adds_more t size g k (OnWays g.links top number ways) (OnWay top number links x.below) (OnWays g.links top number (ways ++ x ∷ []))
      (λ u n w c h. (h.0, h.1, h.2, Contains-append_left ways (x ∷ []) h.2 h.3, h.4, h.5))
      (λ u n w c h. (h.0, h.1, x, Contains-push ways x, subst (λ (l : List Link). AreAt g.links x.links l) (sym h.2) at, sym h.3))
      (λ u n w c h asked. ⊎_elim (λ p. inl (h.0, h.1, h.2, p, h.4, h.5))
      (λ e. inr (h.0, h.1, at_one g.links x.links w links (subst (λ (z : Way). AreAt g.links z.links w) (sym e) h.4) at, sym h.5 ∙ ap (λ (z : Way). z.below) (sym e)))
      (Contains-push_cases ways x h.2 h.3)) old mid new a b

  pub deep_way : (top : Top) (number : ℕ) (links : List Link) (b : ℕ) → SomeAreDeep t g k (OnWay top number links b) → SomeAreDeep t g k (ByNumber top number)
  deep_way top number links b d = deep_wider t size g k (OnWay top number links b) (ByNumber top number) (λ u n w c h. (h.0, h.1)) d

  -- all ways of a reduction, which is by a production with as many steps
  pub all_ways : (top : Top) (number count : ℕ) (ways : List Way) (new : List Made) → ListsWaysTo g.heads g.links top.head count k.begins ways → ((left : ℕ) (p : Production) → production_at t.grammar number ≡ Some (left, p) → length p.steps ≡ count)
      → Adds t size g k (OnWays g.links top number ways) old new true → Adds t size g k (ByNumber top number) old new true
  all_ways top number count ways new lists steps a =
      adds_as t size g k (OnWays g.links top number ways) (ByNumber top number) old new (λ u n w c h. (h.0, h.1))
      (λ u n w c h asked.
      let z = listed w c (subst (λ (m : ℕ). IsAsked t g k top m w c) h.1 (subst (λ (y : Top). IsAsked t g k y n w c) h.0 asked)) in
      (h.0, h.1, z.0, z.1, z.2, z.3)) a
    where
      listed : (w : List Link) (c : ℕ) → IsAsked t g k top number w c → (z : Way) × Contains ways z × AreAt g.links z.links w × (z.below ≡ c)
      listed w c asked = lists.all w c (subst (λ (m : ℕ). TakesFilled g.links top.head m w c) (steps asked.left asked.production asked.is) asked.takes) asked.begins

  -- a reduction by a production of another rank asks for nothing
  pub other_rank : (top : Top) (number left : ℕ) (p : Production) → production_at t.grammar number ≡ Some (left, p) → (unit_rank t.grammar left ≡ k.rank → ⊥) → Adds t size g k (ByNumber top number) old old true
  other_rank top number left p is other =
      adds_none t size g k (ByNumber top number) old
      (λ u n w b h asked. unlike (subst (λ (m : ℕ). IsAsked t g k u m w b) h.1 asked))
    where
      unlike : {u : Top} {w : List Link} {b : ℕ} → IsAsked t g k u number w b → ⊥
      unlike asked =
          let f : ◌≡◌ {A = Option (ℕ × Production)} (Some (asked.left, asked.production)) (Some (left, p)) = sym asked.is ∙ is in
          let both : ◌≡◌ {A = ℕ × Production} (asked.left, asked.production) (left, p) = cc in
          let same : asked.left ≡ left = ap (λ (x : ℕ × Production). x.0) both in
          other (ap (unit_rank t.grammar) (sym same) ∙ asked.ranked)

  -- what is made for one way
  pub one_made : (top : Top) (number : ℕ) (links : List Link) (b : ℕ) (m : Made) (new : List Made) → IsMadeFor t size g k top number links b m → new ≡ old ++ m ∷ [] → Adds t size g k (OnWay top number links b) old new true
  one_made top number links b m new made is = (
    m ∷ [],
    is,
    record {
      each = λ x there. (top, number, links, b, (refl, refl, refl, refl), subst (λ (y : Made). IsMadeFor t size g k top number links b y) (only x there) made);
      all = λ u n w c h asked. (m, (0, omega arith, refl), moved u n w c h);
    },
  )
    where
      only : (x : Made) → Contains (m ∷ []) x → m ≡ x
      only x there = by there.0 there.1 there.2
        where
          by : (i : ℕ) → i < length (m ∷ []) → get_or (m ∷ []) i x ≡ x → m ≡ x
          by zero low e = e
          by (suc i) low e = absurd (omega (arith, low))

      moved : (u : Top) (n : ℕ) (w : List Link) (c : ℕ) → OnWay top number links b u n w c → IsMadeFor t size g k u n w c m
      moved u n w c h =
          subst (λ (y : Top). IsMadeFor t size g k y n w c m) (sym h.0)
          (subst (λ (i : ℕ). IsMadeFor t size g k top i w c m) (sym h.1)
          (subst (λ (v : List Link). IsMadeFor t size g k top number v c m) (sym h.2)
          (subst (λ (d : ℕ). IsMadeFor t size g k top number links d m) (sym h.3) made)))

  pub one_deep : (top : Top) (number : ℕ) (links : List Link) (b : ℕ) → IsAskedDeep t g k top number links b → SomeAreDeep t g k (OnWay top number links b)
  one_deep top number links b deep = record { top = top; number = number; way = links; b = b; means = (refl, refl, refl, refl); deep = deep }

-- all that was made
pub all_made : (t : ParseTable) (size : ℕ) (g : GraphView) (k : Batch) (A : Top → ℕ → List Link → ℕ → Type 0) (xs : List Made) → Adds t size g k A [] xs true → AreMade t size g k A xs
all_made t size g k A xs a = subst (λ (l : List Made). AreMade t size g k A l) (sym a.1) a.2

-- ---- the same of the loops

abbrev pub ready_at : (t : ParseTable) (text : Bytes) (base : Base) (s : Setting) (g : GraphView) (k : Batch) (tops : List Top) → IsReady t text base s g k tops → (top : Top) → Contains tops top → IsReadyAt t text s g k top
ready_at t text base s g k tops ready top there = record {
  base = base;
  sound = ready.sound;
  late = ready.late;
  setting = ready.setting;
  seen = ready.seen.each top there;
  takes_some = ready.takes_some top there;
}

module _ (t : ParseTable) (size : ℕ) (g : GraphView) (k : Batch) (old : List Made) where
  pub tops_on : (tops : List Top) (i : ℕ) (x : Top) (mid new : List Made) → i < length tops → x ≡ get_or tops i x → Adds t size g k (ByTops (take i tops)) old mid true → Adds t size g k (ByTop x) mid new true
      → Adds t size g k (ByTops (take (i + 1) tops)) old new true
  tops_on tops i x mid new low is a b = subst (λ (l : List Top). Adds t size g k (ByTops l) old new true) (one_taken tops i x low is) (more_tops t size g k old (take i tops) x mid new a b)

  pub tops_end : (tops : List Top) (i : ℕ) (new : List Made) → length tops ≤ i → Adds t size g k (ByTops (take i tops)) old new true → Adds t size g k (ByTops tops) old new true
  tops_end tops i new past a = subst (λ (l : List Top). Adds t size g k (ByTops l) old new true) (take_all i tops past) a

  pub actions_on : (top : Top) (actions : List Action) (i : ℕ) (x : Action) (mid new : List Made) → i < length actions → x ≡ get_or actions i x → Adds t size g k (ByActions top (take i actions)) old mid true → Adds t size g k (ByAction top x) mid new true
      → Adds t size g k (ByActions top (take (i + 1) actions)) old new true
  actions_on top actions i x mid new low is a b = subst (λ (l : List Action). Adds t size g k (ByActions top l) old new true) (one_taken actions i x low is) (more_actions t size g k old top (take i actions) x mid new a b)

  pub actions_end : (top : Top) (head : Head) (actions : List Action) (i : ℕ) (new : List Made) → slice_get g.heads top.head ≡ Some head → actions ≡ actions_of t head.state top.token.0 → length actions ≤ i → Adds t size g k (ByActions top (take i actions)) old new true
      → Adds t size g k (ByTop top) old new true
  actions_end top head actions i new at is past a =
      all_actions t size g k old top head actions new at is (subst (λ (l : List Action). Adds t size g k (ByActions top l) old new true) (take_all i actions past) a)

  -- the ways of a reduction by a production of the key's rank
  module _ (top : Top) (number count : ℕ) (o : IsOfKey t g k top number count) where
    asked_on : (way : List Link) (b : ℕ) → TakesFilled g.links top.head count way b → place_at g.heads b ≡ k.begins → IsAsked t g k top number way b
    asked_on way b takes begins = record {
      head = o.has.head;
      at = o.has.at;
      acts = o.has.acts;
      left = o.left;
      production = o.production;
      is = o.is;
      ranked = o.ranked;
      takes = subst (λ (n : ℕ). TakesFilled g.links top.head n way b) o.steps takes;
      begins = begins;
    }

    same_steps : (left : ℕ) (p : Production) → production_at t.grammar number ≡ Some (left, p) → length p.steps ≡ count
    same_steps left p at =
        let f : ◌≡◌ {A = Option (ℕ × Production)} (Some (o.left, o.production)) (Some (left, p)) = sym o.is ∙ at in
        let both : ◌≡◌ {A = ℕ × Production} (o.left, o.production) (left, p) = cc in
        ap (λ (x : ℕ × Production). length x.1.steps) (sym both) ∙ sym o.steps

    module _ (all : List Way) (lists : ListsWaysTo g.heads g.links top.head count k.begins all) where
      pub ways_end : (i : ℕ) (new : List Made) → length all ≤ i → Adds t size g k (OnWays g.links top number (take i all)) old new true → Adds t size g k (ByNumber top number) old new true
      ways_end i new past a = all_ways t size g k old top number count all new lists same_steps (subst (λ (ws : List Way). Adds t size g k (OnWays g.links top number ws) old new true) (take_all i all past) a)

      module _ (i : ℕ) (x : Way) (low : i < length all) (is : x ≡ get_or all i x) where
        pub way_listed : (taken : List Link) × AreAt g.links x.links taken × TakesFilled g.links top.head count taken x.below × (place_at g.heads x.below ≡ k.begins)
        way_listed = lists.each x (item_in all all i x low is refl)

        pub meant : IsAsked t g k top number way_listed.0 x.below
        meant = asked_on way_listed.0 x.below way_listed.2 way_listed.3

        pub ways_on : (mid new : List Made) → Adds t size g k (OnWays g.links top number (take i all)) old mid true → Adds t size g k (OnWay top number way_listed.0 x.below) mid new true → Adds t size g k (OnWays g.links top number (take (i + 1) all)) old new true
        ways_on mid new a b =
            subst (λ (ws : List Way). Adds t size g k (OnWays g.links top number ws) old new true) (one_taken all i x low is)
            (more_ways t size g k old top number (take i all) x way_listed.0 mid new way_listed.1 a b)

    -- its only way
    module _ (links : List ℕ) (b : ℕ) (w : IsOnlyWay g.links top.head count links b) where
      pub meant_only : place_at g.heads b ≡ k.begins → IsAsked t g k top number w.taken b
      meant_only begins = asked_on w.taken b w.takes begins

      asked_only : (u : Top) (n : ℕ) (way : List Link) (c : ℕ) → ByNumber top number u n way c → IsAsked t g k u n way c → (way ≡ w.taken) × (c ≡ b) × (place_at g.heads c ≡ k.begins)
      asked_only u n way c h asked =
          let a = subst (λ (m : ℕ). IsAsked t g k top m way c) h.1 (subst (λ (y : Top). IsAsked t g k y n way c) h.0 asked) in
          let e = w.only way c (subst (λ (m : ℕ). TakesFilled g.links top.head m way c) (same_steps a.left a.production a.is) a.takes) in
          (e.0, e.1, a.begins)

      pub none_only : (place_at g.heads b ≡ k.begins → ⊥) → Adds t size g k (ByNumber top number) old old true
      none_only other =
          adds_none t size g k (ByNumber top number) old
          (λ u n way c h asked. let e = asked_only u n way c h asked in other (ap (λ (x : ℕ). place_at g.heads x) (sym e.1) ∙ e.2))

      pub one_only : (new : List Made) (all : Bool) → Adds t size g k (OnWay top number w.taken b) old new all → Adds t size g k (ByNumber top number) old new all
      one_only new true a =
          adds_as t size g k (OnWay top number w.taken b) (ByNumber top number) old new (λ u n way c h. (h.0, h.1))
          (λ u n way c h asked. let e = asked_only u n way c h asked in (h.0, h.1, e.0, e.1)) a
      one_only new false d = deep_way t size g k old top number w.taken b d
