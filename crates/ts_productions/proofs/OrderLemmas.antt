-- Sources whose order is that of inlining in their grammar are ordered.
use Rattle.std.proofs.Common.{◌≡◌, ◌∙◌, sym, ap, subst, refl, ℕ, ◌+◌, ◌<◌, ◌⊎◌, inl, inr, ⊎_elim, Bool, true, false, List, [], ◌∷◌, ◌++◌, length, take, slice_get, Some, None, option_map, arith}
use Rattle.std.specs.List.{Contains}
use Rattle.std.proofs.lemmas.Bool.{cases_eq}
use Rattle.std.proofs.lemmas.List.{length-map}
use Rattle.std.proofs.lemmas.List.Elements.{Contains-append_left, All-contains}
use Rattle.std.proofs.lemmas.Option.{slice_get-map, slice_get_cases}
use Rattle.ts_base.specs.Bytes.{Bytes}
use Rattle.ts_core.specs.declared.rule.Grammar.{Grammar}
use Rattle.ts_core.specs.declared.rule.Rule.{Rule}
use Rattle.ts_core.specs.declared.rule.Rule.TheOpen.{Rule-F}
use Rattle.ts_core.specs.declared.rule.Rule.TheVariants as rule
use Rattle.ts_core.specs.declared.rule.Rule.TheVariants.{rolls-Literal, rolls-Pattern, rolls-Token, rolls-ImmediateToken}
use Rattle.ts_core.specs.declared.rule.Rule.TheViews.{roll-Rule, out-Rule, roll-out-Rule}
use Rattle.ts_rules.specs.declared.tree.Tree.{Tree}
use Rattle.ts_rules.specs.Alternatives.{alternatives_of}
use Rattle.ts_rules.specs.Causes.{IsUndefined, Inlines, names_used, listed, merged, uses}
use Rattle.ts_rules.specs.FirstSights.{Not, Picks, taken, left, end, Clear}
use Rattle.ts_rules.specs.Numbers.{Numbers, Lists, AreLists, AreNumbers, IsInlined, NamesSome, HasSymbol, IsRepeated, has_steps, tree_of, unnumbered, first_rule, first_inlined, outermost}
use Rattle.ts_rules.specs.Sights.{NamedRule, Sight, sights, rule_sights, extra_sights, walk, tokens_in, token_at, if_token, is_token, is_token_layer, contents_in, content_at, content_layer, symbols_in, symbol_layer, ranked_rules}
use Rattle.ts_productions.specs.declared.sources.Sources.{Sources}
use Rattle.ts_productions.specs.Grammars.{rule_tree, AreSourcesOf, IsInlineOrder}
use Rattle.ts_productions.specs.Roots.{AreOrderedSources, StepsTo}
use Rattle.ts_productions.proofs.LengthLemmas.{same_steps}
use Rattle.ts_productions.proofs.MemberLemmas.{there, at_of, none_in, head_in, tail_in, member_cases, flat_in}
use Rattle.ts_productions.proofs.SymbolLemmas.{Bounded, BoundedAll, rule_told}

-- ---- lists

has_or_not : (xs : List ℕ) (k : ℕ) → Contains xs k ⊎ (Contains xs k → ⊥)
has_or_not [] k = inr (λ w. none_in k w)
has_or_not (x ∷ xs) k = ⊎_elim
    (λ e. inl (subst (λ (m : ℕ). Contains (x ∷ xs) m) (sym e) (head_in x xs)))
    (λ apart. ⊎_elim
    (λ w. inl (tail_in x k xs w))
    (λ absent. inr (λ w. ⊎_elim (λ e. apart e) (λ v. absent v) (member_cases x k xs w)))
    (has_or_not xs k))
    (cases_eq k x)

some_is : {X : Type 0} (x y : X) → Some x ≡ Some y → x ≡ y
some_is x y e = cc

some_none : {X : Type 0} (x : X) → None ≡ Some x → ⊥
some_none x e = cc

module _ {X : Type 0} (P : X → Type 0) where
  -- what is picked is in the list and has the property
  pub picked : (xs ys : List X) (x : X) → Picks P xs ys → Contains ys x → Contains xs x × P x
  picked _ _ x end w = absurd (none_in x w)
  picked _ _ x (taken y xs ys p rest) w = ⊎_elim
      (λ e. (subst (λ (z : X). Contains (y ∷ xs) z) (sym e) (head_in y xs), subst P (sym e) p))
      (λ v. let r = picked xs ys x rest v in (tail_in y x xs r.0, r.1))
      (member_cases y x ys w)
  picked _ _ x (left y xs ys p rest) w = let r = picked xs ys x rest w in (tail_in y x xs r.0, r.1)

  -- what is in the list and has the property is picked
  pub picks_all : (xs ys : List X) (x : X) → Picks P xs ys → Contains xs x → P x → Contains ys x
  picks_all _ _ x end w h = w
  picks_all _ _ x (taken y xs ys p rest) w h = ⊎_elim
      (λ e. subst (λ (z : X). Contains (y ∷ ys) z) (sym e) (head_in y ys))
      (λ v. tail_in y x ys (picks_all xs ys x rest v h))
      (member_cases y x xs w)
  picks_all _ _ x (left y xs ys p rest) w h = ⊎_elim
      (λ e. absurd (p (subst P e h)))
      (λ v. picks_all xs ys x rest v h)
      (member_cases y x xs w)

symbol_used : (g : Grammar) (name : Bytes) → Contains (symbols_in (walk g)) name → Contains (names_used g) name
symbol_used g name w =
    Contains-append_left (symbols_in (walk g) ++ listed g.word ++ merged g.conflicts ++ ranked_rules g) g.supertypes name
    (Contains-append_left (symbols_in (walk g) ++ listed g.word ++ merged g.conflicts) (ranked_rules g) name
    (Contains-append_left (symbols_in (walk g) ++ listed g.word) (merged g.conflicts) name
    (Contains-append_left (symbols_in (walk g)) (listed g.word) name w)))

-- ---- the numbers of what is not inlined

module _ (g : Grammar) (n : Numbers) (x : Lists) (lists : AreLists g x) (numbers : AreNumbers g n x) (defined : Clear (IsUndefined g) (names_used g)) where
  token_below : (t : Rule) → Contains (tokens_in (rule_sights g)) t → n.token t < first_rule x
  token_below t w =
      let v : Contains x.tokens t = lists.tokens.every t w in
      let e = numbers.tokens v.0 t (at_of x.tokens t v) in
      let lt = v.1 in
      omega (arith, e, lt)

  content_below : (c : Rule) → Contains (contents_in (rule_sights g)) c → IsRepeated c → n.repetition c < first_inlined x
  content_below c w h =
      let seen = lists.contents in
      let v : Contains x.contents c = seen.2.every c (picks_all IsRepeated (contents_in (rule_sights g)) seen.0 c seen.1 w h) in
      let e = numbers.contents v.0 c (at_of x.contents c v) in
      let lt = v.1 in
      omega (arith, e, lt)

  abbrev Known : Bytes → Type 0
  Known name = Not (IsUndefined g name)

  module _ (s : Sight) (here : Contains (rule_sights g) s) (outside : s.inside ≡ false) where
    in_token : (layer : Rule-F Rule) (t : Rule) → out-Rule s.tree ≡ layer → is_token_layer layer ≡ true → roll-Rule layer ≡ t → n.token t < first_inlined x
    in_token layer t e f h =
        let is : s.tree ≡ t = sym (roll-out-Rule s.tree) ∙ ap roll-Rule e ∙ h in
        let token : is_token s.tree ≡ true = ap (λ (z : Rule-F Rule). is_token_layer z) e ∙ f in
        let at : Contains (token_at s.tree s.inside) s.tree
        = subst (λ (b : Bool). Contains (token_at s.tree b) s.tree) (sym outside) (subst (λ (b : Bool). Contains (if_token s.tree b) s.tree) (sym token) (head_in s.tree [])) in
        let lt = token_below t (subst (λ (r : Rule). Contains (tokens_in (rule_sights g)) r) is (flat_in (λ (v : Sight). token_at v.tree v.inside) (rule_sights g) s s.tree here at)) in
        omega (arith, lt)

    in_content : (layer : Rule-F Rule) (c : Rule) → out-Rule s.tree ≡ layer → Contains (content_layer layer) c → has_steps (tree_of n c) ≡ true → n.repetition c < first_inlined x
    in_content layer c e w steps =
        let at : Contains (content_at s.tree s.inside) c
        = subst (λ (b : Bool). Contains (content_at s.tree b) c) (sym outside) (subst (λ (z : Rule-F Rule). Contains (content_layer z) c) (sym e) w) in
        content_below c (flat_in (λ (v : Sight). content_at v.tree v.inside) (rule_sights g) s c here at) (same_steps unnumbered n c ∙ steps)

    bounded : (layer : Rule-F Rule) → out-Rule s.tree ≡ layer → Bounded n (first_inlined x) Known layer
    bounded Rule-F.Blank e = tt
    bounded (Rule-F.Literal text) e = in_token (Rule-F.Literal text) (rule.Literal text) e refl (rolls-Literal text)
    bounded (Rule-F.Pattern value ignore_case) e = in_token (Rule-F.Pattern value ignore_case) (rule.Pattern value ignore_case) e refl (rolls-Pattern value ignore_case)
    bounded (Rule-F.Symbol name) e =
        All-contains (λ (u : Bytes). Not (IsUndefined g u)) (names_used g) name defined
        (symbol_used g name (flat_in (λ (v : Sight). symbol_layer (out-Rule v.tree)) (walk g) s name (Contains-append_left (rule_sights g) (extra_sights g) s here)
        (subst (λ (z : Rule-F Rule). Contains (symbol_layer z) name) (sym e) (head_in name []))))
    bounded (Rule-F.Seq members) e = tt
    bounded (Rule-F.Choice members) e = tt
    bounded (Rule-F.Repeat c) e = in_content (Rule-F.Repeat c) c e (head_in c [])
    bounded (Rule-F.Repeat1 c) e = in_content (Rule-F.Repeat1 c) c e (head_in c [])
    bounded (Rule-F.Token c) e = in_token (Rule-F.Token c) (rule.Token c) e refl (rolls-Token c)
    bounded (Rule-F.ImmediateToken c) e = in_token (Rule-F.ImmediateToken c) (rule.ImmediateToken c) e refl (rolls-ImmediateToken c)
    bounded (Rule-F.Field name c) e = tt
    bounded (Rule-F.Alias c named value) e = tt
    bounded (Rule-F.Prec value c) e = tt
    bounded (Rule-F.PrecLeft value c) e = tt
    bounded (Rule-F.PrecRight value c) e = tt
    bounded (Rule-F.PrecDynamic value c) e = tt

  rule_bounded : (rule : NamedRule) → Contains g.rules rule → BoundedAll n (first_inlined x) Known (sights rule.1)
  rule_bounded rule w s v outside = bounded s (flat_in (λ (r : NamedRule). sights r.1) g.rules rule s w v) outside (out-Rule s.tree) refl

  -- a name with the number of an inlined rule is that rule's, as far as a contradiction asks
  named_apart : (name : Bytes) (to : ℕ) → NamesSome g name → n.rule name ≡ first_inlined x + to → ⊥
  named_apart name to h e =
      let f = numbers.named name h.0 h.1 in
      let once = h.1.once in
      let inside : Contains (tokens_in (rule_sights g)) h.0 = subst (λ (ts : List Rule). Contains ts h.0) (sym once.is) (in_middle once.before h.0 once.after) in
      let lt = token_below h.0 inside in
      let z : ⊥ = omega (arith, e, f, lt) in
      z
    where
      in_middle : (before : List Rule) (t : Rule) (after : List Rule) → Contains (before ++ t ∷ after) t
      in_middle [] t after = head_in t after
      in_middle (b ∷ before) t after = tail_in b t (before ++ t ∷ after) (in_middle before t after)

  own_apart : (name : Bytes) (t : Rule) (to : ℕ) → Contains g.rules (name, t) → HasSymbol g (name, t) → n.rule name ≡ first_inlined x + to → ⊥
  own_apart name t to w h e =
      let v : Contains x.rules (name, t) = picks_all (HasSymbol g) g.rules x.rules (name, t) lists.rules w h in
      let f = numbers.rules v.0 (name, t) (at_of x.rules (name, t) v) in
      let lt = v.1 in
      let z : ⊥ = omega (arith, e, f, lt) in
      z

  -- ---- the order

  module _ (s : Sources) (of : AreSourcesOf n x s) (order : IsInlineOrder g x s.order.now) where
    count : length s.inlined.now ≡ length x.inlined
    count = ap (λ (ts : List Tree). length ts) of.inlined ∙ length-map x.inlined (rule_tree n)

    tree_at : (k : ℕ) (t : Tree) → slice_get s.inlined.now k ≡ Some t → (a : NamedRule) × (slice_get x.inlined k ≡ Some a) × (rule_tree n a ≡ t)
    tree_at k t is =
        let mapped : option_map (rule_tree n) (slice_get x.inlined k) ≡ Some t = sym (slice_get-map (rule_tree n) x.inlined k) ∙ ap (λ (ts : List Tree). slice_get ts k) (sym of.inlined) ∙ is in
        elim (slice_get_cases x.inlined k).1 [
          | inl u ↦ (u.0, u.2, some_is (rule_tree n u.0) t (ap (option_map (rule_tree n)) (sym u.2) ∙ mapped))
          | inr u ↦ absurd (some_none t (ap (option_map (rule_tree n)) (sym u.1) ∙ mapped))
        ]

    rule_at : (k : ℕ) → k < length x.inlined → (b : NamedRule) × (slice_get x.inlined k ≡ Some b)
    rule_at k lt = elim (slice_get_cases x.inlined k).1 [
      | inl u ↦ (u.0, u.2)
      | inr u ↦ absurd (let past = u.0 in let z : ⊥ = omega (arith, past, lt) in z)
    ]

    -- the symbol of a used name is that of an inlined rule, so that rule stands before
    first_of : (place from to : ℕ) (name : Bytes) (a b : NamedRule) → slice_get s.order.now place ≡ Some from → Contains g.rules a → slice_get x.inlined from ≡ Some a → slice_get x.inlined to ≡ Some b
        → Contains (uses a.1) name → Known name → n.rule name ≡ first_inlined x + to → Contains (take place s.order.now) to
    first_of place from to name a b at here from_at to_at used known number = ⊎_elim
        (λ w. w)
        (λ none. absurd (known (λ is. own_apart name is.0 to is.1 (record { unnamed = λ h. named_apart name to h number; kept = λ h. none (found is.0 is.1 h) }) number)))
        (has_or_not (take place s.order.now) to)
      where
        found : (t : Rule) → Contains g.rules (name, t) → IsInlined g name → Contains (take place s.order.now) to
        found t w h =
            let v : Contains x.inlined (name, t) = picks_all (λ (r : NamedRule). IsInlined g r.0) g.rules x.inlined (name, t) lists.inlined w h in
            let f = numbers.inlined v.0 (name, t) (at_of x.inlined (name, t) v) in
            let place_is : v.0 ≡ to = omega (arith, f, number) in
            let b_is : (name, t) ≡ b = some_is (name, t) b (sym (at_of x.inlined (name, t) v) ∙ ap (slice_get x.inlined) place_is ∙ to_at) in
            let name_is : name ≡ b.0 = ap (λ (r : NamedRule). r.0) b_is in
            let inlines : Inlines g a.0 b.0 = record {
              tree = a.1;
              is = here;
              uses_it = subst (λ (other : Bytes). Contains (uses a.1) other) name_is used;
              inlined = subst (λ (other : Bytes). IsInlined g other) name_is h;
            } in
            order.before place from to a b at from_at to_at inlines

    before : (place from to : ℕ) → slice_get s.order.now place ≡ Some from → StepsTo s from to → Contains (take place s.order.now) to
    before place from to at steps =
        let a = tree_at from steps.tree steps.is in
        let here = picked (λ (r : NamedRule). IsInlined g r.0) g.rules x.inlined a.0 lists.inlined (there x.inlined from a.0 a.1) in
        let told = rule_told n (first_inlined x) Known a.0.1 (rule_bounded a.0 here.0) outermost steps.alternative steps.step
        (subst (λ (t : Tree). Contains (alternatives_of t outermost) steps.alternative) (sym a.2) steps.has) steps.steps in
        let number : steps.step.symbol ≡ first_inlined x + to = steps.symbol ∙ ap (λ (first : ℕ). first + to) of.inlined_from in
        let b = rule_at to (let lt = steps.there in let c = count in omega (arith, lt, c)) in
        ⊎_elim
        (λ lt. absurd (let z : ⊥ = omega (arith, lt, number) in z))
        (λ w. first_of place from to w.0 a.0 b.0 at here.0 a.1 b.1 w.1 w.2 (sym w.3 ∙ number))
        told

    pub ordered : AreOrderedSources s
    ordered = record {
      within = λ k w. let lt = order.within k w in let c = count in omega (arith, lt, c);
      every = λ k lt. order.every k (let c = count in omega (arith, lt, c));
      before = before;
      apart =
          let c : length s.contents.now ≡ length x.contents = ap (λ (ts : List Tree). length ts) of.contents ∙ length-map x.contents (tree_of n) in
          let d = of.repetitions_from in
          let e = of.inlined_from in
          omega (arith, c, d, e);
    }
