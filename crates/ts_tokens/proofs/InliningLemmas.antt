-- Rules along inlining, as a graph.
use Rattle.std.proofs.Common.{◌≡◌, ◌∙◌, sym, ap, subst, refl, ℕ, zero, suc, ◌+◌, ◌<◌, ◌≤◌, ◌⊎◌, inl, inr, ⊎_elim, Bool, true, false, cond, IsTrue, ◌↔◌, List, [], ◌∷◌, ◌++◌, map, length, get_or, take, slice_get, Option, Some, None, option_map, is_some, MatchOption, arith}
use Rattle.std.specs.Borrow.{Bor}
use Rattle.std.specs.Global.{Vec}
use Rattle.std.specs.HashMap.{HashMap, get}
use Rattle.std.specs.List.{Contains}
use Rattle.std.specs.Str.{bytes_eq}
use Rattle.std.proofs.lemmas.Bool.{cases_lt}
use Rattle.std.proofs.lemmas.List.{take_all, take_more, length-append, length-map, map-append}
use Rattle.std.proofs.lemmas.List.Elements.{Contains-append_left, Contains-append_right, Contains-append_cases, Contains-push, Contains-push_cases, All-contains}
use Rattle.std.proofs.lemmas.Option.{slice_get_within, slice_get-get_or, slice_get-map, get_or_from_slice_get}
use Rattle.ts_base.proofs.ByteLemmas.{same_bytes, bytes_same}
use Rattle.ts_base.proofs.PlaceLemmas.{push_cases}
use Rattle.ts_base.specs.Bytes.{Bytes}
use Rattle.ts_core.specs.declared.rule.Grammar.{Grammar}
use Rattle.ts_core.specs.declared.rule.Rule.{Rule}
use Rattle.ts_rules.specs.Causes.{IsBadInline, Inlines, Leads, at_once, through, names_of, rule_names, uses}
use Rattle.ts_rules.specs.FileGrammar.{IsFileGrammar}
use Rattle.ts_rules.specs.FirstSights.{Not, Clear}
use Rattle.ts_rules.specs.Names.{told}
use Rattle.ts_rules.specs.Numbers.{IsInlined}
use Rattle.ts_rules.specs.Sights.{NamedRule}
use Rattle.ts_tokens.specs.Inlining.{AreInlineRanks, ArePlaces, NamesApart, IsDirect, IsTarget, IsRuleGraph, lent_eq, place_list}
use Rattle.ts_tokens.specs.Names.{HaveSame}
use Rattle.ts_tokens.specs.Paths.{GoesTo, Path, one, more, StaysInside, HasNoCircle, AreNodeRanks, graph_of}
use Rattle.ts_tokens.proofs.KeywordLemmas.{one_tree}
use Rattle.ts_tokens.proofs.MemberLemmas.{there, at_of, none_in}
use Rattle.ts_tokens.proofs.PathLemmas.{ranked_acyclic}

-- ---- names and their places

pub name_at : (rules : List NamedRule) (k : ℕ) (rule : NamedRule) → slice_get rules k ≡ Some rule → slice_get (names_of rules) k ≡ Some rule.0
name_at rules k rule at = slice_get-map (λ (r : NamedRule). r.0) rules k ∙ ap (λ (o : Option NamedRule). option_map (λ (r : NamedRule). r.0) o) at

rule_at : (rules : List NamedRule) (k : ℕ) (name : Bytes) → slice_get (names_of rules) k ≡ Some name → (rule : NamedRule) × (slice_get rules k ≡ Some rule) × (rule.0 ≡ name)
rule_at [] k name at = let w : ⊥ = (let e : slice_get {X = Bytes} [] k ≡ Some name = at in cc) in elim w [ ]
rule_at (rule ∷ rules) zero name at = (rule, refl, (let e : Some rule.0 ≡ Some name = at in cc))
rule_at (rule ∷ rules) (suc k) name at = rule_at rules k name at

-- the rule at a place that is read
pub rule_here : (rules : List NamedRule) (k : ℕ) (d : NamedRule) → k < length rules → slice_get rules k ≡ Some (get_or rules k d)
rule_here rules k d lt = slice_get-get_or rules k d lt

pub same_rule : (rules : List NamedRule) (k : ℕ) (d e : NamedRule) → k < length rules → get_or rules k d ≡ get_or rules k e
same_rule rules k d e lt = get_or_from_slice_get rules k (get_or rules k e) d (rule_here rules k e lt)

pub names_length : (rules : List NamedRule) → length (names_of rules) ≡ length rules
names_length rules = length-map rules (λ (r : NamedRule). r.0)

-- in a grammar file no two rules have one name
pub names_distinct : (g : Grammar) → IsFileGrammar g → NamesApart (names_of g.rules)
names_distinct g file j k name a b =
    let r = rule_at g.rules j name a in
    let s = rule_at g.rules k name b in
    file.apart j k r.0 s.0 r.1 s.1 (r.2 ∙ sym s.2)

-- ---- the table of places

-- the places of the first so many names
pub record PlacesTo {S : Type 0} (names inline : List Bytes) (n : ℕ) (places : HashMap (Bor Bytes) ℕ S) : Type 0 where
  pub sound : (q : Bor Bytes) (k : ℕ) → get lent_eq places q ≡ Some k → (slice_get names k ≡ Some q.now) × Contains inline q.now
  pub every : (q : Bor Bytes) (k : ℕ) → k < n → slice_get names k ≡ Some q.now → Contains inline q.now → (p : ℕ) × (get lent_eq places q ≡ Some p)

told_in : (used : List (Bor Bytes)) (i : ℕ) (name : Bor Bytes) → i < length used → name ≡ get_or used i name → told (take (i + 1) used) ≡ told (take i used) ++ name.now ∷ []
told_in used i name lt at =
    ap told (take_more used i name lt ∙ ap (λ (y : Bor Bytes). take i used ++ y ∷ []) (sym at))
    ∙ map-append (λ (n : Bor Bytes). n.now) (take i used) (name ∷ [])

module _ {S : Type 0} (names inline : List Bytes) where
  pub places_skip : (places : HashMap (Bor Bytes) ℕ S) (n : ℕ) (name : Bytes) → slice_get names n ≡ Some name → Not (Contains inline name) → PlacesTo names inline n places → PlacesTo names inline (n + 1) places
  places_skip places n name at unlisted before = record {
    sound = before.sound;
    every = λ q k lt here listed. ⊎_elim
        (λ below. before.every q k below here listed)
        (λ ge.
        let same : k ≡ n = omega arith in
        let e : Some q.now ≡ Some name = sym here ∙ ap (slice_get names) same ∙ at in
        let f : q.now ≡ name = cc in
        absurd (unlisted (subst (λ (x : Bytes). Contains inline x) f listed)))
        (cases_lt k n);
  }

  pub places_more : (old new : HashMap (Bor Bytes) ℕ S) (n : ℕ) (key : Bytes) → slice_get names n ≡ Some key → Contains inline key
      → ((q : Bor Bytes) → get lent_eq new q ≡ cond (bytes_eq key q.now) (Some n) (get lent_eq old q)) → PlacesTo names inline n old → PlacesTo names inline (n + 1) new
  places_more old new n key at listed all before = record {
    sound = λ q k e. sound q k (bytes_eq key q.now) refl (sym (all q) ∙ e);
    every = λ q k lt here is. ⊎_elim
        (λ below. let w = before.every q k below here is in every q (bytes_eq key q.now) w.0 w.1 (all q))
        (λ ge.
        let same : k ≡ n = omega arith in
        let e : Some key ≡ Some q.now = sym at ∙ ap (slice_get names) (sym same) ∙ here in
        let f : key ≡ q.now = cc in
        (n, all q ∙ ap (λ (b : Bool). cond b (Some n) (get lent_eq old q)) (bytes_same key q.now f)))
        (cases_lt k n);
  }
    where
      sound : (q : Bor Bytes) (k : ℕ) (b : Bool) → bytes_eq key q.now ≡ b → cond (bytes_eq key q.now) (Some n) (get lent_eq old q) ≡ Some k → (slice_get names k ≡ Some q.now) × Contains inline q.now
      sound q k true is e =
          let same : key ≡ q.now = same_bytes key q.now is in
          let f : Some n ≡ Some k = sym (ap (λ (b : Bool). cond b (Some n) (get lent_eq old q)) is) ∙ e in
          let place : n ≡ k = cc in
          (ap (slice_get names) (sym place) ∙ at ∙ ap Some same, subst (λ (x : Bytes). Contains inline x) same listed)
      sound q k false is e = before.sound q k (sym (ap (λ (b : Bool). cond b (Some n) (get lent_eq old q)) is) ∙ e)

      every : (q : Bor Bytes) (b : Bool) (p : ℕ) → get lent_eq old q ≡ Some p → get lent_eq new q ≡ cond b (Some n) (get lent_eq old q) → (r : ℕ) × (get lent_eq new q ≡ Some r)
      every q true p old_at is = (n, is)
      every q false p old_at is = (p, is ∙ old_at)

  pub places_all : (places : HashMap (Bor Bytes) ℕ S) (n : ℕ) → length names ≤ n → PlacesTo names inline n places → ArePlaces names inline places
  places_all places n past to = record {
    sound = to.sound;
    every = λ q k here listed. to.every q k (let w = slice_get_within names k q.now here in omega arith) here listed;
  }

  -- ---- the places that a tree goes to

  pub targets_more : (places : HashMap (Bor Bytes) ℕ S) (used : List (Bor Bytes)) (i : ℕ) (name : Bor Bytes) (old new : List ℕ) → i < length used → name ≡ get_or used i name
      → new ≡ old ++ place_list (get lent_eq places name) → ArePlaces names inline places → NamesApart names
      → ((k : ℕ) → Contains old k ↔ IsTarget names inline (told (take i used)) k) → (k : ℕ) → Contains new k ↔ IsTarget names inline (told (take (i + 1) used)) k
  targets_more places used i name old new lt at is are apart before k = (
    λ w. ⊎_elim
        (λ v. let t = (before k).0 v in (t.0, wider t.0 t.1, t.2, t.3))
        (λ v. found (get lent_eq places name) refl v)
        (Contains-append_cases old (place_list (get lent_eq places name)) k (subst (λ (xs : List ℕ). Contains xs k) is w)),
    λ t. subst (λ (xs : List ℕ). Contains xs k) (sym is) (⊎_elim
        (λ v. Contains-append_left old (place_list (get lent_eq places name)) k ((before k).1 (t.0, v, t.2, t.3)))
        (λ same. Contains-append_right old (place_list (get lent_eq places name)) k (taken (subst (λ (n : Bytes). Contains inline n) (sym same) t.2) (t.3 ∙ ap Some (sym same))))
        (Contains-push_cases (told (take i used)) name.now t.0 (subst (λ (xs : List Bytes). Contains xs t.0) (told_in used i name lt at) t.1))),
  )
    where
      wider : (n : Bytes) → Contains (told (take i used)) n → Contains (told (take (i + 1) used)) n
      wider n w = subst (λ (xs : List Bytes). Contains xs n) (sym (told_in used i name lt at)) (Contains-append_left (told (take i used)) (name.now ∷ []) n w)

      last : Contains (told (take (i + 1) used)) name.now
      last = subst (λ (xs : List Bytes). Contains xs name.now) (sym (told_in used i name lt at)) (Contains-push (told (take i used)) name.now)

      only : (p : ℕ) → Contains (p ∷ []) k → k ≡ p
      only p (zero, below, e) = sym e
      only p (suc j, below, e) = absurd (omega arith)

      found : (o : Option ℕ) → get lent_eq places name ≡ o → Contains (place_list o) k → IsTarget names inline (told (take (i + 1) used)) k
      found None e w = absurd (none_in k w)
      found (Some p) e w =
          let s = are.sound name p e in
          (name.now, last, s.1, ap (slice_get names) (only p w) ∙ s.0)

      taken : Contains inline name.now → slice_get names k ≡ Some name.now → Contains (place_list (get lent_eq places name)) k
      taken listed here =
          let p = are.every name k here listed in
          let same : p.0 ≡ k = apart p.0 k name.now (are.sound name p.0 p.1).0 here in
          subst (λ (o : Option ℕ). Contains (place_list o) k) (sym p.1) (there (p.0 ∷ []) 0 k (ap Some same))

module _ (names inline : List Bytes) where
  pub targets_all : (used : List (Bor Bytes)) (all : List Bytes) (i : ℕ) (targets : List ℕ) → length used ≤ i → told used ≡ all
      → ((k : ℕ) → Contains targets k ↔ IsTarget names inline (told (take i used)) k) → (k : ℕ) → Contains targets k ↔ IsTarget names inline all k
  targets_all used all i targets past is before k =
      subst (λ (xs : List Bytes). Contains targets k ↔ IsTarget names inline xs k) (ap told (take_all i used past) ∙ is) (before k)

-- ---- the graph

pub graph_push : (rows : List (Vec ℕ)) (v : Vec ℕ) → graph_of (rows ++ v ∷ []) ≡ graph_of rows ++ v.items ∷ []
graph_push rows v = map-append (λ (x : Vec ℕ). x.items) rows (v ∷ [])

pub graph_more : (rules : List NamedRule) (inline : List Bytes) (graph : List (List ℕ)) (n : ℕ) (rule : NamedRule) (row : List ℕ) → slice_get rules n ≡ Some rule
    → ((j : ℕ) → Contains row j ↔ IsTarget (names_of rules) inline (uses rule.1) j) → IsRuleGraph rules inline n graph → IsRuleGraph rules inline (n + 1) (graph ++ row ∷ [])
graph_more rules inline graph n rule row at targets before = record {
  size = (let a = length-append graph (row ∷ []) in let b = before.size in omega arith);
  row = λ k r xs here stands. ⊎_elim
      (λ old. before.row k r xs here old.1)
      (λ last. by k r xs (last.0 ∙ before.size) last.1 here)
      (push_cases graph row k xs stands);
}
  where
    by : (k : ℕ) (r : NamedRule) (xs : List ℕ) → k ≡ n → row ≡ xs → slice_get rules k ≡ Some r → (j : ℕ) → Contains xs j ↔ IsTarget (names_of rules) inline (uses r.1) j
    by k r xs same is here =
        let e : Some rule ≡ Some r = sym at ∙ ap (slice_get rules) (sym same) ∙ here in
        let f : rule ≡ r = cc in
        subst (λ (z : NamedRule). (j : ℕ) → Contains xs j ↔ IsTarget (names_of rules) inline (uses z.1) j) f
        (subst (λ (zs : List ℕ). (j : ℕ) → Contains zs j ↔ IsTarget (names_of rules) inline (uses rule.1) j) is targets)

module _ (g : Grammar) (inline : List Bytes) (graph : List (List ℕ)) (file : IsFileGrammar g) (listed : HaveSame inline g.inline) (is : IsRuleGraph g.rules inline (length g.rules) graph) where
  pick : {X : Type 0} (xs : List X) (k : ℕ) → k < length xs → (x : X) × (slice_get xs k ≡ Some x)
  pick [] k lt = absurd (omega arith)
  pick (x ∷ xs) k lt = (get_or (x ∷ xs) k x, slice_get-get_or (x ∷ xs) k x lt)

  -- a step of the graph is a step to an inlined rule
  goes_inlines : (j k : ℕ) → GoesTo graph j k → (a : NamedRule) × (b : NamedRule) × (slice_get g.rules j ≡ Some a) × (slice_get g.rules k ≡ Some b) × Inlines g a.0 b.0
  goes_inlines j k s =
      let a = pick g.rules j (let w = slice_get_within graph j s.row s.at in let e = is.size in omega arith) in
      let t = (is.row j a.0 s.row a.1 s.at k).0 s.member in
      let b = rule_at g.rules k t.0 t.3 in (
        a.0,
        b.0,
        a.1,
        b.1,
        record {
          tree = a.0.1;
          is = there g.rules j a.0 a.1;
          uses_it = subst (λ (n : Bytes). Contains (uses a.0.1) n) (sym b.2) t.1;
          inlined = record {
            listed = (listed b.0.0).0 (subst (λ (n : Bytes). Contains inline n) (sym b.2) t.2);
            rule = (b.0.1, there g.rules k b.0 b.1);
          };
        },
      )

  inlines_goes : (j : ℕ) (a : NamedRule) (name : Bytes) → slice_get g.rules j ≡ Some a → Inlines g a.0 name → (k : ℕ) × (b : NamedRule) × (slice_get g.rules k ≡ Some b) × (b.0 ≡ name) × GoesTo graph j k
  inlines_goes j a name at i =
      let row = pick graph j (let w = slice_get_within g.rules j a at in let e = is.size in omega arith) in
      let place = i.inlined.rule.1 in
      let b : NamedRule = (name, i.inlined.rule.0) in
      let here : slice_get g.rules place.0 ≡ Some b = at_of g.rules b place in
      let same : i.tree ≡ a.1 = one_tree g a.0 i.tree a.1 file i.is (there g.rules j a at) in (
        place.0,
        b,
        here,
        refl,
        record {
          row = row.0;
          at = row.1;
          member = (is.row j a row.0 at row.1 place.0).1 (name, subst (λ (t : Rule). Contains (uses t) name) same i.uses_it, (listed name).1 i.inlined.listed, name_at g.rules place.0 b here);
        },
      )

  pub closed : StaysInside graph
  closed j k s = let r = goes_inlines j k s in let w = slice_get_within g.rules k r.1 r.3 in let e = is.size in omega arith

  path_leads : (j k : ℕ) (a b : NamedRule) → Path graph j k → slice_get g.rules j ≡ Some a → slice_get g.rules k ≡ Some b → Leads g a.0 b.0
  path_leads _ _ a b (one j k s) at here =
      let r = goes_inlines j k s in
      let p : r.0 ≡ a = (let e : Some r.0 ≡ Some a = sym r.2 ∙ at in cc) in
      let q : r.1 ≡ b = (let e : Some r.1 ≡ Some b = sym r.3 ∙ here in cc) in
      at_once a.0 b.0 (subst (λ (x : NamedRule). Inlines g x.0 b.0) p (subst (λ (x : NamedRule). Inlines g r.0.0 x.0) q r.4))
  path_leads _ _ a b (more j m k s rest) at here =
      let r = goes_inlines j m s in
      let p : r.0 ≡ a = (let e : Some r.0 ≡ Some a = sym r.2 ∙ at in cc) in
      through a.0 r.1.0 b.0 (subst (λ (x : NamedRule). Inlines g x.0 r.1.0) p r.4) (path_leads m k r.1 b rest r.3 here)

  leads_path : (from to : Bytes) → Leads g from to → (j : ℕ) (a : NamedRule) → slice_get g.rules j ≡ Some a → a.0 ≡ from → (k : ℕ) × (b : NamedRule) × (slice_get g.rules k ≡ Some b) × (b.0 ≡ to) × Path graph j k
  leads_path _ _ (at_once from to i) j a at same =
      let r = inlines_goes j a to at (subst (λ (n : Bytes). Inlines g n to) (sym same) i) in
      (r.0, r.1, r.2, r.3, one j r.0 r.4)
  leads_path _ _ (through from mid to i rest) j a at same =
      let r = inlines_goes j a mid at (subst (λ (n : Bytes). Inlines g n mid) (sym same) i) in
      let s = leads_path mid to rest r.0 r.1 r.2 r.3 in
      (s.0, s.1, s.2, s.3, more j r.0 s.0 r.4 s.4)

  -- a rule comes back to itself where its node does
  back : (k : ℕ) (rule : NamedRule) → slice_get g.rules k ≡ Some rule → Path graph k k ↔ Leads g rule.0 rule.0
  back k rule at = (
    λ p. path_leads k k rule rule p at at,
    λ l. let r = leads_path rule.0 rule.0 l k rule at refl in
        let same : r.0 ≡ k = file.apart r.0 k r.1 rule r.2 at r.3 in
        subst (λ (n : ℕ). Path graph k n) same r.4,
  )

  pub bad_at : (k : ℕ) (rule : NamedRule) (direct bad : Bool) → slice_get g.rules k ≡ Some rule → Contains inline rule.0 → IsTrue direct ↔ IsDirect g rule.0 → IsTrue bad ↔ (IsTrue direct ⊎ Path graph k k)
      → IsTrue bad ↔ IsBadInline g rule.0
  bad_at k rule direct bad at has is_direct is_bad = (
    λ t. record {
      inlined = record { listed = (listed rule.0).0 has; rule = (rule.1, there g.rules k rule at) };
      cause = ⊎_elim
          (λ d. ⊎_elim (λ s. inl s) (λ n. inr (inl n)) (is_direct.0 d))
          (λ p. inr (inr ((back k rule at).0 p)))
          (is_bad.0 t);
    },
    λ b. is_bad.1 (⊎_elim
        (λ s. inl (is_direct.1 (inl s)))
        (λ rest. ⊎_elim (λ n. inl (is_direct.1 (inr n))) (λ l. inr ((back k rule at).1 l)) rest)
        b.cause),
  )

  pub not_inlined : (name : Bytes) → Not (Contains inline name) → Not (IsBadInline g name)
  not_inlined name out b = out ((listed name).1 b.inlined.listed)

  -- a node that comes back to itself is an inlined rule that can't be inlined
  pub some_bad : (k : ℕ) → Path graph k k → (name : Bytes) × Contains (rule_names g) name × IsBadInline g name
  some_bad k p =
      let rule = pick g.rules k (start p) in
      let l = (back k rule.0 rule.1).0 p in
      (rule.0.0, there (names_of g.rules) k rule.0.0 (name_at g.rules k rule.0 rule.1), record { inlined = goal l; cause = inr (inr l) })
    where
      start : Path graph k k → k < length g.rules
      start (one a b s) = let w = slice_get_within graph a s.row s.at in let e = is.size in omega arith
      start (more a m b s rest) = let w = slice_get_within graph a s.row s.at in let e = is.size in omega arith

      goal : {from to : Bytes} → Leads g from to → IsInlined g to
      goal (at_once a b i) = i.inlined
      goal (through a b c i rest) = goal rest

  pub ranks_fall : (ranks : List ℕ) → AreNodeRanks graph ranks → AreInlineRanks g ranks
  ranks_fall ranks are = record {
    one_each = are.one_each ∙ is.size;
    falls = λ j k high low a b at here i above below.
        let r = inlines_goes j a b.0 at i in
        let same : r.0 ≡ k = file.apart r.0 k r.1 b r.2 here r.3 in
        are.falls j k high low (subst (λ (n : ℕ). GoesTo graph j n) same r.4) above below;
  }

-- ---- ranks that were found, or not

pub acyclic_of : (graph : List (List ℕ)) (found : Option (Vec ℕ)) (b : Bool) → StaysInside graph → MatchOption found ((k : ℕ) × Path graph k k) (λ ranks. AreNodeRanks graph ranks.items) → b ≡ is_some found → b ≡ true → HasNoCircle graph
acyclic_of graph (Some ranks) b closed are is some = ranked_acyclic graph ranks.items closed are
acyclic_of graph None b closed are is some = let e : true ≡ false = sym some ∙ is in let w : ⊥ = cc in elim w [ ]

pub none_left : (g : Grammar) (graph : List (List ℕ)) (inline : List Bytes) → IsFileGrammar g → HaveSame inline g.inline → IsRuleGraph g.rules inline (length g.rules) graph → Clear (IsBadInline g) (rule_names g) → (k : ℕ) × Path graph k k → ⊥
none_left g graph inline file listed is clear circle =
    let bad = some_bad g inline graph file listed is circle.0 circle.1 in
    All-contains (λ (n : Bytes). Not (IsBadInline g n)) (rule_names g) bad.0 clear bad.1 bad.2
