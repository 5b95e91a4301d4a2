-- The rules of a grammar, sorted.
use Rattle.std.proofs.Common.{◌≡◌, ◌∙◌, sym, ap, subst, refl, ℕ, zero, suc, ◌+◌, ◌<◌, ◌≤◌, ⊎_elim, Bool, true, false, ◌||◌, IsTrue, ◌↔◌, List, [], ◌∷◌, ◌++◌, filter, length, slice_get, get_or, take, Option, Some, None, arith, if◌then◌else◌, cond, Bor, min, is_some, option_map}
use Rattle.std.specs.List.{Contains, list_any}
use Rattle.std.specs.Str.{bytes_eq}
use Rattle.indexmap.specs.IndexMap.{insert_entry}
use Rattle.indexmap.specs.IndexSet.{insert_key}
use Rattle.ts_rules.specs.Names.{told}
use Rattle.std.proofs.lemmas.List.{take_more, take_all, map-append, length-take}
use Rattle.std.proofs.lemmas.List.Concat.{flat_map-append}
use Rattle.std.proofs.lemmas.List.Elements.{Contains-append_left, Contains-append_right, Contains-append_cases, filter-append}
use Rattle.std.proofs.lemmas.Option.{slice_get_within, get_or_from_slice_get, slice_get_read, slice_get-map}
use Rattle.ts_base.proofs.ByteLemmas.{same_bytes, bytes_same, bytes_apart}
use Rattle.ts_base.specs.Bytes.{Bytes}
use Rattle.ts_core.specs.declared.rule.Grammar.{Grammar}
use Rattle.ts_core.specs.declared.rule.Rule.{Rule}
use Rattle.ts_rules.specs.Causes.{names_of}
use Rattle.ts_rules.specs.FileGrammar.{IsFileGrammar}
use Rattle.ts_rules.specs.FirstSights.{Not, AreFirstSights, Picks, end, taken, left}
use Rattle.ts_rules.specs.Numbers.{NamesToken, NamesSome, HasSymbol, IsRepeated, start_of}
use Rattle.ts_rules.specs.Sights.{NamedRule, Sight, sights, below, seen_rules, rule_sights, tokens_in, contents_in, content_at, token_at, if_token, is_token}
use Rattle.ts_numbering.specs.Keys.{trees, told_tree, rules_told, AreSeenTokens, is_repeated, repeated_at, repeated_in}
use Rattle.ts_numbering.specs.Places.{same_tree}
use Rattle.ts_numbering.proofs.SameLemmas.{tree_same, tree_itself}
use Rattle.indexmap.proofs.CallerLemmas.{Contains-list_any}
use Rattle.std.specs.Map.{lookup}
use Rattle.std.proofs.Math.Nat.{min-le_left}
use Rattle.ts_numbering.specs.Surveys.{kept_if, IsInlinedRule, NamesItsToken, AreContents, tree_named, listed_tree}
use Rattle.ts_numbering.proofs.FirstSightLemmas.{there, at_of, only_one, any_at, sights_insert, any_map, insert_map}
use Rattle.ts_numbering.proofs.TokenLemmas.{twice_not_once}

-- ---- what a list picks

module _ {X : Type 0} where
  pub picks_push : (P : X → Type 0) (xs ys : List X) (x : X) (b : Bool) → IsTrue b ↔ P x → Picks P xs ys → Picks P (xs ++ x ∷ []) (ys ++ kept_if b x)
  picks_push P _ _ x true h end = taken x [] [] (h.0 refl) end
  picks_push P _ _ x false h end = left x [] [] (λ p. let e : false ≡ true = h.1 p in cc) end
  picks_push P _ _ x b h (taken y xs ys p rest) = taken y (xs ++ x ∷ []) (ys ++ kept_if b x) p (picks_push P xs ys x b h rest)
  picks_push P _ _ x b h (left y xs ys p rest) = left y (xs ++ x ∷ []) (ys ++ kept_if b x) p (picks_push P xs ys x b h rest)

  -- what is picked is in the list and has the property
  pub picked : (P : X → Type 0) (xs ys : List X) (x : X) → Picks P xs ys → Contains ys x → Contains xs x × P x
  picked P _ _ x end w = absurd (let lt : w.0 < 0 = w.1 in omega arith)
  picked P _ _ x (taken y xs ys p rest) w = ⊎_elim
      (λ v. (Contains-append_left (y ∷ []) xs x v, subst P (sym (only_one y x v)) p))
      (λ v. let r = picked P xs ys x rest v in (Contains-append_right (y ∷ []) xs x r.0, r.1))
      (Contains-append_cases (y ∷ []) ys x w)
  picked P _ _ x (left y xs ys p rest) w = let r = picked P xs ys x rest w in (Contains-append_right (y ∷ []) xs x r.0, r.1)

  -- what is in the list and has the property is picked
  pub picks_all : (P : X → Type 0) (xs ys : List X) (x : X) → Picks P xs ys → Contains xs x → P x → Contains ys x
  picks_all P _ _ x end w h = w
  picks_all P _ _ x (taken y xs ys p rest) w h = ⊎_elim
      (λ v. Contains-append_left (y ∷ []) ys x v)
      (λ v. Contains-append_right (y ∷ []) ys x (picks_all P xs ys x rest v h))
      (Contains-append_cases (y ∷ []) xs x w)
  picks_all P _ _ x (left y xs ys p rest) w h = ⊎_elim
      (λ v. absurd (p (subst P (only_one y x v) h)))
      (λ v. picks_all P xs ys x rest v h)
      (Contains-append_cases (y ∷ []) xs x w)

  pub picks_few : (P : X → Type 0) (xs ys : List X) → Picks P xs ys → length ys ≤ length xs
  picks_few P _ _ end = omega arith
  picks_few P _ _ (taken y xs ys p rest) = let h = picks_few P xs ys rest in omega arith
  picks_few P _ _ (left y xs ys p rest) = let h = picks_few P xs ys rest in omega arith

  filter_step : (P : X → Type 0) (test : X → Bool) (x : X) (xs : List X) (b : Bool) → test x ≡ b → IsTrue (test x) ↔ P x → Picks P xs (filter test xs)
      → Picks P (x ∷ xs) (filter test (x ∷ xs))
  filter_step P test x xs true e h rest = subst (λ (b : Bool). Picks P (x ∷ xs) (cond b (x ∷ filter test xs) (filter test xs))) (sym e) (taken x xs (filter test xs) (h.0 e) rest)
  filter_step P test x xs false e h rest =
      subst (λ (b : Bool). Picks P (x ∷ xs) (cond b (x ∷ filter test xs) (filter test xs))) (sym e) (left x xs (filter test xs) (λ p. let f : true ≡ false = sym (h.1 p) ∙ e in cc) rest)

  pub filter_picks : (P : X → Type 0) (test : X → Bool) → ((x : X) → IsTrue (test x) ↔ P x) → (xs : List X) → Picks P xs (filter test xs)
  filter_picks P test h [] = end
  filter_picks P test h (x ∷ xs) = filter_step P test x xs (test x) refl (h x) (filter_picks P test h xs)

-- ---- names of rules

-- a name at a place is that of the rule there
pub named_at : (rules : List NamedRule) (k : ℕ) (name : Bytes) → slice_get (names_of rules) k ≡ Some name → (rule : NamedRule) × (slice_get rules k ≡ Some rule) × (rule.0 ≡ name)
named_at [] k name e = absurd (let lt : k < 0 = slice_get_within {A = Bytes} [] k name e in omega arith)
named_at (r ∷ rules) zero name e = let f : Some r.0 ≡ Some name = e in (r, refl, (let g : r.0 ≡ name = cc in g))
named_at (r ∷ rules) (suc k) name e = named_at rules k name e

pub name_at : (rules : List NamedRule) (k : ℕ) (rule : NamedRule) → slice_get rules k ≡ Some rule → slice_get (names_of rules) k ≡ Some rule.0
name_at rules k rule e = slice_get-map (λ (r : NamedRule). r.0) rules k ∙ ap (option_map (λ (r : NamedRule). r.0)) e

-- a name in a list is the name of a rule in it
pub named_rule : (rules : List NamedRule) (name : Bytes) → Contains (names_of rules) name → (rule : NamedRule) × Contains rules rule × (rule.0 ≡ name)
named_rule rules name w = let r = named_at rules w.0 name (at_of (names_of rules) name w) in (r.0, there rules w.0 r.0 r.1, r.2)

pub name_of_rule : (rules : List NamedRule) (rule : NamedRule) → Contains rules rule → Contains (names_of rules) rule.0
name_of_rule rules rule w = there (names_of rules) w.0 rule.0 (name_at rules w.0 rule (at_of rules rule w))

-- a rule is known by its name
one_rule : (g : Grammar) → IsFileGrammar g → (name : Bytes) (t u : Rule) → Contains g.rules (name, t) → Contains g.rules (name, u) → t ≡ u
one_rule g file name t u v w =
    let e : slice_get g.rules v.0 ≡ Some (name, t) = at_of g.rules (name, t) v in
    let f : slice_get g.rules w.0 ≡ Some (name, u) = at_of g.rules (name, u) w in
    let same : v.0 ≡ w.0 = file.apart v.0 w.0 (name, t) (name, u) e f refl in
    let both : Some (name, t) ≡ Some (name, u) = sym e ∙ ap (slice_get g.rules) same ∙ f in
    ap (λ (x : Option NamedRule). tree_in t x) both
  where
    tree_in : Rule → Option NamedRule → Rule
    tree_in other None = other
    tree_in other (Some x) = x.1

-- the rules before one have other names
name_new : (g : Grammar) → IsFileGrammar g → (k : ℕ) (rule : NamedRule) → slice_get g.rules k ≡ Some rule → Not (Contains (names_of (take k g.rules)) rule.0)
name_new g file k rule at w =
    let r = named_rule (take k g.rules) rule.0 w in
    let place : slice_get (take k g.rules) r.1.0 ≡ Some r.0 = at_of (take k g.rules) r.0 r.1 in
    let low : r.1.0 < k = within_take g.rules k r.1.0 r.0 place in
    let old : slice_get g.rules r.1.0 ≡ Some r.0 = from_take g.rules k r.1.0 r.0 place in
    let same : r.1.0 ≡ k = file.apart r.1.0 k r.0 rule old at r.2 in
    omega arith
  where
    within_take : {X : Type 0} (xs : List X) (k j : ℕ) (x : X) → slice_get (take k xs) j ≡ Some x → j < k
    within_take xs k j x e =
        let lt : j < length (take k xs) = slice_get_within (take k xs) j x e in
        let same : length (take k xs) ≡ min k (length xs) = length-take k xs in
        omega (arith, min-le_left k (length xs))

    from_take : {X : Type 0} (xs : List X) (k j : ℕ) (x : X) → slice_get (take k xs) j ≡ Some x → slice_get xs j ≡ Some x
    from_take xs zero j x e = absurd (let lt : j < 0 = slice_get_within {A = _} [] j x e in omega arith)
    from_take [] (suc k) j x e = e
    from_take (y ∷ xs) (suc k) zero x e = e
    from_take (y ∷ xs) (suc k) (suc j) x e = from_take xs k j x e

-- ---- entries

abbrev entry_rule : Bor Bytes × Bor Rule → NamedRule
entry_rule entry = (entry.0.now, entry.1.now)

abbrev same_name : Bor Bytes → Bor Bytes → Bool
same_name a b = bytes_eq a.now b.now

-- a rule whose name is new goes to the end
pub entry_new : (entries : List (Bor Bytes × Bor Rule)) (name : Bor Bytes) (tree : Bor Rule) → Not (Contains (names_of (rules_told entries)) name.now)
    → insert_entry same_name entries name tree ≡ entries ++ (name, tree) ∷ []
entry_new [] name tree new = refl
entry_new (e ∷ entries) name tree new =
    let other : bytes_eq name.now e.0.now ≡ false =
    bytes_apart name.now e.0.now (λ h. new (there (names_of (rules_told (e ∷ entries))) 0 name.now (ap Some (sym h)))) in
    ap (λ (b : Bool). if b then (e.0, tree) ∷ entries else e ∷ insert_entry same_name entries name tree) other
    ∙ ap (λ (es : List (Bor Bytes × Bor Rule)). e ∷ es) (entry_new entries name tree (λ w. new (Contains-append_right (e.0.now ∷ []) (names_of (rules_told entries)) name.now w)))

pub rules_new : (old new : List (Bor Bytes × Bor Rule)) (name : Bor Bytes) (tree : Bor Rule) (rule : NamedRule) → new ≡ insert_entry same_name old name tree
    → (name.now, tree.now) ≡ rule → Not (Contains (names_of (rules_told old)) rule.0) → rules_told new ≡ rules_told old ++ rule ∷ []
rules_new old new name tree rule is same absent =
    let first : name.now ≡ rule.0 = ap (λ (r : NamedRule). r.0) same in
    ap rules_told (is ∙ entry_new old name tree (λ w. absent (subst (λ (n : Bytes). Contains (names_of (rules_told old)) n) first w)))
    ∙ map-append entry_rule old ((name, tree) ∷ [])
    ∙ ap (λ (r : NamedRule). rules_told old ++ r ∷ []) same

-- ---- names by first sight

pub name_seen : (all : List Bytes) (keys new : List (Bor Bytes)) (i : ℕ) (item : Bytes) (name : Bor Bytes) → name.now ≡ item
    → i < length all → item ≡ get_or all i item → new ≡ insert_key same_name keys name
    → AreFirstSights (take i all) (told keys) → AreFirstSights (take (i + 1) all) (told new)
name_seen all keys new i item name same lt at is before =
    subst (λ (seen : List Bytes). AreFirstSights seen (told new))
    (ap (λ (x : Bytes). take i all ++ x ∷ []) (same ∙ at) ∙ sym (take_more all i item lt))
    (subst (λ (found : List Bytes). AreFirstSights (take i all ++ name.now ∷ []) found) (sym (ap told is ∙ insert_map (λ (n : Bor Bytes). n.now) bytes_eq keys name))
    (sights_insert bytes_eq (λ a b. same_bytes a b) (λ a. bytes_same a a refl) (take i all) (told keys) name.now before))

-- ---- look-ups

some_step : {V : Type 0} (b : Bool) (v : V) (found : Option V) (rest : Bool) → is_some found ≡ rest → is_some (cond b (Some v) found) ≡ b || rest
some_step true v found rest h = refl
some_step false v found rest h = h

some_named : (entries : List (Bor Bytes × Bor Rule)) (name : Bytes) → is_some (lookup (λ (k : Bor Bytes). bytes_eq name k.now) entries) ≡ list_any (bytes_eq name) (names_of (rules_told entries))
some_named [] name = refl
some_named (e ∷ entries) name =
    some_step (bytes_eq name e.0.now) e.1 (lookup (λ (k : Bor Bytes). bytes_eq name k.now) entries) (list_any (bytes_eq name) (names_of (rules_told entries))) (some_named entries name)

pub name_found : (entries : List (Bor Bytes × Bor Rule)) (name : Bytes) (b : Bool) → b ≡ is_some (lookup (λ (k : Bor Bytes). bytes_eq name k.now) entries)
    → IsTrue b ↔ Contains (names_of (rules_told entries)) name
name_found entries name b is =
    let names = names_of (rules_told entries) in (
      λ t. Contains-list_any bytes_eq (λ x y. same_bytes x y) names name (sym (some_named entries name) ∙ sym is ∙ t),
      λ w. is ∙ some_named entries name ∙ any_at bytes_eq (λ x y. same_bytes x y) (λ x. bytes_same x x refl) names name w.0 (at_of names name w),
    )

tree_step : (b : Bool) (tree : Bor Rule) (found : Option (Bor Rule)) (rest : Option Rule) → told_tree found ≡ listed_tree rest
    → told_tree (cond b (Some tree) found) ≡ listed_tree (if b then Some tree.now else rest)
tree_step true tree found rest h = refl
tree_step false tree found rest h = h

pub tree_found : (entries : List (Bor Bytes × Bor Rule)) (name : Bytes) → told_tree (lookup (λ (k : Bor Bytes). bytes_eq name k.now) entries) ≡ listed_tree (tree_named (rules_told entries) name)
tree_found [] name = refl
tree_found (e ∷ entries) name = tree_step (bytes_eq name e.0.now) e.1 (lookup (λ (k : Bor Bytes). bytes_eq name k.now) entries) (tree_named (rules_told entries) name) (tree_found entries name)

-- a tree that is looked up among those that are lent
pub among_trees : (keys : List (Bor Rule)) (tree : Rule) (b : Bool) → b ≡ list_any (λ (k : Bor Rule). same_tree tree k.now) keys → IsTrue b ↔ Contains (trees keys) tree
among_trees keys tree b is =
    let same : list_any (λ (k : Bor Rule). same_tree tree k.now) keys ≡ list_any (same_tree tree) (trees keys) = any_map (λ (k : Bor Rule). k.now) same_tree tree keys in (
      λ t. Contains-list_any same_tree tree_same (trees keys) tree (sym same ∙ sym is ∙ t),
      λ w. is ∙ same ∙ any_at same_tree tree_same tree_itself (trees keys) tree w.0 (at_of (trees keys) tree w),
    )

-- ---- tokens that are a whole rule

abbrev tokens_at : Sight → List Rule
tokens_at sight = token_at sight.tree sight.inside

whole_token : (rules : List NamedRule) (rule : NamedRule) → Contains rules rule → is_token rule.1 ≡ true → Contains (tokens_in (seen_rules rules)) rule.1
whole_token rules rule w token = at rules w.0 (at_of rules rule w)
  where
    here : (tree : Rule) → is_token tree ≡ true → Contains (tokens_in (sights tree)) tree
    here tree e = subst (λ (b : Bool). Contains (if_token tree b ++ tokens_in (below tree false)) tree) (sym e) (there (tree ∷ tokens_in (below tree false)) 0 tree refl)

    split : (r : NamedRule) (rules : List NamedRule) → tokens_in (seen_rules (r ∷ rules)) ≡ tokens_in (sights r.1) ++ tokens_in (seen_rules rules)
    split r rules = flat_map-append tokens_at (sights r.1) (seen_rules rules)

    at : (rules : List NamedRule) (k : ℕ) → slice_get rules k ≡ Some rule → Contains (tokens_in (seen_rules rules)) rule.1
    at [] k e = absurd (let lt : k < 0 = slice_get_within {A = NamedRule} [] k rule e in omega arith)
    at (r ∷ rules) zero e =
        let f : Some r ≡ Some rule = e in
        let same : rule ≡ r = cc in
        subst (λ (ts : List Rule). Contains ts rule.1) (sym (split r rules))
        (Contains-append_left (tokens_in (sights r.1)) (tokens_in (seen_rules rules)) rule.1 (subst (λ (x : NamedRule). Contains (tokens_in (sights x.1)) rule.1) same (here rule.1 token)))
    at (r ∷ rules) (suc k) e =
        subst (λ (ts : List Rule). Contains ts rule.1) (sym (split r rules))
        (Contains-append_right (tokens_in (sights r.1)) (tokens_in (seen_rules rules)) rule.1 (at rules k e))

-- ---- the three tests

in_rules : (g : Grammar) (k : ℕ) (rule : NamedRule) → slice_get g.rules k ≡ Some rule → Contains g.rules rule
in_rules g k rule at = there g.rules k rule at

pub test_inlined : (g : Grammar) (k : ℕ) (rule : NamedRule) (inline names : List Bytes) (b : Bool) → slice_get g.rules k ≡ Some rule
    → inline ≡ g.inline → AreFirstSights inline names → IsTrue b ↔ Contains names rule.0 → IsTrue b ↔ IsInlinedRule g rule
test_inlined g k rule inline names b at is before h = let firsts : AreFirstSights g.inline names = subst (λ (xs : List Bytes). AreFirstSights xs names) is before in (
  λ t. record { listed = firsts.only rule.0 (h.0 t); rule = (rule.1, in_rules g k rule at) },
  λ w. h.1 (firsts.every rule.0 w.listed),
)

start_apart : (g : Grammar) → IsFileGrammar g → (k : ℕ) (rule : NamedRule) → slice_get g.rules k ≡ Some rule → 0 < k → Not (start_of g.rules ≡ Some rule.0)
start_apart g file k rule at low e = by g.rules refl
  where
    by : (rules : List NamedRule) → g.rules ≡ rules → ⊥
    by [] is = let lt : k < 0 = slice_get_within {A = NamedRule} [] k rule (subst (λ (rs : List NamedRule). slice_get rs k ≡ Some rule) is at) in omega arith
    by (r ∷ rules) is =
        let f : Some r.0 ≡ Some rule.0 = subst (λ (rs : List NamedRule). start_of rs ≡ Some rule.0) is e in
        let first : slice_get g.rules 0 ≡ Some r = subst (λ (rs : List NamedRule). slice_get rs 0 ≡ Some r) (sym is) refl in
        let names : r.0 ≡ rule.0 = cc in
        let same : 0 ≡ k = file.apart 0 k r rule first at names in
        omega arith

start_is : (g : Grammar) (rule : NamedRule) → slice_get g.rules 0 ≡ Some rule → start_of g.rules ≡ Some rule.0
start_is g rule at = by g.rules at
  where
    by : (rules : List NamedRule) → slice_get rules 0 ≡ Some rule → start_of rules ≡ Some rule.0
    by [] e = absurd (let lt : 0 < 0 = slice_get_within {A = NamedRule} [] 0 rule e in omega arith)
    by (r ∷ rules) e = let f : Some r ≡ Some rule = e in cc

pub test_named : (g : Grammar) → IsFileGrammar g → (k : ℕ) (rule : NamedRule) (tokens repeats : List Rule) (b : Bool) → slice_get g.rules k ≡ Some rule
    → AreSeenTokens (tokens_in (rule_sights g)) tokens repeats
    → IsTrue b ↔ ((0 < k) × (is_token rule.1 ≡ true) × Not (Contains repeats rule.1)) → IsTrue b ↔ NamesItsToken g rule
test_named g file k rule tokens repeats b at are h = (
  λ t. let w = h.0 t in record {
    is = in_rules g k rule at;
    other = start_apart g file k rule at w.0;
    token = w.1;
    once = are.once rule.1 (whole_token g.rules rule (in_rules g k rule at) w.1) w.2;
  },
  λ n. h.1 (positive k at n.other, n.token, λ w. twice_not_once (tokens_in (rule_sights g)) rule.1 (are.again rule.1 w) n.once),
)
  where
    positive : (j : ℕ) → slice_get g.rules j ≡ Some rule → Not (start_of g.rules ≡ Some rule.0) → 0 < j
    positive zero e other = absurd (other (start_is g rule e))
    positive (suc j) e other = omega arith

-- the rule that a name's token is found by
pub names_itself : (g : Grammar) → IsFileGrammar g → (rule : NamedRule) → Contains g.rules rule → NamesSome g rule.0 → NamesItsToken g rule
names_itself g file rule w n =
    subst (λ (t : Rule). NamesToken g rule.0 t) (one_rule g file rule.0 n.0 rule.1 n.1.is w) n.1

pub test_own : (g : Grammar) → IsFileGrammar g → (k : ℕ) (rule : NamedRule) (b named inlined : Bool) → slice_get g.rules k ≡ Some rule
    → IsTrue named ↔ NamesItsToken g rule → IsTrue inlined ↔ IsInlinedRule g rule → IsTrue b ↔ (Not (IsTrue named) × Not (IsTrue inlined))
    → IsTrue b ↔ HasSymbol g rule
test_own g file k rule b named inlined at n i h = (
  λ t. let w = h.0 t in record {
    unnamed = λ some. w.0 (n.1 (names_itself g file rule (in_rules g k rule at) some));
    kept = λ is. w.1 (i.1 is);
  },
  λ has. h.1 (λ t. has.unnamed (rule.1, n.0 t), λ t. has.kept (i.0 t)),
)

-- ---- one more rule

pub names_picked : (P : NamedRule → Type 0) (xs ys : List NamedRule) (name : Bytes) → Picks P xs ys → Contains (names_of ys) name → Contains (names_of xs) name
names_picked P xs ys name p w =
    let r = named_rule ys name w in
    let old = picked P xs ys r.0 p r.1 in
    subst (λ (n : Bytes). Contains (names_of xs) n) r.2 (name_of_rule xs r.0 old.0)

pub place_in : (g : Grammar) (all : List NamedRule) (k : ℕ) (rule : NamedRule) → all ≡ g.rules → k < length all → rule ≡ get_or all k rule → slice_get g.rules k ≡ Some rule
place_in g all k rule is lt at = subst (λ (xs : List NamedRule). slice_get xs k ≡ Some rule) is (slice_get_read all (length all) k rule refl lt at)

pub sort_more : (g : Grammar) → IsFileGrammar g → (P : NamedRule → Type 0) (k : ℕ) (rule : NamedRule) (old new : List NamedRule) (b : Bool)
    → slice_get g.rules k ≡ Some rule → IsTrue b ↔ P rule
    → (Not (Contains (names_of old) rule.0) → new ≡ old ++ kept_if b rule)
    → Picks P (take k g.rules) old → Picks P (take (k + 1) g.rules) new
sort_more g file P k rule old new b place test put before =
    let grown : new ≡ old ++ kept_if b rule = put (λ w. name_new g file k rule place (names_picked P (take k g.rules) old rule.0 before w)) in
    let lt : k < length g.rules = slice_get_within g.rules k rule place in
    let at : get_or g.rules k rule ≡ rule = get_or_from_slice_get g.rules k rule rule place in
    subst (λ (xs : List NamedRule). Picks P xs new) (ap (λ (r : NamedRule). take k g.rules ++ r ∷ []) (sym at) ∙ sym (take_more g.rules k rule lt))
    (subst (λ (ys : List NamedRule). Picks P (take k g.rules ++ rule ∷ []) ys) (sym grown) (picks_push P (take k g.rules) old rule b test before))

pub sort_done : (P : NamedRule → Type 0) (rules all found : List NamedRule) (k : ℕ) → all ≡ rules → length all ≤ k → Picks P (take k rules) found → Picks P rules found
sort_done P rules all found k is ge h =
    subst (λ (xs : List NamedRule). Picks P xs found) (take_all k rules (subst (λ (xs : List NamedRule). length xs ≤ k) is ge)) h

pub sort_none : (P : NamedRule → Type 0) (entries : List (Bor Bytes × Bor Rule)) → length entries ≡ 0 → Picks P [] (rules_told entries)
sort_none P [] none = end
sort_none P (e ∷ entries) none = let f : suc (length entries) ≡ 0 = none in absurd (omega arith)

-- ---- repeated contents

repeated_split : (seen : List Sight) → repeated_in seen ≡ filter is_repeated (contents_in seen)
repeated_split [] = refl
repeated_split (sight ∷ seen) =
    ap (λ (xs : List Rule). repeated_at sight.tree sight.inside ++ xs) (repeated_split seen)
    ∙ sym (filter-append is_repeated (content_at sight.tree sight.inside) (contents_in seen))

pub are_contents : (g : Grammar) (rules : List NamedRule) (slice items : List (Bor Rule)) (contents : List Rule) → rules ≡ g.rules → slice ≡ items
    → trees items ≡ repeated_in (seen_rules rules) → AreFirstSights (trees slice) contents → AreContents g contents
are_contents g rules slice items contents same lent is firsts = (
  trees slice,
  subst (λ (xs : List Rule). Picks IsRepeated (contents_in (rule_sights g)) xs) (sym (whole ∙ repeated_split (rule_sights g)))
      (filter_picks IsRepeated is_repeated (λ c. (λ t. t, λ t. t)) (contents_in (rule_sights g))),
  firsts,
)
  where
    whole : trees slice ≡ repeated_in (rule_sights g)
    whole = ap trees lent ∙ is ∙ ap (λ (rs : List NamedRule). repeated_in (seen_rules rs)) same

pub are_tokens : (g : Grammar) (rules : List NamedRule) (slice items : List (Bor Rule)) (tokens repeats : List Rule) → rules ≡ g.rules → slice ≡ items
    → trees items ≡ tokens_in (seen_rules rules) → AreSeenTokens (trees slice) tokens repeats → AreFirstSights (tokens_in (rule_sights g)) tokens
are_tokens g rules slice items tokens repeats same lent is are =
    subst (λ (seen : List Rule). AreFirstSights seen tokens) (ap trees lent ∙ is ∙ ap (λ (rs : List NamedRule). tokens_in (seen_rules rs)) same) are.first
