-- The rules to which repetitions belong, found from the last rule to the first.
use Rattle.std.proofs.Common.{◌≡◌, ◌∙◌, sym, ap, subst, refl, ℕ, zero, suc, ◌+◌, ◌<◌, ◌≤◌, ◌⊎◌, inl, inr, ⊎_elim, List, [], ◌∷◌, ◌++◌, filter, length, get_or, take, drop, set, slice_get, Some, All, Bool, true, false, cond, arith}
use Rattle.std.specs.Borrow.{Bor}
use Rattle.std.specs.List.{Contains}
use Rattle.std.proofs.lemmas.Bool.{cases_lt}
use Rattle.std.proofs.lemmas.List.{append-nil, take_all, drop_more, drop_all}
use Rattle.std.proofs.lemmas.List.Elements.{All-nil, All-cons, All-head, All-tail, Contains-append_left, Contains-push, Contains-push_cases}
use Rattle.std.proofs.lemmas.Option.{slice_get_within}
use Rattle.ts_base.proofs.PlaceLemmas.{set_here, set_there}
use Rattle.ts_core.specs.declared.rule.Grammar.{Grammar}
use Rattle.ts_core.specs.declared.rule.Rule.{Rule}
use Rattle.ts_core.specs.declared.symbol.Symbol.{Symbol}
use Rattle.ts_numbering.specs.Keys.{trees, is_repeated, repeated_at, repeated_in}
use Rattle.ts_rules.specs.FirstSights.{Not, First, Clear, Each}
use Rattle.ts_rules.specs.Numbers.{Numbers, Lists, AreLists, AreNumbers, IsRepeated, first_repetition, start_of}
use Rattle.ts_rules.specs.Sights.{NamedRule, Sight, sights, rule_sights, contents_in, content_at}
use Rattle.ts_entries.specs.Owners.{IsOwnerSymbol, HoldsContent, IsChosenSymbol, content_place, places_in, AreOwners, AreOwned}
use Rattle.ts_entries.proofs.MemberLemmas.{there, at_of, none_in, head_in, tail_in, member_cases, map_in, in_map, flat_in, in_flat, one_more, picked, picks_all, each_from}

-- ---- marks

equal_or_not : (j k : ℕ) → (j ≡ k) ⊎ (j ≡ k → ⊥)
equal_or_not j k = ⊎_elim (λ lt. inr (λ e. omega (arith, e))) (λ ge. ⊎_elim (λ lt. inr (λ e. omega (arith, e))) (λ le. inl (omega arith)) (cases_lt k j)) (cases_lt j k)

pub marked_more : (places : List ℕ) (owner : Symbol) (old new : List Symbol) (i place : ℕ) → i < length places → place ≡ get_or places i place → place < length old
    → AreOwned (take i places) owner old new → AreOwned (take (i + 1) places) owner old (set new place owner)
marked_more places owner old new i place lt at within before = record {
  count = length_set new place owner ∙ before.count;
  each = λ k s e. by k s e (equal_or_not k place);
}
  where
    length_set : (xs : List Symbol) (j : ℕ) (v : Symbol) → length (set xs j v) ≡ length xs
    length_set [] j v = refl
    length_set (x ∷ xs) zero v = refl
    length_set (x ∷ xs) (suc j) v = ap suc (length_set xs j v)

    longer : take (i + 1) places ≡ take i places ++ place ∷ []
    longer = one_more places i place lt at

    by : (k : ℕ) (s : Symbol) → slice_get (set new place owner) k ≡ Some s → (k ≡ place) ⊎ (k ≡ place → ⊥)
        → (Contains (take (i + 1) places) k × (s ≡ owner)) ⊎ (Not (Contains (take (i + 1) places) k) × (slice_get old k ≡ Some s))
    by k s e (inl same) =
        let here : slice_get (set new place owner) place ≡ Some owner = set_here new place owner (omega (arith, within, before.count)) in
        let f : Some s ≡ Some owner = sym e ∙ ap (slice_get (set new place owner)) same ∙ here in
        inl (subst (λ (xs : List ℕ). Contains xs k) (sym longer) (subst (λ (j : ℕ). Contains (take i places ++ place ∷ []) j) (sym same) (Contains-push (take i places) place)), let g : s ≡ owner = cc in g)
    by k s e (inr apart) = ⊎_elim
        (λ done. inl (subst (λ (xs : List ℕ). Contains xs k) (sym longer) (Contains-append_left (take i places) (place ∷ []) k done.0), done.1))
        (λ not_done. inr (
          λ w. ⊎_elim (λ v. not_done.0 v) (λ is. apart (sym is)) (Contains-push_cases (take i places) place k (subst (λ (xs : List ℕ). Contains xs k) longer w)),
          not_done.1,
        ))
        (before.each k s (sym (set_there new place k owner apart) ∙ e))

-- ---- repeated contents

filter_in : (c : Rule) (xs : List Rule) → Contains (filter is_repeated xs) c → Contains xs c × IsRepeated c
filter_in c [] w = absurd (none_in c w)
filter_in c (x ∷ xs) w = by (λ v. filter_in c xs v) (is_repeated x) refl w
  where
    by : (Contains (filter is_repeated xs) c → Contains xs c × IsRepeated c) → (b : Bool) → is_repeated x ≡ b → Contains (cond b (x ∷ filter is_repeated xs) (filter is_repeated xs)) c → Contains (x ∷ xs) c × IsRepeated c
    by later true e v = ⊎_elim
        (λ is. (subst (λ (y : Rule). Contains (x ∷ xs) y) (sym is) (head_in x xs), ap is_repeated is ∙ e))
        (λ u. let r = later u in (tail_in x c xs r.0, r.1))
        (member_cases x c (filter is_repeated xs) v)
    by later false e v = let r = later v in (tail_in x c xs r.0, r.1)

in_filter : (c : Rule) (xs : List Rule) → Contains xs c → IsRepeated c → Contains (filter is_repeated xs) c
in_filter c [] w h = absurd (none_in c w)
in_filter c (x ∷ xs) w h = by (λ u. in_filter c xs u h) (is_repeated x) refl
  where
    by : (Contains xs c → Contains (filter is_repeated xs) c) → (b : Bool) → is_repeated x ≡ b → Contains (cond (is_repeated x) (x ∷ filter is_repeated xs) (filter is_repeated xs)) c
    by later true e = subst (λ (b : Bool). Contains (cond b (x ∷ filter is_repeated xs) (filter is_repeated xs)) c) (sym e)
        (⊎_elim (λ is. subst (λ (y : Rule). Contains (x ∷ filter is_repeated xs) y) (sym is) (head_in x (filter is_repeated xs))) (λ u. tail_in x c (filter is_repeated xs) (later u)) (member_cases x c xs w))
    by later false e = subst (λ (b : Bool). Contains (cond b (x ∷ filter is_repeated xs) (filter is_repeated xs)) c) (sym e)
        (⊎_elim (λ is. absurd (let f : true ≡ false = sym h ∙ ap is_repeated is ∙ e in cc)) (λ u. later u) (member_cases x c xs w))

abbrev content_of : Sight → List Rule
content_of s = content_at s.tree s.inside

abbrev repeated_of : Sight → List Rule
repeated_of s = repeated_at s.tree s.inside

repeated_from : (seen : List Sight) (c : Rule) → Contains (repeated_in seen) c → Contains (contents_in seen) c × IsRepeated c
repeated_from seen c w =
    let r = in_flat repeated_of seen c w in
    let f = filter_in c (content_of r.0) r.2 in
    (flat_in content_of seen r.0 c r.1 f.0, f.1)

repeated_to : (seen : List Sight) (c : Rule) → Contains (contents_in seen) c → IsRepeated c → Contains (repeated_in seen) c
repeated_to seen c w h =
    let r = in_flat content_of seen c w in
    flat_in repeated_of seen r.0 c r.1 (in_filter c (content_of r.0) r.2 h)

nat_in : (k : ℕ) (ks : List ℕ) → Contains ks k ⊎ Not (Contains ks k)
nat_in k [] = inr (λ w. none_in k w)
nat_in k (j ∷ ks) = by (equal_or_not k j) (nat_in k ks)
  where
    by : (k ≡ j) ⊎ (k ≡ j → ⊥) → Contains ks k ⊎ Not (Contains ks k) → Contains (j ∷ ks) k ⊎ Not (Contains (j ∷ ks) k)
    by (inl same) later = inl (subst (λ (i : ℕ). Contains (j ∷ ks) i) (sym same) (head_in j ks))
    by (inr apart) (inl later) = inl (tail_in j k ks later)
    by (inr apart) (inr not_later) = inr (λ w. ⊎_elim (λ e. apart e) (λ v. not_later v) (member_cases j k ks w))

all_from : (P : ℕ → Type 0) (ks : List ℕ) → ((k : ℕ) → Contains ks k → P k) → All P ks
all_from P [] h = All-nil P
all_from P (k ∷ ks) h = All-cons P k ks (h k (head_in k ks)) (all_from P ks (λ j w. h j (tail_in k j ks w)))

some_at : {X : Type 0} (xs : List X) (k : ℕ) → k < length xs → (x : X) × (slice_get xs k ≡ Some x)
some_at [] k lt = absurd (omega arith)
some_at (x ∷ xs) zero lt = (x, refl)
some_at (x ∷ xs) (suc k) lt = some_at xs k (omega arith)

-- the first with a property that can be decided
first_from : {X : Type 0} (P : X → Type 0) (xs : List X) → ((x : X) → Contains xs x → P x ⊎ Not (P x)) → (x : X) → Contains xs x → P x → (y : X) × First P xs y
first_from P [] decide x w p = absurd (none_in x w)
first_from {X = X} P (y ∷ xs) decide x w p = by (λ v. first_from P xs (λ z u. decide z (tail_in y z xs u)) x v p) (decide y (head_in y xs))
  where
    by : (Contains xs x → (z : X) × First P xs z) → P y ⊎ Not (P y) → (z : X) × First P (y ∷ xs) z
    by later (inl holds) = (y, record { before = []; after = xs; is = refl; holds = holds; clear = All-nil (λ (z : X). Not (P z)) })
    by later (inr fails) = ⊎_elim
        (λ e. absurd (fails (subst P e p)))
        (λ v.
        let r = later v in (
          r.0,
          record {
            before = y ∷ r.1.before;
            after = r.1.after;
            is = ap (λ (zs : List X). y ∷ zs) r.1.is;
            holds = r.1.holds;
            clear = All-cons (λ (z : X). Not (P z)) y r.1.before fails r.1.clear;
          },
        ))
        (member_cases y x xs w)

rule_seen : (g : Grammar) (rule : NamedRule) → Contains g.rules rule → (s : Sight) → Contains (sights rule.1) s → Contains (rule_sights g) s
rule_seen g rule w s v = flat_in (λ (r : NamedRule). sights r.1) g.rules rule s w v

-- a content of a rule is one of the grammar
content_seen : (g : Grammar) (rule : NamedRule) (c : Rule) → Contains g.rules rule → Contains (contents_in (sights rule.1)) c → Contains (contents_in (rule_sights g)) c
content_seen g rule c w v =
    let r = in_flat content_of (sights rule.1) c v in
    flat_in content_of (rule_sights g) r.0 c (rule_seen g rule w r.0 r.1) r.2

-- ---- the owners

module _ (g : Grammar) (n : Numbers) (x : Lists) (lists : AreLists g x) (numbers : AreNumbers g n x) where
  is_content : (k : ℕ) (c : Rule) → slice_get x.contents k ≡ Some c → Contains (contents_in (rule_sights g)) c × IsRepeated c
  is_content k c at = let seen = lists.contents in picked IsRepeated (contents_in (rule_sights g)) seen.0 c seen.1 (seen.2.only c (there x.contents k c at))

  has_place : (c : Rule) → Contains (contents_in (rule_sights g)) c → IsRepeated c → Contains x.contents c
  has_place c w h = let seen = lists.contents in seen.2.every c (picks_all IsRepeated (contents_in (rule_sights g)) seen.0 c seen.1 w h)

  at_place : (k : ℕ) (c : Rule) → slice_get x.contents k ≡ Some c → content_place n x c ≡ k
  at_place k c at = let e : n.repetition c ≡ first_repetition x + k = numbers.contents k c at in omega (arith, e)

  -- the repeated contents of a rule have their places
  placed : (rule : NamedRule) (k : ℕ) → Contains g.rules rule → Contains (places_in n x rule.1) k → (c : Rule) × (slice_get x.contents k ≡ Some c) × HoldsContent c rule
  placed rule k w v =
      let r = in_map (content_place n x) (repeated_in (sights rule.1)) k v in
      let f = repeated_from (sights rule.1) r.0 r.1 in
      let u : Contains x.contents r.0 = has_place r.0 (content_seen g rule r.0 w f.0) f.1 in
      let at : slice_get x.contents u.0 ≡ Some r.0 = at_of x.contents r.0 u in
      let same : u.0 ≡ k = sym (at_place u.0 r.0 at) ∙ r.2 in
      (r.0, subst (λ (j : ℕ). slice_get x.contents j ≡ Some r.0) same at, f.0)

  holds_of : (rule : NamedRule) (k : ℕ) (c : Rule) → Contains g.rules rule → slice_get x.contents k ≡ Some c → Contains (places_in n x rule.1) k → HoldsContent c rule
  holds_of rule k c w at v =
      let r = placed rule k w v in
      let f : Some r.0 ≡ Some c = sym r.1 ∙ at in
      let same : r.0 ≡ c = cc in
      subst (λ (d : Rule). HoldsContent d rule) same r.2

  place_in : (rule : NamedRule) (k : ℕ) (c : Rule) → slice_get x.contents k ≡ Some c → HoldsContent c rule → Contains (places_in n x rule.1) k
  place_in rule k c at h =
      subst (λ (j : ℕ). Contains (places_in n x rule.1) j) (at_place k c at)
      (map_in (content_place n x) (repeated_in (sights rule.1)) c (repeated_to (sights rule.1) c h (is_content k c at).1))

  pub places_within : (rule : NamedRule) (m : ℕ) → Contains g.rules rule → m ≡ length x.contents → All (λ (k : ℕ). k < m) (places_in n x rule.1)
  places_within rule m w same = all_from (λ (k : ℕ). k < m) (places_in n x rule.1) (λ k v.
      let r = placed rule k w v in
      let lt : k < length x.contents = slice_get_within x.contents k r.0 r.1 in
      omega (arith, same))

  pub owners_begin : (rules : List NamedRule) (owners : List Symbol) (i : ℕ) → length owners ≡ length x.contents → length rules ≤ i → AreOwners g n x (drop i rules) owners
  owners_begin rules owners i count past = record {
    count = count;
    each = λ k c rule at f. absurd (none_first c rule (subst (λ (rs : List NamedRule). First (HoldsContent c) rs rule) (drop_all i rules past) f));
  }
    where
      none_first : (c : Rule) (rule : NamedRule) → First (HoldsContent c) [] rule → ⊥
      none_first c rule f = by f.before f.is
        where
          by : (bs : List NamedRule) → [] ≡ bs ++ rule ∷ f.after → ⊥
          by [] e = let d : [] ≡ rule ∷ f.after = e in cc
          by (b ∷ bs) e = let d : [] ≡ b ∷ (bs ++ rule ∷ f.after) = e in cc

  pub owners_more : (rules : List NamedRule) (old new : List Symbol) (i : ℕ) (rule : NamedRule) (owner : Symbol) → i < length rules → rule ≡ get_or rules i rule → Contains g.rules rule
      → IsChosenSymbol g n rule.0 owner → AreOwned (places_in n x rule.1) owner old new → AreOwners g n x (drop (i + 1) rules) old → AreOwners g n x (drop i rules) new
  owners_more rules old new i rule owner lt at w chosen marked before = record {
    count = marked.count ∙ before.count;
    each = λ k c r is f. found k c r is (subst (λ (rs : List NamedRule). First (HoldsContent c) rs r) longer f);
  }
    where
      rest : List NamedRule
      rest = drop (i + 1) rules

      longer : drop i rules ≡ rule ∷ rest
      longer = drop_more rules i rule lt ∙ ap (λ (r : NamedRule). r ∷ rest) (sym at)

      Found : ℕ → NamedRule → Type 0
      Found k r = (s : Symbol) × (slice_get new k ≡ Some s) × IsChosenSymbol g n r.0 s

      first : (k : ℕ) (c : Rule) (r : NamedRule) (s : Symbol) → slice_get x.contents k ≡ Some c → slice_get new k ≡ Some s → (bs : List NamedRule) (f : First (HoldsContent c) (rule ∷ rest) r) → rule ∷ rest ≡ bs ++ r ∷ f.after → Clear (HoldsContent c) bs
          → (Contains (places_in n x rule.1) k × (s ≡ owner)) ⊎ (Not (Contains (places_in n x rule.1) k) × (slice_get old k ≡ Some s)) → Found k r
      first k c r s is e [] f d clear (inl here) =
          let same : rule ≡ r = (let h : rule ∷ rest ≡ r ∷ f.after = d in cc) in
          (s, e, subst (λ (q : NamedRule). IsChosenSymbol g n q.0 s) same (subst (λ (z : Symbol). IsChosenSymbol g n rule.0 z) (sym here.1) chosen))
      first k c r s is e [] f d clear (inr away) =
          let same : rule ≡ r = (let h : rule ∷ rest ≡ r ∷ f.after = d in cc) in
          absurd (away.0 (place_in rule k c is (subst (λ (q : NamedRule). HoldsContent c q) (sym same) f.holds)))
      first k c r s is e (b ∷ bs) f d clear (inl here) =
          let same : b ≡ rule = (let h : rule ∷ rest ≡ b ∷ (bs ++ r ∷ f.after) = d in cc) in
          absurd (All-head (λ (q : NamedRule). Not (HoldsContent c q)) b bs clear (subst (λ (q : NamedRule). HoldsContent c q) (sym same) (holds_of rule k c w is here.0)))
      first k c r s is e (b ∷ bs) f d clear (inr away) =
          let tail : rest ≡ bs ++ r ∷ f.after = (let h : rule ∷ rest ≡ b ∷ (bs ++ r ∷ f.after) = d in cc) in
          let old_one = before.each k c r is (record { before = bs; after = f.after; is = tail; holds = f.holds; clear = All-tail (λ (q : NamedRule). Not (HoldsContent c q)) b bs clear }) in
          let both : Some old_one.0 ≡ Some s = sym old_one.1 ∙ away.1 in
          let same : old_one.0 ≡ s = cc in
          (s, e, subst (λ (z : Symbol). IsChosenSymbol g n r.0 z) same old_one.2)

      found : (k : ℕ) (c : Rule) (r : NamedRule) → slice_get x.contents k ≡ Some c → First (HoldsContent c) (rule ∷ rest) r → Found k r
      found k c r is f =
          let lt : k < length x.contents = slice_get_within x.contents k c is in
          let one = some_at new k (omega (arith, marked.count, before.count)) in
          first k c r one.0 is one.1 f.before f f.is f.clear (marked.each k one.0 one.1)

  pub owners_all : (owners : List Symbol) → AreOwners g n x (drop 0 g.rules) owners → Each (IsOwnerSymbol g n) x.contents owners
  owners_all owners are = each_from (IsOwnerSymbol g n) x.contents owners are.count (λ k c s at e. owned k c s at e)
    where
      whole : (rules : List NamedRule) → drop 0 rules ≡ rules
      whole [] = refl
      whole (r ∷ rules) = refl

      owned : (k : ℕ) (c : Rule) (s : Symbol) → slice_get x.contents k ≡ Some c → slice_get owners k ≡ Some s → IsOwnerSymbol g n c s
      owned k c s at e =
          let is = is_content k c at in
          let sight = in_flat content_of (rule_sights g) c is.0 in
          let rule = in_flat (λ (r : NamedRule). sights r.1) g.rules sight.0 sight.1 in
          let holds : HoldsContent c rule.0 = flat_in content_of (sights rule.0.1) sight.0 c rule.2 sight.2 in
          let decide : (r : NamedRule) → Contains g.rules r → HoldsContent c r ⊎ Not (HoldsContent c r)
          = λ r w. ⊎_elim (λ v. inl (holds_of r k c w at v)) (λ no. inr (λ h. no (place_in r k c at h))) (nat_in k (places_in n x r.1)) in
          let first = first_from (HoldsContent c) g.rules decide rule.0 rule.1 holds in
          let one = are.each k c first.0 at (subst (λ (rs : List NamedRule). First (HoldsContent c) rs first.0) (sym (whole g.rules)) first.1) in
          let both : Some one.0 ≡ Some s = sym one.1 ∙ e in
          let same : one.0 ≡ s = cc in
          let chosen = one.2 in
          (chosen.0, (first.0, first.1, chosen.1), sym same ∙ chosen.2)

pub rule_there : (rules : List NamedRule) (i : ℕ) (rule : NamedRule) → i < length rules → rule ≡ get_or rules i rule → Contains rules rule
rule_there rules i rule lt at = (i, lt, sym at)

pub first_of : (rules : List NamedRule) (rule : NamedRule) → Not (rules ≡ []) → rule ≡ get_or rules 0 rule → start_of rules ≡ Some rule.0
first_of [] rule some e = absurd (some refl)
first_of (r ∷ rules) rule some e = ap (λ (q : NamedRule). Some q.0) (sym e)

-- what is written through a slice of the whole list
pub written : {X : Type 0} (n : ℕ) (new old : List X) → length old ≤ length new → length new ≤ n → take n (new ++ drop (length new) old) ≡ new
written {X = X} n new old le within =
    ap (λ (rest : List X). take n (new ++ rest)) (drop_all (length new) old le)
    ∙ ap (take n) (append-nil new)
    ∙ take_all n new within

pub length_trees : (keys : List (Bor Rule)) → length (trees keys) ≡ length keys
length_trees [] = refl
length_trees (k ∷ keys) = ap suc (length_trees keys)
