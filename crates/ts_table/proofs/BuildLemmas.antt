-- Rows that are added one by one, and the least conflict so far.
use Rattle.std.proofs.Common.{◌≡◌, ◌∙◌, sym, ap, refl, subst, ℕ, suc, ◌+◌, ◌<◌, ◌⊎◌, inl, inr, ⊎_elim, List, [], ◌∷◌, ◌++◌, length, length-append, slice_get, Option, Some, None, arith, append_assoc}
use Rattle.std.specs.Prelude.{MatchOption}
use Rattle.std.specs.Global.{Vec}
use Rattle.std.proofs.lemmas.List.{append-nil}
use Rattle.ts_core.specs.declared.action.Action.{Action}
use Rattle.ts_core.specs.declared.symbol.Symbol.{Symbol}
use Rattle.ts_core.specs.declared.flat.FlatGrammar.{FlatGrammar}
use Rattle.spec_grammar.specs.Symbols.{start_symbol}
use Rattle.spec_tables.specs.Items.{Item, Valid, advanced, start_item}
use Rattle.spec_tables.specs.Actions.{Move, Act, may_shift, may_reduce, may_accept}
use Rattle.spec_tables.specs.Conflicts.{Conflicts, IsDeclared, IsUndeclared, IsFirstUndeclared}
use Rattle.ts_items.specs.declared.part.Items.{Items}
use Rattle.ts_items.specs.Closing.{AddsSets}
use Rattle.ts_items.specs.Collection.{IsReachedBy, StandsFor}
use Rattle.ts_table.specs.declared.arrays.Arrays.{Arrays}
use Rattle.ts_table.specs.declared.arrays.RowPlaces.{RowPlaces}
use Rattle.ts_table.specs.declared.refusals.Refusal.{Refusal}
use Rattle.ts_table.specs.declared.rows.Ready.{Ready}
use Rattle.ts_table.specs.declared.rows.Entry.{Entry}
use Rattle.ts_table.specs.Rules.{IsUndeclaredAt, ComesFirst}
use Rattle.ts_table.specs.Rows.{IsReadySet, IsEntryOn, HoldsList, IsListOn, AreListPlaces, IsCellBefore, IsLeastTo, IsRowAt, AreRowsTo, IsStillLeast}
use Rattle.ts_table.specs.Tables.{EachOnce}
use Rattle.ts_table.proofs.ListLemmas.{at_front, snoc_at, three}
use Rattle.ts_table.proofs.ItemLemmas.{valid_token, reached_within}
use Rattle.ts_table.proofs.RefusalLemmas.{comes_through, same_rising}

-- ---- lists that stay

pub holds_grown : {X : Type 0} (old new : List (Vec X)) (k : ℕ) (xs : List X) → AddsSets old new → HoldsList old k xs → HoldsList new k xs
holds_grown {X} old new k xs grows h = (h.0, subst (λ (l : List (Vec X)). slice_get l k ≡ Some h.0) (sym grows.is) (at_front old grows.more k h.0 h.1), h.2)

pub grows_not : {X : Type 0} (old : List X) → AddsSets old old
grows_not old = record { more = []; is = sym (append-nil old) }

pub grows_both : {X : Type 0} (a b c : List X) → AddsSets a b → AddsSets b c → AddsSets a c
grows_both {X} a b c x y = record { more = x.more ++ y.more; is = y.is ∙ ap (λ (l : List X). l ++ y.more) x.is ∙ append_assoc a x.more y.more }

places_grown : (g : FlatGrammar) (items : Items) (n : ℕ) (old new : List (Vec Action)) (count : ℕ) (row : List ℕ) → AddsSets old new → AreListPlaces g items n old count row → AreListPlaces g items n new count row
places_grown g items n old new count row grows are = record {
  size = are.size;
  each = λ token c at. let w = are.each token c at in (w.0, holds_grown old new c w.0 grows w.1, w.2);
}

pub places_begin : (g : FlatGrammar) (items : Items) (n : ℕ) (lists : List (Vec Action)) (row : List ℕ) → row ≡ [] → AreListPlaces g items n lists 0 row
places_begin g items n lists row none = record {
  size = ap (λ (l : List ℕ). length l) none;
  each = λ token c at. absurd (let e : None ≡ Some c = subst (λ (l : List ℕ). slice_get l token ≡ Some c) none at in cc);
}

pub places_more : (g : FlatGrammar) (items : Items) (n token : ℕ) (old new : List (Vec Action)) (row : List ℕ) (c : ℕ) (list : List Action) → AddsSets old new → AreListPlaces g items n old token row → HoldsList new c list → IsListOn g items n token list
    → AreListPlaces g items n new (token + 1) (row ++ c ∷ [])
places_more g items n token old new row c list grows are holds on = record {
  size = (let a = length-append row (c ∷ []) in let b = are.size in omega (arith, a, b));
  each = λ t d at. ⊎_elim
      (λ w. (places_grown g items n old new token row grows are).each t d w)
      (λ w. (list, subst (λ (k : ℕ). HoldsList new k list) w.1 holds, subst (λ (u : ℕ). IsListOn g items n u list) (sym (w.0 ∙ are.size)) on))
      (snoc_at row c d t at);
}

row_grown : (g : FlatGrammar) (items : Items) (a b : Arrays) (n : ℕ) (p : RowPlaces) → AddsSets a.gotos.keys b.gotos.keys → AddsSets a.actions.keys b.actions.keys → AddsSets a.lists.keys b.lists.keys → IsRowAt g items a n p → IsRowAt g items b n p
row_grown g items a b n p gg ga gl r = record {
  state = r.state;
  at = r.at;
  goto_row = r.goto_row;
  gotos_at = holds_grown a.gotos.keys b.gotos.keys p.gotos r.goto_row gg r.gotos_at;
  gotos = r.gotos;
  token_row = r.token_row;
  actions_at = holds_grown a.actions.keys b.actions.keys p.actions r.token_row ga r.actions_at;
  actions = places_grown g items n a.lists.keys b.lists.keys (start_symbol g) r.token_row gl r.actions;
}

pub rows_more : (g : FlatGrammar) (items : Items) (a b : Arrays) (at : ℕ) (p : RowPlaces) → AddsSets a.gotos.keys b.gotos.keys → AddsSets a.actions.keys b.actions.keys → AddsSets a.lists.keys b.lists.keys → b.states.items ≡ a.states.items ++ p ∷ [] → AreRowsTo g items a at → IsRowAt g items b at p
    → AreRowsTo g items b (suc at)
rows_more g items a b at p gg ga gl is are one = record {
  size = (let x = ap (λ (l : List RowPlaces). length l) is in let y = length-append a.states.items (p ∷ []) in let z = are.size in omega (arith, x, y, z));
  each = λ n q h. ⊎_elim
      (λ w. row_grown g items a b n q gg ga gl (are.each n q w))
      (λ w. subst (λ (k : ℕ). IsRowAt g items b k q) (sym (w.0 ∙ are.size)) (subst (IsRowAt g items b at) w.1 one))
      (snoc_at a.states.items p q n (subst (λ (l : List RowPlaces). slice_get l n ≡ Some q) is h));
}

pub row_made : (g : FlatGrammar) (items : Items) (b : Arrays) (set : Ready) (p : RowPlaces) (row : List ℕ) (lists : List (Vec Action)) → (ready : IsReadySet g items set) → HoldsList b.gotos.keys p.gotos set.gotos.items → HoldsList b.actions.keys p.actions row
    → b.lists.keys ≡ lists → AreListPlaces g items set.at lists (start_symbol g) row → IsRowAt g items b set.at p
row_made g items b set p row lists ready hg ha same places = record {
  state = ready.state;
  at = ready.at;
  goto_row = set.gotos.items;
  gotos_at = hg;
  gotos = ready.gotos;
  token_row = row;
  actions_at = ha;
  actions = subst (λ (l : List (Vec Action)). AreListPlaces g items set.at l (start_symbol g) row) (sym same) places;
}

-- ---- the least so far

step_before : (k u n t : ℕ) → IsCellBefore k u n (t + 1) → IsCellBefore k u n t ⊎ ((k ≡ n) × (u ≡ t))
step_before k u n t b = ⊎_elim (λ lt. inl (inl lt)) (λ w. by (three u t) w) b
  where
    by : (u < t) ⊎ ((u ≡ t) ⊎ (t < u)) → (k ≡ n) × (u < t + 1) → IsCellBefore k u n t ⊎ ((k ≡ n) × (u ≡ t))
    by o w = ⊎_elim (λ lt. inl (inr (w.0, lt))) (λ p. ⊎_elim (λ e. inr (w.0, e)) (λ gt. absurd (let lt = w.1 in omega (arith, lt, gt))) p) o

pub least_begins : (g : FlatGrammar) (items : Items) (least : Option Refusal) → least ≡ None → IsLeastTo g items 0 0 least
least_begins g items least none = subst (IsLeastTo g items 0 0) (sym none) (λ k u read b reach c. absurd (⊎_elim (λ lt. omega (arith, lt)) (λ w. let lt = w.1 in omega (arith, lt)) b))

module _ (g : FlatGrammar) (items : Items) (stands : StandsFor g items) (n t : ℕ) (inside : n < length items.states.items) where
  same_rules : (read : List ℕ) (xs ys : List Symbol) → IsUndeclaredAt g read t xs → IsUndeclaredAt g read t ys → xs ≡ ys
  same_rules read xs ys a b = same_rising xs ys a.rise b.rise (λ s. ((λ h. (b.rules_are s.0).0 ((a.rules_are s.0).1 h)), (λ h. (a.rules_are s.0).0 ((b.rules_are s.0).1 h))))

  pub least_more : (old : Option Refusal) (refused : Option (Vec Symbol)) (new : Option Refusal)
      → ((read : List ℕ) → IsReachedBy items read n → MatchOption refused (Conflicts g read t → IsDeclared g read t) (λ rules. IsUndeclaredAt g read t rules.items))
      → IsStillLeast old t refused new → IsLeastTo g items n t old → IsLeastTo g items n (t + 1) new
  least_more old None new entry is so_far = subst (IsLeastTo g items n (t + 1)) (sym is) (by old so_far)
    where
      at_cell : (k u : ℕ) (read : List ℕ) → (k ≡ n) × (u ≡ t) → IsReachedBy items read k → Conflicts g read u → IsDeclared g read u
      at_cell k u read w reach c = subst (λ (j : ℕ). IsDeclared g read j) (sym w.1) (entry read (subst (IsReachedBy items read) w.0 reach) (subst (Conflicts g read) w.1 c))

      by : (o : Option Refusal) → IsLeastTo g items n t o → IsLeastTo g items n (t + 1) o
      by None f = λ k u read b reach c. ⊎_elim (λ w. f k u read w reach c) (λ w. at_cell k u read w reach c) (step_before k u n t b)
      by (Some r) f = (f.0, (λ k u read rules b reach un. ⊎_elim (λ w. f.1 k u read rules w reach un) (λ w. absurd (un.undeclared (at_cell k u read w reach un.conflicts))) (step_before k u n t b)))
  least_more old (Some rules) new entry is so_far = subst (IsLeastTo g items n (t + 1)) (sym is.1) (there, all)
    where
      r : Refusal
      r = is.0

      some : (read : List ℕ) × IsReachedBy items read n
      some = let w = stands.reached n inside in (w.0, w.2)

      from_old : (o : Option Refusal) → IsLeastTo g items n t o → o ≡ Some is.0 → (read : List ℕ) × IsUndeclaredAt g read is.0.token is.0.rules.items
      from_old None f e = absurd (let z : None ≡ Some is.0 = e in cc)
      from_old (Some o) f e = let same : o ≡ is.0 = (let z : Some o ≡ Some is.0 = e in cc) in subst (λ (p : Refusal). (read : List ℕ) × IsUndeclaredAt g read p.token p.rules.items) same f.0

      there : (read : List ℕ) × IsUndeclaredAt g read is.0.token is.0.rules.items
      there = ⊎_elim
          (λ w.
          let e = entry some.0 some.1 in
          (some.0, subst (λ (k : ℕ). IsUndeclaredAt g some.0 k is.0.rules.items) (sym w.0) (subst (IsUndeclaredAt g some.0 t) (sym w.1) e)))
          (λ e. from_old old so_far e)
          is.2.one

      past : (o : Option Refusal) → IsLeastTo g items n t o → old ≡ o → (k u : ℕ) (read : List ℕ) (others : List Symbol) → IsCellBefore k u n t → IsReachedBy items read k → IsUndeclaredAt g read u others → ComesFirst is.0.token is.0.rules.items u others
      past None f e k u read others b reach un = absurd (un.undeclared (f k u read b reach un.conflicts))
      past (Some o) f e k u read others b reach un = comes_through is.0.token o.token u is.0.rules.items o.rules.items others (is.2.before o e) (f.1 k u read others b reach un)

      here : (k u : ℕ) (read : List ℕ) (others : List Symbol) → (k ≡ n) × (u ≡ t) → IsReachedBy items read k → IsUndeclaredAt g read u others → ComesFirst is.0.token is.0.rules.items u others
      here k u read others w reach un =
          let e = entry read (subst (IsReachedBy items read) w.0 reach) in
          let same = same_rules read rules.items others e (subst (λ (j : ℕ). IsUndeclaredAt g read j others) w.1 un) in
          subst (λ (j : ℕ). ComesFirst is.0.token is.0.rules.items j others) (sym w.1) (subst (ComesFirst is.0.token is.0.rules.items t) same is.2.new)

      all : (k u : ℕ) (read : List ℕ) (others : List Symbol) → IsCellBefore k u n (t + 1) → IsReachedBy items read k → IsUndeclaredAt g read u others → ComesFirst is.0.token is.0.rules.items u others
      all k u read others b reach un = ⊎_elim (λ w. past old so_far refl k u read others w reach un) (λ w. here k u read others w reach un) (step_before k u n t b)

-- a conflict is on a token, or on the end
pub act_token : (g : FlatGrammar) (read : List ℕ) (t : ℕ) (m : Move) → Act g read t m → t < start_symbol g
act_token g read t _ (may_shift s none) = let le = s.is_token.1 in omega (arith, le)
act_token g read t _ (may_reduce i number r line none) = let le = valid_token g read i r.reduces.valid in let e = r.reduces.on in omega (arith, le, e)
act_token g read t _ (may_accept e v) = omega (arith, e)

pub act_valid : (g : FlatGrammar) (read : List ℕ) (t : ℕ) (m : Move) → Act g read t m → (i : Item) × Valid g read i
act_valid g read t _ (may_shift s none) = (s.item, s.valid)
act_valid g read t _ (may_reduce i number r line none) = (i, r.reduces.valid)
act_valid g read t _ (may_accept e v) = (advanced start_item, v)

next_before : (g : FlatGrammar) (k u n : ℕ) → u < start_symbol g → IsCellBefore k u (suc n) 0 → IsCellBefore k u n (start_symbol g)
next_before g k u n few b = ⊎_elim (λ lt. ⊎_elim (λ l. inl l) (λ o. ⊎_elim (λ e. inr (e, few)) (λ gt. absurd (omega (arith, lt, gt))) o) (three k n)) (λ w. absurd (let lt = w.1 in omega (arith, lt))) b

pub least_next : (g : FlatGrammar) (items : Items) (n : ℕ) (o : Option Refusal) → IsLeastTo g items n (start_symbol g) o → IsLeastTo g items (suc n) 0 o
least_next g items n None f = λ k u read b reach c. f k u read (next_before g k u n (act_token g read u c.one c.one_stays) b) reach c
least_next g items n (Some r) f = (f.0, (λ k u read rules b reach un. f.1 k u read rules (next_before g k u n (act_token g read u un.conflicts.one un.conflicts.one_stays) b) reach un))

-- ---- the end

reached_before : (g : FlatGrammar) (items : Items) → StandsFor g items → (read : List ℕ) (t : ℕ) → Conflicts g read t → (n : ℕ) × IsReachedBy items read n × IsCellBefore n t (length items.states.items) 0
reached_before g items stands read t c =
    let v = act_valid g read t c.one c.one_stays in
    let w = stands.complete read v.0 v.1 in
    (w.0, w.1, inl (reached_within g items stands read w.0 w.1))

pub all_declared : (g : FlatGrammar) (items : Items) → StandsFor g items → (o : Option Refusal) → o ≡ None → IsLeastTo g items (length items.states.items) 0 o → (read : List ℕ) (t : ℕ) → Conflicts g read t → IsDeclared g read t
all_declared g items stands None e f read t c = let w = reached_before g items stands read t c in f w.0 t read w.2 w.1 c
all_declared g items stands (Some r) e f read t c = absurd (let z : Some r ≡ None = e in cc)

pub first_undeclared : (g : FlatGrammar) (items : Items) → StandsFor g items → (o : Option Refusal) (r : Refusal) → o ≡ Some r → IsLeastTo g items (length items.states.items) 0 o → IsFirstUndeclared g r.token r.rules.items
first_undeclared g items stands None r e f = absurd (let z : None ≡ Some r = e in cc)
first_undeclared g items stands (Some o) r e f = let same : o ≡ r = (let z : Some o ≡ Some r = e in cc) in subst (λ (p : Refusal). IsFirstUndeclared g p.token p.rules.items) same (record {
  undeclared = record { read = f.0.0; conflicts = f.0.1.conflicts; rules_are = f.0.1.rules_are; rise = f.0.1.rise; undeclared = f.0.1.undeclared };
  least_token = λ t rs un. ⊎_elim (λ lt. omega (arith, lt)) (λ w. let e = w.0 in omega (arith, e)) (comes t rs un);
  least_rules = λ rs un. ⊎_elim (λ lt. absurd (omega (arith, lt))) (λ w. w.1) (comes o.token rs un);
})
  where
    comes : (t : ℕ) (rs : List Symbol) → IsUndeclared g t rs → ComesFirst o.token o.rules.items t rs
    comes t rs un =
        let w = reached_before g items stands un.read t un.conflicts in
        f.1 w.0 t un.read rs w.2 w.1 (record { conflicts = un.conflicts; rules_are = un.rules_are; rise = un.rise; undeclared = un.undeclared })

pub rows_begin : (g : FlatGrammar) (items : Items) (a : Arrays) → a.states.items ≡ [] → AreRowsTo g items a 0
rows_begin g items a none = record {
  size = ap (λ (l : List RowPlaces). length l) none;
  each = λ n p at. absurd (let e : None ≡ Some p = subst (λ (l : List RowPlaces). slice_get l n ≡ Some p) none at in cc);
}

pub list_on : (g : FlatGrammar) (items : Items) (n token : ℕ) (e : Entry) → ((read : List ℕ) → IsReachedBy items read n → IsEntryOn g items n read token e) → EachOnce e.actions.items → IsListOn g items n token e.actions.items
list_on g items n token e entry once = record { exact = λ read a reach. (entry read reach).exact a; once = once }
