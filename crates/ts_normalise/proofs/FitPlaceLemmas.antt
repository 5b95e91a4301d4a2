-- Where the rules of a normal form stand: first those of the file, then the repetitions.
use Rattle.std.proofs.Common.{◌≡◌, ◌∙◌, sym, ap, subst, refl, ℕ, zero, suc, ◌+◌, ◌<◌, ◌⊎◌, inl, inr, ⊎_elim, List, [], ◌∷◌, ◌++◌, length, slice_get, Option, Some, None, arith}
use Rattle.std.specs.List.{Contains}
use Rattle.std.proofs.lemmas.List.Elements.{All-contains}
use Rattle.std.proofs.lemmas.Option.{slice_get_within}
use Rattle.ts_base.specs.Bytes.{Bytes}
use Rattle.ts_core.specs.declared.flat.FlatGrammar.{FlatGrammar}
use Rattle.ts_core.specs.declared.flat.FlatRule.{FlatRule}
use Rattle.ts_core.specs.declared.rule.Grammar.{Grammar}
use Rattle.ts_core.specs.declared.rule.Rule.{Rule}
use Rattle.spec_tables.specs.Fit.{HasRule, rule_symbol}
use Rattle.ts_pattern.specs.Reads.{Reads}
use Rattle.ts_rules.specs.Causes.{IsBadInline, rule_names}
use Rattle.ts_rules.specs.FileGrammar.{IsFileGrammar}
use Rattle.ts_rules.specs.FirstSights.{Not, Each, end, both}
use Rattle.ts_rules.specs.Normal.{IsNormal, IsOwnRule, IsRepetition}
use Rattle.ts_rules.specs.Numbers.{HasSymbol, start_of}
use Rattle.ts_rules.specs.Productions.{symbol}
use Rattle.ts_rules.specs.Sights.{NamedRule}
use Rattle.ts_normalise.proofs.ListLemmas.{at_of, head_in}
use Rattle.ts_normalise.proofs.FitBoundLemmas.{own_place}
use Rattle.ts_normalise.proofs.FitLimitLemmas.{token_count, own_count}
use Rattle.ts_normalise.proofs.FitRefusalLemmas.{IsUnrefused}
use Rattle.ts_normalise.proofs.FitSightLemmas.{in_mapped}

-- ---- places in lists

pub at_left : {X : Type 0} (xs ys : List X) (k : ℕ) (x : X) → slice_get xs k ≡ Some x → slice_get (xs ++ ys) k ≡ Some x
at_left {X = X} [] ys k x e = absurd (let lt : k < 0 = slice_get_within {A = X} [] k x e in omega arith)
at_left (z ∷ xs) ys zero x e = e
at_left (z ∷ xs) ys (suc k) x e = at_left xs ys k x e

-- the place is in the first list, or so far into the second
pub at_split : {X : Type 0} (xs ys : List X) (k : ℕ) (y : X) → slice_get (xs ++ ys) k ≡ Some y
    → (slice_get xs k ≡ Some y) ⊎ ((j : ℕ) × (k ≡ length xs + j) × (slice_get ys j ≡ Some y))
at_split [] ys k y e = inr (k, omega arith, e)
at_split (z ∷ xs) ys zero y e = inl e
at_split (z ∷ xs) ys (suc k) y e = ⊎_elim
    (λ h. inl h)
    (λ h. let is = h.1 in inr (h.0, omega (arith, is), h.2))
    (at_split xs ys k y e)

pub each_at : {X Y : Type 0} (R : X → Y → Type 0) (xs : List X) (ys : List Y) → Each R xs ys → (k : ℕ) (y : Y) → slice_get ys k ≡ Some y → (x : X) × (slice_get xs k ≡ Some x) × R x y
each_at {Y = Y} R _ _ end k y e = absurd (let lt : k < 0 = slice_get_within {A = Y} [] k y e in omega arith)
each_at {Y = Y} R _ _ (both x z xs ys r rest) zero y e = (x, refl, let h : Some z ≡ Some y = e in let is : z ≡ y = cc in subst (R x) is r)
each_at R _ _ (both x z xs ys r rest) (suc k) y e = each_at R xs ys rest k y e

pub each_there : {X Y : Type 0} (R : X → Y → Type 0) (xs : List X) (ys : List Y) → Each R xs ys → (k : ℕ) (x : X) → slice_get xs k ≡ Some x → (y : Y) × (slice_get ys k ≡ Some y) × R x y
each_there {X = X} R _ _ end k x e = absurd (let lt : k < 0 = slice_get_within {A = X} [] k x e in omega arith)
each_there {X = X} R _ _ (both z y xs ys r rest) zero x e = (y, refl, let h : Some z ≡ Some x = e in let is : z ≡ x = cc in subst (λ (v : X). R v y) is r)
each_there R _ _ (both z y xs ys r rest) (suc k) x e = each_there R xs ys rest k x e

-- ---- a rule's own tree

-- the start rule is in the file
pub start_rule : (rules : List NamedRule) (name : Bytes) → start_of rules ≡ Some name → (tree : Rule) × Contains rules (name, tree)
start_rule [] name e = absurd (let f : None ≡ Some name = e in cc)
start_rule (r ∷ rules) name e =
    let f : Some r.0 ≡ Some name = e in
    let is : r.0 ≡ name = cc in
    (r.1, subst (λ (n : Bytes). Contains (r ∷ rules) (n, r.1)) is (head_in r rules))

module _ (g : Grammar) (file : IsFileGrammar g) where
  -- a name has one tree
  pub one_tree : (name : Bytes) (t u : Rule) → Contains g.rules (name, t) → Contains g.rules (name, u) → t ≡ u
  one_tree name t u w v =
      let at : slice_get g.rules w.0 ≡ Some (name, t) = at_of g.rules (name, t) w in
      let at_too : slice_get g.rules v.0 ≡ Some (name, u) = at_of g.rules (name, u) v in
      let place : w.0 ≡ v.0 = file.apart w.0 v.0 (name, t) (name, u) at at_too refl in
      let e : Some (name, t) ≡ Some (name, u) = sym at ∙ ap (slice_get g.rules) place ∙ at_too in
      ap (λ (o : Option NamedRule). tree_in t o) e
    where
      tree_in : Rule → Option NamedRule → Rule
      tree_in other None = other
      tree_in other (Some r) = r.1

module _ (g : Grammar) (sane : IsUnrefused g) where
  -- the start rule has a symbol
  pub start_kept : (name : Bytes) (t : Rule) → Contains g.rules (name, t) → start_of g.rules ≡ Some name → HasSymbol g (name, t)
  start_kept name t w start = record {
    unnamed = λ h. h.1.other start;
    kept = λ h. All-contains (λ (u : Bytes). Not (IsBadInline g u)) (rule_names g) name sane.inlines (in_mapped (λ (r : NamedRule). r.0) g.rules (name, t) w) (record { inlined = h; cause = inl start });
  }

module _ (g : Grammar) (f : FlatGrammar) (normal : IsNormal Reads g f) where
  -- the rule at a place is a rule of the file or a repetition
  pub rule_cases : (k : ℕ) (r : FlatRule) → slice_get f.rules k ≡ Some r
      → ((rule : NamedRule) × (slice_get normal.lists.rules k ≡ Some rule) × IsOwnRule g normal.numbers normal.lists rule r)
      ⊎ ((j : ℕ) × (content : Rule) × (k ≡ length normal.own + j) × (slice_get normal.lists.contents j ≡ Some content) × IsRepetition g normal.numbers normal.lists content r)
  rule_cases k r e = ⊎_elim
      (λ h. inl (each_at (IsOwnRule g normal.numbers normal.lists) normal.lists.rules normal.own normal.are_own k r h))
      (λ h.
      let u = each_at (IsRepetition g normal.numbers normal.lists) normal.lists.contents normal.repetitions normal.are_repetitions h.0 r h.2 in
      inr (h.0, u.0, h.1, u.1, u.2))
      (at_split normal.own normal.repetitions k r (subst (λ (rs : List FlatRule). slice_get rs k ≡ Some r) normal.rules e))

  pub own_symbol : (k : ℕ) (rule : NamedRule) → slice_get normal.lists.rules k ≡ Some rule → symbol (normal.numbers.rule rule.0) ≡ rule_symbol f k
  own_symbol k rule at =
      let e = normal.are_numbers.rules k rule at in
      let t = token_count g f normal in
      let same : normal.numbers.rule rule.0 ≡ suc (length f.tokens + k) = omega (arith, e, t) in
      ap symbol same

  pub repetition_symbol : (j k : ℕ) (content : Rule) → k ≡ length normal.own + j → slice_get normal.lists.contents j ≡ Some content → symbol (normal.numbers.repetition content) ≡ rule_symbol f k
  repetition_symbol j k content is at =
      let e = normal.are_numbers.contents j content at in
      let t = token_count g f normal in
      let o = own_count g f normal in
      let same : normal.numbers.repetition content ≡ suc (length f.tokens + k) = omega (arith, e, t, o, is) in
      ap symbol same

  -- a rule of the file that has a symbol is a rule of the normal form, and its own owner
  pub own_there : (name : Bytes) (t : Rule) → Contains g.rules (name, t) → HasSymbol g (name, t)
      → (o : FlatRule) × HasRule f (symbol (normal.numbers.rule name)) o × IsOwnRule g normal.numbers normal.lists (name, t) o
  own_there name t w h =
      let place = own_place g f normal name t w h in
      let u = each_there (IsOwnRule g normal.numbers normal.lists) normal.lists.rules normal.own normal.are_own place.0 (name, t) place.1 in
      (u.0, (place.0, subst (λ (rs : List FlatRule). slice_get rs place.0 ≡ Some u.0) (sym normal.rules) (at_left normal.own normal.repetitions place.0 u.0 u.1), own_symbol place.0 (name, t) place.1), u.2)

  module _ (file : IsFileGrammar g) (sane : IsUnrefused g) where
    -- there is a rule of the file with a symbol
    pub some_own : 0 < length normal.own
    some_own = from (start_of g.rules) refl
      where
        no_rule : (rs : List NamedRule) → start_of rs ≡ None → rs ≡ []
        no_rule [] e = refl
        no_rule (r ∷ rs) e = absurd (let h : Some r.0 ≡ None = e in cc)

        from : (o : Option Bytes) → start_of g.rules ≡ o → 0 < length normal.own
        from None none = absurd (file.some_rule (no_rule g.rules none))
        from (Some name) is =
            let t = start_rule g.rules name is in
            let place = own_place g f normal name t.0 t.1 (start_kept g sane name t.0 t.1 is) in
            let lt = place.3 in
            let o = own_count g f normal in
            omega (arith, lt, o)
