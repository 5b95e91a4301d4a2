-- The lists of symbols of a normal form: its word, extras, conflicts, precedences and supertypes name
-- what is there.
use Rattle.std.proofs.Common.{◌≡◌, ◌∙◌, sym, ap, subst, refl, ℕ, suc, ◌+◌, ◌-◌, ◌<◌, ◌≤◌, ◌⊎◌, inl, inr, ⊎_elim, true, List, [], length, slice_get, Option, Some, None, option_map, All, arith}
use Rattle.std.specs.List.{Contains, flat_map}
use Rattle.std.proofs.lemmas.Bool.{cases_lt}
use Rattle.std.proofs.lemmas.List.{length-map}
use Rattle.std.proofs.lemmas.List.Elements.{All-contains, Contains-append_right}
use Rattle.std.proofs.lemmas.Option.{slice_get_cases, slice_get_within}
use Rattle.ts_base.specs.Bytes.{Bytes}
use Rattle.ts_core.specs.declared.flat.Entry.{Entry}
use Rattle.ts_core.specs.declared.flat.FlatGrammar.{FlatGrammar}
use Rattle.ts_core.specs.declared.flat.FlatRule.{FlatRule}
use Rattle.ts_core.specs.declared.flat.TokenDef.{TokenDef}
use Rattle.ts_core.specs.declared.rule.Grammar.{Grammar}
use Rattle.ts_core.specs.declared.rule.Ranked.{Ranked}
use Rattle.ts_core.specs.declared.rule.Rule.{Rule}
use Rattle.ts_core.specs.declared.rule.Rule.TheOpen.{Rule-F}
use Rattle.ts_core.specs.declared.rule.Rule.TheVariants as rule
use Rattle.ts_core.specs.declared.rule.Rule.TheVariants.{rolls-Symbol}
use Rattle.ts_core.specs.declared.rule.Rule.TheViews.{out-Rule, out-roll-Rule}
use Rattle.ts_core.specs.declared.symbol.Kind.{Kind}
use Rattle.ts_core.specs.declared.symbol.Symbol.{Symbol}
use Rattle.spec_tables.specs.Fit.{IfThere, IsShort, AreShort, IsSymbol, IsToken, IsFitEntry, IsHiddenSymbol}
use Rattle.ts_pattern.specs.Reads.{Reads}
use Rattle.ts_rules.specs.Causes.{ExtraSymbol, IsUndefined, IsBadExtra, names_used, extra_symbols, extra_symbols_by}
use Rattle.ts_rules.specs.FileGrammar.{IsFileGrammar, HasShortEntry}
use Rattle.ts_rules.specs.FirstSights.{Not, Picks, end, taken, left, Each}
use Rattle.ts_rules.specs.Normal.{IsNormal, IsTokenExtra, IsExtra, AreSymbols, AreEntries, entry, IsKeptEntry}
use Rattle.ts_rules.specs.Numbers.{Numbers, Lists, IsInlined, IsRule, NamesSome, NamesToken, first_rule}
use Rattle.ts_rules.specs.Productions.{symbol}
use Rattle.ts_rules.specs.Sights.{NamedRule, precs_in, ranked_name, ranked_rule, ranked_names, walk, tokens_in, rule_sights}
use Rattle.ts_rules.specs.Tokens.{IsTokenDef, IsNamedBy, IsUnnamed, IsKind}
use Rattle.ts_normalise.proofs.UsedLemmas.{once_in, conflict_used, ranked_used, supertype_used}
use Rattle.ts_normalise.proofs.ListLemmas.{there, at_of, head_in, flat_in, picked}
use Rattle.ts_normalise.proofs.TokenLemmas.{one_token_name}
use Rattle.ts_normalise.proofs.FitBoundLemmas.{range_stable, token_number, named_number, kept_number, own_place, prec_number}
use Rattle.ts_normalise.proofs.FitLimitLemmas.{each_length, token_count, rule_count, symbol_count}
use Rattle.ts_normalise.proofs.FitPlaceLemmas.{each_at, rule_cases}
use Rattle.ts_normalise.proofs.FitRefusalLemmas.{IsUnrefused}
use Rattle.ts_normalise.proofs.FitSightLemmas.{mapped_in}
use Rattle.ts_normalise.proofs.FitStepLemmas.{all_of}

pub picks_length : {X : Type 0} (P : X → Type 0) (xs ys : List X) → Picks P xs ys → length ys ≤ length xs
picks_length P _ _ end = omega arith
picks_length P _ _ (taken x xs ys p rest) = let le = picks_length P xs ys rest in omega (arith, le)
picks_length P _ _ (left x xs ys p rest) = let le = picks_length P xs ys rest in omega (arith, le)

-- what stands in the second list comes of what stands in the first
each_from : {X Y : Type 0} (R : X → Y → Type 0) (xs : List X) (ys : List Y) → Each R xs ys → (y : Y) → Contains ys y → (x : X) × Contains xs x × R x y
each_from R xs ys each y w = let r = each_at R xs ys each w.0 y (at_of ys y w) in (r.0, there xs w.0 r.0 r.1, r.2)

kind_stable : (kind : Kind) → Not (Not (kind ≡ Kind.Hidden)) → kind ≡ Kind.Hidden
kind_stable Kind.Named h = absurd (h (λ e. absurd cc))
kind_stable Kind.Anonymous h = absurd (h (λ e. absurd cc))
kind_stable Kind.Hidden h = refl

hidden_kind : (g : Grammar) (name : Bytes) (kind : Kind) → Contains g.supertypes name → IsKind g name kind → kind ≡ Kind.Hidden
hidden_kind g name kind w (inl h) = h.1
hidden_kind g name kind w (inr h) = absurd (h.0 (inr w))

out_symbol : (name : Bytes) → out-Rule (rule.Symbol name) ≡ Rule-F.Symbol name
out_symbol name = ap out-Rule (sym (rolls-Symbol name)) ∙ out-roll-Rule (Rule-F.Symbol name)

module _ (g : Grammar) (f : FlatGrammar) (normal : IsNormal Reads g f) where
  token_range : (k : ℕ) → (0 < k) × (k < first_rule normal.lists) → IsToken f (symbol k)
  token_range k h =
      let above = h.0 in
      let below = h.1 in
      let e = token_count g f normal in
      (above, omega (arith, below, e))

  -- a rule that can't but name a token has the symbol of one
  named_token : (name : Bytes) → Not (Not (NamesSome g name)) → IsToken f (symbol (normal.numbers.rule name))
  named_token name h = token_range (normal.numbers.rule name) (range_stable 0 (first_rule normal.lists) (normal.numbers.rule name) (λ out. h (λ some. out (named_number g f normal name some))))

  kept_symbol : (name : Bytes) → Not (IsUndefined g name) → Not (IsInlined g name) → IsSymbol f (symbol (normal.numbers.rule name))
  kept_symbol name some kept =
      let r = kept_number g f normal name some kept in
      let below = r.1 in
      let e = symbol_count g f normal in
      omega (arith, below, e)

  module _ (sane : IsUnrefused g) where
    used : (name : Bytes) → Contains (names_used g) name → Not (IsUndefined g name)
    used name w = All-contains (λ (u : Bytes). Not (IsUndefined g u)) (names_used g) name sane.defined w

    -- ---- the word

    pub fit_word : IfThere (IsToken f) f.word
    fit_word = subst (λ (o : Option Symbol). IfThere (IsToken f) o) (sym normal.word) (by g.word (λ name is. named_token name (sane.word name is)))
      where
        by : (o : Option Bytes) → ((name : Bytes) → o ≡ Some name → IsToken f (symbol (normal.numbers.rule name))) → IfThere (IsToken f) (option_map (λ (name : Bytes). symbol (normal.numbers.rule name)) o)
        by None h = tt
        by (Some name) h = h name refl

    -- ---- extras

    extra_named : (tree : Rule) (name : Bytes) → Contains g.extras tree → tree ≡ rule.Symbol name → Not (Not (NamesSome g name))
    extra_named tree name w e bad =
        let here : Contains (extra_symbols_by tree (out-Rule tree)) (name, true)
        = subst (λ (z : Rule-F Rule). Contains (extra_symbols_by tree z) (name, true)) (sym (ap out-Rule e ∙ out_symbol name)) (head_in (name, true) []) in
        let seen : Contains (extra_symbols g) (name, true) = flat_in (λ (t : Rule). extra_symbols_by t (out-Rule t)) g.extras tree (name, true) w here in
        All-contains (λ (x : ExtraSymbol). Not (IsBadExtra g x)) (extra_symbols g) (name, true) sane.extras seen (inr bad)

    fit_extra : (tree : Rule) (s : Symbol) → Contains g.extras tree → IsTokenExtra g tree → IsExtra normal.numbers tree s → IsToken f s
    fit_extra tree s w k (inl h) = subst (IsToken f) (sym h.2) (named_token h.0 (extra_named tree h.0 w h.1))
    fit_extra tree s w (inl k) (inr h) = absurd (h.0 k.0 k.1)
    fit_extra tree s w (inr k) (inr h) = subst (IsToken f) (sym h.1) (token_range (normal.numbers.token tree) (token_number g f normal tree k))

    pub fit_extras : IsFileGrammar g → IsShort f.extras × All (IsToken f) f.extras
    fit_extras file =
        let x = normal.extras in
        let a = picks_length (IsTokenExtra g) g.extras x.0 x.1 in
        let b = each_length (IsExtra normal.numbers) x.0 f.extras x.2 in
        let c = file.extras in (
          omega (arith, a, b, c),
          all_of (IsToken f) f.extras (λ s w.
              let r = each_from (IsExtra normal.numbers) x.0 f.extras x.2 s w in
              let p = picked (IsTokenExtra g) g.extras x.0 r.0 x.1 r.1 in
              fit_extra r.0 s p.0 p.1 r.2),
        )

    -- ---- conflicts

    abbrev IsKeptName : Bytes → Type 0
    IsKeptName name = Not (IsInlined g name)

    pub fit_conflicts : IsFileGrammar g → AreShort f.conflicts × All (λ (set : List Symbol). All (IsSymbol f) set) f.conflicts
    fit_conflicts file =
        let n : Numbers = normal.numbers in
        let few = file.conflicts.0 in
        let same = each_length (AreSymbols g n) g.conflicts f.conflicts normal.conflicts in (
          (
            omega (arith, few, same),
            all_of (λ (set : List Symbol). IsShort set) f.conflicts (λ set w.
                let r = each_from (AreSymbols g n) g.conflicts f.conflicts normal.conflicts set w in
                let h = All-contains (λ (names : List Bytes). AreShort names) g.conflicts r.0 file.conflicts.1 r.1 in
                let short = h.0 in
                let a = picks_length IsKeptName r.0 r.2.0 r.2.1 in
                let b : length set ≡ length r.2.0 = ap (λ (ss : List Symbol). length ss) r.2.2 ∙ length-map r.2.0 (λ (name : Bytes). symbol (n.rule name)) in
                omega (arith, short, a, b)),
          ),
          all_of (λ (set : List Symbol). All (IsSymbol f) set) f.conflicts (λ set w.
              let r = each_from (AreSymbols g n) g.conflicts f.conflicts normal.conflicts set w in
              all_of (IsSymbol f) set (λ s v.
              let m = mapped_in (λ (name : Bytes). symbol (n.rule name)) r.2.0 s (subst (λ (ss : List Symbol). Contains ss s) r.2.2 v) in
              let p = picked IsKeptName r.0 r.2.0 m.0 r.2.1 m.1 in
              subst (IsSymbol f) m.2 (kept_symbol m.0 (used m.0 (conflict_used g m.0 (flat_in (λ (ns : List Bytes). ns) g.conflicts r.0 m.0 r.1 p.0))) p.1))),
        )

    -- ---- precedences

    fit_entry : (entries : List Ranked) (r : Ranked) → Contains g.precedences entries → Contains entries r → IsKeptEntry g r → IsFitEntry f (entry normal.numbers r)
    fit_entry entries (Ranked.Name name) w v k =
        prec_number g f normal name (Contains-append_right (precs_in (walk g)) (ranked_names g) name
        (flat_in (λ (es : List Ranked). flat_map ranked_name es) g.precedences entries name w (flat_in ranked_name entries (Ranked.Name name) name v (head_in name []))))
    fit_entry entries (Ranked.Rule name) w v k =
        kept_symbol name (used name (ranked_used g name
        (flat_in (λ (es : List Ranked). flat_map ranked_rule es) g.precedences entries name w (flat_in ranked_rule entries (Ranked.Rule name) name v (head_in name []))))) k

    pub fit_precedences : IsFileGrammar g → AreShort f.precedences × All (λ (list : List Entry). All (IsFitEntry f) list) f.precedences
    fit_precedences file =
        let n : Numbers = normal.numbers in
        let few = file.precedences.0 in
        let same = each_length (AreEntries g n) g.precedences f.precedences normal.precedences in (
          (
            omega (arith, few, same),
            all_of (λ (list : List Entry). IsShort list) f.precedences (λ list w.
                let r = each_from (AreEntries g n) g.precedences f.precedences normal.precedences list w in
                let h = All-contains (λ (entries : List Ranked). IsShort entries × All HasShortEntry entries) g.precedences r.0 file.precedences.1 r.1 in
                let short = h.0 in
                let a = picks_length (IsKeptEntry g) r.0 r.2.0 r.2.1 in
                let b : length list ≡ length r.2.0 = ap (λ (es : List Entry). length es) r.2.2 ∙ length-map r.2.0 (entry n) in
                omega (arith, short, a, b)),
          ),
          all_of (λ (list : List Entry). All (IsFitEntry f) list) f.precedences (λ list w.
              let r = each_from (AreEntries g n) g.precedences f.precedences normal.precedences list w in
              all_of (IsFitEntry f) list (λ e v.
              let m = mapped_in (entry n) r.2.0 e (subst (λ (es : List Entry). Contains es e) r.2.2 v) in
              let p = picked (IsKeptEntry g) r.0 r.2.0 m.0 r.2.1 m.1 in
              subst (IsFitEntry f) m.2 (fit_entry r.0 m.0 r.1 p.0 p.1))),
        )

    -- ---- supertypes

    module _ (name : Bytes) (super : Contains g.supertypes name) (kept : Not (IsInlined g name)) where
      abbrev number : ℕ
      number = normal.numbers.rule name

      some_rule : Not (Not (IsRule g name))
      some_rule = used name (supertype_used g name super)

      -- the name is that of a token, where its number is
      must_name : number < first_rule normal.lists → Not (Not (NamesSome g name))
      must_name low none = some_rule (λ is.
          let own = own_place g f normal name is.0 is.1 (record { unnamed = none; kept = kept }) in
          let e = own.2 in
          let z : ⊥ = omega (arith, e, low) in
          z)

      hidden_token : (k : ℕ) (d : TokenDef) → number ≡ suc k → slice_get f.tokens k ≡ Some d → d.kind ≡ Kind.Hidden
      hidden_token k d is at = kind_stable d.kind (λ out.
          let x : Lists = normal.lists in
          let below = slice_get_within f.tokens k d at in
          let c = token_count g f normal in
          must_name (omega (arith, is, below, c)) (λ h. out (
          let w = normal.are_lists.tokens.every h.0 (once_in (tokens_in (rule_sights g)) h.0 h.1.once) in
          let e = normal.are_numbers.tokens w.0 h.0 (at_of x.tokens h.0 w) in
          let named = normal.are_numbers.named name h.0 h.1 in
          let place : w.0 ≡ k = omega (arith, e, named, is) in
          let t = each_at (IsTokenDef normal.pattern g) x.tokens f.tokens normal.tokens k d at in
          let same : Some t.0 ≡ Some h.0 = sym t.1 ∙ ap (slice_get x.tokens) (sym place) ∙ at_of x.tokens h.0 w in
          let tree : t.0 ≡ h.0 = cc in
          by h.0 h.1 (subst (λ (z : Rule). IsTokenDef normal.pattern g z d) tree t.2).named)))
        where
          by : (tree : Rule) → NamesToken g name tree → IsNamedBy g tree d ⊎ IsUnnamed g tree d → d.kind ≡ Kind.Hidden
          by tree names (inl h) = hidden_kind g name d.kind super (subst (λ (z : Bytes). IsKind g z d.kind) (one_token_name g d.name name tree h.rule names) h.kind)
          by tree names (inr h) = absurd (h.no_rule name names)

      hidden_rule : (k : ℕ) (r : FlatRule) → number ≡ first_rule normal.lists + k → slice_get f.rules k ≡ Some r → r.kind ≡ Kind.Hidden
      hidden_rule k r is at = ⊎_elim
          (λ h. kind_stable r.kind (λ out. some_rule (λ rule. out (
          let own = own_place g f normal name rule.0 rule.1 (record {
            unnamed = λ some. let low = (named_number g f normal name some).1 in let z : ⊥ = omega (arith, low, is) in z;
            kept = kept;
          }) in
          let e = own.2 in
          let place : own.0 ≡ k = omega (arith, e, is) in
          let same : Some h.0 ≡ Some (name, rule.0) = sym h.1 ∙ ap (slice_get normal.lists.rules) (sym place) ∙ own.1 in
          let rule_is : h.0 ≡ (name, rule.0) = cc in
          hidden_kind g name r.kind super (subst (λ (z : NamedRule). IsKind g z.0 r.kind) rule_is h.2.kind)))))
          (λ h. let rep = h.4 in rep.kind)
          (rule_cases g f normal k r at)

      hidden_symbol : IsHiddenSymbol f (symbol number)
      hidden_symbol =
          let bounds = kept_number g f normal name some_rule kept in
          let above = bounds.0 in
          let below = bounds.1 in
          let x : Lists = normal.lists in
          let tokens = token_count g f normal in
          let rules = rule_count g f normal in
          ⊎_elim
          (λ low.
          let k : ℕ = number - 1 in
          let is : number ≡ suc k = omega (arith, above) in
          elim (slice_get_cases f.tokens k).1 [
            | inl u ↦ inl (u.0, k, u.2, is, hidden_token k u.0 is u.2)
            | inr u ↦ let past = u.0 in let z : ⊥ = omega (arith, past, low, is, tokens) in absurd z
          ])
          (λ high.
          let k : ℕ = number - first_rule x in
          let is : number ≡ first_rule x + k = omega (arith, high) in
          let place : number ≡ suc (length f.tokens + k) = omega (arith, is, tokens) in
          elim (slice_get_cases f.rules k).1 [
            | inl u ↦ inr (u.0, (k, u.2, ap symbol place), hidden_rule k u.0 is u.2)
            | inr u ↦ let past = u.0 in let z : ⊥ = omega (arith, past, is, below, rules) in absurd z
          ])
          (cases_lt number (first_rule x))

    pub fit_supertypes : All (IsHiddenSymbol f) f.supertypes
    fit_supertypes = all_of (IsHiddenSymbol f) f.supertypes (λ s w.
        let h = (normal.supertypes s).0 w in
        subst (IsHiddenSymbol f) (sym h.3) (hidden_symbol h.0 h.1 h.2))
