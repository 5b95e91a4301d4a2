-- Definitions of tokens.
use Rattle.std.proofs.Common.{◌≡◌, ◌∙◌, sym, ap, subst, ℕ, ◌+◌, ◌<◌, ◌≤◌, ◌⊎◌, inl, inr, ⊎_elim, Bool, IsTrue, ◌↔◌, List, [], ◌∷◌, ◌++◌, map, length, get_or, slice_get, Option, Some, None, option_map, All, MatchOption, arith}
use Rattle.std.specs.Borrow.{Bor}
use Rattle.std.proofs.lemmas.List.{length-map, length-append}
use Rattle.std.proofs.lemmas.List.Elements.{All-contains}
use Rattle.std.proofs.lemmas.Option.{slice_get_within, slice_get-get_or, slice_get-map}
use Rattle.ts_base.specs.Bytes.{Bytes}
use Rattle.ts_core.specs.declared.flat.TokenDef.{TokenDef}
use Rattle.ts_core.specs.declared.rule.Grammar.{Grammar}
use Rattle.ts_core.specs.declared.rule.Rule.{Rule}
use Rattle.ts_rules.specs.FirstSights.{Not, Each}
use Rattle.ts_rules.specs.Numbers.{NamesToken}
use Rattle.ts_rules.specs.Tokens.{Patterns, IsKeyword, IsKind, IsNamedBy, IsUnnamed, IsTokenDef, core, core_name, core_kind}
use Rattle.ts_tokens.specs.declared.definition.NamedToken.{NamedToken}
use Rattle.ts_tokens.specs.Definitions.{IsNaming, AreKeywords, trees_of, IsRuleKind, IsDefined, AreDefined}
use Rattle.ts_tokens.specs.Names.{HaveSame}
use Rattle.ts_tokens.proofs.EachLemmas.{each_at, each_from}
use Rattle.ts_tokens.proofs.MemberLemmas.{there}
use Rattle.ts_base.proofs.PlaceLemmas.{push_cases}

named : (g : Grammar) (supertypes : List Bytes) (tree : Rule) (d : TokenDef) (o : Option (Bor Bytes)) → HaveSame supertypes g.supertypes
    → MatchOption o ((name : Bytes) → Not (NamesToken g name tree)) (λ name. NamesToken g name.now tree)
    → MatchOption o ((d.name ≡ core_name (core tree)) × (d.kind ≡ core_kind (core tree))) (λ name. (d.name ≡ name.now) × IsRuleKind supertypes name.now d.kind)
    → IsNamedBy g tree d ⊎ IsUnnamed g tree d
named g supertypes tree d (Some name) same naming label = inl (record {
  rule = subst (λ (n : Bytes). NamesToken g n tree) (sym label.0) naming;
  kind = subst (λ (n : Bytes). IsKind g n d.kind) (sym label.0) (label.1 g same);
})
named g supertypes tree d None same naming label = inr (record { no_rule = naming; name = label.0; kind = label.1 })

defined : (pattern : Patterns) (g : Grammar) (supertypes : List Bytes) (t : NamedToken) (flag : Bool) (d : TokenDef) → HaveSame supertypes g.supertypes → IsNaming g t → IsTrue flag ↔ IsKeyword pattern g t.tree.now
    → IsDefined pattern supertypes t flag d → IsTokenDef pattern g t.tree.now d
defined pattern g supertypes t flag d same naming keyword is = record {
  named = named g supertypes t.tree.now d t.name same naming is.label;
  re = is.re;
  prec = is.prec;
  literal = is.literal;
  immediate = is.immediate;
  keyword = subst (λ (b : Bool). IsTrue b ↔ IsKeyword pattern g t.tree.now) (sym is.keyword_is) keyword;
}

pub all_defined : (pattern : Patterns) (g : Grammar) (supertypes : List Bytes) (tokens : List NamedToken) (flags : List Bool) (defs : List TokenDef) → HaveSame supertypes g.supertypes → All (IsNaming g) tokens
    → length flags ≡ length tokens → AreKeywords pattern g (trees_of tokens) flags → AreDefined pattern supertypes tokens flags (length tokens) defs → Each (IsTokenDef pattern g) (trees_of tokens) defs
all_defined pattern g supertypes tokens flags defs same naming count keywords are =
    each_from (IsTokenDef pattern g) (trees_of tokens) defs (are.count ∙ sym (length-map tokens (λ (t : NamedToken). t.tree.now))) one
  where
    one : (k : ℕ) (tree : Rule) (d : TokenDef) → slice_get (trees_of tokens) k ≡ Some tree → slice_get defs k ≡ Some d → IsTokenDef pattern g tree d
    one k tree d at defined_at =
        let within : k < length tokens = (let w = slice_get_within defs k d defined_at in let c = are.count in omega arith) in
        by k tree d at defined_at (pick tokens k within) (pick flags k (omega arith))
      where
        pick : {X : Type 0} (xs : List X) (k : ℕ) → k < length xs → (x : X) × (slice_get xs k ≡ Some x)
        pick [] k lt = absurd (omega arith)
        pick (x ∷ xs) k lt = (get_or (x ∷ xs) k x, slice_get-get_or (x ∷ xs) k x lt)

        by : (k : ℕ) (tree : Rule) (d : TokenDef) → slice_get (trees_of tokens) k ≡ Some tree → slice_get defs k ≡ Some d → (t : NamedToken) × (slice_get tokens k ≡ Some t) → (flag : Bool) × (slice_get flags k ≡ Some flag)
            → IsTokenDef pattern g tree d
        by k tree d at defined_at t flag =
            let e : Some t.0.tree.now ≡ Some tree = sym (slice_get-map (λ (x : NamedToken). x.tree.now) tokens k ∙ ap (λ (o : Option NamedToken). option_map (λ (x : NamedToken). x.tree.now) o) t.1) ∙ at in
            let is : t.0.tree.now ≡ tree = cc in
            subst (λ (r : Rule). IsTokenDef pattern g r d) is
            (defined pattern g supertypes t.0 flag.0 d same (All-contains (IsNaming g) tokens t.0 naming (there tokens k t.0 t.1))
            (subst (λ (r : Rule). IsTrue flag.0 ↔ IsKeyword pattern g r) (sym is) (each_at (λ (r : Rule) (f : Bool). IsTrue f ↔ IsKeyword pattern g r) (trees_of tokens) flags k tree flag.0 keywords at flag.1))
            (are.each k t.0 flag.0 d t.1 flag.1 defined_at))

pub defined_more : (pattern : Patterns) (supertypes : List Bytes) (tokens : List NamedToken) (flags : List Bool) (defs : List TokenDef) (i : ℕ) (t : NamedToken) (flag : Bool) (d : TokenDef)
    → slice_get tokens i ≡ Some t → slice_get flags i ≡ Some flag → IsDefined pattern supertypes t flag d → AreDefined pattern supertypes tokens flags i defs
    → AreDefined pattern supertypes tokens flags (i + 1) (defs ++ d ∷ [])
defined_more pattern supertypes tokens flags defs i t flag d here key is before = record {
  count = (let a = length-append defs (d ∷ []) in let b = before.count in omega arith);
  each = λ k u f e at fat dat. ⊎_elim
      (λ old. before.each k u f e at fat old.1)
      (λ last. by k u f e (last.0 ∙ before.count) last.1 at fat)
      (push_cases defs d k e dat);
}
  where
    by : (k : ℕ) (u : NamedToken) (f : Bool) (e : TokenDef) → k ≡ i → d ≡ e → slice_get tokens k ≡ Some u → slice_get flags k ≡ Some f → IsDefined pattern supertypes u f e
    by k u f e same one at fat =
        let x : Some t ≡ Some u = sym here ∙ ap (slice_get tokens) (sym same) ∙ at in
        let y : Some flag ≡ Some f = sym key ∙ ap (slice_get flags) (sym same) ∙ fat in
        let p : t ≡ u = cc in
        let q : flag ≡ f = cc in
        subst (λ (z : NamedToken). IsDefined pattern supertypes z f e) p (subst (λ (z : Bool). IsDefined pattern supertypes t z e) q (subst (λ (z : TokenDef). IsDefined pattern supertypes t flag z) one is))
