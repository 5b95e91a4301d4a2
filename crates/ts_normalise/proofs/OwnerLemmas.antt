-- Each rule of a normal form has an owner among its rules, and it has no more symbols than may be.
use Rattle.std.proofs.Common.{◌≡◌, sym, subst, refl, ◌≤◌, ◌⊎◌, inl, inr, ⊎_elim, true, Some, arith}
use Rattle.std.specs.List.{Contains}
use Rattle.std.proofs.lemmas.Bool.{cases_lt}
use Rattle.std.proofs.lemmas.List.Elements.{All-contains}
use Rattle.ts_base.specs.Bytes.{Bytes}
use Rattle.ts_core.specs.declared.flat.FlatGrammar.{FlatGrammar}
use Rattle.ts_core.specs.declared.flat.FlatRule.{FlatRule}
use Rattle.ts_core.specs.declared.rule.Grammar.{Grammar}
use Rattle.ts_core.specs.declared.rule.Rule.{Rule}
use Rattle.ts_core.specs.declared.symbol.Symbol.{Symbol}
use Rattle.spec_tables.specs.Fit as fit
use Rattle.ts_rules.specs.Causes.{IsBadInline, rule_names}
use Rattle.ts_rules.specs.FileGrammar.{IsFileGrammar}
use Rattle.ts_rules.specs.FirstSights.{Not, Clear}
use Rattle.ts_pattern.specs.Reads.{Reads}
use Rattle.ts_rules.specs.Normal.{IsNormal, IsOwner}
use Rattle.ts_rules.specs.Numbers.{HasSymbol, IsInlined, NamesSome, start_of}
use Rattle.ts_rules.specs.Productions.{symbol}
use Rattle.ts_rules.specs.Sights.{NamedRule, sights, contents_in, is_token}
use Rattle.ts_numbering.specs.Limits.{HasManySymbols}
use Rattle.ts_normalise.specs.Forms.{HasOwners}
use Rattle.ts_normalise.proofs.ListLemmas.{there, picked, first_in}
use Rattle.ts_normalise.proofs.CheckLemmas.{in_names}
use Rattle.ts_normalise.proofs.FitInsideLemmas.{token_empty}
use Rattle.ts_normalise.proofs.FitLimitLemmas.{token_count, rule_count}
use Rattle.ts_normalise.proofs.FitPlaceLemmas.{start_rule, one_tree, rule_cases, own_there}

-- ---- which name is the owner's

abbrev IsChosen : Grammar → NamedRule → Bytes → Type 0
IsChosen g r name = (Not (IsInlined g r.0) × (name ≡ r.0)) ⊎ (IsInlined g r.0 × (start_of g.rules ≡ Some name))

abbrev Holds : Rule → NamedRule → Type 0
Holds content r = Contains (contents_in (sights r.1)) content

-- ---- owners

module _ (g : Grammar) (file : IsFileGrammar g) where
  -- a rule with a content names no token
  content_unnamed : (rule : NamedRule) (content : Rule) → Contains g.rules rule → Holds content rule → Not (NamesSome g rule.0)
  content_unnamed rule content w holds some =
      let is : some.0 ≡ rule.1 = one_tree g file rule.0 some.0 rule.1 some.1.is w in
      token_empty rule.1 content (subst (λ (t : Rule). is_token t ≡ true) is some.1.token) holds

  -- the rule that owns a content has a symbol
  pub owner_has : Clear (IsBadInline g) (rule_names g) → (content : Rule) (name : Bytes) → IsOwner g content name → (rule : NamedRule) × Contains g.rules rule × HasSymbol g rule × (rule.0 ≡ name)
  owner_has fine content name h = by h.0 (first_in (Holds content) g.rules h.0 h.1) h.1.holds h.2
    where
      by : (r : NamedRule) → Contains g.rules r → Holds content r → IsChosen g r name → (rule : NamedRule) × Contains g.rules rule × HasSymbol g rule × (rule.0 ≡ name)
      by r w holds (inl c) = (r, w, record { unnamed = content_unnamed r content w holds; kept = c.0 }, sym c.1)
      by r w holds (inr c) =
          let start = start_rule g.rules name c.1 in (
            (name, start.0),
            start.1,
            record {
              unnamed = λ some. some.1.other c.1;
              kept = λ inlined. All-contains (λ (x : Bytes). Not (IsBadInline g x)) (rule_names g) name fine (in_names g.rules name start.0 start.1) (record { inlined = inlined; cause = inl c.1 });
            },
            refl,
          )

module _ (g : Grammar) (f : FlatGrammar) (n : IsNormal Reads g f) where
  pub few_symbols : Not (HasManySymbols g) → fit.symbols_of f ≤ fit.most_symbols
  few_symbols few = ⊎_elim
      (λ lt. absurd (few (n.lists, n.are_lists, (let t = token_count g f n in let r = rule_count g f n in omega (arith, lt, t, r)))))
      (λ ge. ge)
      (cases_lt fit.most_symbols (fit.symbols_of f))

  -- a rule of the file that has a symbol is a rule of the normal form
  rule_there : (rule : NamedRule) → Contains g.rules rule → HasSymbol g rule → (o : FlatRule) × fit.HasRule f (symbol (n.numbers.rule rule.0)) o
  rule_there rule w has = let o = own_there g f n rule.0 rule.1 w has in (o.0, o.1)

  pub have_owners : IsFileGrammar g → Clear (IsBadInline g) (rule_names g) → HasOwners f
  have_owners file fine k r at = ⊎_elim
      (λ own.
      let p = picked (HasSymbol g) g.rules n.lists.rules own.0 n.are_lists.rules (there n.lists.rules k own.0 own.1) in
      of_symbol (symbol (n.numbers.rule own.0.0)) own.2.owner (rule_there own.0 p.0 p.1))
      (λ repeated.
      let owner = repeated.4.owner in
      let h = owner_has g file fine repeated.1 owner.0 owner.1 in
      of_symbol (symbol (n.numbers.rule owner.0)) owner.2
      (subst (λ (name : Bytes). (o : FlatRule) × fit.HasRule f (symbol (n.numbers.rule name)) o) h.3 (rule_there h.0 h.1 h.2)))
      (rule_cases g f n k r at)
    where
      of_symbol : (s : Symbol) → r.owner ≡ s → (o : FlatRule) × fit.HasRule f s o → (o : FlatRule) × fit.HasRule f r.owner o
      of_symbol s is h = (h.0, subst (λ (z : Symbol). fit.HasRule f z h.0) (sym is) h.1)
