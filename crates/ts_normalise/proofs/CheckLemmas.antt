-- What the rule trees of a grammar alone refuse, cause by cause, and causes one after another.
use Rattle.std.proofs.Common.{◌≡◌, ◌∙◌, sym, ap, subst, refl, inl, inr, ⊎_elim, List, [], ◌∷◌, ◌↔◌}
use Rattle.std.specs.List.{Contains}
use Rattle.std.proofs.lemmas.List.Elements.{Contains-append_right, All-contains, All-weaker}
use Rattle.ts_base.specs.Bytes.{Bytes}
use Rattle.ts_core.specs.declared.rule.Grammar.{Grammar}
use Rattle.ts_core.specs.declared.rule.Rule.{Rule}
use Rattle.ts_rules.specs.Causes.{IsUndefined, IsBadInline, IsBadExtra, names_of, names_used, rule_names, extra_symbols}
use Rattle.ts_rules.specs.FirstSights.{Not, First, Clear, AreFirstSights}
use Rattle.ts_rules.specs.Names.{IsAbsent}
use Rattle.ts_rules.specs.Sights.{NamedRule, Sight, walk, symbols_inside}
use Rattle.ts_tokens.specs.declared.fault.PatternFault.{PatternFault}
use Rattle.ts_tokens.specs.declared.fault.PatternFault.TheVariants as pattern_fault
use Rattle.ts_tokens.specs.declared.inlining.InlineFault.{InlineFault}
use Rattle.ts_tokens.specs.declared.inlining.InlineFault.TheVariants as inline_fault
use Rattle.ts_tokens.specs.Inlining.{IsInlineFault}
use Rattle.ts_tokens.specs.Patterns.{IsPatternFault, placed_patterns}
use Rattle.ts_normalise.specs.declared.fault.NFault.{NFault}
use Rattle.ts_normalise.specs.declared.fault.NFault.TheVariants as fault
use Rattle.ts_normalise.specs.Faults.{inline_told, pattern_told}
use Rattle.ts_normalise.specs.Refusals.{Cause, Nothing, Before, HasCause, FindsUndefined, FindsSymbolInToken, FindsBadInline, FindsBadWord, FindsBadExtra, FindsBadPattern, FindsInWords, FindsInRules, FindsInTrees}
use Rattle.ts_normalise.proofs.ListLemmas.{head_in, member_cases, none_in, tail_in}

-- ---- causes one after another

pub nothing_both : (A B : Cause) → Nothing A → Nothing B → Nothing (Before A B)
nothing_both A B a b found (inl x) = a found x
nothing_both A B a b found (inr x) = b found x.1

pub first_cause : (A B : Cause) (e : NFault) → HasCause A e → HasCause (Before A B) e
first_cause A B e a caused = inl (a caused)

pub later_cause : (A B : Cause) (e : NFault) → Nothing A → HasCause B e → HasCause (Before A B) e
later_cause A B e none b caused = inr (none, b caused)

-- ---- the first with a property

pub clear_same : {X : Type 0} (P Q : X → Type 0) → ((x : X) → P x ↔ Q x) → (xs : List X) → Clear P xs → Clear Q xs
clear_same P Q same xs c = All-weaker (λ z. Not (P z)) (λ z. Not (Q z)) (λ z h q. h ((same z).1 q)) xs c

pub first_same : {X : Type 0} (P Q : X → Type 0) → ((x : X) → P x ↔ Q x) → (xs : List X) (x : X) → First P xs x → First Q xs x
first_same P Q same xs x f = record {
  before = f.before;
  after = f.after;
  is = f.is;
  holds = (same x).0 f.holds;
  clear = clear_same P Q same f.before f.clear;
}

pub clear_not_first : {X : Type 0} (P : X → Type 0) (xs : List X) (x : X) → Clear P xs → First P xs x → ⊥
clear_not_first {X = X} P xs x clear f =
    All-contains (λ (z : X). Not (P z)) xs x clear
    (subst (λ (ys : List X). Contains ys x) (sym f.is) (Contains-append_right f.before (x ∷ f.after) x (head_in x f.after)))
    f.holds

-- ---- names that no rule has

-- a name in a list is the name of a rule in it
name_in : (rules : List NamedRule) (name : Bytes) → Contains (names_of rules) name → (tree : Rule) × Contains rules (name, tree)
name_in [] name w = absurd (none_in name w)
name_in (rule ∷ rules) name w = ⊎_elim
    (λ e. (rule.1, subst (λ (x : Bytes). Contains (rule ∷ rules) (x, rule.1)) (sym e) (head_in rule rules)))
    (λ v. let r = name_in rules name v in (r.0, tail_in rule (name, r.0) rules r.1))
    (member_cases rule.0 name (names_of rules) w)

pub in_names : (rules : List NamedRule) (name : Bytes) (tree : Rule) → Contains rules (name, tree) → Contains (names_of rules) name
in_names [] name tree w = absurd (none_in (name, tree) w)
in_names (rule ∷ rules) name tree w = ⊎_elim
    (λ e. subst (λ (x : Bytes). Contains (rule.0 ∷ names_of rules) x) (sym (ap (λ (r : NamedRule). r.0) e)) (head_in rule.0 (names_of rules)))
    (λ v. tail_in rule.0 name (names_of rules) (in_names rules name tree v))
    (member_cases rule (name, tree) rules w)

absent : (g : Grammar) (names : List Bytes) → AreFirstSights (names_of g.rules) names → (name : Bytes) → IsAbsent names name ↔ IsUndefined g name
absent g names seen name = (
  λ none rule. none (seen.every name (in_names g.rules name rule.0 rule.1)),
  λ none w. none (name_in g.rules name (seen.only name w)),
)

module _ (g : Grammar) where
  pub undefined_none : (names used : List Bytes) (rules : List NamedRule) → rules ≡ g.rules → AreFirstSights (names_of rules) names → used ≡ names_used g
      → Clear (IsAbsent names) used → Nothing (FindsUndefined g)
  undefined_none names used rules same seen is clear found f =
      clear_not_first (IsUndefined g) (names_used g) f.0
      (clear_same (IsAbsent names) (IsUndefined g) (absent g names (subst (λ (r : List NamedRule). AreFirstSights (names_of r) names) same seen)) (names_used g)
      (subst (λ (u : List Bytes). Clear (IsAbsent names) u) is clear))
      f.1

  pub undefined_found : (names used : List Bytes) (rules : List NamedRule) (name copy : Bytes) → rules ≡ g.rules → AreFirstSights (names_of rules) names → used ≡ names_used g
      → First (IsAbsent names) used name → copy ≡ name → FindsUndefined g (fault.Undefined copy)
  undefined_found names used rules name copy same seen is first told = (
    name,
    first_same (IsAbsent names) (IsUndefined g) (absent g names (subst (λ (r : List NamedRule). AreFirstSights (names_of r) names) same seen)) (names_used g) name
        (subst (λ (u : List Bytes). First (IsAbsent names) u name) is first),
    ap fault.Undefined told,
  )

  -- ---- a SYMBOL inside a token

  pub inside_none : (seen : List Sight) → seen ≡ walk g → symbols_inside seen ≡ [] → Nothing (FindsSymbolInToken g)
  inside_none seen is empty found f =
      let e : [] ≡ f.0 ∷ f.1.0 = sym empty ∙ ap symbols_inside is ∙ f.1.1 in
      absurd cc

  -- ---- inlined rules, and patterns

  pub inline_none : Clear (IsBadInline g) (rule_names g) → Nothing (FindsBadInline g)
  inline_none clear found f = clear_not_first (IsBadInline g) (rule_names g) f.0 clear f.1

  pub inline_found : (e : InlineFault) → IsInlineFault g e → HasCause (FindsBadInline g) (inline_told e)
  inline_found (inline_fault.Bad name) first caused = (name, first, refl)
  inline_found inline_fault.Memory first caused = absurd (caused refl)

  pub pattern_found : (e : PatternFault) → IsPatternFault (placed_patterns g) e → HasCause (FindsBadPattern g) (pattern_told e)
  pattern_found (pattern_fault.Refused rule cause) refused caused = (rule, cause, refused, refl)
  pattern_found pattern_fault.Memory refused caused = absurd (caused refl)

  -- ---- the word, and extras

  pub extra_none : Clear (IsBadExtra g) (extra_symbols g) → Nothing (FindsBadExtra g)
  extra_none clear found f = clear_not_first (IsBadExtra g) (extra_symbols g) f.0 clear f.1

  -- ---- all of them

  pub words_none : Nothing (FindsBadWord g) → Nothing (FindsBadExtra g) → Nothing (FindsInWords g)
  words_none a b = nothing_both (FindsBadWord g) (FindsBadExtra g) a b

  pub by_extras : (e : NFault) → Nothing (FindsBadWord g) → HasCause (FindsBadExtra g) e → HasCause (FindsInWords g) e
  by_extras e none h = later_cause (FindsBadWord g) (FindsBadExtra g) e none h

  pub rules_none : Nothing (FindsBadInline g) → Nothing (FindsInWords g) → Nothing (FindsInRules g)
  rules_none a b = nothing_both (FindsBadInline g) (FindsInWords g) a b

  pub by_inline : (e : NFault) → HasCause (FindsBadInline g) e → HasCause (FindsInRules g) e
  by_inline e h = first_cause (FindsBadInline g) (FindsInWords g) e h

  pub by_words : (e : NFault) → Nothing (FindsBadInline g) → HasCause (FindsInWords g) e → HasCause (FindsInRules g) e
  by_words e none h = later_cause (FindsBadInline g) (FindsInWords g) e none h

  abbrev FromTokens : Cause
  FromTokens = Before (FindsSymbolInToken g) (FindsInRules g)

  pub trees_none : Nothing (FindsUndefined g) → Nothing (FindsSymbolInToken g) → Nothing (FindsInRules g) → Nothing (FindsInTrees g)
  trees_none a b c = nothing_both (FindsUndefined g) FromTokens a (nothing_both (FindsSymbolInToken g) (FindsInRules g) b c)

  pub by_tokens : (e : NFault) → Nothing (FindsUndefined g) → HasCause (FindsSymbolInToken g) e → HasCause (FindsInTrees g) e
  by_tokens e none h = later_cause (FindsUndefined g) FromTokens e none (first_cause (FindsSymbolInToken g) (FindsInRules g) e h)

  pub by_rules : (e : NFault) → Nothing (FindsUndefined g) → Nothing (FindsSymbolInToken g) → HasCause (FindsInRules g) e → HasCause (FindsInTrees g) e
  by_rules e a b h = later_cause (FindsUndefined g) FromTokens e a (later_cause (FindsSymbolInToken g) (FindsInRules g) e b h)
