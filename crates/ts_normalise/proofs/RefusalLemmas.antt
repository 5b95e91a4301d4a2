-- A grammar is refused for one cause.
use Rattle.std.proofs.Common.{◌≡◌, ◌∙◌, sym, ap, subst, refl, ℕ, inl, inr, List, [], ◌∷◌, slice_get, Some, arith, ◌≢◌, Bool}
use Rattle.std.proofs.lemmas.List.Elements.{All-nil, All-cons}
use Rattle.ts_base.specs.Bytes.{Bytes}
use Rattle.ts_core.specs.declared.flat.FlatGrammar.{FlatGrammar}
use Rattle.ts_core.specs.declared.flat.FlatRule.{FlatRule}
use Rattle.ts_core.specs.declared.flat.TokenDef.{TokenDef}
use Rattle.ts_core.specs.declared.rule.Grammar.{Grammar}
use Rattle.ts_core.specs.declared.symbol.Symbol.{Symbol}
use Rattle.spec_tables.specs.Fit as fit
use Rattle.ts_fit.specs.Misfits.{IsEmptyToken, IsFirstPlace}
use Rattle.ts_pattern.specs.declared.fault.PFault.{PFault}
use Rattle.ts_pattern.specs.Reads.{Reads, IsFault}
use Rattle.ts_rules.specs.Causes.{ExtraSymbol, IsUndefined, IsBadInline, IsBadExtra, names_used, rule_names, extra_symbols}
use Rattle.ts_rules.specs.FirstSights.{Not, First, Clear}
use Rattle.ts_rules.specs.Names.{BeginsWith}
use Rattle.ts_rules.specs.Normal.{IsNormal}
use Rattle.ts_rules.specs.Sights.{walk, symbols_inside}
use Rattle.ts_tokens.specs.Patterns.{IsUnreadable, PlacedPattern, placed_patterns}
use Rattle.ts_normalise.specs.declared.fault.NFault.{NFault}
use Rattle.ts_normalise.specs.declared.fault.NFault.TheVariants as fault
use Rattle.ts_normalise.specs.Refusals.{Cause, Nothing, Before, FindsUndefined, FindsSymbolInToken, FindsBadInline, FindsBadWord, FindsBadExtra, FindsBadPattern, FindsManySymbols, FindsManyNames, FindsManyProductions, FindsManySteps, FindsManyPositions, HasEmptyToken, HasEmptyRule, HasCycle, FindsEmptyToken, FindsEmptyRule, FindsCyclic, FindsInTrees, FindsMany, FindsInForm, IsRefused, Flattens}
use Rattle.ts_normalise.proofs.ListLemmas.{one_first}

-- the cause answers one fault at most
abbrev IsOne : Cause → Type 0
IsOne Finds = (e h : NFault) → Finds e → Finds h → e ≡ h

one_before : (A B : Cause) → IsOne A → (Nothing A → IsOne B) → IsOne (Before A B)
one_before A B a b e h (inl x) (inl y) = a e h x y
one_before A B a b e h (inl x) (inr y) = absurd (y.0 e x)
one_before A B a b e h (inr x) (inl y) = absurd (x.0 h y)
one_before A B a b e h (inr x) (inr y) = b x.0 e h x.1 y.1

-- nothing of the first cause, where there is nothing of both
pub nothing_first : (A B : Cause) → Nothing (Before A B) → Nothing A
nothing_first A B none found x = none found (inl x)

-- where no value is the first with the property, none has it
pub clear_of : {X : Type 0} (P : X → Type 0) (xs : List X) → ((x : X) → First P xs x → ⊥) → Clear P xs
clear_of P [] none = All-nil (λ x. Not (P x))
clear_of P (x ∷ xs) none =
    let here : Not (P x) = λ p. none x (record { before = []; after = xs; is = refl; holds = p; clear = All-nil (λ z. Not (P z)) }) in
    All-cons (λ z. Not (P z)) x xs here (clear_of P xs (λ y f. none y (record {
      before = x ∷ f.before;
      after = f.after;
      is = ap (λ zs. x ∷ zs) f.is;
      holds = f.holds;
      clear = All-cons (λ z. Not (P z)) x f.before here f.clear;
    })))

pub defined : (g : Grammar) → Nothing (FindsUndefined g) → Clear (IsUndefined g) (names_used g)
defined g none = clear_of (IsUndefined g) (names_used g) (λ name f. none (fault.Undefined name) (name, f, refl))

one_place : (P : ℕ → Type 0) (j k : ℕ) → IsFirstPlace P j → IsFirstPlace P k → j ≡ k
one_place P j k a b = let low = a.least k b.holds in let high = b.least j a.holds in omega (arith, low, high)

-- ---- in the rule trees

one_undefined : (g : Grammar) → IsOne (FindsUndefined g)
one_undefined g e h a b = a.2 ∙ ap fault.Undefined (one_first (IsUndefined g) (names_used g) a.0 b.0 a.1 b.1) ∙ sym b.2

one_beginning : (xs : List Bytes) (a b : Bytes) → BeginsWith a xs → BeginsWith b xs → a ≡ b
one_beginning xs a b v w = let e : a ∷ v.0 ≡ b ∷ w.0 = sym v.1 ∙ w.1 in cc

one_inside : (g : Grammar) → IsOne (FindsSymbolInToken g)
one_inside g e h a b = a.2 ∙ ap fault.SymbolInToken (one_beginning (symbols_inside (walk g)) a.0 b.0 a.1 b.1) ∙ sym b.2

one_inline : (g : Grammar) → IsOne (FindsBadInline g)
one_inline g e h a b = a.2 ∙ ap fault.BadInline (one_first (IsBadInline g) (rule_names g) a.0 b.0 a.1 b.1) ∙ sym b.2

one_word : (g : Grammar) → IsOne (FindsBadWord g)
one_word g e h a b = a.3 ∙ ap fault.BadWord (same a.0 b.0 (sym a.1 ∙ b.1)) ∙ sym b.3
  where
    same : (v w : Bytes) → Some v ≡ Some w → v ≡ w
    same v w f = cc

one_extra : (g : Grammar) → IsOne (FindsBadExtra g)
one_extra g e h a b = a.2 ∙ ap (λ (x : ExtraSymbol). fault.NonTerminalExtra x.0) (one_first (IsBadExtra g) (extra_symbols g) a.0 b.0 a.1 b.1) ∙ sym b.2

one_in_trees : (g : Grammar) → IsOne (FindsInTrees g)
one_in_trees g =
    one_before (FindsUndefined g) (Before (FindsSymbolInToken g) (Before (FindsBadInline g) (Before (FindsBadWord g) (FindsBadExtra g)))) (one_undefined g) (λ none.
    one_before (FindsSymbolInToken g) (Before (FindsBadInline g) (Before (FindsBadWord g) (FindsBadExtra g))) (one_inside g) (λ none_too.
    one_before (FindsBadInline g) (Before (FindsBadWord g) (FindsBadExtra g)) (one_inline g) (λ nor.
    one_before (FindsBadWord g) (FindsBadExtra g) (one_word g) (λ either. one_extra g))))

-- ---- limits

one_many : (g : Grammar) → IsOne (FindsMany g)
one_many g =
    one_before (FindsManySymbols g) (Before (FindsManyNames g) (Before (FindsManyProductions g) (Before (FindsManySteps g) (FindsManyPositions g)))) (λ e h a b. a.1 ∙ sym b.1) (λ n1.
    one_before (FindsManyNames g) (Before (FindsManyProductions g) (Before (FindsManySteps g) (FindsManyPositions g))) (λ e h a b. a.1 ∙ sym b.1) (λ n2.
    one_before (FindsManyProductions g) (Before (FindsManySteps g) (FindsManyPositions g)) (λ e h a b. a.1 ∙ sym b.1) (λ n3.
    one_before (FindsManySteps g) (FindsManyPositions g) (λ e h a b. a.1 ∙ sym b.1) (λ n4 e h a b. a.1 ∙ sym b.1))))

-- ---- patterns and the normal form

-- a source has one fault
abbrev OneFault : Type 0
OneFault = (e h : PFault) (w : Bytes) (ignore_case : Bool) → e ≢ PFault.Memory → h ≢ PFault.Memory → IsFault w ignore_case e → IsFault w ignore_case h → e ≡ h

-- a grammar without undefined names has one normal form
abbrev OneForm : Type 0
OneForm = (g : Grammar) (f h : FlatGrammar) → Clear (IsUndefined g) (names_used g) → IsNormal Reads g f → IsNormal Reads g h → f ≡ h

module _ (one_form : OneForm) (g : Grammar) where
  one_pattern : OneFault → IsOne (FindsBadPattern g)
  one_pattern one_fault e h a b =
      let v = a.2 in
      let w = b.2 in
      let same : w.pattern ≡ v.pattern = one_first IsUnreadable (placed_patterns g) w.pattern v.pattern w.first v.first in
      let cause : IsFault v.pattern.source.0 v.pattern.source.1 b.1 = subst (λ (p : PlacedPattern). IsFault p.source.0 p.source.1 b.1) same w.cause_is in
      a.3
      ∙ ap (λ (rule : Bytes). fault.Pattern rule a.1) (v.rule_is ∙ ap (λ (p : PlacedPattern). p.rule) (sym same) ∙ sym w.rule_is)
      ∙ ap (fault.Pattern b.0) (one_fault a.1 b.1 v.pattern.source.0 v.pattern.source.1 v.caused w.caused v.cause_is cause)
      ∙ sym b.3

  module _ (clear : Clear (IsUndefined g) (names_used g)) where
    form_same : (f h : FlatGrammar) → IsNormal Reads g f → IsNormal Reads g h → f ≡ h
    form_same f h a b = one_form g f h clear a b

    one_empty_token : IsOne (FindsEmptyToken g)
    one_empty_token e h a b = a.2 ∙ ap fault.EmptyToken (name a.0 b.0 a.1 b.1) ∙ sym b.2
      where
        name : (v w : Bytes) → HasEmptyToken g v → HasEmptyToken g w → v ≡ w
        name v w x y =
            let form : y.form ≡ x.form = form_same y.form x.form y.normal x.normal in
            let first : IsFirstPlace (IsEmptyToken x.form) y.place = subst (λ (f : FlatGrammar). IsFirstPlace (IsEmptyToken f) y.place) form y.first in
            let place : y.place ≡ x.place = one_place (IsEmptyToken x.form) y.place x.place first x.first in
            let there : slice_get x.form.tokens y.place ≡ Some y.token = subst (λ (f : FlatGrammar). slice_get f.tokens y.place ≡ Some y.token) form y.there in
            let some : Some y.token ≡ Some x.token = sym there ∙ ap (slice_get x.form.tokens) place ∙ x.there in
            let token : y.token ≡ x.token = cc in
            x.name_is ∙ ap (λ (d : TokenDef). d.name) (sym token) ∙ sym y.name_is

    one_empty_rule : IsOne (FindsEmptyRule g)
    one_empty_rule e h a b = a.2 ∙ ap fault.EmptyRule (name a.0 b.0 a.1 b.1) ∙ sym b.2
      where
        name : (v w : Bytes) → HasEmptyRule g v → HasEmptyRule g w → v ≡ w
        name v w x y =
            let form : y.form ≡ x.form = form_same y.form x.form y.normal x.normal in
            let first : IsFirstPlace (fit.IsEmptyRule x.form) y.place = subst (λ (f : FlatGrammar). IsFirstPlace (fit.IsEmptyRule f) y.place) form y.first in
            let place : y.place ≡ x.place = one_place (fit.IsEmptyRule x.form) y.place x.place first x.first in
            let there : slice_get x.form.rules y.place ≡ Some y.rule = subst (λ (f : FlatGrammar). slice_get f.rules y.place ≡ Some y.rule) form y.there in
            let some : Some y.rule ≡ Some x.rule = sym there ∙ ap (slice_get x.form.rules) place ∙ x.there in
            let rule : y.rule ≡ x.rule = cc in
            x.name_is ∙ ap (λ (r : FlatRule). r.name) (sym rule) ∙ sym y.name_is

    one_owner : (f : FlatGrammar) (s : Symbol) (r o : FlatRule) → fit.HasRule f s r → fit.HasRule f s o → r ≡ o
    one_owner f s r o v w =
        let number : (fit.rule_symbol f v.0).0 ≡ (fit.rule_symbol f w.0).0 = ap (λ (z : Symbol). z.0) (sym v.2 ∙ w.2) in
        let place : v.0 ≡ w.0 = omega (arith, number) in
        let some : Some r ≡ Some o = sym v.1 ∙ ap (slice_get f.rules) place ∙ w.1 in
        cc

    one_cycle : IsOne (FindsCyclic g)
    one_cycle e h a b = a.2 ∙ ap fault.Cyclic (name a.0 b.0 a.1 b.1) ∙ sym b.2
      where
        name : (v w : Bytes) → HasCycle g v → HasCycle g w → v ≡ w
        name v w x y =
            let form : y.form ≡ x.form = form_same y.form x.form y.normal x.normal in
            let first : IsFirstPlace (fit.IsCyclic x.form) y.place = subst (λ (f : FlatGrammar). IsFirstPlace (fit.IsCyclic f) y.place) form y.first in
            let place : y.place ≡ x.place = one_place (fit.IsCyclic x.form) y.place x.place first x.first in
            let there : slice_get x.form.rules y.place ≡ Some y.rule = subst (λ (f : FlatGrammar). slice_get f.rules y.place ≡ Some y.rule) form y.there in
            let some : Some y.rule ≡ Some x.rule = sym there ∙ ap (slice_get x.form.rules) place ∙ x.there in
            let rule : y.rule ≡ x.rule = cc in
            let has : fit.HasRule x.form x.rule.owner y.owner
            = subst (λ (r : FlatRule). fit.HasRule x.form r.owner y.owner) rule (subst (λ (f : FlatGrammar). fit.HasRule f y.rule.owner y.owner) form y.owner_there) in
            x.name_is ∙ ap (λ (r : FlatRule). r.name) (one_owner x.form x.rule.owner x.owner y.owner x.owner_there has) ∙ sym y.name_is

    one_in_form : IsOne (FindsInForm g)
    one_in_form =
        one_before (FindsEmptyToken g) (Before (FindsEmptyRule g) (FindsCyclic g)) one_empty_token (λ none.
        one_before (FindsEmptyRule g) (FindsCyclic g) one_empty_rule (λ none_too. one_cycle))

  -- nothing undefined, where nothing is found in the trees
  none_undefined : Nothing (FindsInTrees g) → Clear (IsUndefined g) (names_used g)
  none_undefined none = defined g (nothing_first (FindsUndefined g) (Before (FindsSymbolInToken g) (Before (FindsBadInline g) (Before (FindsBadWord g) (FindsBadExtra g)))) none)

  pub one_refusal : OneFault → IsOne (IsRefused g)
  one_refusal one_fault =
      one_before (FindsInTrees g) (Before (FindsBadPattern g) (Before (FindsMany g) (FindsInForm g))) (one_in_trees g) (λ none.
      one_before (FindsBadPattern g) (Before (FindsMany g) (FindsInForm g)) (one_pattern one_fault) (λ read.
      one_before (FindsMany g) (FindsInForm g) (one_many g) (λ few. one_in_form (none_undefined none))))

  pub one_flattening : (f h : FlatGrammar) → Flattens g f → Flattens g h → f ≡ h
  one_flattening f h a b =
      form_same (none_undefined (nothing_first (FindsInTrees g) (Before (FindsBadPattern g) (Before (FindsMany g) (FindsInForm g))) a.accepted)) f h a.normal b.normal
