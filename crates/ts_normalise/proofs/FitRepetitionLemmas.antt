-- The repetitions of a normal form have the form of one.
use Rattle.std.proofs.Common.{◌≡◌, ◌∙◌, sym, ap, subst, refl, ℕ, ℤ, ⊎_elim, List, [], ◌∷◌, ◌++◌, map, slice_get, Some, arith}
use Rattle.std.specs.List.{Contains}
use Rattle.std.proofs.lemmas.List.{map-append}
use Rattle.std.proofs.lemmas.List.Elements.{All-cons, All-contains}
use Rattle.ts_base.specs.Bytes.{Bytes}
use Rattle.ts_core.specs.declared.flat.FlatGrammar.{FlatGrammar}
use Rattle.ts_core.specs.declared.flat.FlatRule.{FlatRule}
use Rattle.ts_core.specs.declared.flat.Production.{Production}
use Rattle.ts_core.specs.declared.flat.Step.{Step}
use Rattle.ts_core.specs.declared.rule.Grammar.{Grammar}
use Rattle.ts_core.specs.declared.rule.Rule.{Rule}
use Rattle.ts_core.specs.declared.symbol.Symbol.{Symbol}
use Rattle.spec_tables.specs.Fit.{HasRule, IsFitRepetition, IsRepetitionAt, again_after}
use Rattle.ts_pattern.specs.Reads.{Reads}
use Rattle.ts_rules.specs.declared.tree.Alternative.{Alternative}
use Rattle.ts_rules.specs.declared.tree.NumberedStep.{NumberedStep}
use Rattle.ts_rules.specs.Alternatives.{Alternatives, alternative, step_at}
use Rattle.ts_rules.specs.FileGrammar.{IsFileGrammar, IsSmallSight}
use Rattle.ts_rules.specs.FirstSights.{Not, AreFirstSights}
use Rattle.ts_rules.specs.Normal.{IsNormal, IsOwner}
use Rattle.ts_rules.specs.Numbers.{Numbers, Lists, IsInlined, IsRepeated, unnumbered, alts, outermost}
use Rattle.ts_rules.specs.Productions.{AllBecome, Becomes, Stays, stays, replaced, none_left, one_more, IsInner, AreRepeated, again, filled, production, symbol, replaced_by}
use Rattle.ts_rules.specs.Sights.{NamedRule, sights, rule_sights, walk, contents_in}
use Rattle.ts_normalise.proofs.UsedLemmas.{walk_has}
use Rattle.ts_normalise.proofs.BecomeLemmas.{one_productions}
use Rattle.ts_normalise.proofs.BlankLemmas.{same_steps}
use Rattle.ts_normalise.proofs.InsideLemmas.{rule_seen}
use Rattle.ts_normalise.proofs.ListLemmas.{there, at_of, none_in, picked}
use Rattle.ts_normalise.proofs.FitFilledLemmas.{HasSome, AreSmall, some_alternative, all_some, some_filled}
use Rattle.ts_normalise.proofs.OwnerLemmas.{owner_has}
use Rattle.ts_normalise.proofs.FitPlaceLemmas.{rule_cases, own_symbol, repetition_symbol, own_there, some_own}
use Rattle.ts_normalise.proofs.FitRefusalLemmas.{IsUnrefused}
use Rattle.ts_normalise.proofs.FitSightLemmas.{sights_mapped, in_mapped}

-- ---- two halves

module _ (Inner : ℕ → Alternatives → Type 0) (r : ℕ) (stay : Stays Inner (step_at r outermost)) where
  abbrev pub behind : Alternative → Alternative
  behind p = alternative p.dynamic (step_at r outermost ∷ p.steps)

  maps : (dynamic : ℤ) (before : List NumberedStep) (step : NumberedStep) (after : List NumberedStep) (inner : Alternatives)
      → map behind (map (replaced_by dynamic before step after) inner) ≡ map (replaced_by dynamic (step_at r outermost ∷ before) step after) inner
  maps dynamic before step after [] = refl
  maps dynamic before step after (q ∷ qs) = ap (λ (ps : Alternatives). replaced_by dynamic (step_at r outermost ∷ before) step after q ∷ ps) (maps dynamic before step after qs)

  mutual
    behind_becomes : (p : Alternative) (all : Alternatives) → Becomes Inner p all → Becomes Inner (behind p) (map behind all)
    behind_becomes _ _ (stays p all_stay) = stays (behind p) (All-cons (Stays Inner) (step_at r outermost) p.steps stay all_stay)
    behind_becomes _ _ (replaced dynamic before step after inner all all_stay is become) =
        replaced dynamic (step_at r outermost ∷ before) step after inner (map behind all) (All-cons (Stays Inner) (step_at r outermost) before stay all_stay) is
        (subst (λ (ps : Alternatives). AllBecome Inner ps (map behind all)) (maps dynamic before step after inner) (behind_all (map (replaced_by dynamic before step after) inner) all become))

    pub behind_all : (ps all : Alternatives) → AllBecome Inner ps all → AllBecome Inner (map behind ps) (map behind all)
    behind_all _ _ none_left = none_left
    behind_all _ _ (one_more p ps qs rs one more) =
        subst (λ (all : Alternatives). AllBecome Inner (map behind (p ∷ ps)) all) (sym (map-append behind qs rs))
        (one_more (behind p) (map behind ps) (map behind qs) (map behind rs) (behind_becomes p qs one) (behind_all ps rs more))

abbrev rest_of : List Step → List Step
rest_of [] = []
rest_of (t ∷ ts) = ts

abbrev made : ℤ → List Step → Production
made dynamic steps = record { dynamic = dynamic; steps = steps }

again_apart : (r : ℕ) (p q : Production) → again_after (symbol r) p ≡ again_after (symbol r) q → p ≡ q
again_apart r p q e = ap (λ (o : Production). made o.dynamic (rest_of o.steps)) e

productions_behind : (n : Numbers) (r : ℕ) (all : Alternatives)
    → map (production n) (map (λ (p : Alternative). alternative p.dynamic (step_at r outermost ∷ p.steps)) all) ≡ map (again_after (symbol r)) (map (production n) all)
productions_behind n r [] = refl
productions_behind n r (p ∷ ps) = ap (λ (qs : List Production). again_after (symbol r) (production n p) ∷ qs) (productions_behind n r ps)

-- ---- the repetitions of a normal form

module _ (g : Grammar) (f : FlatGrammar) (normal : IsNormal Reads g f) (file : IsFileGrammar g) (sane : IsUnrefused g) where
  rule_small : (r : NamedRule) → Contains g.rules r → AreSmall (sights r.1)
  rule_small r w s v = All-contains IsSmallSight (walk g) s file.small (walk_has g s (rule_seen g r w s v))

  some_inner : (k : ℕ) (xs : Alternatives) → IsInner normal.numbers normal.lists k xs → HasSome xs
  some_inner k xs is =
      let p = picked (λ (r : NamedRule). IsInlined g r.0) g.rules normal.lists.inlined is.1 normal.are_lists.inlined (there normal.lists.inlined is.0 is.1 is.2) in
      subst (λ (ys : Alternatives). HasSome ys) (sym is.4) (some_alternative normal.numbers is.1.1 (rule_small is.1 p.0))

  stays_there : (c : Rule) → Contains normal.lists.contents c → Stays (IsInner normal.numbers normal.lists) (step_at (normal.numbers.repetition c) outermost)
  stays_there c w inner is =
      let lt = w.1 in
      let e = normal.are_numbers.contents w.0 c (at_of normal.lists.contents c w) in
      let f = is.3 in
      let z : ⊥ = omega (arith, lt, e, f) in
      z

  module _ (c : Rule) (here : Contains normal.lists.contents c) (found : List Production) (have : AreRepeated normal.numbers normal.lists c found) where
    abbrev number : ℕ
    number = normal.numbers.repetition c

    second_half : have.more ≡ map (again_after (symbol number)) have.once
    second_half =
        let n : Numbers = normal.numbers in
        let x : Lists = normal.lists in
        let xs : Alternatives = filled (alts n c) in
        let one = have.are_once in
        let stay : Stays (IsInner n x) (step_at number outermost) = stays_there c here in
        one_productions n x (again number xs) have.more (map (again_after (symbol number)) have.once)
        have.are_more
        (record {
          all = map (behind (IsInner n x) number stay) one.all;
          become = behind_all (IsInner n x) number stay xs one.all one.become;
          firsts = subst (λ (seen : List Production). AreFirstSights seen (map (again_after (symbol number)) have.once)) (sym (productions_behind n number one.all))
              (sights_mapped (again_after (symbol number)) (again_apart number) (map (production n) one.all) have.once one.firsts);
        })

    some_once : Not (have.once ≡ [])
    some_once none =
        let n : Numbers = normal.numbers in
        let x : Lists = normal.lists in
        let one = have.are_once in
        let seen = normal.are_lists.contents in
        let p = picked IsRepeated (contents_in (rule_sights g)) seen.0 c seen.1 (seen.2.only c here) in
        let some = all_some (IsInner n x) some_inner (filled (alts n c)) one.all (some_filled n c (same_steps n unnumbered c ∙ p.1)) one.become in
        none_in (production n some.0) (subst (λ (ps : List Production). Contains ps (production n some.0)) none (one.firsts.every (production n some.0) (in_mapped (production n) one.all some.0 some.1)))

  -- ---- owners

  pub owner_there : (c : Rule) (name : Bytes) → IsOwner g c name → (o : FlatRule) × HasRule f (symbol (normal.numbers.rule name)) o × (o.owner ≡ symbol (normal.numbers.rule name))
  owner_there c name is =
      let h = owner_has g file sane.inlines c name is in
      let o = own_there g f normal h.0.0 h.0.1 h.1 h.2 in
      subst (λ (z : Bytes). (o : FlatRule) × HasRule f (symbol (normal.numbers.rule z)) o × (o.owner ≡ symbol (normal.numbers.rule z))) h.3 (o.0, o.1, o.2.owner)

  -- ---- the whole

  pub fit_repetition : (k : ℕ) (r : FlatRule) → slice_get f.rules k ≡ Some r → IsRepetitionAt f k r → IsFitRepetition f k r
  fit_repetition k r at apart = ⊎_elim
      (λ own. absurd (apart (own.2.owner ∙ own_symbol g f normal k own.0 own.1)))
      (λ h.
      let is = h.4 in
      let place = h.2 in
      let lt = some_own g f normal file sane in
      let here : Contains normal.lists.contents h.1 = there normal.lists.contents h.0 h.1 h.3 in
      let same = repetition_symbol g f normal h.0 k h.1 h.2 h.3 in
      let owner = is.owner in
      let o = owner_there h.1 owner.0 owner.1 in
      let have = is.productions in
      record {
        not_start = omega (arith, place, lt);
        hidden = is.kind;
        unnamed = is.name;
        owner = (o.0, subst (λ (s : Symbol). HasRule f s o.0) (sym owner.2) o.1, o.2 ∙ sym owner.2);
        contents = have.once;
        some_content = some_once h.1 here r.productions have;
        productions = have.is ∙ ap (λ (ps : List Production). have.once ++ ps) (second_half h.1 here r.productions have ∙ ap (λ (s : Symbol). map (again_after s) have.once) same);
      })
      (rule_cases g f normal k r at)
