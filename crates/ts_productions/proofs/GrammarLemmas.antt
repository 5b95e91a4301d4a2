-- The alternatives of sources are those of their grammar, and so are the limits.
use Rattle.std.proofs.Common.{◌≡◌, ◌∙◌, sym, ap, subst, refl, ℕ, suc, ◌+◌, ◌<◌, inl, inr, ⊎_elim, ◌↔◌, List, [], ◌∷◌, ◌++◌, map, length, slice_get, Option, Some, None, option_map, All, arith}
use Rattle.std.proofs.lemmas.List.Elements.{All-weaker}
use Rattle.std.proofs.lemmas.Option.{slice_get-map, slice_get_cases}
use Rattle.spec_tables.specs.Fit.{most_productions, most_steps}
use Rattle.ts_core.specs.declared.rule.Rule.{Rule}
use Rattle.ts_rules.specs.declared.tree.Alternative.{Alternative}
use Rattle.ts_rules.specs.declared.tree.NumberedStep.{NumberedStep}
use Rattle.ts_rules.specs.declared.tree.Tree.{Tree}
use Rattle.ts_rules.specs.Alternatives.{Alternatives, longest_of}
use Rattle.ts_rules.specs.Numbers.{Numbers, Lists, alts, tree_of, first_repetition}
use Rattle.ts_rules.specs.Productions.{AllBecome, Becomes, Stays, stays, replaced, none_left, one_more, IsInner, filled, again, replaced_by}
use Rattle.ts_rules.specs.Sights.{NamedRule}
use Rattle.ts_productions.specs.declared.sources.Sources.{Sources}
use Rattle.ts_productions.specs.Grammars.{rule_tree, AreSourcesOf, repetition_alternatives, all_rule_alternatives, all_repetition_alternatives, symbol_alternatives, all_alternatives, IsCounted, CountsMany, CountsLong}
use Rattle.ts_productions.specs.Limits.{IsReplacedBy, AllGive, AreMany, SomeIsLong}
use Rattle.ts_productions.specs.Roots.{whole, whole_all, repeated_all, roots_of, before_of}
use Rattle.ts_productions.proofs.EntryLemmas.{entry_place, entry_there}
use Rattle.ts_productions.proofs.MemberLemmas.{longest_has, has_longest}
use Rattle.ts_productions.proofs.SpreadLemmas.{flat_mapped}

-- ---- inlining by the same rules

module _ (One Other : ℕ → Alternatives → Type 0) (to : (s : ℕ) (inner : Alternatives) → One s inner → Other s inner) (from : (s : ℕ) (inner : Alternatives) → Other s inner → One s inner) where
  stay_too : (steps : List NumberedStep) → All (Stays One) steps → All (Stays Other) steps
  stay_too steps all = All-weaker (Stays One) (Stays Other) (λ step stay inner is. stay inner (from step.symbol inner is)) steps all

  mutual
    one_becomes : (p : Alternative) (all : Alternatives) → Becomes One p all → Becomes Other p all
    one_becomes _ _ (stays p stay) = stays p (stay_too p.steps stay)
    one_becomes _ _ (replaced dynamic before step after inner all stay is become) =
        replaced dynamic before step after inner all (stay_too before stay) (to step.symbol inner is) (all_become (map (replaced_by dynamic before step after) inner) all become)

    pub all_become : (ps all : Alternatives) → AllBecome One ps all → AllBecome Other ps all
    all_become _ _ none_left = none_left
    all_become _ _ (one_more p ps qs rs one more) = one_more p ps qs rs (one_becomes p qs one) (all_become ps rs more)

-- ---- alternatives

inner_is : (a b : Alternatives) → Some a ≡ Some b → a ≡ b
inner_is a b e = cc

none_is : (a : Alternatives) → None ≡ Some a → ⊥
none_is a e = cc

repeated_same : (n : Numbers) (first : ℕ) (contents : List Rule) → ((k : ℕ) (content : Rule) → slice_get contents k ≡ Some content → n.repetition content ≡ first + k)
    → repeated_all first (map (tree_of n) contents) ≡ all_repetition_alternatives n contents
repeated_same n first [] at = refl
repeated_same n first (c ∷ cs) at =
    let here : first ≡ n.repetition c = (let e = at 0 c refl in omega (arith, e)) in
    ap (λ (k : ℕ). (filled (alts n c) ++ again k (filled (alts n c))) ++ repeated_all (suc first) (map (tree_of n) cs)) here
    ∙ ap (λ (xs : Alternatives). repetition_alternatives n c ++ xs) (repeated_same n (suc first) cs (λ k d e. let f = at (suc k) d e in omega (arith, f)))

module _ (n : Numbers) (x : Lists) (s : Sources) (of : AreSourcesOf n x s) where
  whole_same : (trees : List Tree) (rules : List NamedRule) → trees ≡ map (rule_tree n) rules → whole_all trees ≡ all_rule_alternatives n rules
  whole_same trees rules is = ap whole_all is ∙ flat_mapped whole (rule_tree n) rules

  pub roots_same : roots_of s ≡ symbol_alternatives n x
  roots_same =
      ap (λ (xs : Alternatives). xs ++ repeated_all s.first_repetition s.contents.now) (whole_same s.rules.now x.rules of.rules)
      ∙ ap (λ (ts : List Tree). all_rule_alternatives n x.rules ++ repeated_all s.first_repetition ts) of.contents
      ∙ ap (λ (k : ℕ). all_rule_alternatives n x.rules ++ repeated_all k (map (tree_of n) x.contents)) of.repetitions_from
      ∙ ap (λ (xs : Alternatives). all_rule_alternatives n x.rules ++ xs) (repeated_same n (first_repetition x) x.contents of.repetitions)

  pub before_same : before_of s ≡ all_alternatives n x
  before_same =
      ap (λ (xs : Alternatives). xs ++ roots_of s) (whole_same s.inlined.now x.inlined of.inlined)
      ∙ ap (λ (xs : Alternatives). all_rule_alternatives n x.inlined ++ xs) roots_same

  inlined_there : (k : ℕ) → slice_get (map whole s.inlined.now) k ≡ option_map whole (option_map (rule_tree n) (slice_get x.inlined k))
  inlined_there k =
      slice_get-map whole s.inlined.now k
      ∙ ap (λ (ts : List Tree). option_map whole (slice_get ts k)) of.inlined
      ∙ ap (option_map whole) (slice_get-map (rule_tree n) x.inlined k)

  -- the same symbols are replaced, by the same alternatives
  pub inner_of : (symbol : ℕ) (inner : Alternatives) → IsReplacedBy s symbol inner → IsInner n x symbol inner
  inner_of symbol inner is =
      let v = entry_place s.first_inlined (map whole s.inlined.now) symbol inner is in
      elim (slice_get_cases x.inlined v.0).1 [
        | inl u ↦ (
          v.0,
          u.0,
          u.2,
          v.1 ∙ ap (λ (first : ℕ). first + v.0) of.inlined_from,
          sym (inner_is (alts n u.0.1) inner (ap (λ (o : Option NamedRule). option_map whole (option_map (rule_tree n) o)) (sym u.2) ∙ sym (inlined_there v.0) ∙ v.2)),
        )
        | inr u ↦ absurd (none_is inner (ap (λ (o : Option NamedRule). option_map whole (option_map (rule_tree n) o)) (sym u.1) ∙ sym (inlined_there v.0) ∙ v.2))
      ]

  pub of_inner : (symbol : ℕ) (inner : Alternatives) → IsInner n x symbol inner → IsReplacedBy s symbol inner
  of_inner symbol inner w =
      entry_there s.first_inlined (map whole s.inlined.now) symbol w.0 inner (w.3 ∙ ap (λ (first : ℕ). first + w.0) (sym of.inlined_from))
      (inlined_there w.0 ∙ ap (λ (o : Option NamedRule). option_map whole (option_map (rule_tree n) o)) w.2 ∙ ap Some (sym w.4))

  pub become_of : (xs all : Alternatives) → AllBecome (IsReplacedBy s) xs all → AllBecome (IsInner n x) xs all
  become_of xs all become = all_become (IsReplacedBy s) (IsInner n x) inner_of of_inner xs all become

  pub of_become : (xs all : Alternatives) → AllBecome (IsInner n x) xs all → AllBecome (IsReplacedBy s) xs all
  of_become xs all become = all_become (IsInner n x) (IsReplacedBy s) of_inner inner_of xs all become

  -- ---- limits

  give_counted : (all : Alternatives) → AllGive s all → IsCounted n x all
  give_counted all gives = inr (subst (λ (xs : Alternatives). AllBecome (IsInner n x) xs all) roots_same (become_of (roots_of s) all gives))

  counted_gives : (all : Alternatives) → AllBecome (IsInner n x) (symbol_alternatives n x) all → AllGive s all
  counted_gives all become = of_become (roots_of s) all (subst (λ (xs : Alternatives). AllBecome (IsInner n x) xs all) (sym roots_same) become)

  pub many_same : AreMany s ↔ CountsMany n x
  many_same = (
    λ many. ⊎_elim (λ lt. (before_of s, inl before_same, lt)) (λ w. (w.0, give_counted w.0 w.1, w.2)) many,
    λ counts. ⊎_elim (λ e. inl (subst (λ (xs : Alternatives). most_productions < length xs) (e ∙ sym before_same) counts.2)) (λ become. inr (counts.0, counted_gives counts.0 become, counts.2)) counts.1,
  )

  pub long_same : SomeIsLong s ↔ CountsLong n x
  long_same = (
    λ long. ⊎_elim
        (λ lt. let r = longest_has (before_of s) most_steps lt in (before_of s, inl before_same, r.0, r.1, r.2))
        (λ w. let r = longest_has w.0 most_steps w.2 in (w.0, give_counted w.0 w.1, r.0, r.1, r.2))
        long,
    λ counts. let lt : most_steps < longest_of counts.0 = has_longest counts.0 most_steps counts.2 counts.3 counts.4 in
        ⊎_elim (λ e. inl (subst (λ (xs : Alternatives). most_steps < longest_of xs) (e ∙ sym before_same) lt)) (λ become. inr (counts.0, counted_gives counts.0 become, lt)) counts.1,
  )
