-- Productions within the limits are few and short, and those of a repetition come in two halves.
use Rattle.std.proofs.Common.{◌≡◌, ◌∙◌, sym, ap, subst, refl, ℕ, ◌+◌, ◌≤◌, ⊎_elim, List, [], ◌∷◌, ◌++◌, map, length, arith}
use Rattle.std.specs.List.{Contains, sum}
use Rattle.std.proofs.lemmas.Bool.{cases_lt}
use Rattle.std.proofs.lemmas.List.{length-map, length-append, map-append}
use Rattle.std.proofs.lemmas.List.Elements.{All-cons, Contains-append_left, Contains-append_right, Contains-append_cases}
use Rattle.std.proofs.lemmas.List.Sums.{sum_by-append}
use lib.IntN.{ℤ}
use Rattle.spec_tables.specs.Fit.{most_productions, most_steps, again_after}
use Rattle.ts_core.specs.declared.flat.Production.{Production}
use Rattle.ts_core.specs.declared.flat.Step.{Step}
use Rattle.ts_core.specs.declared.rule.Rule.{Rule}
use Rattle.ts_rules.specs.declared.tree.Alternative.{Alternative}
use Rattle.ts_rules.specs.declared.tree.NumberedStep.{NumberedStep}
use Rattle.ts_rules.specs.Alternatives.{Alternatives, alternative, step_at, longest_of}
use Rattle.ts_rules.specs.FirstSights.{AreFirstSights, Each, end, both}
use Rattle.ts_rules.specs.Numbers.{Numbers, Lists, alts, outermost}
use Rattle.ts_rules.specs.Productions.{AllBecome, Becomes, Stays, stays, replaced, none_left, one_more, IsInner, AreProductions, AreRepeated, again, filled, production, flat_step, symbol, replaced_by}
use Rattle.ts_rules.specs.Sights.{NamedRule}
use Rattle.ts_productions.specs.declared.sources.Sources.{Sources}
use Rattle.ts_productions.specs.Grammars.{AreSourcesOf, rule_alternatives, repetition_alternatives, all_rule_alternatives, all_repetition_alternatives, symbol_alternatives}
use Rattle.ts_productions.specs.Limits.{AreFewSources, AllAreShort}
use Rattle.ts_productions.specs.Roots.{AreOrderedSources, roots_of}
use Rattle.ts_productions.proofs.BecomeLemmas.{expand, expand_all}
use Rattle.ts_productions.proofs.GrammarLemmas.{of_become, roots_same}
use Rattle.ts_productions.proofs.LimitLemmas.{table, only}
use Rattle.ts_productions.proofs.MemberLemmas.{flat_in, in_flat, at_of, has_longest}
use Rattle.ts_productions.proofs.OnceLemmas.{one_sights, sights_length, mapped_in, sights_mapped}
use Rattle.ts_productions.proofs.SpreadLemmas.{flat_append}

sum_more : (k : ℕ) (ks : List ℕ) → sum (k ∷ ks) ≡ k + sum ks
sum_more k ks = sum_by-append (λ (n : ℕ). n) (k ∷ []) ks ∙ (let e : (0 + k) + sum ks ≡ k + sum ks = omega arith in e)

module _ (n : Numbers) (x : Lists) (s : Sources) (of : AreSourcesOf n x s) (ordered : AreOrderedSources s) where
  abbrev grown : Alternatives → Alternatives
  grown = expand_all (table s ordered)

  all_is : (xs all : Alternatives) → AllBecome (IsInner n x) xs all → all ≡ grown xs
  all_is xs all become = only s ordered xs all (of_become n x s of xs all become)

  grown_append : (xs ys : Alternatives) → length (grown (xs ++ ys)) ≡ length (grown xs) + length (grown ys)
  grown_append xs ys = ap (λ (zs : Alternatives). length zs) (flat_append (expand (table s ordered)) xs ys) ∙ length-append (grown xs) (grown ys)

  -- ---- few

  found_count : (xs : Alternatives) (found : List Production) → AreProductions n x xs found → length found ≤ length (grown xs)
  found_count xs found have =
      let a = sights_length (map (production n) have.all) found have.firsts in
      let b = length-map have.all (production n) in
      let c : length have.all ≡ length (grown xs) = ap (λ (zs : Alternatives). length zs) (all_is xs have.all have.become) in
      omega (arith, a, b, c)

  repeated_count : (content : Rule) (found : List Production) → AreRepeated n x content found → length found ≤ length (grown (repetition_alternatives n content))
  repeated_count content found have =
      let once : Alternatives = filled (alts n content) in
      let a = found_count once have.once have.are_once in
      let b = found_count (again (n.repetition content) once) have.more have.are_more in
      let c : length found ≡ length have.once + length have.more = ap (λ (ps : List Production). length ps) have.is ∙ length-append have.once have.more in
      let d = grown_append once (again (n.repetition content) once) in
      omega (arith, a, b, c, d)

  abbrev Own : NamedRule → List Production → Type 0
  Own rule found = AreProductions n x (alts n rule.1) found

  own_count : (rules : List NamedRule) (own : List (List Production)) → Each Own rules own → sum (map (λ (ps : List Production). length ps) own) ≤ length (grown (all_rule_alternatives n rules))
  own_count _ _ end = omega arith
  own_count _ _ (both rule found rules own have rest) =
      let a = found_count (alts n rule.1) found have in
      let b = own_count rules own rest in
      let c = sum_more (length found) (map (λ (ps : List Production). length ps) own) in
      let d = grown_append (alts n rule.1) (all_rule_alternatives n rules) in
      omega (arith, a, b, c, d)

  contents_count : (contents : List Rule) (repeated : List (List Production)) → Each (AreRepeated n x) contents repeated
      → sum (map (λ (ps : List Production). length ps) repeated) ≤ length (grown (all_repetition_alternatives n contents))
  contents_count _ _ end = omega arith
  contents_count _ _ (both content found contents repeated have rest) =
      let a = repeated_count content found have in
      let b = contents_count contents repeated rest in
      let c = sum_more (length found) (map (λ (ps : List Production). length ps) repeated) in
      let d = grown_append (repetition_alternatives n content) (all_repetition_alternatives n contents) in
      omega (arith, a, b, c, d)

  pub few : (own repeated : List (List Production)) → AreFewSources s → Each Own x.rules own → Each (AreRepeated n x) x.contents repeated
      → sum (map (λ (ps : List Production). length ps) own) + sum (map (λ (ps : List Production). length ps) repeated) ≤ most_productions
  few own repeated fits are_own are_repeated =
      let a = own_count x.rules own are_own in
      let b = contents_count x.contents repeated are_repeated in
      let c = grown_append (all_rule_alternatives n x.rules) (all_repetition_alternatives n x.contents) in
      let d : length fits.1.0 ≡ length (grown (symbol_alternatives n x)) = ap (λ (zs : Alternatives). length zs) (only s ordered (roots_of s) fits.1.0 fits.1.1 ∙ ap grown (roots_same n x s of)) in
      let e = fits.1.2 in
      omega (arith, a, b, c, d, e)

  -- ---- short

  wider : (xs : Alternatives) → ((y : Alternative) → Contains xs y → Contains (symbol_alternatives n x) y) → (y : Alternative) → Contains (grown xs) y → Contains (grown (symbol_alternatives n x)) y
  wider xs part y w =
      let r = in_flat (expand (table s ordered)) xs y w in
      flat_in (expand (table s ordered)) (symbol_alternatives n x) r.0 y (part r.0 r.1) r.2

  steps_short : (xs : Alternatives) (found : List Production) (p : Production) → AllAreShort s → ((y : Alternative) → Contains xs y → Contains (symbol_alternatives n x) y)
      → AreProductions n x xs found → Contains found p → length p.steps ≤ most_steps
  steps_short xs found p short part have w =
      let r = mapped_in (production n) have.all p (have.firsts.only p w) in
      let same : length p.steps ≡ length r.0.steps = ap (λ (q : Production). length q.steps) (sym r.2) ∙ length-map r.0.steps (flat_step n) in
      let long : longest_of short.1.0 ≡ longest_of (grown (symbol_alternatives n x)) = ap longest_of (only s ordered (roots_of s) short.1.0 short.1.1 ∙ ap grown (roots_same n x s of)) in
      let limit = short.1.2 in
      ⊎_elim
      (λ over. absurd (
      let here : Contains (grown xs) r.0 = subst (λ (zs : Alternatives). Contains zs r.0) (all_is xs have.all have.become) r.1 in
      let more = has_longest (grown (symbol_alternatives n x)) most_steps r.0 (wider xs part r.0 here) (let o = over in omega (arith, o, same)) in
      let z : ⊥ = omega (arith, more, long, limit) in
      z))
      (λ le. le)
      (cases_lt most_steps (length p.steps))

  pub rule_short : (rule : NamedRule) (found : List Production) (p : Production) → AllAreShort s → Contains x.rules rule → AreProductions n x (alts n rule.1) found → Contains found p → length p.steps ≤ most_steps
  rule_short rule found p short here have w = steps_short (alts n rule.1) found p short
      (λ y v. Contains-append_left (all_rule_alternatives n x.rules) (all_repetition_alternatives n x.contents) y (flat_in (rule_alternatives n) x.rules rule y here v))
      have w

  content_part : (content : Rule) → Contains x.contents content → (y : Alternative) → Contains (repetition_alternatives n content) y → Contains (symbol_alternatives n x) y
  content_part content here y v =
      Contains-append_right (all_rule_alternatives n x.rules) (all_repetition_alternatives n x.contents) y (flat_in (repetition_alternatives n) x.contents content y here v)

  pub content_short : (content : Rule) (found : List Production) (p : Production) → AllAreShort s → Contains x.contents content → AreRepeated n x content found → Contains found p → length p.steps ≤ most_steps
  content_short content found p short here have w =
      let once : Alternatives = filled (alts n content) in
      ⊎_elim
      (λ v. steps_short once have.once p short (λ y u. content_part content here y (Contains-append_left once (again (n.repetition content) once) y u)) have.are_once v)
      (λ v. steps_short (again (n.repetition content) once) have.more p short (λ y u. content_part content here y (Contains-append_right once (again (n.repetition content) once) y u)) have.are_more v)
      (Contains-append_cases have.once have.more p (subst (λ (ps : List Production). Contains ps p) have.is w))

-- ---- two halves

module _ (Inner : ℕ → Alternatives → Type 0) (r : ℕ) (stay : Stays Inner (step_at r outermost)) where
  abbrev behind : Alternative → Alternative
  behind p = alternative p.dynamic (step_at r outermost ∷ p.steps)

  maps : (dynamic : ℤ) (before : List NumberedStep) (step : NumberedStep) (after : List NumberedStep) (inner : Alternatives)
      → map behind (map (replaced_by dynamic before step after) inner) ≡ map (replaced_by dynamic (step_at r outermost ∷ before) step after) inner
  maps dynamic before step after [] = refl
  maps dynamic before step after (q ∷ qs) = ap (λ (ps : Alternatives). replaced_by dynamic (step_at r outermost ∷ before) step after q ∷ ps) (maps dynamic before step after qs)

  mutual
    behind_becomes : (p : Alternative) (all : Alternatives) → Becomes Inner p all → Becomes Inner (behind p) (map behind all)
    behind_becomes _ _ (stays p all_stay) = stays (behind p) (All-cons (Stays Inner) (step_at r outermost) p.steps stay all_stay)
    behind_becomes _ _ (replaced dynamic before step after inner all all_stay is become) =
        replaced dynamic (step_at r outermost ∷ before) step after inner (map behind all) (All-cons (Stays Inner) (step_at r outermost) before stay all_stay) is
        (subst (λ (ps : Alternatives). AllBecome Inner ps (map behind all)) (maps dynamic before step after inner) (behind_all (map (replaced_by dynamic before step after) inner) all become))

    behind_all : (ps all : Alternatives) → AllBecome Inner ps all → AllBecome Inner (map behind ps) (map behind all)
    behind_all _ _ none_left = none_left
    behind_all _ _ (one_more p ps qs rs one more) =
        subst (λ (all : Alternatives). AllBecome Inner (map behind (p ∷ ps)) all) (sym (map-append behind qs rs))
        (one_more (behind p) (map behind ps) (map behind qs) (map behind rs) (behind_becomes p qs one) (behind_all ps rs more))

abbrev rest_of : List Step → List Step
rest_of [] = []
rest_of (t ∷ ts) = ts

abbrev made : ℤ → List Step → Production
made dynamic steps = record { dynamic = dynamic; steps = steps }

again_apart : (r : ℕ) (p q : Production) → again_after (symbol r) p ≡ again_after (symbol r) q → p ≡ q
again_apart r p q e = ap (λ (o : Production). made o.dynamic (rest_of o.steps)) e

productions_behind : (n : Numbers) (r : ℕ) (all : Alternatives)
    → map (production n) (map (λ (p : Alternative). alternative p.dynamic (step_at r outermost ∷ p.steps)) all) ≡ map (again_after (symbol r)) (map (production n) all)
productions_behind n r [] = refl
productions_behind n r (p ∷ ps) = ap (λ (qs : List Production). again_after (symbol r) (production n p) ∷ qs) (productions_behind n r ps)

module _ (n : Numbers) (x : Lists) (s : Sources) (of : AreSourcesOf n x s) (ordered : AreOrderedSources s) where
  stays_there : (content : Rule) → Contains x.contents content → Stays (IsInner n x) (step_at (n.repetition content) outermost)
  stays_there content w inner is =
      let lt = w.1 in
      let e = of.repetitions w.0 content (at_of x.contents content w) in
      let f = is.3 in
      let z : ⊥ = omega (arith, lt, e, f) in
      z

  pub halves : (content : Rule) (found : List Production) → Contains x.contents content → AreRepeated n x content found
      → (once : List Production) × (found ≡ once ++ map (again_after (symbol (n.repetition content))) once)
  halves content found here have =
      let r : ℕ = n.repetition content in
      let xs : Alternatives = filled (alts n content) in
      let one = have.are_once in
      let two = have.are_more in
      let stay : Stays (IsInner n x) (step_at r outermost) = stays_there content here in
      let all : two.all ≡ map (behind (IsInner n x) r stay) one.all =
      all_is n x s of ordered (again r xs) two.all two.become
      ∙ sym (all_is n x s of ordered (again r xs) (map (behind (IsInner n x) r stay) one.all) (behind_all (IsInner n x) r stay xs one.all one.become)) in
      let firsts : AreFirstSights (map (again_after (symbol r)) (map (production n) one.all)) have.more =
      subst (λ (seen : List Production). AreFirstSights seen have.more) (ap (map (production n)) all ∙ productions_behind n r one.all) two.firsts in
      let same : have.more ≡ map (again_after (symbol r)) have.once =
      one_sights (map (again_after (symbol r)) (map (production n) one.all)) have.more (map (again_after (symbol r)) have.once) firsts
      (sights_mapped (again_after (symbol r)) (again_apart r) (map (production n) one.all) have.once one.firsts) in
      (have.once, have.is ∙ ap (λ (ps : List Production). have.once ++ ps) same)
