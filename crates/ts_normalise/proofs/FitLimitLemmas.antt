-- The numbers of a normal form are within the limits that its grammar does not pass.
use Rattle.std.proofs.Common.{◌≡◌, ◌∙◌, sym, ap, subst, refl, ℕ, suc, ◌+◌, ◌<◌, ◌≤◌, inl, inr, ⊎_elim, List, [], ◌∷◌, ◌++◌, map, length, arith, append_assoc}
use Rattle.std.specs.List.{Contains, sum}
use Rattle.std.proofs.lemmas.List.{length-map, length-append, map-append}
use Rattle.std.proofs.lemmas.List.Elements.{Contains-append_left, Contains-append_right, Contains-append_cases}
use Rattle.std.proofs.lemmas.List.Sums.{sum_by-append}
use Rattle.spec_tables.specs.Fit.{symbols_of, productions_of, most_symbols, most_names, most_productions, most_steps, most_positions, most_positions_in_all, positions, all_positions}
use Rattle.ts_core.specs.declared.flat.FlatGrammar.{FlatGrammar}
use Rattle.ts_core.specs.declared.flat.FlatRule.{FlatRule}
use Rattle.ts_core.specs.declared.flat.Production.{Production}
use Rattle.ts_core.specs.declared.flat.TokenDef.{TokenDef}
use Rattle.ts_core.specs.declared.rule.Grammar.{Grammar}
use Rattle.ts_core.specs.declared.rule.Rule.{Rule}
use Rattle.ts_pattern.specs.Reads.{Reads}
use Rattle.ts_rules.specs.declared.tree.Alternative.{Alternative}
use Rattle.ts_rules.specs.Alternatives.{Alternatives}
use Rattle.ts_rules.specs.FirstSights.{Each, end, both}
use Rattle.ts_rules.specs.Normal.{IsNormal, IsOwnRule, IsRepetition}
use Rattle.ts_rules.specs.Numbers.{Numbers, Lists, alts, first_inlined}
use Rattle.ts_rules.specs.Productions.{AllBecome, none_left, one_more, IsInner, AreProductions, AreRepeated, again, filled, production, flat_step}
use Rattle.ts_rules.specs.Sights.{NamedRule}
use Rattle.ts_productions.specs.Grammars.{repetition_alternatives, all_rule_alternatives, all_repetition_alternatives, symbol_alternatives}
use Rattle.ts_normalise.proofs.ListLemmas.{none_in, member_cases}
use Rattle.ts_normalise.proofs.FitRefusalLemmas.{IsUnrefused, not_past}
use Rattle.ts_normalise.proofs.FitSightLemmas.{sights_length, mapped_in}

pub each_length : {X Y : Type 0} (R : X → Y → Type 0) (xs : List X) (ys : List Y) → Each R xs ys → length xs ≡ length ys
each_length R _ _ end = refl
each_length R _ _ (both x y xs ys r rest) = ap suc (each_length R xs ys rest)

-- ---- what all alternatives become

module _ (Inner : ℕ → Alternatives → Type 0) where
  become_append : (ps qs rs ss : Alternatives) → AllBecome Inner ps rs → AllBecome Inner qs ss → AllBecome Inner (ps ++ qs) (rs ++ ss)
  become_append _ qs _ ss none_left more = more
  become_append _ qs _ ss (one_more p ps xs ys one rest) more =
      subst (λ (zs : Alternatives). AllBecome Inner (p ∷ (ps ++ qs)) zs) (sym (append_assoc xs ys ss)) (one_more p (ps ++ qs) xs (ys ++ ss) one (become_append ps qs ys ss rest more))

abbrev count_of : List FlatRule → ℕ
count_of rules = sum (map (λ (r : FlatRule). length r.productions) rules)

count_append : (rs qs : List FlatRule) → count_of (rs ++ qs) ≡ count_of rs + count_of qs
count_append rs qs =
    ap sum (map-append (λ (r : FlatRule). length r.productions) rs qs)
    ∙ sum_by-append (λ (n : ℕ). n) (map (λ (r : FlatRule). length r.productions) rs) (map (λ (r : FlatRule). length r.productions) qs)

count_more : (r : FlatRule) (rs : List FlatRule) → count_of (r ∷ rs) ≡ length r.productions + count_of rs
count_more r rs =
    sum_by-append (λ (n : ℕ). n) (length r.productions ∷ []) (map (λ (q : FlatRule). length q.productions) rs)
    ∙ (let e : (0 + length r.productions) + count_of rs ≡ length r.productions + count_of rs = omega arith in e)

count_none : count_of [] ≡ 0
count_none = refl

module _ (n : Numbers) (x : Lists) where
  -- all that some alternatives become, with the productions of some rules in it
  pub record Grows (from : Alternatives) (rules : List FlatRule) : Type 0 where
    pub all : Alternatives
    pub become : AllBecome (IsInner n x) from all
    pub enough : count_of rules ≤ length all
    pub covers : (r : FlatRule) (p : Production) → Contains rules r → Contains r.productions p → (q : Alternative) × Contains all q × (production n q ≡ p)

  nothing_grows : Grows [] []
  nothing_grows = record {
    all = [];
    become = none_left;
    enough = (let e = count_none in omega (arith, e));
    covers = λ r p w v. absurd (none_in r w);
  }

  grows_append : (xs ys : Alternatives) (rs qs : List FlatRule) → Grows xs rs → Grows ys qs → Grows (xs ++ ys) (rs ++ qs)
  grows_append xs ys rs qs a b = record {
    all = a.all ++ b.all;
    become = become_append (IsInner n x) xs ys a.all b.all a.become b.become;
    enough = (
        let c = count_append rs qs in
        let d = length-append a.all b.all in
        let e = a.enough in
        let f = b.enough in
        omega (arith, c, d, e, f));
    covers = λ r p w v. ⊎_elim
        (λ here. let u = a.covers r p here v in (u.0, Contains-append_left a.all b.all u.0 u.1, u.2))
        (λ later. let u = b.covers r p later v in (u.0, Contains-append_right a.all b.all u.0 u.1, u.2))
        (Contains-append_cases rs qs r w);
  }

  covered : (from : Alternatives) (found : List Production) (p : Production) (have : AreProductions n x from found) → Contains found p → (q : Alternative) × Contains have.all q × (production n q ≡ p)
  covered from found p have w = mapped_in (production n) have.all p (have.firsts.only p w)

  found_count : (from : Alternatives) (found : List Production) (have : AreProductions n x from found) → length found ≤ length have.all
  found_count from found have =
      let a = sights_length (map (production n) have.all) found have.firsts in
      let b = length-map have.all (production n) in
      omega (arith, a, b)

  only_rule : (r q : FlatRule) → Contains (r ∷ []) q → q ≡ r
  only_rule r q w = ⊎_elim (λ e. e) (λ none. absurd (none_in q none)) (member_cases r q [] w)

  one_rule : (from : Alternatives) (r : FlatRule) → AreProductions n x from r.productions → Grows from (r ∷ [])
  one_rule from r have = record {
    all = have.all;
    become = have.become;
    enough = (
        let a = found_count from r.productions have in
        let b = count_more r [] in
        let c = count_none in
        omega (arith, a, b, c));
    covers = λ q p w v. covered from r.productions p have (subst (λ (z : FlatRule). Contains z.productions p) (only_rule r q w) v);
  }

  one_repetition : (content : Rule) (r : FlatRule) → AreRepeated n x content r.productions → Grows (repetition_alternatives n content) (r ∷ [])
  one_repetition content r have =
      let once : Alternatives = filled (alts n content) in
      let more : Alternatives = again (n.repetition content) once in
      let first = have.are_once in
      let second = have.are_more in
      record {
        all = first.all ++ second.all;
        become = become_append (IsInner n x) once more first.all second.all first.become second.become;
        enough = (
            let a = found_count once have.once first in
            let b = found_count more have.more second in
            let c : length r.productions ≡ length have.once + length have.more = ap (λ (ps : List Production). length ps) have.is ∙ length-append have.once have.more in
            let d = length-append first.all second.all in
            let e = count_more r [] in
            let f = count_none in
            omega (arith, a, b, c, d, e, f));
        covers = λ q p w v. ⊎_elim
            (λ here. let u = covered once have.once p first here in (u.0, Contains-append_left first.all second.all u.0 u.1, u.2))
            (λ later. let u = covered more have.more p second later in (u.0, Contains-append_right first.all second.all u.0 u.1, u.2))
            (Contains-append_cases have.once have.more p (subst (λ (ps : List Production). Contains ps p) have.is (subst (λ (z : FlatRule). Contains z.productions p) (only_rule r q w) v)));
      }

  own_grow : (g : Grammar) (rules : List NamedRule) (own : List FlatRule) → Each (IsOwnRule g n x) rules own → Grows (all_rule_alternatives n rules) own
  own_grow g _ _ end = nothing_grows
  own_grow g _ _ (both rule r rules own h rest) =
      grows_append (alts n rule.1) (all_rule_alternatives n rules) (r ∷ []) own (one_rule (alts n rule.1) r h.productions) (own_grow g rules own rest)

  repetitions_grow : (g : Grammar) (contents : List Rule) (found : List FlatRule) → Each (IsRepetition g n x) contents found → Grows (all_repetition_alternatives n contents) found
  repetitions_grow g _ _ end = nothing_grows
  repetitions_grow g _ _ (both content r contents found h rest) =
      grows_append (repetition_alternatives n content) (all_repetition_alternatives n contents) (r ∷ []) found (one_repetition content r h.productions) (repetitions_grow g contents found rest)

module _ (g : Grammar) (f : FlatGrammar) (normal : IsNormal Reads g f) where
  pub all_grow : Grows normal.numbers normal.lists (symbol_alternatives normal.numbers normal.lists) f.rules
  all_grow =
      let n = normal.numbers in
      let x = normal.lists in
      subst (λ (rules : List FlatRule). Grows n x (symbol_alternatives n x) rules) (sym normal.rules)
      (grows_append n x (all_rule_alternatives n x.rules) (all_repetition_alternatives n x.contents) normal.own normal.repetitions
      (own_grow n x g x.rules normal.own normal.are_own) (repetitions_grow n x g x.contents normal.repetitions normal.are_repetitions))

  pub token_count : length f.tokens ≡ length normal.lists.tokens
  token_count = sym (each_length _ normal.lists.tokens f.tokens normal.tokens)

  pub own_count : length normal.own ≡ length normal.lists.rules
  own_count = sym (each_length _ normal.lists.rules normal.own normal.are_own)

  pub rule_count : length f.rules ≡ length normal.lists.rules + length normal.lists.contents
  rule_count =
      let a = own_count in
      let b = each_length _ normal.lists.contents normal.repetitions normal.are_repetitions in
      let c : length f.rules ≡ length normal.own + length normal.repetitions = ap (λ (rs : List FlatRule). length rs) normal.rules ∙ length-append normal.own normal.repetitions in
      omega (arith, a, b, c)

  pub symbol_count : symbols_of f ≡ first_inlined normal.lists
  symbol_count = let a = token_count in let b = rule_count in omega (arith, a, b)

  -- ---- limits

  module _ (sane : IsUnrefused g) where
    pub few_symbols : symbols_of f ≤ most_symbols
    few_symbols = not_past most_symbols (symbols_of f) (λ lt. sane.few_symbols (normal.lists, normal.are_lists, let e = symbol_count in omega (arith, e, lt)))

    pub few_fields : length f.fields ≤ most_names
    few_fields = not_past most_names (length f.fields) (λ lt. sane.few_names (normal.lists, normal.are_lists, inl (subst (λ (k : ℕ). most_names < k) (ap (λ xs. length xs) normal.fields) lt)))

    pub few_precs : length f.precs ≤ most_names
    few_precs = not_past most_names (length f.precs) (λ lt. sane.few_names (normal.lists, normal.are_lists, inr (subst (λ (k : ℕ). most_names < k) (ap (λ xs. length xs) normal.precs) lt)))

    pub few_productions : productions_of f ≤ most_productions
    few_productions =
        let grows = all_grow in
        not_past most_productions (productions_of f) (λ lt. sane.few_productions (
          grows.all,
          record {
            numbers = normal.numbers;
            lists = normal.lists;
            are_lists = normal.are_lists;
            are_numbers = normal.are_numbers;
            is_counted = inr grows.become;
          },
          let a = grows.enough in omega (arith, a, lt),
        ))

    pub few_steps : (r : FlatRule) (p : Production) → Contains f.rules r → Contains r.productions p → length p.steps ≤ most_steps
    few_steps r p w v =
        let grows = all_grow in
        let u = grows.covers r p w v in
        let same : length p.steps ≡ length u.0.steps = ap (λ (q : Production). length q.steps) (sym u.2) ∙ length-map u.0.steps (flat_step normal.numbers) in
        not_past most_steps (length p.steps) (λ lt. sane.few_steps (
          grows.all,
          record {
            numbers = normal.numbers;
            lists = normal.lists;
            are_lists = normal.are_lists;
            are_numbers = normal.are_numbers;
            is_counted = inr grows.become;
          },
          u.0,
          u.1,
          let e = same in omega (arith, e, lt),
        ))

    pub few_positions : (d : TokenDef) → Contains f.tokens d → positions d.re ≤ most_positions
    few_positions d w = not_past most_positions (positions d.re) (λ lt. sane.few_positions (f, normal, inl (d, w, lt)))

    pub few_positions_in_all : all_positions f ≤ most_positions_in_all
    few_positions_in_all = not_past most_positions_in_all (all_positions f) (λ lt. sane.few_positions (f, normal, inr lt))
