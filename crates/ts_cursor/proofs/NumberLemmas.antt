-- The steps of all productions one after another, and where those of a rule begin.
use Rattle.std.proofs.Common.{◌≡◌, ℕ, suc, ◌+◌, ◌-◌, ◌<◌, ◌≤◌, ◌⊎◌, inl, inr, sym, ap, ◌∙◌, refl, arith, List, [], ◌∷◌, ◌++◌, length, map, take, slice_get, get_or, Option, Some, length-append}
use Rattle.std.specs.Prelude.{unwrap_or}
use Rattle.std.specs.List.{flat_map}
use Rattle.std.proofs.lemmas.List.{length-map, take_all, flat_map_more}
use Rattle.std.proofs.Math.Seq.{take-suc}
use Rattle.std.proofs.lemmas.List.Sums.{sum_by-cons}
use Rattle.std.proofs.lemmas.Option.{slice_get-map, slice_get-get_or, unwrap_or-slice_get}
use Rattle.std.proofs.lemmas.Bool.{cases_lt}
use Rattle.std.proofs.Math.ListN.{get_or-eq_default}
use Rattle.ts_base.proofs.PlaceLemmas.{push_cases}
use Rattle.ts_core.specs.declared.flat.Step.{Step}
use Rattle.ts_core.specs.declared.flat.Production.{Production}
use Rattle.ts_core.specs.declared.flat.FlatRule.{FlatRule}
use Rattle.ts_core.specs.declared.flat.FlatGrammar.{FlatGrammar}
use Rattle.spec_grammar.specs.Symbols.{start_symbol, count_productions, productions_from, all_productions, first_production}
use Rattle.spec_trees.specs.VisibleNodes.{steps_at}
use Rattle.ts_cursor.specs.Numbered.{rule_steps, AreFirstProductions, AreNumbered}

count_cons : (x : FlatRule) (rules : List FlatRule) → count_productions (x ∷ rules) ≡ length x.productions + count_productions rules
count_cons x rules = sum_by-cons (λ (n : ℕ). n) (length x.productions) (map (λ (rule : FlatRule). length rule.productions) rules)

-- all steps are as many as the productions
pub count_steps : (rules : List FlatRule) → length (flat_map rule_steps rules) ≡ count_productions rules
count_steps [] = refl
count_steps (x ∷ rules) =
    omega (arith, count_cons x rules, length-append (rule_steps x) (flat_map rule_steps rules), length-map x.productions (λ (p : Production). p.steps), count_steps rules)

steps_map : (symbol : ℕ) (ps : List Production) (rest : List (ℕ × Production)) → map (λ (q : ℕ × Production). q.1.steps) (map (λ (p : Production). (symbol, p)) ps ++ rest) ≡ map (λ (p : Production). p.steps) ps ++ map (λ (q : ℕ × Production). q.1.steps) rest
steps_map symbol [] rest = refl
steps_map symbol (p ∷ ps) rest = ap (λ (xs : List (List Step)). p.steps ∷ xs) (steps_map symbol ps rest)

steps_from : (symbol : ℕ) (rules : List FlatRule) → map (λ (q : ℕ × Production). q.1.steps) (productions_from symbol rules) ≡ flat_map rule_steps rules
steps_from symbol [] = refl
steps_from symbol (x ∷ rules) =
    steps_map symbol x.productions (productions_from (suc symbol) rules)
    ∙ ap (λ (xs : List (List Step)). rule_steps x ++ xs) (steps_from (suc symbol) rules)

pub steps_are : (g : FlatGrammar) (number : ℕ) → steps_at g number ≡ unwrap_or (slice_get (flat_map rule_steps g.rules) number) []
steps_are g number =
    ap (λ (o : Option (List Step)). unwrap_or o []) (sym (slice_get-map (λ (q : ℕ × Production). q.1.steps) (all_productions g) number))
    ∙ ap (λ (xs : List (List Step)). unwrap_or (slice_get xs number) []) (steps_from (start_symbol g) g.rules)

pub firsts_more : (rules : List FlatRule) (firsts : List ℕ) (n : ℕ) → AreFirstProductions rules firsts → n ≡ count_productions (take (length firsts) rules) → AreFirstProductions rules (firsts ++ n ∷ [])
firsts_more rules firsts n are is k m e = by (push_cases firsts n k m e)
  where
    by : ((k < length firsts) × (slice_get firsts k ≡ Some m)) ⊎ ((k ≡ length firsts) × (n ≡ m)) → m ≡ count_productions (take k rules)
    by (inl w) = are k m w.1
    by (inr w) = sym w.1 ∙ is ∙ ap (λ (j : ℕ). count_productions (take j rules)) (sym w.0)

pub steps_read : (g : FlatGrammar) (firsts : List ℕ) (steps : List (List Step)) (number : ℕ) → AreNumbered g firsts steps → get_or steps number [] ≡ steps_at g number
steps_read g firsts steps number are =
    ap (λ (xs : List (List Step)). get_or xs number []) are.all
    ∙ sym (unwrap_or-slice_get (flat_map rule_steps g.rules) number [])
    ∙ sym (steps_are g number)

pub first_read : (g : FlatGrammar) (firsts : List ℕ) (steps : List (List Step)) (symbol : ℕ) → AreNumbered g firsts steps → get_or firsts (symbol - length g.tokens - 1) (length steps) ≡ first_production g symbol
first_read g firsts steps symbol are = by (cases_lt rule (length firsts))
  where
    rule : ℕ
    rule = symbol - length g.tokens - 1

    at : rule ≡ symbol - start_symbol g
    at = omega arith

    by : (rule < length firsts) ⊎ (length firsts ≤ rule) → get_or firsts rule (length steps) ≡ first_production g symbol
    by (inl h) = are.each rule (get_or firsts rule (length steps)) (slice_get-get_or firsts rule (length steps) h) ∙ ap (λ (k : ℕ). count_productions (take k g.rules)) at
    by (inr h) =
        let all : take (symbol - start_symbol g) g.rules ≡ g.rules = take_all (symbol - start_symbol g) g.rules (omega (arith, h, at, are.many)) in
        get_or-eq_default firsts (length steps) h
        ∙ ap length are.all
        ∙ count_steps g.rules
        ∙ sym (ap count_productions all)

-- one more rule
pub steps_more : (rules : List FlatRule) (i : ℕ) (rule : FlatRule) (steps more : List (List Step)) → steps ≡ flat_map rule_steps (take i rules) → i < length rules → rule ≡ get_or rules i rule → more ≡ steps ++ rule_steps rule → more ≡ flat_map rule_steps (take (i + 1) rules)
steps_more rules i rule steps more are h at is =
    let n : i + 1 ≡ suc i = omega arith in
    is
    ∙ ap (λ (xs : List (List Step)). xs ++ rule_steps rule) are
    ∙ flat_map_more rule_steps [] (take i rules) rule
    ∙ ap (flat_map rule_steps) (ap (λ (r : FlatRule). take i rules ++ r ∷ []) at ∙ sym (take-suc rules i rule h) ∙ ap (λ (k : ℕ). take k rules) (sym n))
