-- An element that stands behind a repetition may be appended whole: the only runs meet.
use Rattle.std.proofs.Common.{◌≡◌, ◌∙◌, sym, ap, refl, subst, ℕ, suc, ◌+◌, ◌-◌, ◌≤◌, ⊎_elim, false, List, [], ◌∷◌, ◌++◌, append_assoc, append-nil, length, length-append, reverse, map, drop, Option, Some, unwrap_or, option_map, arith}
use Rattle.std.proofs.lemmas.List.{drop-drop, reverse-append, length-reverse}
use Rattle.ts_base.specs.Bytes.{Bytes}
use Rattle.ts_core.specs.declared.flat.FlatGrammar.{FlatGrammar}
use Rattle.ts_core.specs.declared.flat.Production.{Production}
use Rattle.ts_core.specs.declared.symbol.Symbol.{Symbol}
use Rattle.spec_grammar.specs.Symbols.{production_at}
use Rattle.spec_lexing.specs.Lexing.{token}
use Rattle.spec_tables.specs.Actions.{reduce}
use Rattle.spec_tables.specs.Fit.{Fit}
use Rattle.spec_trees.specs.declared.tree.Tree.{Tree}
use Rattle.spec_trees.specs.Trees.{is_extra_node, all_spans, tree_depth, bare}
use Rattle.spec_trees.specs.Made.{form_of, left_of, value_of, reduced, filling, step_symbols, BeginsFilled, most_depth}
use Rattle.spec_runs.specs.Configurations.{Configuration, stack_symbols, AreValidTokens, IsReduction}
use Rattle.spec_forced.specs.Forced.{IsOnlyMove, IsDecided, ForcedRun}
use Rattle.spec_forced.specs.Laws.{ForcedLaws}
use Rattle.spec_forced.specs.OnlyRuns.{OnlyRun, Meet}
use Rattle.spec_forced.specs.Behind.{StandsBehind, IsOfSymbol}
use Rattle.spec_forced.proofs.StackLemmas.{filling_turned, filling_filled, spans_append}
use Rattle.spec_forced.proofs.SpanLemmas.{Over, kids_by, made_says, bare_spans, bare_fillings}
use Rattle.spec_forced.proofs.TrailLemmas.{Strays, strays_fewer, trail}
use Rattle.spec_forced.proofs.FirstLemmas.{first}
use Rattle.spec_forced.proofs.NodeLemmas.{laid_stack, turned_stack, Laid, laid, begins_laid}
use Rattle.spec_forced.proofs.LeafLemmas.{narrow}
use Rattle.spec_forced.proofs.OnlyLemmas.{reduce_alone, only_more}
use Rattle.spec_forced.proofs.RunLemmas.{above, next_above, only_above, runs_above, strays_run}
use Rattle.spec_forced.proofs.BehindLemmas.{ends_with}

-- what a node made by a production is
pub reduced_says : (g : FlatGrammar) (number left : ℕ) (p : Production) → production_at g number ≡ Some (left, p) → (extent : ℕ) (state : Option ℕ) (children : List Tree) → Over left (kids_by (form_of g left number) children) (reduced g number extent state children)
reduced_says g number left p at extent state children =
    subst (λ (n : ℕ). Over n (kids_by (form_of g n number) children) (reduced g number extent state children)) left_is
    (made_says (form_of g (left_of g number) number) (left_of g number) number (value_of g number) extent state children)
  where
    left_is : left_of g number ≡ left
    left_is = ap (λ (o : Option (ℕ × Production)). unwrap_or (option_map (λ (q : ℕ × Production). q.0) o) 0) at

-- ---- what is read before and after the reduction

module _ (laws : ForcedLaws) (g : FlatGrammar) (fit : Fit g) (symbol : ℕ) (read : List ℕ) (rest : Bytes) (number : ℕ) (children : List Tree) (extent : ℕ) (b : StandsBehind g symbol read rest number children extent) where
  pub lies : Laid g (symbol ∷ read) rest extent children b.lifted b.next b.pad b.size b.ahead
  lies = laid laws g fit (symbol ∷ read) rest extent children b.lifted b.next b.pad b.size b.ahead b.all_extras b.stand b.covers b.seen (reduce number, b.only.stays)

  -- the valid tokens behind the repetition can be listed
  pub lists : (valid : List Symbol) × AreValidTokens g (symbol ∷ read) valid
  lists =
      let l = lies in
      ⊎_elim
      (λ none. (l.seen.0, subst (λ (ts : List Tree). AreValidTokens g (stack_symbols ts ++ symbol ∷ read) l.seen.0) none.0 l.seen.1))
      (λ f. (f.seen.0, f.seen.1))
      (first laws g (symbol ∷ read) rest extent (laid_stack children b.lifted) (all_spans (laid_stack children b.lifted)) l.run)

  steps_are : stack_symbols (reverse children) ++ symbol ∷ read ≡ reverse (step_symbols b.production) ++ read
  steps_are =
      let xs : List ℕ = stack_symbols (reverse children) ++ symbol ∷ [] in
      let long : length xs ≡ length b.production.steps =
      omega (
        arith,
        length-append (stack_symbols (reverse children)) (symbol ∷ []),
        ap (λ (l : List ℕ). length l) (filling_turned children),
        length-reverse (filling children),
        b.count,
      ) in
      let split : xs ++ read ≡ stack_symbols (reverse children) ++ symbol ∷ read = append_assoc (stack_symbols (reverse children)) (symbol ∷ []) read in
      let only : IsOnlyMove g (xs ++ read) b.next.0 (reduce number) = subst (λ (l : List ℕ). IsOnlyMove g l b.next.0 (reduce number)) (sym split) b.only in
      sym split ∙ ap (λ (l : List ℕ). l ++ read) (ends_with laws g number symbol b.next.0 b.production xs read b.at long only)

  -- the extras that are lifted are found again behind the longer repetition
  pub strays : Strays g (symbol ∷ read) (drop (all_spans children) rest) (extent - all_spans children) (map bare b.lifted) (all_spans (map bare b.lifted))
  strays =
      let l = lies in
      let under : List Tree = reverse (map bare children) ++ [] in
      let t = trail laws g fit (symbol ∷ read) rest extent (laid_stack children b.lifted) (all_spans (laid_stack children b.lifted)) l.run (map bare b.lifted) under refl l.all_extras in
      let symbols : filling under ++ symbol ∷ read ≡ reverse (step_symbols b.production) ++ read =
      ap (λ (x : List ℕ). x ++ symbol ∷ read) (ap filling (turned_stack children) ∙ bare_fillings laws (reverse children)) ∙ steps_are in
      let spans : all_spans under ≡ all_spans children = under_spans in
      let s₁ = subst (λ (x : List ℕ). Strays g x (drop (all_spans under) rest) (extent - all_spans under) (map bare b.lifted) (all_spans (map bare b.lifted))) symbols t in
      let s₂ = subst (λ (n : ℕ). Strays g (reverse (step_symbols b.production) ++ read) (drop n rest) (extent - n) (map bare b.lifted) (all_spans (map bare b.lifted))) spans s₁ in
      strays_fewer g (reverse (step_symbols b.production) ++ read) (symbol ∷ read) (drop (all_spans children) rest) (extent - all_spans children) (map bare b.lifted) (all_spans (map bare b.lifted))
      (narrow laws g fit number symbol b.production b.at read) s₂
    where
      under_spans : all_spans (reverse (map bare children) ++ []) ≡ all_spans children
      under_spans = omega (
        arith,
        spans_append (map bare b.lifted) (reverse (map bare children) ++ []),
        bare_spans laws b.lifted,
        lies.spans,
      )

-- ---- the reduction

turned_onto : (t : Tree) (ts below : List Tree) → reverse (t ∷ ts) ++ below ≡ reverse ts ++ t ∷ below
turned_onto t ts below = ap (λ (l : List Tree). l ++ below) (reverse-append (t ∷ []) ts) ∙ append_assoc (reverse ts) (t ∷ []) below

begins_onto : (xs : List Tree) (t : Tree) (ts : List Tree) → BeginsFilled xs → is_extra_node t ≡ false → BeginsFilled (xs ++ t ∷ ts)
begins_onto [] t ts h fills = fills
begins_onto (x ∷ xs) t ts h fills = h

module _ (laws : ForcedLaws) (g : FlatGrammar) (fit : Fit g) (text : Bytes) (below : List Tree) (place symbol number : ℕ) (t : Tree) (of : IsOfSymbol symbol t) (children : List Tree) (extent e : ℕ) (state : Option ℕ)
    (b : StandsBehind g symbol (stack_symbols below) (drop place text) number children extent) (shallow : tree_depth (reduced g number e state (t ∷ children)) ≤ most_depth) where
  abbrev node : Tree
  node = reduced g number e state (t ∷ children)

  abbrev before : Configuration
  before = record { stack = bare t ∷ below; place = place }

  abbrev after : Configuration
  after = record { stack = bare node ∷ below; place = place + all_spans children }

  abbrev extras : List Tree
  extras = map bare b.lifted

  abbrev stack : List Tree
  stack = laid_stack children b.lifted

  -- where both come
  abbrev met : Configuration
  met = record { stack = extras ++ bare node ∷ below; place = place + all_spans stack }

  l : Laid g (symbol ∷ stack_symbols below) (drop place text) extent children b.lifted b.next b.pad b.size b.ahead
  l = lies laws g fit symbol (stack_symbols below) (drop place text) number children extent b

  fills : is_extra_node (bare t) ≡ false
  fills = (laws.keeps t).extra ∙ of.1

  symbols_before : symbol ∷ stack_symbols below ≡ stack_symbols before.stack
  symbols_before = sym (filling_filled (bare t) below fills ∙ ap (λ (n : ℕ). n ∷ filling below) ((laws.keeps t).symbol ∙ of.0))

  symbols_after : symbol ∷ stack_symbols below ≡ stack_symbols after.stack
  symbols_after =
      let o = reduced_says g number symbol b.production b.at e state (t ∷ children) in
      let k = laws.keeps node in
      sym (filling_filled (bare node) below (k.extra ∙ o.extra_is) ∙ ap (λ (n : ℕ). n ∷ filling below) (k.symbol ∙ o.symbol_is))

  reduction : IsReduction g number (stack ++ before.stack) (bare node) (extras ++ bare node ∷ below)
  reduction = record {
    left = symbol;
    production = b.production;
    at = b.at;
    lifted = extras;
    children = bare t ∷ map bare children;
    below = below;
    stack_is = append_assoc extras (reverse (map bare children) ++ []) before.stack
        ∙ ap (λ (x : List Tree). extras ++ x) (append_assoc (reverse (map bare children)) [] before.stack ∙ sym (turned_onto (bare t) (map bare children) below));
    extras = l.all_extras;
    all_lifted = subst (λ (x : List Tree). BeginsFilled x) (sym (turned_onto (bare t) (map bare children) below))
        (begins_onto (reverse (map bare children)) (bare t) below (subst (λ (x : List Tree). BeginsFilled x) (append-nil (reverse (map bare children))) (begins_laid laws children b.ends)) fills);
    count = ap (λ (x : List ℕ). length x) (filling_filled (bare t) (map bare children) fills) ∙ ap (λ (x : List ℕ). suc (length x)) (bare_fillings laws children) ∙ b.count;
    first_fills = fills;
    node_is = laws.reduced_bare g number e state (t ∷ children);
    after_is = refl;
  }

  pub from_before : OnlyRun g text before met
  from_before =
      let m : ℕ = all_spans stack in
      let x : Configuration = above before stack m in
      let rest : Bytes = drop place text in
      let run = subst (λ (r : List ℕ). ForcedRun g r rest extent stack m) symbols_before l.run in
      let seen = subst (λ (r : List ℕ). IsDecided g (stack_symbols stack ++ r) (drop m rest) (token b.next b.pad b.size) b.ahead) symbols_before l.seen in
      let own : IsOnlyMove g (stack_symbols stack ++ symbol ∷ stack_symbols below) b.next.0 (reduce number) = subst (λ (r : List ℕ). IsOnlyMove g r b.next.0 (reduce number)) l.symbols b.only in
      let only = subst (λ (r : List ℕ). IsOnlyMove g (stack_symbols stack ++ r) b.next.0 (reduce number)) symbols_before own in
      let depth : tree_depth (bare node) ≤ most_depth = omega (arith, shallow, (laws.keeps node).depth) in
      only_more g text before x met (runs_above laws g text before extent stack m run)
      (reduce_alone laws g text x b.next b.pad b.size (next_above laws g text before stack m (token b.next b.pad b.size) b.ahead seen) number (bare node) (extras ++ bare node ∷ below)
      (only_above laws g text before stack b.next.0 (reduce number) only) reduction depth)

  pub from_after : OnlyRun g text after met
  from_after =
      let rest : Bytes = drop place text in
      let q : ℕ = all_spans children in
      let s = strays laws g fit symbol (stack_symbols below) rest number children extent b in
      let v = lists laws g fit symbol (stack_symbols below) rest number children extent b in
      let s₁ = subst (λ (x : Bytes). Strays g (symbol ∷ stack_symbols below) x (extent - q) extras (all_spans extras)) (drop-drop q place text) s in
      let run = strays_run laws g text (symbol ∷ stack_symbols below) (drop (place + q) text) (extent - q) v.0 v.1 extras (all_spans extras) s₁ in
      let own = subst (λ (r : List ℕ). ForcedRun g r (drop (place + q) text) (extent - q) extras (all_spans extras)) symbols_after run in
      subst (λ (n : ℕ). OnlyRun g text after (record { stack = extras ++ bare node ∷ below; place = n }))
      (let p : place + q + all_spans extras ≡ place + all_spans stack = omega (arith, l.spans, bare_spans laws b.lifted) in p)
      (runs_above laws g text after (extent - q) extras (all_spans extras) own)

  pub lengthened_meets : Meet g text before after
  lengthened_meets = (met, from_before, from_after)
