-- Each step makes a configuration lighter, and so does a node that is taken over.
use Rattle.std.proofs.Common.{◌≡◌, ◌∙◌, sym, ap, refl, subst, ℕ, suc, ◌+◌, ◌-◌, ◌*◌, ◌<◌, ◌≤◌, Bool, true, false, List, [], ◌∷◌, ◌++◌, length, length-append, map, reverse, Option, Some, None, unwrap_or, option_map, drop, length-drop, arith, add-one}
use Rattle.std.proofs.Math.Nat.{mul-le-mul_right, suc-mul, one-mul}
use Rattle.std.proofs.lemmas.List.{length-map, length-reverse}
use lib.IntN.{ℤ, pos, ◌+ℤ◌}
use Rattle.ts_base.specs.Bytes.{Bytes}
use Rattle.ts_core.specs.declared.flat.FlatGrammar.{FlatGrammar}
use Rattle.ts_core.specs.declared.flat.Production.{Production}
use Rattle.ts_core.specs.declared.flat.Step.{Step}
use Rattle.ts_core.specs.declared.symbol.Symbol.{Symbol}
use Rattle.spec_grammar.specs.Symbols.{production_at, symbol_count}
use Rattle.spec_lexing.specs.Lexing.{token}
use Rattle.spec_tables.specs.Actions.{Act, reduce}
use Rattle.spec_tables.specs.Fit.{Fit}
use Rattle.spec_trees.specs.declared.tree.Tree.{Tree}
use Rattle.spec_trees.specs.declared.tree.Element.{Element}
use Rattle.spec_trees.specs.declared.tree.Tree.TheOpen.{Tree-F}
use Rattle.spec_trees.specs.declared.tree.Tree.TheViews.{out-Tree, out-roll-Tree}
use Rattle.spec_trees.specs.Trees.{symbol_of, is_extra_node, span_of, all_spans, first_pad, total_of, all_totals, elements_of, children_of, bare}
use Rattle.spec_trees.specs.Made.{leaf_of, as_extra, node_over, element, made_by, Form, of_rule, of_first, of_next, form_of, left_of, value_of, reduced, filling, step_symbols}
use Rattle.spec_runs.specs.Configurations.{Configuration, token_tree, pushed, NextIs, IsReduction, stack_symbols}
use Rattle.spec_runs.specs.Runs.{StepsOn, shift_token, pass_extra, reduce_trees}
use Rattle.ts_table.specs.Ranks.{unit_rank, AreUnitRanks}
use Rattle.ts_steps.specs.MoveLaws.{Laws}
use Rattle.ts_steps.proofs.StackLemmas.{filling_extras, filling_append, filling_turned}
use Rattle.ts_steps.specs.Weights.{weight, weight_of, last_of, config_weight}
use Rattle.ts_steps.proofs.LookLemmas.{next_some}
use Rattle.ts_steps.proofs.TableLemmas.{extra_token}

fills_step : (x : Tree) (xs : List Tree) → is_extra_node x ≡ false → filling (x ∷ xs) ≡ symbol_of x ∷ filling xs
fills_step x xs e = rw e refl

fills_none : (x : Tree) (xs : List Tree) → is_extra_node x ≡ true → filling (x ∷ xs) ≡ filling xs
fills_none x xs e = rw e refl

-- ---- weights

module _ (rank : ℕ → ℕ) (most : ℕ) (below : (y : ℕ) → rank y < most) where
  -- fewer bytes left, and one symbol more
  pub lighter_by_shift : (left left' height x : ℕ) (last : Option ℕ) → left' < left → (last ≡ None → height ≡ 0)
      → weight rank most left' (height + 1) (Some x) < weight rank most left height last
  lighter_by_shift left left' height x None lt empty =
      let far : suc left' * (most + most) ≤ left * (most + most) = mul-le-mul_right (most + most) (omega arith) in
      let one : suc left' * (most + most) ≡ left' * (most + most) + (most + most) = suc-mul left' (most + most) in
      let none : height ≡ 0 = empty refl in
      let up : (height + 1) * most ≡ most = ap (λ (h : ℕ). (h + 1) * most) none ∙ one-mul most in
      let small : rank x < most = below x in
      omega arith
  lighter_by_shift left left' height x (Some y) lt empty =
      let far : suc left' * (most + most) ≤ left * (most + most) = mul-le-mul_right (most + most) (omega arith) in
      let one : suc left' * (most + most) ≡ left' * (most + most) + (most + most) = suc-mul left' (most + most) in
      let up : (height + 1) * most ≡ height * most + most = ap (λ (h : ℕ). h * most) (add-one height) ∙ suc-mul height most in
      let small : rank x < most = below x in
      omega arith

  -- fewer bytes left
  pub lighter_by_pass : (left left' height : ℕ) (last : Option ℕ) → left' < left → weight rank most left' height last < weight rank most left height last
  lighter_by_pass left left' height last lt =
      let far : suc left' * (most + most) ≤ left * (most + most) = mul-le-mul_right (most + most) (omega arith) in
      let one : suc left' * (most + most) ≡ left' * (most + most) + (most + most) = suc-mul left' (most + most) in
      let small : rank 0 < most = below 0 in
      omega arith

  -- one symbol in place of two or more
  pub lighter_by_many : (left height rest x y : ℕ) → rest + 2 ≤ height → weight rank most left (rest + 1) (Some x) < weight rank most left height (Some y)
  lighter_by_many left height rest x y le =
      let far : suc (rest + 1) * most ≤ height * most = mul-le-mul_right most (omega arith) in
      let one : suc (rest + 1) * most ≡ (rest + 1) * most + most = suc-mul (rest + 1) most in
      let small : rank x < most = below x in
      omega arith

  -- one symbol in place of one of a higher rank
  pub lighter_by_one : (left height x y : ℕ) → rank x < rank y → weight rank most left height (Some x) < weight rank most left height (Some y)
  lighter_by_one left height x y lt = omega arith

  -- a first symbol in place of none
  pub lighter_by_none : (left x : ℕ) → weight rank most left 1 (Some x) < weight rank most left 0 None
  lighter_by_none left x =
      let one : 1 * most ≡ most = one-mul most in
      let small : rank x < most = below x in
      omega arith

-- ---- symbols of nodes that are made

abbrev over_layer : ℕ → Option ℕ → ℤ → ℕ → Option ℕ → List Element → List Tree → Tree-F Tree
over_layer symbol production dynamic extent state es ks = record {
  symbol = record { 0 = symbol };
  production = production;
  pad = first_pad ks;
  size = all_spans ks - first_pad ks;
  dynamic = dynamic;
  extent = extent;
  state = state;
  settled = true;
  extra = false;
  elements = es;
  children = ks;
}

abbrev leaf_layer : ℕ → ℕ → ℕ → Tree-F Tree
leaf_layer symbol pad size = record {
  symbol = record { 0 = symbol };
  production = None;
  pad = pad;
  size = size;
  dynamic = pos 0;
  extent = 0;
  state = None;
  settled = true;
  extra = false;
  elements = [];
  children = [];
}

over_names : (symbol : ℕ) (production : Option ℕ) (dynamic : ℤ) (extent : ℕ) (state : Option ℕ) (es : List Element) (ks : List Tree)
    → (symbol_of (node_over symbol production dynamic extent state es ks) ≡ symbol) × (is_extra_node (node_over symbol production dynamic extent state es ks) ≡ false)
over_names symbol production dynamic extent state es ks =
    let o = out-roll-Tree (over_layer symbol production dynamic extent state es ks) in
    (ap (λ (x : Tree-F Tree). x.symbol.0) o, ap (λ (x : Tree-F Tree). x.extra) o)

made_names : (f : Form) (symbol number : ℕ) (value : ℤ) (ks : List Tree) → (symbol_of (made_by f symbol number value 0 None ks) ≡ symbol) × (is_extra_node (made_by f symbol number value 0 None ks) ≡ false)
made_names of_rule symbol number value ks = over_names symbol (Some number) (value +ℤ all_totals ks) 0 None [] ks
made_names (of_first a) symbol number value ks = over_names symbol None (value +ℤ all_totals ks) 0 None (element a (length ks) value 0 ∷ []) ks
made_names (of_next a) symbol number value [] = over_names symbol None value 0 None [] []
made_names (of_next a) symbol number value (k ∷ ks) = over_names symbol None (value +ℤ (total_of k +ℤ all_totals ks)) 0 None (elements_of k ++ element a (length ks) value (0 - span_of k) ∷ []) (children_of k ++ ks)

module _ (laws : Laws) where
  token_names : (s : Symbol) (pad size : ℕ) → (symbol_of (token_tree s pad size) ≡ s.0) × (is_extra_node (token_tree s pad size) ≡ false) × (span_of (token_tree s pad size) ≡ pad + size)
  token_names s pad size =
      let o = out-roll-Tree (leaf_layer s.0 pad size) in
      let k = laws.keeps (leaf_of s.0 pad size 0 None) in
      let p = k.pad in
      let z = k.size in
      let a : span_of (leaf_of s.0 pad size 0 None) ≡ pad + size = ap (λ (x : Tree-F Tree). x.pad + x.size) o in
      (k.symbol ∙ ap (λ (x : Tree-F Tree). x.symbol.0) o, k.extra ∙ ap (λ (x : Tree-F Tree). x.extra) o, omega arith)

  extra_names : (t : Tree) → (is_extra_node (as_extra t) ≡ true) × (span_of (as_extra t) ≡ span_of t)
  extra_names t =
      let o = out-roll-Tree (record (out-Tree t) { extra = true }) in
      (ap (λ (x : Tree-F Tree). x.extra) o, ap (λ (x : Tree-F Tree). x.pad + x.size) o)

  reduced_names : (g : FlatGrammar) (number left : ℕ) (p : Production) (ks : List Tree) → production_at g number ≡ Some (left, p) → (symbol_of (bare (reduced g number 0 None ks)) ≡ left) × (is_extra_node (bare (reduced g number 0 None ks)) ≡ false)
  reduced_names g number left p ks at =
      let k = laws.keeps (reduced g number 0 None ks) in
      let l : left_of g number ≡ left = ap (λ (o : Option (ℕ × Production)). unwrap_or (option_map (λ (q : ℕ × Production). q.0) o) 0) at in
      let m = made_names (form_of g (left_of g number) number) (left_of g number) number (value_of g number) ks in
      (k.symbol ∙ m.0 ∙ l, k.extra ∙ m.1)

-- ---- what is read

split_same : (xs ys a b : List ℕ) → xs ++ a ≡ ys ++ b → length xs ≡ length ys → (xs ≡ ys) × (a ≡ b)
split_same [] [] a b e n = (refl, e)
split_same [] (y ∷ ys) a b e n = absurd (omega (arith, n))
split_same (x ∷ xs) [] a b e n = absurd (omega (arith, n))
split_same (x ∷ xs) (y ∷ ys) a b e n =
    let h : x ≡ y = cc in
    let t : xs ++ a ≡ ys ++ b = cc in
    let r = split_same xs ys a b t (omega (arith, n)) in
    let q : xs ≡ ys = r.0 in
    (cc, r.1)

one_production : (a b : ℕ) (p q : Production) → ◌≡◌ {A = Option (ℕ × Production)} (Some (a, p)) (Some (b, q)) → (a ≡ b) × (p ≡ q)
one_production a b p q e =
    let both : ◌≡◌ {A = ℕ × Production} (a, p) (b, q) = cc in (ap (λ (x : ℕ × Production). x.0) both, ap (λ (x : ℕ × Production). x.1) both)

-- what a reduction reads, and what is read after it
record Reads (g : FlatGrammar) (number : ℕ) (stack after : List Tree) : Type 0 where
  left : ℕ
  production : Production
  at : production_at g number ≡ Some (left, production)
  earlier : List ℕ
  read_is : filling stack ≡ reverse (step_symbols production) ++ earlier
  after_is : filling after ≡ left ∷ earlier

reduction_reads : (laws : Laws) (g : FlatGrammar) (number on : ℕ) (stack after : List Tree) (node : Tree) → Act g (filling stack) on (reduce number) → IsReduction g number stack node after → Reads g number stack after
reduction_reads laws g number on stack after node act r =
    let en = laws.reduces g (filling stack) on number act in
    let one = one_production en.left r.left en.production r.production (sym en.at ∙ r.at) in
    let read : filling stack ≡ reverse (filling r.children) ++ filling r.below =
    ap filling r.stack_is ∙ filling_extras r.lifted (reverse r.children ++ r.below) r.extras ∙ filling_append (reverse r.children) r.below
    ∙ ap (λ (x : List ℕ). x ++ filling r.below) (filling_turned r.children) in
    let names = reduced_names laws g number r.left r.production r.children r.at in
    let a = length-reverse (filling r.children) in
    let b = length-reverse (step_symbols en.production) in
    let c : length (step_symbols en.production) ≡ length en.production.steps = length-map en.production.steps (λ (step : Step). step.symbol.0) in
    let d : length en.production.steps ≡ length r.production.steps = ap (λ (p : Production). length p.steps) one.1 in
    let f = r.count in
    let parts = split_same (reverse (filling r.children)) (reverse (step_symbols en.production)) (filling r.below) en.earlier (sym read ∙ en.read_is) (omega arith) in
    record {
      left = en.left;
      production = en.production;
      at = en.at;
      earlier = en.earlier;
      read_is = en.read_is;
      after_is = ap filling r.after_is ∙ filling_extras r.lifted (node ∷ r.below) r.extras ∙ fills_step node r.below (ap is_extra_node r.node_is ∙ names.1)
          ∙ ap (λ (n : ℕ). n ∷ filling r.below) (ap symbol_of r.node_is ∙ names.0 ∙ sym one.0) ∙ ap (λ (l : List ℕ). en.left ∷ l) parts.1;
    }

-- ---- one step

none_low : (read : List ℕ) → last_of read ≡ None → length read ≡ 0
none_low [] is = refl
none_low (x ∷ read) is = absurd (let e : Some x ≡ None = is in cc)

module _ (laws : Laws) (g : FlatGrammar) (fit : Fit g) (ranks : AreUnitRanks g (unit_rank g) (symbol_count g)) where
  light_shift : (left left' x : ℕ) (read : List ℕ) → left' < left → weight_of (unit_rank g) (symbol_count g) left' (x ∷ read) < weight_of (unit_rank g) (symbol_count g) left read
  light_shift left left' x read lt =
      subst (λ (n : ℕ). weight (unit_rank g) (symbol_count g) left' n (Some x) < weight (unit_rank g) (symbol_count g) left (length read) (last_of read)) (add-one (length read))
      (lighter_by_shift (unit_rank g) (symbol_count g) ranks.below left left' (length read) x (last_of read) lt (none_low read))

  -- steps in place of which the left side stands
  light_reduce : (left number lhs : ℕ) (p : Production) (steps : List Step) (read earlier : List ℕ) → production_at g number ≡ Some (lhs, p) → p.steps ≡ steps → read ≡ reverse (map (λ (step : Step). step.symbol.0) steps) ++ earlier → (steps ≡ [] → read ≡ [])
      → weight_of (unit_rank g) (symbol_count g) left (lhs ∷ earlier) < weight_of (unit_rank g) (symbol_count g) left read
  light_reduce left number lhs p [] [] earlier at is ends empty =
      let none : [] ≡ earlier = ends in
      subst (λ (e : List ℕ). weight (unit_rank g) (symbol_count g) left (suc (length e)) (Some lhs) < weight (unit_rank g) (symbol_count g) left 0 None) none (lighter_by_none (unit_rank g) (symbol_count g) ranks.below left lhs)
  light_reduce left number lhs p [] (y ∷ read) earlier at is ends empty = absurd (let e : y ∷ read ≡ [] = empty refl in cc)
  light_reduce left number lhs p (s ∷ []) read earlier at is ends empty =
      let one : read ≡ s.symbol.0 ∷ earlier = ends in
      subst (λ (r : List ℕ). weight_of (unit_rank g) (symbol_count g) left (lhs ∷ earlier) < weight_of (unit_rank g) (symbol_count g) left r) (sym one)
      (lighter_by_one (unit_rank g) (symbol_count g) ranks.below left (suc (length earlier)) lhs s.symbol.0 (ranks.unit number lhs p s at is))
  light_reduce left number lhs p (s ∷ (z ∷ steps)) read earlier at is ends empty =
      let m = length-map (s ∷ (z ∷ steps)) (λ (step : Step). step.symbol.0) in
      let count : length read ≡ length (map (λ (step : Step). step.symbol.0) (s ∷ (z ∷ steps))) + length earlier =
      ap (λ (l : List ℕ). length l) ends ∙ length-append (reverse (map (λ (step : Step). step.symbol.0) (s ∷ (z ∷ steps)))) earlier ∙ ap (λ (n : ℕ). n + length earlier) (length-reverse (map (λ (step : Step). step.symbol.0) (s ∷ (z ∷ steps)))) in
      many read (omega arith)
    where
      many : (read : List ℕ) → length earlier + 2 ≤ length read → weight_of (unit_rank g) (symbol_count g) left (lhs ∷ earlier) < weight_of (unit_rank g) (symbol_count g) left read
      many [] le = absurd (omega arith)
      many (w ∷ read) le =
          subst (λ (n : ℕ). weight (unit_rank g) (symbol_count g) left n (Some lhs) < weight (unit_rank g) (symbol_count g) left (suc (length read)) (Some w)) (add-one (length earlier))
          (lighter_by_many (unit_rank g) (symbol_count g) ranks.below left (suc (length read)) (length earlier) lhs w le)

  found_within : (text : Bytes) (c : Configuration) (s : Symbol) (pad size : ℕ) → NextIs g text c (token s pad size) → c.place ≤ length text → c.place + (pad + size) ≤ length text
  found_within text c s pad size n within = omega (arith, laws.token_within g n.0 (drop c.place text) s pad size n.2, length-drop c.place text, within)

  pub light_step : (text : Bytes) (c e : Configuration) → c.place ≤ length text → StepsOn g text c e → config_weight g (length text) e < config_weight g (length text) c
  light_step text c _ within (shift_token s pad size next act) =
      let names = token_names laws s pad size in
      let read : filling (token_tree s pad size ∷ c.stack) ≡ s.0 ∷ filling c.stack = fills_step (token_tree s pad size) c.stack names.1 ∙ ap (λ (n : ℕ). n ∷ filling c.stack) names.0 in
      let room = found_within text c s pad size next within in
      let some = next_some g text c s pad size next (laws.shifts g (filling c.stack) s.0 act).0.0 in
      subst (λ (r : List ℕ). weight_of (unit_rank g) (symbol_count g) (length text - (c.place + span_of (token_tree s pad size))) r < config_weight g (length text) c) (sym read)
      (light_shift (length text - c.place) (length text - (c.place + span_of (token_tree s pad size))) s.0 (filling c.stack) (let sp = names.2 in omega arith))
  light_step text c _ within (pass_extra s pad size next is none_acts) =
      let names = token_names laws s pad size in
      let x = extra_names laws (token_tree s pad size) in
      let read : filling (as_extra (token_tree s pad size) ∷ c.stack) ≡ filling c.stack = fills_none (as_extra (token_tree s pad size)) c.stack x.0 in
      let room = found_within text c s pad size next within in
      let some = next_some g text c s pad size next (extra_token g s fit is).0 in
      subst (λ (r : List ℕ). weight_of (unit_rank g) (symbol_count g) (length text - (c.place + span_of (as_extra (token_tree s pad size)))) r < config_weight g (length text) c) (sym read)
      (lighter_by_pass (unit_rank g) (symbol_count g) ranks.below (length text - c.place) (length text - (c.place + span_of (as_extra (token_tree s pad size)))) (length (filling c.stack)) (last_of (filling c.stack))
      (let sp = names.2 in let sq = x.1 in omega arith))
  light_step text c _ within (reduce_trees number node after move r shallow) =
      let rd = reduction_reads laws g number move.symbol.0 c.stack after node move.stays r in
      subst (λ (l : List ℕ). weight_of (unit_rank g) (symbol_count g) (length text - c.place) l < config_weight g (length text) c) (sym rd.after_is)
      (light_reduce (length text - c.place) number rd.left rd.production rd.production.steps (filling c.stack) rd.earlier rd.at refl rd.read_is
      (λ none. laws.nothing g fit (filling c.stack) move.symbol.0 number rd.left rd.production move.stays rd.at none))

  -- more bytes are read under the same symbols
  pub light_on : (size : ℕ) (c e : Configuration) → stack_symbols e.stack ≡ stack_symbols c.stack → c.place < e.place → e.place ≤ size → config_weight g size e < config_weight g size c
  light_on size c e same later within =
      subst (λ (r : List ℕ). weight_of (unit_rank g) (symbol_count g) (size - e.place) r < config_weight g size c) (sym same)
      (lighter_by_pass (unit_rank g) (symbol_count g) ranks.below (size - c.place) (size - e.place) (length (stack_symbols c.stack)) (last_of (stack_symbols c.stack)) (omega (arith, later, within)))

  -- a node with bytes that is put on the stack
  pub light_node : (size : ℕ) (c : Configuration) (u : Tree) → 0 < span_of u → c.place + span_of u ≤ size → config_weight g size (pushed c u) < config_weight g size c
  light_node size c u some within = by (is_extra_node u) refl
    where
      by : (b : Bool) → is_extra_node u ≡ b → config_weight g size (pushed c u) < config_weight g size c
      by false e =
          subst (λ (r : List ℕ). weight_of (unit_rank g) (symbol_count g) (size - (c.place + span_of u)) r < config_weight g size c) (sym (fills_step u c.stack e))
          (light_shift (size - c.place) (size - (c.place + span_of u)) (symbol_of u) (filling c.stack) (omega (arith, some, within)))
      by true e =
          subst (λ (r : List ℕ). weight_of (unit_rank g) (symbol_count g) (size - (c.place + span_of u)) r < config_weight g size c) (sym (fills_none u c.stack e))
          (lighter_by_pass (unit_rank g) (symbol_count g) ranks.below (size - c.place) (size - (c.place + span_of u)) (length (filling c.stack)) (last_of (filling c.stack)) (omega (arith, some, within)))
