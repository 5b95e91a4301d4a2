-- What a reduction takes off a live stack can be reduced, and its node can be put on the stack below.
use Rattle.std.proofs.Common.{◌≡◌, ◌∙◌, sym, ap, refl, subst, ℕ, suc, ◌+◌, ◌<◌, ◌≤◌, true, false, List, [], ◌∷◌, ◌++◌, length, length-append, reverse, Option, Some, arith}
use Rattle.std.proofs.lemmas.List.{length-map, length-reverse, reverse-reverse}
use Rattle.std.proofs.lemmas.Option.{slice_get_within}
use Rattle.ts_core.specs.declared.flat.FlatGrammar.{FlatGrammar}
use Rattle.ts_core.specs.declared.flat.Production.{Production}
use Rattle.ts_core.specs.declared.flat.Step.{Step}
use Rattle.spec_grammar.specs.Symbols.{all_productions}
use Rattle.spec_tables.specs.Actions.{Act, reduce}
use Rattle.spec_trees.specs.declared.tree.Tree.{Tree}
use Rattle.spec_trees.specs.Trees.{span_of, all_spans, tree_depth}
use Rattle.spec_trees.specs.Made.{filling, step_symbols, BeginsFilled, EndBy, reduced, most_span, most_depth}
use Rattle.spec_runs.specs.Moves.{StandsBefore, EndsWithProduction}
use Rattle.spec_trees.specs.Reducible.{HasSmallValue}
use Rattle.ts_table.specs.declared.view.ParseTable.{ParseTable}
use Rattle.ts_table.specs.Tables.{IsTable, IsStateOf}
use Rattle.ts_gss.specs.declared.layer.Layer.{Layer}
use Rattle.ts_gss.specs.Stacks.{stack_at, trees_on}
use Rattle.ts_steps.specs.declared.head.StackHead.{StackHead}
use Rattle.ts_steps.specs.declared.lines.ProductionLine.{ProductionLine}
use Rattle.ts_steps.specs.MoveLaws.{Laws}
use Rattle.ts_steps.specs.Lines.{IsLine}
use Rattle.ts_steps.specs.Good.{CanReduce}
use Rattle.ts_steps.specs.LiveHeads.{IsGoodStack, read_on, CanLay, CanPut, IsGathered}
use Rattle.ts_steps.proofs.NodeLemmas.{filling_fills, reduced_good}
use Rattle.ts_steps.proofs.StackLemmas.{extras_turned, filling_extras, filling_append, filling_turned, PushesPacked, packed_stack, packed_good}

-- ---- one production

second : (a b : ℕ) (p q : Production) → ◌≡◌ {A = Option (ℕ × Production)} (Some (a, p)) (Some (b, q)) → (a ≡ b) × (p ≡ q)
second a b p q e =
    let both : ◌≡◌ {A = ℕ × Production} (a, p) (b, q) = cc in (ap (λ (x : ℕ × Production). x.0) both, ap (λ (x : ℕ × Production). x.1) both)

split_same : (xs ys a b : List ℕ) → xs ++ a ≡ ys ++ b → length xs ≡ length ys → (xs ≡ ys) × (a ≡ b)
split_same [] [] a b e n = (refl, e)
split_same [] (y ∷ ys) a b e n = absurd (omega (arith, n))
split_same (x ∷ xs) [] a b e n = absurd (omega (arith, n))
split_same (x ∷ xs) (y ∷ ys) a b e n =
    let h : x ≡ y = cc in
    let t : xs ++ a ≡ ys ++ b = cc in
    let r = split_same xs ys a b t (omega (arith, n)) in
    let q : xs ≡ ys = r.0 in
    (cc, r.1)

begins_left : (xs ys : List Tree) → BeginsFilled (xs ++ ys) → BeginsFilled xs
begins_left [] ys b = tt
begins_left (x ∷ xs) ys b = b

many_steps : (p : Production) → length (step_symbols p) ≡ length p.steps
many_steps p = length-map p.steps (λ (step : Step). step.symbol.0)

-- the number is that of a production
pub number_within : (g : FlatGrammar) (read : List ℕ) (number : ℕ) → EndsWithProduction g read number → number < length (all_productions g)
number_within g read number r = slice_get_within (all_productions g) number (r.left, r.production) r.at

module _ (laws : Laws) (t : ParseTable) (size number token : ℕ) (old : List (List Layer)) (h : StackHead) (l : ProductionLine) (stays : Act t.grammar (read_on old h) token (reduce number)) (line : IsLine t.grammar number l) (small : HasSmallValue t.grammar number) where
  ends : EndsWithProduction t.grammar (read_on old h) number
  ends = laws.reduces t.grammar (read_on old h) token number stays

  same : (ends.left ≡ l.left.0) × (ends.production ≡ line.production)
  same = second ends.left l.left.0 ends.production line.production (sym ends.at ∙ line.at)

  -- there are as many symbols as steps
  pub enough : l.steps ≤ length (read_on old h)
  enough =
      let a : length (read_on old h) ≡ length (reverse (step_symbols ends.production) ++ ends.earlier) = ap (λ (x : List ℕ). length x) ends.read_is in
      let b = length-append (reverse (step_symbols ends.production)) ends.earlier in
      let c = length-reverse (step_symbols ends.production) in
      let d = many_steps ends.production in
      let e : length ends.production.steps ≡ length line.production.steps = ap (λ (p : Production). length p.steps) same.1 in
      let f = line.steps in
      omega arith

  module _ (extras children : List Tree) (extent : ℕ) (below : List Layer) (gat : IsGathered t size (stack_at old h.top) h.place l.steps extras children extent below) where
    read_is : read_on old h ≡ reverse (filling children) ++ filling (trees_on below)
    read_is =
        ap filling gat.trees
        ∙ filling_extras (reverse extras) (reverse children ++ trees_on below) (extras_turned extras gat.all_extras)
        ∙ filling_append (reverse children) (trees_on below)
        ∙ ap (λ (x : List ℕ). x ++ filling (trees_on below)) (filling_turned children)

    parted : (reverse (filling children) ≡ reverse (step_symbols ends.production)) × (filling (trees_on below) ≡ ends.earlier)
    parted =
        let a = length-reverse (filling children) in
        let b = length-reverse (step_symbols ends.production) in
        let c = many_steps ends.production in
        let d : length ends.production.steps ≡ length line.production.steps = ap (λ (p : Production). length p.steps) same.1 in
        let e = line.steps in
        let f = gat.filled in
        split_same (reverse (filling children)) (reverse (step_symbols ends.production)) (filling (trees_on below)) ends.earlier (sym read_is ∙ ends.read_is) (omega arith)

    filled : filling children ≡ step_symbols line.production
    filled =
        sym (reverse-reverse (filling children)) ∙ ap (λ (x : List ℕ). reverse x) parted.0 ∙ reverse-reverse (step_symbols ends.production)
        ∙ ap step_symbols same.1

    pub stands : StandsBefore t.grammar (filling (trees_on below)) l.left.0
    stands = subst (λ (n : ℕ). StandsBefore t.grammar (filling (trees_on below)) n) same.0 (subst (λ (x : List ℕ). StandsBefore t.grammar x ends.left) (sym parted.1) ends.before)

    pub can_reduce : IsTable t → size ≤ most_span → CanReduce t.grammar number l.left.0 line.production extent children
    can_reduce table short = record {
      fit = table.fit;
      at = line.at;
      value = small;
      good = gat.good_children;
      filled = filled;
      begins = gat.begins;
      ends = begins_left (reverse children) (trees_on below) gat.no_more;
      short = omega (arith, gat.place_is, gat.within, short);
      past = gat.past;
      covers = gat.covers;
    }

    -- the node can be put on the stack below
    pub can_put : (state : Option ℕ) (depth : ℕ) → IsTable t → size ≤ most_span → tree_depth (reduced t.grammar number extent state children) ≤ depth → depth ≤ most_depth
        → CanPut t size (all_spans (trees_on below)) l.left.0 (reduced t.grammar number extent state children) depth extras
    can_put state depth table short less low =
        let shallow : tree_depth (reduced t.grammar number extent state children) ≤ most_depth = omega (arith, less, low) in
        let good = reduced_good laws t.grammar number l.left.0 line.production extent state children (can_reduce table short) shallow in
        let says = good.1 in
        record {
          deep = record { own = less; shallow = low; flat = λ extra. absurd (let h : true ≡ false = sym extra ∙ says.extra in cc) };
          symbol = says.symbol;
          fills = says.extra;
          good = good.0;
          reach = omega (arith, gat.most, says.extent_is);
          all_extras = gat.all_extras;
          good_extras = gat.good_extras;
          reach_extras = subst (λ (n : ℕ). EndBy (suc size) (all_spans (trees_on below) + n) extras) (sym says.span) gat.reach;
          within = omega (arith, says.span, gat.place_is, gat.within);
        }

-- ---- the stack below, where later ones were taken out

pub stands_still : (t : ParseTable) (left : ℕ) (old new : List Layer) → new ≡ old → (size : ℕ) × (place : ℕ) × IsGoodStack t size old place × StandsBefore t.grammar (filling (trees_on old)) left
    → (size : ℕ) × (place : ℕ) × IsGoodStack t size new place × StandsBefore t.grammar (filling (trees_on new)) left
stands_still t left old new same w = (
  w.0,
  w.1,
  subst (λ (l : List Layer). IsGoodStack t w.0 l w.1) (sym same) w.2,
  subst (λ (l : List Layer). StandsBefore t.grammar (filling (trees_on l)) left) (sym same) w.3,
)

-- ---- laying extras

-- the node on the stack below, with its state
pub put_base : (t : ParseTable) (size place : ℕ) (old mid : List (List Layer)) (below base : ℕ) (left : ℕ) (node : Tree) (depth : ℕ) (extras : List Tree) (state : ℕ) → PushesPacked old mid below base node state depth → IsGoodStack t size (stack_at old below) place
    → CanPut t size place left node depth extras → IsStateOf t (left ∷ filling (trees_on (stack_at old below))) state → CanLay t size (place + span_of node) (stack_at mid base) state extras
put_base t size place old mid below base left node depth extras state p b can st =
    let names : filling (node ∷ trees_on (stack_at old below)) ≡ left ∷ filling (trees_on (stack_at old below)) = filling_fills node (trees_on (stack_at old below)) can.fills ∙ ap (λ (n : ℕ). n ∷ filling (trees_on (stack_at old below))) can.symbol in
    let here : IsStateOf t (filling (node ∷ trees_on (stack_at old below))) state = subst (λ (l : List ℕ). IsStateOf t l state) (sym names) st in
    record {
      base = packed_good old mid below base node state depth p t size place b here can.good can.deep (omega (arith, can.within)) can.reach;
      state_is = subst (λ (s : List Layer). IsStateOf t (filling (trees_on s)) state) (sym (packed_stack old mid below base node state depth p)) here;
      all_extras = can.all_extras;
      good = can.good_extras;
      reach = can.reach_extras;
      within = omega (arith, can.within);
    }
