-- The trees and extras that are laid on stacks: tokens, extras and nodes.
use Rattle.std.proofs.Common.{◌≡◌, ◌∙◌, sym, ap, refl, subst, ℕ, ◌+◌, ◌-◌, ◌<◌, ◌≤◌, max, Bool, true, false, true≢false, nat_eq, List, [], ◌∷◌, ◌++◌, append-nil, length, reverse, map, drop, Option, Some, None, unwrap_or, option_map, All, arith}
use Rattle.std.proofs.lemmas.List.{reverse-append, reverse-reverse, length-map, length-reverse}
use Rattle.std.proofs.lemmas.List.Elements.{All-head, All-tail}
use lib.IntN.{ℤ, pos, ◌+ℤ◌}
use Rattle.ts_base.specs.Bytes.{Bytes}
use Rattle.ts_core.specs.declared.flat.FlatGrammar.{FlatGrammar}
use Rattle.ts_core.specs.declared.flat.Production.{Production}
use Rattle.ts_core.specs.declared.flat.Step.{Step}
use Rattle.ts_core.specs.declared.flat.TokenDef.{TokenDef}
use Rattle.ts_core.specs.declared.symbol.Symbol.{Symbol}
use Rattle.spec_grammar.specs.Symbols.{production_at, is_among}
use Rattle.spec_lexing.specs.Matching.{MatchesToken, plainly, as_keyword}
use Rattle.spec_lexing.specs.Lexing.{Found, token, absent, behind, Lexes, takes, ends, passes, stops}
use Rattle.spec_tables.specs.Actions.{Act, shift}
use Rattle.spec_tables.specs.Fit.{IsToken as IsTokenSymbol}
use Rattle.spec_tables.specs.Items.{IsToken}
use Rattle.spec_trees.specs.declared.tree.Tree.{Tree}
use Rattle.spec_trees.specs.declared.tree.Tree.TheOpen.{Tree-F}
use Rattle.spec_trees.specs.declared.tree.Tree.TheViews.{roll-Tree, out-roll-Tree}
use Rattle.spec_trees.specs.declared.tree.Tree.TheFolds.{fold_out-Tree, fold-roll-Tree}
use Rattle.spec_trees.specs.Trees.{symbol_of, pad_of, size_of, is_extra_node, elements_of, children_of, total_of, all_totals, span_of, all_spans, first_pad, tree_depth, depth_step, greatest_depth, bare}
use Rattle.spec_trees.specs.Made.{leaf_of, as_extra, element, Form, of_rule, of_first, of_next, form_of, made_by, left_of, value_of, reduced, filling, step_symbols}
use Rattle.spec_runs.specs.BareTrees.{KeepsAll}
use Rattle.spec_runs.specs.Configurations.{token_tree, AreExtras}
use Rattle.spec_packing.specs.Laws.{RunLaws}
use Rattle.spec_packing.proofs.MadeLemmas.{IsMade, AllMade, over_says, CanMake, IsLawful, first_some, before_flat, next_is_flat, no_children, all_spans_append, made_bare, made_token, made_passed, made_reduced}
use Rattle.spec_packing.proofs.ReducedLemmas.{pad_append}
use Rattle.spec_packing.proofs.ReachedLemmas.{lawful}
use Rattle.spec_graph.specs.Replacing.{depth_over}
use Rattle.spec_graph.specs.Laying.{Parsing, SeesAt, PassesAt, ReducesAt, extra_tree, node_made}
use Rattle.spec_graph.proofs.SightLemmas.{Facts}

-- ---- tokens have bytes

HasBytes : Found → Type 0
HasBytes (token s pad size) = 0 < s.0 → 0 < size
HasBytes (absent n) = Unit {0}

bytes_behind : (n : ℕ) (f : Found) → HasBytes f → HasBytes (behind n f)
unfolding HasBytes
bytes_behind n (token s pad size) h = h
bytes_behind n (absent m) h = h

matched : (g : FlatGrammar) (d : TokenDef) (rest : Bytes) (n : ℕ) → MatchesToken g d rest n → 0 < n
matched g d rest n (plainly k m) = m.some
matched g d rest n (as_keyword k word is longest m) = m.some

bytes_found : (g : FlatGrammar) (valid : List Symbol) (first : Bool) (rest : Bytes) (f : Found) → Lexes g valid first rest f → HasBytes f
unfolding HasBytes
bytes_found g valid _ _ _ (takes first rest s n best) = λ some. matched g best.token rest n best.candidate.matches
bytes_found g valid _ _ _ (ends first is) = λ some. some
bytes_found g valid _ _ _ (passes first rest n f pass deep) = bytes_behind n f (bytes_found g valid false (drop n rest) f deep)
bytes_found g valid _ _ _ (stops first rest none lack) = tt

pub sight_bytes : (P : Parsing) (read : List ℕ) (place : ℕ) (s : Symbol) (pad size : ℕ) → SeesAt P read place (token s pad size) → 0 < s.0 → 0 < size
unfolding HasBytes
sight_bytes P read place s pad size n = bytes_found P.grammar n.0 true (drop place P.text) (token s pad size) n.2

among_tokens : (g : FlatGrammar) (n : ℕ) (ss : List Symbol) → All (IsTokenSymbol g) ss → is_among n ss ≡ true → IsToken g n
among_tokens g n [] a e = absurd (true≢false (sym e))
among_tokens g n (s ∷ ss) a e = by (nat_eq s.0 n) refl (among_tokens g n ss (All-tail (IsTokenSymbol g) s ss a))
  where
    by : (b : Bool) → nat_eq s.0 n ≡ b → (is_among n ss ≡ true → IsToken g n) → IsToken g n
    by true h more = let same : s.0 ≡ n = grind arith in subst (λ (m : ℕ). IsToken g m) same (All-head (IsTokenSymbol g) s ss a)
    by false h more = more (let f : is_among n (s ∷ ss) ≡ is_among n ss = rw h refl in sym f ∙ e)

-- ---- lists of trees

pub filling_tree : (t : Tree) (ts : List Tree) → is_extra_node t ≡ false → filling (t ∷ ts) ≡ symbol_of t ∷ filling ts
filling_tree t ts e = rw e refl

pub filling_extra : (t : Tree) (ts : List Tree) → is_extra_node t ≡ true → filling (t ∷ ts) ≡ filling ts
filling_extra t ts e = rw e refl

pub filling_one : (t : Tree) (ts : List Tree) → filling (t ∷ ts) ≡ filling (t ∷ []) ++ filling ts
filling_one t ts = by (is_extra_node t) refl
  where
    by : (b : Bool) → is_extra_node t ≡ b → filling (t ∷ ts) ≡ filling (t ∷ []) ++ filling ts
    by true e = rw e refl
    by false e = rw e refl

pub filling_append : (xs ys : List Tree) → filling (xs ++ ys) ≡ filling xs ++ filling ys
filling_append [] ys = refl
filling_append (x ∷ xs) ys = by (is_extra_node x) refl (filling_append xs ys)
  where
    by : (b : Bool) → is_extra_node x ≡ b → filling (xs ++ ys) ≡ filling xs ++ filling ys → filling (x ∷ xs ++ ys) ≡ filling (x ∷ xs) ++ filling ys
    by true e h = rw e h
    by false e h = rw e (ap (λ (l : List ℕ). symbol_of x ∷ l) h)

pub filling_turned : (xs : List Tree) → filling (reverse xs) ≡ reverse (filling xs)
filling_turned [] = refl
filling_turned (x ∷ xs) = by (is_extra_node x) refl (filling_turned xs)
  where
    by : (b : Bool) → is_extra_node x ≡ b → filling (reverse xs) ≡ reverse (filling xs) → filling (reverse (x ∷ xs)) ≡ reverse (filling (x ∷ xs))
    by true e h = ap filling (reverse-append (x ∷ []) xs) ∙ filling_append (reverse xs) (x ∷ []) ∙ ap (λ (l : List ℕ). l ++ filling (x ∷ [])) h ∙ rw e (append-nil (reverse (filling xs)))
    by false e h = ap filling (reverse-append (x ∷ []) xs) ∙ filling_append (reverse xs) (x ∷ []) ∙ ap (λ (l : List ℕ). l ++ filling (x ∷ [])) h ∙ rw e (sym (reverse-append (symbol_of x ∷ []) (filling xs)))

pub filling_none : (xs : List Tree) → AreExtras xs → filling xs ≡ []
filling_none [] a = refl
filling_none (x ∷ xs) a = rw a.0 (filling_none xs a.1)

pub filling_extras : (xs ts : List Tree) → AreExtras xs → filling (xs ++ ts) ≡ filling ts
filling_extras [] ts a = refl
filling_extras (x ∷ xs) ts a = rw a.0 (filling_extras xs ts a.1)

pub spans_turned : (xs : List Tree) → all_spans (reverse xs) ≡ all_spans xs
spans_turned [] = refl
spans_turned (x ∷ xs) =
    ap all_spans (reverse-append (x ∷ []) xs) ∙ all_spans_append (reverse xs) (x ∷ [])
    ∙ (let h = spans_turned xs in omega (arith, h))

pub all_made_append : (g : FlatGrammar) (xs ys : List Tree) → AllMade g xs → AllMade g ys → AllMade g (xs ++ ys)
all_made_append g [] ys a b = b
all_made_append g (x ∷ xs) ys a b = (a.0, all_made_append g xs ys a.1 b)

pub all_made_turned : (g : FlatGrammar) (xs : List Tree) → AllMade g xs → AllMade g (reverse xs)
all_made_turned g [] a = tt
all_made_turned g (x ∷ xs) a = subst (λ (l : List Tree). AllMade g l) (sym (reverse-append (x ∷ []) xs)) (all_made_append g (reverse xs) (x ∷ []) (all_made_turned g xs a.1) (a.0, tt))

pub all_made_back : (g : FlatGrammar) (xs : List Tree) → AllMade g (reverse xs) → AllMade g xs
all_made_back g xs a = subst (λ (l : List Tree). AllMade g l) (reverse-reverse xs) (all_made_turned g (reverse xs) a)

-- two beginnings of one list that are equally long are one
pub same_front : (xs ys a b : List ℕ) → length xs ≡ length ys → xs ++ a ≡ ys ++ b → xs ≡ ys
same_front [] [] a b e h = refl
same_front [] (y ∷ ys) a b e h = absurd (omega (arith, e))
same_front (x ∷ xs) [] a b e h = absurd (omega (arith, e))
same_front (x ∷ xs) (y ∷ ys) a b e h =
    let t : xs ++ a ≡ ys ++ b = cc in
    let first : x ≡ y = cc in
    let rest : xs ≡ ys = same_front xs ys a b (omega (arith, e)) t in cc

-- ---- tokens and extras

-- what a tree over a token is
pub record LeafSays (s : Symbol) (its_pad its_size : ℕ) (its_kind : Bool) (t : Tree) : Type 0 where
  pub symbol : symbol_of t ≡ s.0
  pub pad : pad_of t ≡ its_pad
  pub size : size_of t ≡ its_size
  pub kind : is_extra_node t ≡ its_kind
  pub depth : tree_depth t ≡ 1

abbrev leaf_layer : ℕ → ℕ → ℕ → Bool → Tree-F Tree
leaf_layer number pad size extra = record {
  symbol = record { 0 = number };
  production = None;
  pad = pad;
  size = size;
  dynamic = pos 0;
  extent = 0;
  state = None;
  settled = true;
  extra = extra;
  elements = [];
  children = [];
}

layer_says : (s : Symbol) (pad size : ℕ) (kind : Bool) → LeafSays s pad size kind (roll-Tree (leaf_layer s.0 pad size kind))
layer_says s pad size kind =
    let o = out-roll-Tree (leaf_layer s.0 pad size kind) in
    record {
      symbol = ap (λ (x : Tree-F Tree). x.symbol.0) o;
      pad = ap (λ (x : Tree-F Tree). x.pad) o;
      size = ap (λ (x : Tree-F Tree). x.size) o;
      kind = ap (λ (x : Tree-F Tree). x.extra) o;
      depth = fold-roll-Tree ℕ depth_step (leaf_layer s.0 pad size kind);
    }

bare_says : (s : Symbol) (pad size : ℕ) (kind : Bool) (t : Tree) → KeepsAll t → LeafSays s pad size kind t → LeafSays s pad size kind (bare t)
bare_says s pad size kind t k l = record {
  symbol = k.symbol ∙ l.symbol;
  pad = k.pad ∙ l.pad;
  size = k.size ∙ l.size;
  kind = k.extra ∙ l.kind;
  depth = k.depth ∙ l.depth;
}

module _ (laws : RunLaws) where
  pub token_says : (s : Symbol) (pad size : ℕ) → LeafSays s pad size false (token_tree s pad size)
  token_says s pad size = bare_says s pad size false (leaf_of s.0 pad size 0 None) (laws.keeps (leaf_of s.0 pad size 0 None)) (layer_says s pad size false)

  pub extra_says : (s : Symbol) (pad size : ℕ) → LeafSays s pad size true (extra_tree s pad size)
  extra_says s pad size =
      let leaf : Tree = leaf_of s.0 pad size 0 None in
      let is : as_extra leaf ≡ roll-Tree (leaf_layer s.0 pad size true) = ap {B = Tree} (λ (x : Tree-F Tree). roll-Tree (record x { extra = true })) (out-roll-Tree (leaf_layer s.0 pad size false)) in
      subst (λ (t : Tree). LeafSays s pad size true t) (laws.extra leaf)
      (bare_says s pad size true (as_extra leaf) (laws.keeps (as_extra leaf)) (subst (λ (t : Tree). LeafSays s pad size true t) (sym is) (layer_says s pad size true)))

-- ---- nodes

-- what the node of a reduction is
pub record NodeSays (g : FlatGrammar) (number left : ℕ) (ks : List Tree) (t : Tree) : Type 0 where
  pub symbol : symbol_of t ≡ left
  pub kind : is_extra_node t ≡ false
  pub pad : pad_of t ≡ first_pad ks
  pub span : span_of t ≡ all_spans ks
  pub depth : tree_depth t ≡ depth_over (form_of g left number) (map tree_depth ks)

first_pad_within : (ks : List Tree) → first_pad ks ≤ all_spans ks
first_pad_within [] = omega arith
first_pad_within (k ∷ ks) = omega arith

greatest_append : (xs ys : List Tree) → greatest_depth (xs ++ ys) ≡ max (greatest_depth xs) (greatest_depth ys)
greatest_append [] ys = omega arith
greatest_append (x ∷ xs) ys = omega (arith, greatest_append xs ys)

left_is : (g : FlatGrammar) (number left : ℕ) (p : Production) → production_at g number ≡ Some (left, p) → left_of g number ≡ left
left_is g number left p at = ap (λ (o : Option (ℕ × Production)). unwrap_or (option_map (λ (q : ℕ × Production). q.0) o) 0) at

form_kind : (f : Form) (symbol number : ℕ) (value : ℤ) (ks : List Tree) → (symbol_of (made_by f symbol number value 0 None ks) ≡ symbol) × (is_extra_node (made_by f symbol number value 0 None ks) ≡ false)
form_kind of_rule symbol number value ks = let o = over_says symbol (Some number) (value +ℤ all_totals ks) [] ks in (o.symbol_is, o.extra_is)
form_kind (of_first a) symbol number value ks = let o = over_says symbol None (value +ℤ all_totals ks) (element a (length ks) value 0 ∷ []) ks in (o.symbol_is, o.extra_is)
form_kind (of_next a) symbol number value [] = let o = over_says symbol None value [] [] in (o.symbol_is, o.extra_is)
form_kind (of_next a) symbol number value (k ∷ ks) =
    let o = over_says symbol None (value +ℤ (total_of k +ℤ all_totals ks)) (elements_of k ++ element a (length ks) value (0 - span_of k) ∷ []) (children_of k ++ ks) in (o.symbol_is, o.extra_is)

-- the symbol of the node of a reduction, which fills a step
pub node_kind : RunLaws → (g : FlatGrammar) (number left : ℕ) (p : Production) → production_at g number ≡ Some (left, p) → (ks : List Tree) → (symbol_of (bare (reduced g number 0 None ks)) ≡ left) × (is_extra_node (bare (reduced g number 0 None ks)) ≡ false)
node_kind laws g number left p at ks =
    let k = laws.keeps (reduced g number 0 None ks) in
    let w = form_kind (form_of g (left_of g number) number) (left_of g number) number (value_of g number) ks in
    (k.symbol ∙ w.0 ∙ left_is g number left p at, k.extra ∙ w.1)

module _ (g : FlatGrammar) (number left : ℕ) (p : Production) (lawful : IsLawful g number left p) where
  form_says : (f : Form) (ks : List Tree) → form_of g left number ≡ f → CanMake g number left p ks
      → (symbol_of (made_by f left number (value_of g number) 0 None ks) ≡ left) × (is_extra_node (made_by f left number (value_of g number) 0 None ks) ≡ false)
      × (pad_of (made_by f left number (value_of g number) 0 None ks) ≡ first_pad ks) × (span_of (made_by f left number (value_of g number) 0 None ks) ≡ all_spans ks)
      × (tree_depth (made_by f left number (value_of g number) 0 None ks) ≡ depth_over f (map tree_depth ks))
  form_says of_rule ks e c =
      let o = over_says left (Some number) (value_of g number +ℤ all_totals ks) [] ks in
      (o.symbol_is, o.extra_is, o.pad_is, omega (arith, o.pad_is, o.size_is, first_pad_within ks), omega (arith, o.depth_is))
  form_says (of_first a) ks e c =
      let o = over_says left None (value_of g number +ℤ all_totals ks) (element a (length ks) (value_of g number) 0 ∷ []) ks in
      (o.symbol_is, o.extra_is, o.pad_is, omega (arith, o.pad_is, o.size_is, first_pad_within ks), omega (arith, o.depth_is))
  form_says (of_next a) [] e c = absurd (no_children g number left p lawful a e c)
  form_says (of_next a) (before ∷ more) e c =
      let x = before_flat g number left p lawful a before more e (next_is_flat g number left p lawful a e) c in
      let some : 0 < all_spans (children_of before) = omega (arith, first_some g number left p before more c, x.whole.span) in
      let all : List Tree = children_of before ++ more in
      let o = over_says left None (value_of g number +ℤ (total_of before +ℤ all_totals more)) (elements_of before ++ element a (length more) (value_of g number) (0 - span_of before) ∷ []) all in
      let deep : tree_depth before ≡ 1 + greatest_depth (children_of before) = fold_out-Tree ℕ depth_step before in (
        o.symbol_is,
        o.extra_is,
        o.pad_is ∙ pad_append (children_of before) more some ∙ sym x.whole.pad,
        omega (arith, o.pad_is, o.size_is, first_pad_within all, all_spans_append (children_of before) more, x.whole.span),
        omega (arith, o.depth_is, greatest_append (children_of before) more, deep),
      )

  reduced_says : (ks : List Tree) → CanMake g number left p ks → NodeSays g number left ks (reduced g number 0 None ks)
  reduced_says ks c = subst (λ (s : ℕ). NodeSays g number left ks (made_by (form_of g s number) s number (value_of g number) 0 None ks)) (sym (left_is g number left p c.at))
      (let w = form_says (form_of g left number) ks refl c in record { symbol = w.0; kind = w.1; pad = w.2; span = w.3; depth = w.4 })

  pub node_says : RunLaws → (ks : List Tree) → CanMake g number left p ks → NodeSays g number left ks (bare (reduced g number 0 None ks))
  node_says laws ks c =
      let t : Tree = reduced g number 0 None ks in
      let k = laws.keeps t in
      let w = reduced_says ks c in
      record {
        symbol = k.symbol ∙ w.symbol;
        kind = k.extra ∙ w.kind;
        pad = k.pad ∙ w.pad;
        span = omega (arith, k.pad, k.size, w.span);
        depth = k.depth ∙ w.depth;
      }

-- ---- what is laid, made well

module _ (P : Parsing) (facts : Facts P) where
  -- the children of a reduction fill the steps of its production
  pub children_fill : (over now : List ℕ) (look number left : ℕ) (p : Production) (children : List Tree) → ReducesAt P over look number left p now → over ≡ filling (reverse children) ++ now → length (filling children) ≡ length p.steps → filling children ≡ step_symbols p
  children_fill over now look number left p children r is count =
      let turned : over ≡ reverse (filling children) ++ now = is ∙ ap (λ (l : List ℕ). l ++ now) (filling_turned children) in
      let many : length (reverse (filling children)) ≡ length (reverse (step_symbols p)) =
      length-reverse (filling children) ∙ count ∙ sym (length-map p.steps (λ (step : Step). step.symbol.0)) ∙ sym (length-reverse (step_symbols p)) in
      let same = same_front (reverse (filling children)) (reverse (step_symbols p)) now now many (sym turned ∙ r.read_is) in
      sym (reverse-reverse (filling children)) ∙ ap (λ (l : List ℕ). reverse l) same ∙ reverse-reverse (step_symbols p)

  pub lawful_at : (number left : ℕ) (p : Production) → production_at P.grammar number ≡ Some (left, p) → IsLawful P.grammar number left p
  lawful_at number left p at = lawful facts.laws.runs P.grammar facts.fit number left p at

  pub shift_bytes : (read : List ℕ) (place : ℕ) (s : Symbol) (pad size : ℕ) → SeesAt P read place (token s pad size) → Act P.grammar read s.0 shift → 0 < size
  shift_bytes read place s pad size sees stays = sight_bytes P read place s pad size sees (facts.laws.runs.shifts P.grammar read s.0 stays).0.0

  pub pass_bytes : (read : List ℕ) (place : ℕ) (s : Symbol) (pad size : ℕ) → PassesAt P read place s pad size → 0 < size
  pass_bytes read place s pad size p = sight_bytes P read place s pad size p.sees (among_tokens P.grammar s.0 P.grammar.extras facts.fit.extras.1 p.extra).0

  pub shift_made : (read : List ℕ) (place : ℕ) (s : Symbol) (pad size : ℕ) → SeesAt P read place (token s pad size) → Act P.grammar read s.0 shift → IsMade P.grammar (token_tree s pad size)
  shift_made read place s pad size sees stays = made_token facts.laws.runs.keeps P.grammar s.0 pad size (facts.laws.runs.shifts P.grammar read s.0 stays).0 (shift_bytes read place s pad size sees stays)

  pub pass_made : (read : List ℕ) (place : ℕ) (s : Symbol) (pad size : ℕ) → PassesAt P read place s pad size → IsMade P.grammar (extra_tree s pad size)
  pass_made read place s pad size p = made_passed facts.laws.runs.keeps P.grammar facts.laws.runs.extra s.0 pad size (among_tokens P.grammar s.0 P.grammar.extras facts.fit.extras.1 p.extra) (pass_bytes read place s pad size p)

  pub node_is_made : (number left : ℕ) (p : Production) (ks : List Tree) → CanMake P.grammar number left p ks → IsMade P.grammar (node_made P number ks)
  node_is_made number left p ks c =
      made_bare facts.laws.runs.keeps P.grammar (reduced P.grammar number 0 None ks) (made_reduced P.grammar number left p (lawful_at number left p c.at) ks c)

  pub node_tells : (number left : ℕ) (p : Production) (ks : List Tree) → CanMake P.grammar number left p ks → NodeSays P.grammar number left ks (node_made P number ks)
  node_tells number left p ks c = node_says P.grammar number left p (lawful_at number left p c.at) facts.laws.runs ks c

  pub kind_of : (number left : ℕ) (p : Production) (ks : List Tree) → production_at P.grammar number ≡ Some (left, p) → is_extra_node (node_made P number ks) ≡ false
  kind_of number left p ks at = (node_kind facts.laws.runs P.grammar number left p at ks).1

  pub symbol_is : (number left : ℕ) (p : Production) (ks : List Tree) → production_at P.grammar number ≡ Some (left, p) → symbol_of (node_made P number ks) ≡ left
  symbol_is number left p ks at = (node_kind facts.laws.runs P.grammar number left p at ks).0
