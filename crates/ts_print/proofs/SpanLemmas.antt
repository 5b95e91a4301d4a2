-- The trees on a parser's stack take no more bytes than were read, so that an accepted tree lies in
-- its text.
use Rattle.std.proofs.Common.{arith, ◌≡◌, ◌∙◌, sym, ap, refl, subst, ℕ, ◌+◌, ◌-◌, ◌≤◌, true, false, List, [], ◌∷◌, ◌++◌, length, map, reverse, drop, Option, Some, None, ℤ}
use Rattle.std.proofs.lemmas.List.{reverse-append, length-drop}
use lib.IntN.{pos, ◌+ℤ◌}
use Rattle.ts_base.specs.Bytes.{Bytes}
use Rattle.ts_core.specs.declared.flat.FlatGrammar.{FlatGrammar}
use Rattle.ts_core.specs.declared.symbol.Symbol.{Symbol}
use Rattle.spec_lexing.specs.Lexing.{Lex, token}
use Rattle.spec_trees.specs.declared.tree.Tree.{Tree}
use Rattle.spec_trees.specs.declared.tree.Element.{Element}
use Rattle.spec_trees.specs.declared.tree.Tree.TheOpen.{Tree-F}
use Rattle.spec_trees.specs.declared.tree.Tree.TheViews.{out-Tree, out-roll-Tree}
use Rattle.spec_trees.specs.Trees.{symbol_of, production_of, pad_of, size_of, elements_of, children_of, total_of, all_totals, span_of, all_spans, first_pad, bare}
use Rattle.spec_trees.specs.Made.{leaf_of, as_extra, node_over, element, Form, of_rule, of_first, of_next, made_by, form_of, left_of, value_of, reduced, accepted}
use Rattle.spec_runs.specs.BareTrees.{KeepsAll}
use Rattle.spec_runs.specs.Configurations.{Configuration, starting, token_tree, pushed, NextIs, IsReduction}
use Rattle.spec_runs.specs.Runs.{StepsOn, shift_token, pass_extra, reduce_trees, Run, run_here, run_on, AcceptsTree}
use Rattle.spec_runs.specs.Outcomes.{FreshOutcome, deep_outcome, tree_outcome, stuck_outcome, SomeAccepts, Fresh}
use Rattle.ts_print.specs.Printed.{TreeLiesIn}

-- ---- what is known from below

abbrev Keeps : Type 0
Keeps = (t : Tree) → KeepsAll t

abbrev LexesWithin : Type 0
LexesWithin = (g : FlatGrammar) (valid : List Symbol) (rest : Bytes) (s : Symbol) (pad size : ℕ) → Lex g valid rest (token s pad size) → pad + size ≤ length rest

-- ---- lists of trees

spans_append : (xs ys : List Tree) → all_spans (xs ++ ys) ≡ all_spans xs + all_spans ys
spans_append [] ys = omega arith
spans_append (x ∷ xs) ys = let r = spans_append xs ys in omega arith

reverse_cons : (x : Tree) (xs : List Tree) → reverse (x ∷ xs) ≡ reverse xs ++ x ∷ []
reverse_cons x xs = reverse-append (x ∷ []) xs

spans_reverse : (xs : List Tree) → all_spans (reverse xs) ≡ all_spans xs
spans_reverse [] = refl
spans_reverse (x ∷ xs) =
    let e : all_spans (reverse (x ∷ xs)) ≡ all_spans (reverse xs ++ x ∷ []) = ap all_spans (reverse_cons x xs) in
    let s = spans_append (reverse xs) (x ∷ []) in
    let r = spans_reverse xs in
    omega arith

-- its children take no more bytes than the tree
abbrev IsRoomy : Tree → Type 0
IsRoomy t = all_spans (children_of t) ≤ span_of t

-- each of them is so
abbrev AllRoomy : List Tree → Type 0
AllRoomy [] = Unit {0}
AllRoomy (t ∷ ts) = IsRoomy t × AllRoomy ts

roomy_split : (xs ys : List Tree) → AllRoomy (xs ++ ys) → AllRoomy xs × AllRoomy ys
roomy_split [] ys h = (tt, h)
roomy_split (x ∷ xs) ys h = let r = roomy_split xs ys h.1 in ((h.0, r.0), r.1)

roomy_join : (xs ys : List Tree) → AllRoomy xs → AllRoomy ys → AllRoomy (xs ++ ys)
roomy_join [] ys h k = k
roomy_join (x ∷ xs) ys h k = (h.0, roomy_join xs ys h.1 k)

roomy_reverse : (xs : List Tree) → AllRoomy (reverse xs) → AllRoomy xs
roomy_reverse [] h = tt
roomy_reverse (x ∷ xs) h =
    let r = roomy_split (reverse xs) (x ∷ []) (subst AllRoomy (reverse_cons x xs) h) in
    (r.1.0, roomy_reverse xs r.0)

-- ---- bare trees

bare_span : Keeps → (t : Tree) → span_of (bare t) ≡ span_of t
bare_span keeps t = let p = (keeps t).pad in let s = (keeps t).size in omega arith

bare_spans : Keeps → (ts : List Tree) → all_spans (map bare ts) ≡ all_spans ts
bare_spans keeps [] = refl
bare_spans keeps (t ∷ ts) = let h = bare_span keeps t in let k = bare_spans keeps ts in omega arith

bare_roomy : Keeps → (t : Tree) → IsRoomy t → IsRoomy (bare t)
bare_roomy keeps t is =
    let c : all_spans (children_of (bare t)) ≡ all_spans (children_of t) = ap all_spans (keeps t).children ∙ bare_spans keeps (children_of t) in
    let s = bare_span keeps t in
    omega arith

-- ---- leaves

abbrev leaf_layer : ℕ → ℕ → ℕ → Tree-F Tree
leaf_layer symbol pad size = record {
  symbol = record { 0 = symbol };
  production = None;
  pad = pad;
  size = size;
  dynamic = pos 0;
  extent = 0;
  state = None;
  settled = true;
  extra = false;
  elements = [];
  children = [];
}

-- a tree with room for its children, of so many bytes
pub record Takes (t : Tree) (bytes : ℕ) : Type 0 where
  pub roomy : IsRoomy t
  pub span : span_of t ≡ bytes

leaf_takes : (symbol pad size : ℕ) → Takes (leaf_of symbol pad size 0 None) (pad + size)
leaf_takes symbol pad size =
    let out = out-roll-Tree (leaf_layer symbol pad size) in
    let c : all_spans (children_of (leaf_of symbol pad size 0 None)) ≡ 0 = ap (λ (o : Tree-F Tree). all_spans o.children) out in
    let p : pad_of (leaf_of symbol pad size 0 None) ≡ pad = ap (λ (o : Tree-F Tree). o.pad) out in
    let s : size_of (leaf_of symbol pad size 0 None) ≡ size = ap (λ (o : Tree-F Tree). o.size) out in
    record { roomy = omega arith; span = omega arith }

bare_takes : Keeps → (t : Tree) (n : ℕ) → Takes t n → Takes (bare t) n
bare_takes keeps t n is = record { roomy = bare_roomy keeps t is.roomy; span = bare_span keeps t ∙ is.span }

extra_takes : (t : Tree) (n : ℕ) → Takes t n → Takes (as_extra t) n
extra_takes t n is =
    let out = out-roll-Tree (record (out-Tree t) { extra = true }) in
    let c : all_spans (children_of (as_extra t)) ≡ all_spans (children_of t) = ap (λ (o : Tree-F Tree). all_spans o.children) out in
    let p : pad_of (as_extra t) ≡ pad_of t = ap (λ (o : Tree-F Tree). o.pad) out in
    let s : size_of (as_extra t) ≡ size_of t = ap (λ (o : Tree-F Tree). o.size) out in
    let r = is.roomy in
    let e = is.span in
    record { roomy = omega arith; span = omega arith }

-- ---- nodes over children

first_within : (ks : List Tree) → first_pad ks ≤ all_spans ks
first_within [] = omega arith
first_within (k ∷ ks) = omega arith

abbrev over_layer : ℕ → Option ℕ → ℤ → ℕ → Option ℕ → List Element → List Tree → Tree-F Tree
over_layer symbol production dynamic extent state es ks = record {
  symbol = record { 0 = symbol };
  production = production;
  pad = first_pad ks;
  size = all_spans ks - first_pad ks;
  dynamic = dynamic;
  extent = extent;
  state = state;
  settled = true;
  extra = false;
  elements = es;
  children = ks;
}

over_takes : (symbol : ℕ) (production : Option ℕ) (dynamic : ℤ) (extent : ℕ) (state : Option ℕ) (es : List Element) (ks : List Tree)
    → Takes (node_over symbol production dynamic extent state es ks) (all_spans ks)
over_takes symbol production dynamic extent state es ks =
    let t = node_over symbol production dynamic extent state es ks in
    let out = out-roll-Tree (over_layer symbol production dynamic extent state es ks) in
    let c : all_spans (children_of t) ≡ all_spans ks = ap (λ (o : Tree-F Tree). all_spans o.children) out in
    let p : pad_of t ≡ first_pad ks = ap (λ (o : Tree-F Tree). o.pad) out in
    let s : size_of t ≡ all_spans ks - first_pad ks = ap (λ (o : Tree-F Tree). o.size) out in
    let f = first_within ks in
    record { roomy = omega arith; span = omega arith }

-- a tree with room for its children, of no more than so many bytes
pub record Fits (t : Tree) (bytes : ℕ) : Type 0 where
  pub roomy : IsRoomy t
  pub short : span_of t ≤ bytes

fits_by : (t : Tree) (n m : ℕ) → Takes t n → n ≤ m → Fits t m
fits_by t n m is le = let e = is.span in record { roomy = is.roomy; short = omega arith }

bare_fits : Keeps → (t : Tree) (n : ℕ) → Fits t n → Fits (bare t) n
bare_fits keeps t n is =
    let e = bare_span keeps t in
    let h = is.short in
    record { roomy = bare_roomy keeps t is.roomy; short = omega arith }

made_fits : (form : Form) (symbol number : ℕ) (value : ℤ) (ks : List Tree) → AllRoomy ks → Fits (made_by form symbol number value 0 None ks) (all_spans ks)
made_fits of_rule symbol number value ks h =
    fits_by _ (all_spans ks) (all_spans ks) (over_takes symbol (Some number) (value +ℤ all_totals ks) 0 None [] ks) (omega arith)
made_fits (of_first a) symbol number value ks h =
    fits_by _ (all_spans ks) (all_spans ks) (over_takes symbol None (value +ℤ all_totals ks) 0 None (element a (length ks) value 0 ∷ []) ks) (omega arith)
made_fits (of_next a) symbol number value [] h =
    fits_by _ 0 0 (over_takes symbol None value 0 None [] []) (omega arith)
made_fits (of_next a) symbol number value (before ∷ more) h =
    let all = spans_append (children_of before) more in
    let room : all_spans (children_of before) ≤ span_of before = h.0 in
    fits_by _ (all_spans (children_of before ++ more)) (all_spans (before ∷ more))
    (over_takes symbol None (value +ℤ (total_of before +ℤ all_totals more)) 0 None (elements_of before ++ element a (length more) value (0 - span_of before) ∷ []) (children_of before ++ more))
    (omega arith)

-- ---- runs

-- the trees on the stack take no more bytes than were read, and what was read lies in the text
pub record Reads (text : Bytes) (c : Configuration) : Type 0 where
  pub roomy : AllRoomy c.stack
  pub read : all_spans c.stack ≤ c.place
  pub inside : c.place ≤ length text

starts : (text : Bytes) → Reads text starting
starts text = record { roomy = tt; read = omega arith; inside = omega arith }

push_lies : (text : Bytes) (c : Configuration) (t : Tree) (n : ℕ) → Reads text c → Takes t n → n ≤ length (drop c.place text) → Reads text (pushed c t)
push_lies text c t n is takes short =
    let rest : length (drop c.place text) ≡ length text - c.place = length-drop c.place text in
    let read = is.read in
    let inside = is.inside in
    let span = takes.span in
    record { roomy = (takes.roomy, is.roomy); read = omega arith; inside = omega arith }

next_within : LexesWithin → (g : FlatGrammar) (text : Bytes) (c : Configuration) (s : Symbol) (pad size : ℕ) → NextIs g text c (token s pad size) → pad + size ≤ length (drop c.place text)
next_within lexes g text c s pad size next = lexes g next.0 (drop c.place text) s pad size next.2

reduce_lies : Keeps → (g : FlatGrammar) (text : Bytes) (c : Configuration) (number : ℕ) (node : Tree) (after : List Tree) → Reads text c → IsReduction g number c.stack node after
    → Reads text (record { stack = after; place = c.place })
reduce_lies keeps g text c number node after is red =
    let ks = red.children in
    let parts = roomy_split red.lifted (reverse ks ++ red.below) (subst AllRoomy red.stack_is is.roomy) in
    let lower = roomy_split (reverse ks) red.below parts.1 in
    let made : Fits (bare (reduced g number 0 None ks)) (all_spans ks) =
    bare_fits keeps (reduced g number 0 None ks) (all_spans ks)
    (made_fits (form_of g (left_of g number) number) (left_of g number) number (value_of g number) ks (roomy_reverse ks lower.0)) in
    let fits : Fits node (all_spans ks) = subst (λ (t : Tree). Fits t (all_spans ks)) (sym red.node_is) made in
    let whole : all_spans c.stack ≡ all_spans (red.lifted ++ (reverse ks ++ red.below)) = ap all_spans red.stack_is in
    let a = spans_append red.lifted (reverse ks ++ red.below) in
    let b = spans_append (reverse ks) red.below in
    let r = spans_reverse ks in
    let left : all_spans after ≡ all_spans (red.lifted ++ node ∷ red.below) = ap all_spans red.after_is in
    let d = spans_append red.lifted (node ∷ red.below) in
    let short = fits.short in
    let read = is.read in
    record {
      roomy = subst AllRoomy (sym red.after_is) (roomy_join red.lifted (node ∷ red.below) parts.0 (fits.roomy, lower.1));
      read = omega arith;
      inside = is.inside;
    }

step_lies : Keeps → LexesWithin → (g : FlatGrammar) (text : Bytes) (c d : Configuration) → Reads text c → StepsOn g text c d → Reads text d
step_lies keeps lexes g text c d is (shift_token symbol pad size next act) =
    push_lies text c (token_tree symbol pad size) (pad + size) is
    (bare_takes keeps (leaf_of symbol.0 pad size 0 None) (pad + size) (leaf_takes symbol.0 pad size))
    (next_within lexes g text c symbol pad size next)
step_lies keeps lexes g text c d is (pass_extra symbol pad size next extra none_stays) =
    push_lies text c (as_extra (token_tree symbol pad size)) (pad + size) is
    (extra_takes (token_tree symbol pad size) (pad + size)
    (bare_takes keeps (leaf_of symbol.0 pad size 0 None) (pad + size) (leaf_takes symbol.0 pad size)))
    (next_within lexes g text c symbol pad size next)
step_lies keeps lexes g text c d is (reduce_trees number node after move red shallow) =
    reduce_lies keeps g text c number node after is red

run_lies : Keeps → LexesWithin → (g : FlatGrammar) (text : Bytes) (c d : Configuration) → Reads text c → Run g text c d → Reads text d
run_lies keeps lexes g text c d is (run_here e) = is
run_lies keeps lexes g text c d is (run_on e f h step run) =
    run_lies keeps lexes g text f h (step_lies keeps lexes g text e f is step) run

accepted_lies : Keeps → (g : FlatGrammar) (text : Bytes) (c : Configuration) (t : Tree) → Reads text c → AcceptsTree g text c t → span_of t ≤ length text
accepted_lies keeps g text c t is acc =
    let root = acc.root in
    let ks = (acc.before ++ children_of root) ++ acc.after in
    let over : Takes (accepted root acc.before acc.after 0) (all_spans ks) = over_takes (symbol_of root) (production_of root) (total_of root) 0 None [] ks in
    let e : span_of t ≡ span_of (bare (accepted root acc.before acc.after 0)) = ap span_of acc.tree_is in
    let b = bare_span keeps (accepted root acc.before acc.after 0) in
    let s = over.span in
    let all = spans_append (acc.before ++ children_of root) acc.after in
    let front = spans_append acc.before (children_of root) in
    let whole : all_spans c.stack ≡ all_spans (reverse acc.after ++ root ∷ reverse acc.before) = ap all_spans acc.stack_is in
    let top = spans_append (reverse acc.after) (root ∷ reverse acc.before) in
    let x = spans_reverse acc.after in
    let y = spans_reverse acc.before in
    let parts = roomy_split (reverse acc.after) (root ∷ reverse acc.before) (subst AllRoomy acc.stack_is is.roomy) in
    let room : all_spans (children_of root) ≤ span_of root = parts.1.0 in
    let read = is.read in
    let inside = is.inside in
    omega arith

fresh_tree_lies : Keeps → LexesWithin → (g : FlatGrammar) (text : Bytes) (t : Tree) → Fresh g text (tree_outcome t) → span_of t ≤ length text
fresh_tree_lies keeps lexes g text t fresh =
    let some : SomeAccepts g text (bare t) = fresh.accepted in
    let lies = run_lies keeps lexes g text starting some.0 (starts text) some.1 in
    let short = accepted_lies keeps g text some.0 (bare t) lies some.2 in
    let e = bare_span keeps t in
    omega arith

pub fresh_lies : Keeps → LexesWithin → (g : FlatGrammar) (text : Bytes) (o : FreshOutcome) → Fresh g text o → TreeLiesIn text o
fresh_lies keeps lexes g text (tree_outcome t) fresh = fresh_tree_lies keeps lexes g text t fresh
fresh_lies keeps lexes g text (stuck_outcome place) fresh = tt
fresh_lies keeps lexes g text deep_outcome fresh = tt
