-- After a reduction the same token is seen again.
use Rattle.std.proofs.Common.{◌≡◌, ◌∙◌, sym, ap, refl, subst, ℕ, zero, suc, ◌-◌, ◌<◌, ◌⊎◌, inl, inr, ⊎_elim, Bool, true, false, List, [], ◌∷◌, ◌++◌, append-nil, length, reverse, get_or, Option, Some, None, unwrap_or, option_map, arith}
use lib.IntN.{ℤ, ◌+ℤ◌}
use Rattle.std.proofs.lemmas.List.{reverse-append, length-map, length-reverse}
use Rattle.std.specs.List.{Contains}
use Rattle.ts_core.specs.declared.flat.FlatGrammar.{FlatGrammar}
use Rattle.ts_core.specs.declared.flat.Production.{Production}
use Rattle.ts_core.specs.declared.symbol.Symbol.{Symbol}
use Rattle.spec_grammar.specs.Symbols.{production_at}
use Rattle.spec_tables.specs.Actions.{Reduces}
use Rattle.spec_tables.specs.Items.{Item}
use Rattle.spec_trees.specs.declared.tree.Tree.{Tree}
use Rattle.spec_trees.specs.declared.tree.Element.{Element}
use Rattle.spec_trees.specs.declared.tree.Tree.TheOpen.{Tree-F}
use Rattle.spec_trees.specs.declared.tree.Tree.TheViews.{out-roll-Tree}
use Rattle.spec_trees.specs.Trees.{symbol_of, is_extra_node, first_pad, span_of, all_spans, total_of, all_totals, elements_of, children_of, bare}
use Rattle.spec_trees.specs.Made.{filling, step_symbols, node_over, element, Form, of_rule, of_first, of_next, form_of, made_by, left_of, value_of, reduced}
use Rattle.spec_runs.specs.Configurations.{stack_symbols, AreExtras, AreValidTokens, HasMove, IsReduction}
use Rattle.spec_runs.specs.Moves.{EndsWithProduction}
use Rattle.spec_reuse.proofs.TokenLemmas.{name_of}

-- ---- members of a list of symbols

same_symbol : (a b : Symbol) → (a ≡ b) ⊎ (a ≡ b → ⊥)
same_symbol a b = by (nat_same a.0 b.0)
  where
    nat_same : (m n : ℕ) → (m ≡ n) ⊎ (m ≡ n → ⊥)
    nat_same zero zero = inl refl
    nat_same zero (suc n) = inr (λ e. omega (arith, e))
    nat_same (suc m) zero = inr (λ e. omega (arith, e))
    nat_same (suc m) (suc n) = ⊎_elim (λ e. inl (ap suc e)) (λ other. inr (λ e. other (omega (arith, e)))) (nat_same m n)

    by : (a.0 ≡ b.0) ⊎ (a.0 ≡ b.0 → ⊥) → (a ≡ b) ⊎ (a ≡ b → ⊥)
    by (inl e) = inl (ap {B = Symbol} (λ (n : ℕ). record { 0 = n }) e)
    by (inr other) = inr (λ e. other (ap (λ (s : Symbol). s.0) e))

is_in : (ss : List Symbol) (s : Symbol) → Contains ss s ⊎ (Contains ss s → ⊥)
is_in [] s = inr (λ w. let h = w.1 in omega (arith, h))
is_in (x ∷ xs) s = by (same_symbol x s) (is_in xs s)
  where
    later : (Contains xs s → ⊥) → (x ≡ s → ⊥) → (k : ℕ) → k < length (x ∷ xs) → get_or (x ∷ xs) k s ≡ s → ⊥
    later none other zero low is = other is
    later none other (suc k) low is = none (k, (let h : suc k < suc (length xs) = low in omega (arith, h)), is)

    by : (x ≡ s) ⊎ (x ≡ s → ⊥) → Contains xs s ⊎ (Contains xs s → ⊥) → Contains (x ∷ xs) s ⊎ (Contains (x ∷ xs) s → ⊥)
    by (inl e) more = inl (0, omega arith, e)
    by (inr other) (inl w) = inl (suc w.0, (let h = w.1 in omega (arith, h)), w.2)
    by (inr other) (inr none) = inr (λ w. later none other w.0 w.1 w.2)

-- ---- symbols of a stack

filling_append : (xs ys : List Tree) → filling (xs ++ ys) ≡ filling xs ++ filling ys
filling_append [] ys = refl
filling_append (x ∷ xs) ys = by (is_extra_node x) refl (filling_append xs ys)
  where
    by : (b : Bool) → is_extra_node x ≡ b → filling (xs ++ ys) ≡ filling xs ++ filling ys → filling (x ∷ xs ++ ys) ≡ filling (x ∷ xs) ++ filling ys
    by true e h = rw e h
    by false e h = rw e (ap (λ (l : List ℕ). symbol_of x ∷ l) h)

filling_turned : (xs : List Tree) → filling (reverse xs) ≡ reverse (filling xs)
filling_turned [] = refl
filling_turned (x ∷ xs) = by (is_extra_node x) refl (filling_turned xs)
  where
    by : (b : Bool) → is_extra_node x ≡ b → filling (reverse xs) ≡ reverse (filling xs) → filling (reverse (x ∷ xs)) ≡ reverse (filling (x ∷ xs))
    by true e h = ap filling (reverse-append (x ∷ []) xs) ∙ filling_append (reverse xs) (x ∷ []) ∙ ap (λ (l : List ℕ). l ++ filling (x ∷ [])) h ∙ rw e (append-nil (reverse (filling xs)))
    by false e h = ap filling (reverse-append (x ∷ []) xs) ∙ filling_append (reverse xs) (x ∷ []) ∙ ap (λ (l : List ℕ). l ++ filling (x ∷ [])) h ∙ rw e (sym (reverse-append (symbol_of x ∷ []) (filling xs)))

filling_extras : (xs ts : List Tree) → AreExtras xs → filling (xs ++ ts) ≡ filling ts
filling_extras [] ts a = refl
filling_extras (x ∷ xs) ts a = rw a.0 (filling_extras xs ts a.1)

-- two lists with what follows them are one, and the first two are equally long
cut_once : (xs ys a b : List ℕ) → length xs ≡ length ys → xs ++ a ≡ ys ++ b → a ≡ b
cut_once [] [] a b e h = h
cut_once [] (y ∷ ys) a b e h = absurd (omega (arith, e))
cut_once (x ∷ xs) [] a b e h = absurd (omega (arith, e))
cut_once (x ∷ xs) (y ∷ ys) a b e h = cut_once xs ys a b (omega (arith, e)) (let t : xs ++ a ≡ ys ++ b = cc in t)

-- ---- the node of a reduction

abbrev Keeps : Tree → Type 0
Keeps t = (symbol_of (bare t) ≡ symbol_of t) × (is_extra_node (bare t) ≡ is_extra_node t)

abbrev over_layer : ℕ → Option ℕ → ℤ → List Element → List Tree → Tree-F Tree
over_layer symbol production dynamic es ks = record {
  symbol = record { 0 = symbol };
  production = production;
  pad = first_pad ks;
  size = all_spans ks - first_pad ks;
  dynamic = dynamic;
  extent = 0;
  state = None;
  settled = true;
  extra = false;
  elements = es;
  children = ks;
}

over_symbol : (symbol : ℕ) (production : Option ℕ) (dynamic : ℤ) (es : List Element) (ks : List Tree) → (symbol_of (node_over symbol production dynamic 0 None es ks) ≡ symbol) × (is_extra_node (node_over symbol production dynamic 0 None es ks) ≡ false)
over_symbol symbol production dynamic es ks =
    let o = out-roll-Tree (over_layer symbol production dynamic es ks) in
    (ap (λ (x : Tree-F Tree). x.symbol.0) o, ap (λ (x : Tree-F Tree). x.extra) o)

made_symbol : (f : Form) (symbol number : ℕ) (value : ℤ) (ts : List Tree) → (symbol_of (made_by f symbol number value 0 None ts) ≡ symbol) × (is_extra_node (made_by f symbol number value 0 None ts) ≡ false)
made_symbol of_rule symbol number value ts = over_symbol symbol (Some number) (value +ℤ all_totals ts) [] ts
made_symbol (of_first a) symbol number value ts = over_symbol symbol None (value +ℤ all_totals ts) (element a (length ts) value 0 ∷ []) ts
made_symbol (of_next a) symbol number value [] = over_symbol symbol None value [] []
made_symbol (of_next a) symbol number value (t ∷ ts) = over_symbol symbol None (value +ℤ (total_of t +ℤ all_totals ts)) (elements_of t ++ element a (length ts) value (0 - span_of t) ∷ []) (children_of t ++ ts)

-- what a reduction leaves: its rule's symbol above what was read before
pub record Left (g : FlatGrammar) (number : ℕ) (stack after : List Tree) : Type 0 where
  pub left : ℕ
  pub production : Production
  pub at : production_at g number ≡ Some (left, production)
  pub earlier : List ℕ
  pub before : filling stack ≡ reverse (step_symbols production) ++ earlier
  pub behind : filling after ≡ left ∷ earlier

module _ (keeps : (t : Tree) → Keeps t) (g : FlatGrammar) (number : ℕ) (stack : List Tree) (node : Tree) (after : List Tree) (r : IsReduction g number stack node after) (ends : EndsWithProduction g (stack_symbols stack) number) where
  stack_read : filling stack ≡ reverse (filling r.children) ++ filling r.below
  stack_read =
      ap filling r.stack_is ∙ filling_extras r.lifted (reverse r.children ++ r.below) r.extras
      ∙ filling_append (reverse r.children) r.below ∙ ap (λ (l : List ℕ). l ++ filling r.below) (filling_turned r.children)

  same_production : r.production ≡ ends.production
  same_production =
      let e : ◌≡◌ {A = Option (ℕ × Production)} (Some (r.left, r.production)) (Some (ends.left, ends.production)) = sym r.at ∙ ends.at in
      ap (λ (o : Option (ℕ × Production)). (unwrap_or o (r.left, r.production)).1) e

  left_is : left_of g number ≡ r.left
  left_is = ap (λ (o : Option (ℕ × Production)). unwrap_or (option_map (λ (p : ℕ × Production). p.0) o) 0) r.at

  node_symbol : (symbol_of node ≡ r.left) × (is_extra_node node ≡ false)
  node_symbol =
      let t : Tree = reduced g number 0 None r.children in
      let made = made_symbol (form_of g (left_of g number) number) (left_of g number) number (value_of g number) r.children in
      let k = keeps t in
      (ap symbol_of r.node_is ∙ k.0 ∙ made.0 ∙ left_is, ap is_extra_node r.node_is ∙ k.1 ∙ made.1)

  earlier_is : filling r.below ≡ ends.earlier
  earlier_is = cut_once (reverse (filling r.children)) (reverse (step_symbols ends.production)) (filling r.below) ends.earlier
      (omega (
        arith,
        length-reverse (filling r.children),
        length-reverse (step_symbols ends.production),
        r.count,
        length-map ends.production.steps name_of,
        ap (λ (p : Production). length p.steps) same_production,
      ))
      (sym stack_read ∙ ends.read_is)

  after_read : filling after ≡ r.left ∷ ends.earlier
  after_read =
      ap filling r.after_is ∙ filling_extras r.lifted (node ∷ r.below) r.extras
      ∙ rw node_symbol.1 (ap (λ (n : ℕ). n ∷ filling r.below) node_symbol.0 ∙ ap (λ (l : List ℕ). r.left ∷ l) earlier_is)

  pub left_so : Left g number stack after
  left_so = record {
    left = r.left;
    production = r.production;
    at = r.at;
    earlier = ends.earlier;
    before = ends.read_is ∙ ap (λ (p : Production). reverse (step_symbols p) ++ ends.earlier) (sym same_production);
    behind = after_read;
  }

-- ---- the tokens after it

module _ (g : FlatGrammar)
    (some : (read : List ℕ) (t : ℕ) (i : Item) → Reduces g read t i → (HasMove g read t → ⊥) → ⊥)
    (waits : (number left t : ℕ) (p : Production) (earlier : List ℕ) → production_at g number ≡ Some (left, p) → HasMove g (left ∷ earlier) t → Reduces g (reverse (step_symbols p) ++ earlier) t (record { line = Some number; dot = length p.steps; token = t }))
    (number : ℕ) (stack after : List Tree) (l : Left g number stack after) where
  pub fewer : (valid then : List Symbol) → AreValidTokens g (stack_symbols stack) valid → AreValidTokens g (stack_symbols after) then → (t : Symbol) → Contains then t → Contains valid t
  fewer valid then before now t w = ⊎_elim (λ h. h) (λ none. absurd (⊎_elim (λ move. lost none move) (λ extra. none ((before t).1 (inr extra))) ((now t).0 w))) (is_in valid t)
    where
      lost : (Contains valid t → ⊥) → HasMove g (stack_symbols after) t.0 → ⊥
      lost none move =
          let r = waits number l.left t.0 l.production l.earlier l.at (subst (λ (read : List ℕ). HasMove g read t.0) l.behind move) in
          some (reverse (step_symbols l.production) ++ l.earlier) t.0 _ r
          (λ m. none ((before t).1 (inl (subst (λ (read : List ℕ). HasMove g read t.0) (sym l.before) m))))
