-- What the trees of a run are: their codes are spelled well, and they lie over their children.
use Rattle.std.proofs.Common.{◌≡◌, ◌∙◌, sym, ap, refl, subst, ℕ, zero, suc, ◌+◌, ◌-◌, ◌<◌, ◌≤◌, ◌⊎◌, inl, inr, ⊎_elim, Bool, true, false, true≢false, nat_le, nat_lt, if◌then◌else◌, List, [], ◌∷◌, ◌++◌, append-nil, append_assoc, length, length-append, map, take, drop, Option, Some, None, unwrap_or, option_map, arith}
use Rattle.std.specs.List.{concat}
use Rattle.std.proofs.lemmas.Bool.{lt-leb}
use Rattle.std.proofs.lemmas.List.{length-map, take_all, take-append-le, drop-append-le}
use lib.IntN.{ℤ, pos, ◌+ℤ◌}
use Rattle.ts_core.specs.declared.flat.FlatGrammar.{FlatGrammar}
use Rattle.ts_core.specs.declared.flat.FlatRule.{FlatRule}
use Rattle.ts_core.specs.declared.flat.Production.{Production}
use Rattle.ts_core.specs.declared.flat.Step.{Step}
use Rattle.spec_grammar.specs.Symbols.{start_symbol, production_at, symbol_rule, is_owned, is_repetition, alternative_count, first_production}
use Rattle.spec_tables.specs.Items.{IsToken}
use Rattle.spec_trees.specs.declared.tree.Tree.{Tree}
use Rattle.spec_trees.specs.declared.tree.Element.{Element}
use Rattle.spec_trees.specs.declared.tree.Tree.TheOpen.{Tree-F}
use Rattle.spec_trees.specs.declared.tree.Tree.TheViews.{roll-Tree, out-roll-Tree}
use Rattle.spec_trees.specs.declared.tree.Tree.TheFolds.{fold_out-Tree, fold-roll-Tree}
use Rattle.spec_trees.specs.Trees.{symbol_of, production_of, pad_of, size_of, is_extra_node, elements_of, children_of, total_of, all_totals, span_of, all_spans, first_pad, tree_depth, depth_step, greatest_depth, bare_element, bare}
use Rattle.spec_trees.specs.Made.{leaf_of, as_extra, node_over, element, Form, of_rule, of_first, of_next, repetition_form, form_of, made_by, left_of, value_of, reduced, filling, step_symbols, BeginsFilled, children_count, AreCounted}
use Rattle.spec_trees.specs.Choice.{code_of, code_step, inner_code, element_codes, has_form}
use Rattle.spec_runs.specs.BareTrees.{KeepsAll}
use Rattle.spec_runs.specs.Moves.{IsUnused, RepeatsItself}
use Rattle.spec_packing.proofs.CodeLemmas.{Words, nothing, words_counted, words_append, one_code, one_element, inside_code}

-- ---- what is said of a tree

-- it begins where its first child begins, and has as many bytes as its children
pub record IsWhole (t : Tree) : Type 0 where
  pub pad : pad_of t ≡ first_pad (children_of t)
  pub span : span_of t ≡ all_spans (children_of t)

-- nothing is below it
pub record IsPlain (t : Tree) : Type 0 where
  pub production : production_of t ≡ None
  pub elements : elements_of t ≡ []
  pub children : children_of t ≡ []

pub record IsMade (g : FlatGrammar) (t : Tree) : Type 0 where
  pub spelled : Words g false 1 (code_of t)
  pub form : has_form (is_repetition g (symbol_of t)) (elements_of t) ≡ true
  pub counted : AreCounted (elements_of t) (children_of t)
  pub numberless : 0 < length (elements_of t) → production_of t ≡ None
  pub whole : start_symbol g ≤ symbol_of t → IsWhole t
  pub some : (0 < span_of t) ⊎ (IsUnused g (symbol_of t) × (children_of t ≡ []))
  pub extra : is_extra_node t ≡ true → IsPlain t

abbrev pub AllMade : FlatGrammar → List Tree → Type 0
AllMade g [] = Unit {0}
AllMade g (t ∷ ts) = IsMade g t × AllMade g ts

-- ---- a node over children

abbrev over_layer : ℕ → Option ℕ → ℤ → List Element → List Tree → Tree-F Tree
over_layer symbol production dynamic es ks = record {
  symbol = record { 0 = symbol };
  production = production;
  pad = first_pad ks;
  size = all_spans ks - first_pad ks;
  dynamic = dynamic;
  extent = 0;
  state = None;
  settled = true;
  extra = false;
  elements = es;
  children = ks;
}

-- what a node over children is
pub record Over (symbol : ℕ) (production : Option ℕ) (dynamic : ℤ) (es : List Element) (ks : List Tree) (t : Tree) : Type 0 where
  pub symbol_is : symbol_of t ≡ symbol
  pub production_is : production_of t ≡ production
  pub pad_is : pad_of t ≡ first_pad ks
  pub size_is : size_of t ≡ all_spans ks - first_pad ks
  pub total_is : total_of t ≡ dynamic
  pub extra_is : is_extra_node t ≡ false
  pub elements_is : elements_of t ≡ es
  pub children_is : children_of t ≡ ks
  pub depth_is : tree_depth t ≡ 1 + greatest_depth ks
  pub code_is : code_of t ≡ symbol ∷ unwrap_or production 0 ∷ first_pad ks ∷ (all_spans ks - first_pad ks) ∷ inner_code es (map code_of ks)

pub over_says : (symbol : ℕ) (production : Option ℕ) (dynamic : ℤ) (es : List Element) (ks : List Tree) → Over symbol production dynamic es ks (node_over symbol production dynamic 0 None es ks)
over_says symbol production dynamic es ks =
    let layer = over_layer symbol production dynamic es ks in
    let o = out-roll-Tree layer in
    record {
      symbol_is = ap (λ (x : Tree-F Tree). x.symbol.0) o;
      production_is = ap (λ (x : Tree-F Tree). x.production) o;
      pad_is = ap (λ (x : Tree-F Tree). x.pad) o;
      size_is = ap (λ (x : Tree-F Tree). x.size) o;
      total_is = ap (λ (x : Tree-F Tree). x.dynamic) o;
      extra_is = ap (λ (x : Tree-F Tree). x.extra) o;
      elements_is = ap (λ (x : Tree-F Tree). x.elements) o;
      children_is = ap (λ (x : Tree-F Tree). x.children) o;
      depth_is = fold-roll-Tree ℕ depth_step layer;
      code_is = fold-roll-Tree (List ℕ) code_step layer;
    }

first_pad_within : (ks : List Tree) → first_pad ks ≤ all_spans ks
first_pad_within [] = omega arith
first_pad_within (k ∷ ks) = omega arith

-- what elements and children have to be for the node over them to be made well
pub record OverFit (g : FlatGrammar) (symbol : ℕ) (production : Option ℕ) (es : List Element) (ks : List Tree) : Type 0 where
  pub count : ℕ
  pub inner : List ℕ
  pub inner_is : inner_code es (map code_of ks) ≡ count ∷ inner
  pub words : Words g (is_repetition g symbol) count inner
  pub form : has_form (is_repetition g symbol) es ≡ true
  pub counted : AreCounted es ks
  pub numberless : 0 < length es → production ≡ None
  pub some : (0 < all_spans ks) ⊎ (IsUnused g symbol × (ks ≡ []))

made_over : (g : FlatGrammar) (symbol : ℕ) (production : Option ℕ) (dynamic : ℤ) (es : List Element) (ks : List Tree) (t : Tree) → Over symbol production dynamic es ks t → OverFit g symbol production es ks → IsMade g t
made_over g symbol production dynamic es ks t o f =
    let span : span_of t ≡ all_spans ks = omega (arith, o.pad_is, o.size_is, first_pad_within ks) in
    record {
      spelled = subst (λ (l : List ℕ). Words g false 1 l)
          (sym (o.code_is ∙ ap (λ (l : List ℕ). symbol ∷ unwrap_or production 0 ∷ first_pad ks ∷ (all_spans ks - first_pad ks) ∷ l) f.inner_is))
          (one_code g symbol (unwrap_or production 0) (first_pad ks) (all_spans ks - first_pad ks) f.count f.inner f.words);
      form = subst (λ (n : ℕ). has_form (is_repetition g n) (elements_of t) ≡ true) (sym o.symbol_is)
          (subst (λ (l : List Element). has_form (is_repetition g symbol) l ≡ true) (sym o.elements_is) f.form);
      counted = subst (λ (l : List Element). AreCounted l (children_of t)) (sym o.elements_is)
          (subst (λ (l : List Tree). AreCounted es l) (sym o.children_is) f.counted);
      numberless = λ h. o.production_is ∙ f.numberless (subst (λ (l : List Element). 0 < length l) o.elements_is h);
      whole = λ h. record {
        pad = o.pad_is ∙ ap first_pad (sym o.children_is);
        span = span ∙ ap all_spans (sym o.children_is);
      };
      some = ⊎_elim (λ s. inl (omega (arith, s, span)))
          (λ u. inr (subst (λ (n : ℕ). IsUnused g n) (sym o.symbol_is) u.0, o.children_is ∙ u.1)) f.some;
      extra = λ h. absurd (true≢false (sym h ∙ o.extra_is));
    }

-- ---- leaves

token_plain : (g : FlatGrammar) (token : ℕ) → token < start_symbol g → is_repetition g token ≡ false
token_plain g token h =
    let e : nat_le (start_symbol g) token ≡ false = lt-leb (start_symbol g) token h in
    let n : symbol_rule g token ≡ None = rw e refl in
    ap (λ (o : Option FlatRule). unwrap_or (option_map (is_owned token) o) false) n

form_of_none : (kind : Bool) → kind ≡ false → has_form kind [] ≡ true
form_of_none true k = absurd (true≢false k)
form_of_none false k = refl

abbrev leaf_layer : ℕ → ℕ → ℕ → Bool → Tree-F Tree
leaf_layer token pad size extra = record {
  symbol = record { 0 = token };
  production = None;
  pad = pad;
  size = size;
  dynamic = pos 0;
  extent = 0;
  state = None;
  settled = true;
  extra = extra;
  elements = [];
  children = [];
}

made_layer : (g : FlatGrammar) (token pad size : ℕ) (extra : Bool) → IsToken g token → 0 < size → IsMade g (roll-Tree (leaf_layer token pad size extra))
made_layer g token pad size extra low some =
    let layer = leaf_layer token pad size extra in
    let t : Tree = roll-Tree layer in
    let o = out-roll-Tree layer in
    let y : symbol_of t ≡ token = ap (λ (x : Tree-F Tree). x.symbol.0) o in
    let p : production_of t ≡ None = ap (λ (x : Tree-F Tree). x.production) o in
    let z : size_of t ≡ size = ap (λ (x : Tree-F Tree). x.size) o in
    let es : elements_of t ≡ [] = ap (λ (x : Tree-F Tree). x.elements) o in
    let ks : children_of t ≡ [] = ap (λ (x : Tree-F Tree). x.children) o in
    let code : code_of t ≡ token ∷ 0 ∷ pad ∷ size ∷ 0 ∷ [] = fold-roll-Tree (List ℕ) code_step layer in
    let plain : is_repetition g token ≡ false = token_plain g token (let h = low.1 in omega (arith, h)) in
    record {
      spelled = subst (λ (l : List ℕ). Words g false 1 l) (sym code) (one_code g token 0 pad size 0 [] (nothing (is_repetition g token)));
      form = subst (λ (l : List Element). has_form (is_repetition g (symbol_of t)) l ≡ true) (sym es)
          (form_of_none (is_repetition g (symbol_of t)) (ap (is_repetition g) y ∙ plain));
      counted = subst (λ (l : List Element). AreCounted l (children_of t)) (sym es) tt;
      numberless = λ h. p;
      whole = λ h. absurd (let k = low.1 in omega (arith, h, k, y));
      some = inl (omega (arith, z, some));
      extra = λ h. record { production = p; elements = es; children = ks };
    }

made_leaf : (g : FlatGrammar) (token pad size : ℕ) → IsToken g token → 0 < size → IsMade g (leaf_of token pad size 0 None)
made_leaf g token pad size low some = made_layer g token pad size false low some

made_extra : (g : FlatGrammar) (token pad size : ℕ) → IsToken g token → 0 < size → IsMade g (as_extra (leaf_of token pad size 0 None))
made_extra g token pad size low some =
    subst (λ (t : Tree). IsMade g t)
    (sym (ap {B = Tree} (λ (x : Tree-F Tree). roll-Tree (record x { extra = true })) (out-roll-Tree (leaf_layer token pad size false))))
    (made_layer g token pad size true low some)

-- ---- bare trees

module _ (keeps : (t : Tree) → KeepsAll t) where
  bare_pad : (ks : List Tree) → first_pad (map bare ks) ≡ first_pad ks
  bare_pad [] = refl
  bare_pad (k ∷ ks) = (keeps k).pad

  bare_spans : (ks : List Tree) → all_spans (map bare ks) ≡ all_spans ks
  bare_spans [] = refl
  bare_spans (k ∷ ks) = let p = (keeps k).pad in let s = (keeps k).size in omega (arith, p, s, bare_spans ks)

  bare_counts : (es : List Element) → children_count (map bare_element es) ≡ children_count es
  bare_counts [] = refl
  bare_counts (e ∷ es) = ap (λ (n : ℕ). e.children + n) (bare_counts es)

  bare_counted : (es : List Element) (ks : List Tree) → AreCounted es ks → AreCounted (map bare_element es) (map bare ks)
  bare_counted [] ks h = tt
  bare_counted (e ∷ es) ks h = bare_counts (e ∷ es) ∙ h ∙ sym (length-map ks bare)

  bare_form : (b : Bool) (es : List Element) → has_form b es ≡ true → has_form b (map bare_element es) ≡ true
  bare_form b [] h = h
  bare_form true (e ∷ es) h = refl
  bare_form false (e ∷ es) h = absurd (true≢false (sym h))

  pub made_bare : (g : FlatGrammar) (t : Tree) → IsMade g t → IsMade g (bare t)
  made_bare g t m =
      let k = keeps t in
      let span : span_of (bare t) ≡ span_of t = omega (arith, k.pad, k.size) in
      record {
        spelled = subst (λ (l : List ℕ). Words g false 1 l) (sym k.code) m.spelled;
        form = subst (λ (n : ℕ). has_form (is_repetition g n) (elements_of (bare t)) ≡ true) (sym k.symbol)
            (subst (λ (l : List Element). has_form (is_repetition g (symbol_of t)) l ≡ true) (sym k.elements) (bare_form (is_repetition g (symbol_of t)) (elements_of t) m.form));
        counted = subst (λ (l : List Element). AreCounted l (children_of (bare t))) (sym k.elements)
            (subst (λ (l : List Tree). AreCounted (map bare_element (elements_of t)) l) (sym k.children) (bare_counted (elements_of t) (children_of t) m.counted));
        numberless = λ h. k.production ∙ m.numberless (subst (λ (n : ℕ). 0 < n) (length-map (elements_of t) bare_element) (subst (λ (l : List Element). 0 < length l) k.elements h));
        whole = λ h.
            let w = m.whole (subst (λ (n : ℕ). start_symbol g ≤ n) k.symbol h) in
            record {
              pad = k.pad ∙ w.pad ∙ sym (bare_pad (children_of t)) ∙ ap first_pad (sym k.children);
              span = span ∙ w.span ∙ sym (bare_spans (children_of t)) ∙ ap all_spans (sym k.children);
            };
        some = ⊎_elim (λ s. inl (omega (arith, s, span)))
            (λ u. inr (subst (λ (n : ℕ). IsUnused g n) (sym k.symbol) u.0, k.children ∙ ap (map bare) u.1)) m.some;
        extra = λ h. let p = m.extra (sym k.extra ∙ h) in record {
          production = k.production ∙ p.production;
          elements = k.elements ∙ ap (map bare_element) p.elements;
          children = k.children ∙ ap (map bare) p.children;
        };
      }

  pub made_token : (g : FlatGrammar) (token pad size : ℕ) → IsToken g token → 0 < size → IsMade g (bare (leaf_of token pad size 0 None))
  made_token g token pad size low some = made_bare g (leaf_of token pad size 0 None) (made_leaf g token pad size low some)

  pub made_passed : (g : FlatGrammar) → ((t : Tree) → bare (as_extra t) ≡ as_extra (bare t)) → (token pad size : ℕ) → IsToken g token → 0 < size → IsMade g (as_extra (bare (leaf_of token pad size 0 None)))
  made_passed g extra token pad size low some =
      subst (λ (t : Tree). IsMade g t) (extra (leaf_of token pad size 0 None))
      (made_bare g (as_extra (leaf_of token pad size 0 None)) (made_extra g token pad size low some))

-- ---- the codes of children and elements

pub all_words : (g : FlatGrammar) (ts : List Tree) → AllMade g ts → Words g false (length ts) (concat (map code_of ts))
all_words g [] a = nothing false
all_words g (t ∷ ts) a =
    words_counted g false (1 + length ts) (length (t ∷ ts)) (code_of t ++ concat (map code_of ts)) (omega arith)
    (words_append g false 1 (length ts) (code_of t) (concat (map code_of ts)) a.0.spelled (all_words g ts a.1))

-- the code of one element, and of one more
pub last_code : (a n : ℕ) (value : ℤ) (extent : ℕ) (codes : List (List ℕ)) → length codes ≡ n → element_codes (element a n value extent ∷ []) codes ≡ a ∷ n ∷ concat codes
last_code a n value extent codes e =
    ap (λ (l : List (List ℕ)). a ∷ n ∷ (concat l ++ [])) (take_all n codes (omega (arith, e)))
    ∙ ap (λ (l : List ℕ). a ∷ n ∷ l) (append-nil (concat codes))

pub longer_codes : (es : List Element) (e : Element) (cs ds : List (List ℕ)) → children_count es ≡ length cs → element_codes (es ++ e ∷ []) (cs ++ ds) ≡ element_codes es cs ++ element_codes (e ∷ []) ds
longer_codes [] e [] ds h = refl
longer_codes [] e (c ∷ cs) ds h = absurd (omega (arith, h))
longer_codes (x ∷ es) e cs ds h =
    ap (λ (l : List (List ℕ)). x.alternative ∷ x.children ∷ (concat l ++ element_codes (es ++ e ∷ []) (drop x.children (cs ++ ds)))) (take-append-le x.children cs ds (omega (arith, h)))
    ∙ ap (λ (l : List (List ℕ)). x.alternative ∷ x.children ∷ (concat (take x.children cs) ++ element_codes (es ++ e ∷ []) l)) (drop-append-le x.children cs ds (omega (arith, h)))
    ∙ ap (λ (l : List ℕ). x.alternative ∷ x.children ∷ (concat (take x.children cs) ++ l)) (longer_codes es e (drop x.children cs) ds (left x.children cs (omega (arith, h))))
    ∙ ap (λ (l : List ℕ). x.alternative ∷ x.children ∷ l) (sym (append_assoc (concat (take x.children cs)) (element_codes es (drop x.children cs)) (element_codes (e ∷ []) ds)))
  where
    left : (n : ℕ) (l : List (List ℕ)) → n + children_count es ≡ length l → children_count es ≡ length (drop n l)
    left zero l k = omega (arith, k)
    left (suc n) [] k = absurd (omega (arith, k))
    left (suc n) (y ∷ l) k = left n l (omega (arith, k))

-- ---- the children of a production

-- the children are those of the production, and are made well
pub record CanMake (g : FlatGrammar) (number left : ℕ) (p : Production) (ks : List Tree) : Type 0 where
  pub at : production_at g number ≡ Some (left, p)
  pub filled : filling ks ≡ step_symbols p
  pub begins : BeginsFilled ks
  pub made : AllMade g ks

filling_fills : (k : Tree) (ks : List Tree) → is_extra_node k ≡ false → filling (k ∷ ks) ≡ symbol_of k ∷ filling ks
filling_fills k ks e = rw e refl

-- the first child has bytes
pub first_some : (g : FlatGrammar) (number left : ℕ) (p : Production) (k : Tree) (ks : List Tree) → CanMake g number left p (k ∷ ks) → 0 < span_of k
first_some g number left p k ks c =
    ⊎_elim (λ s. s) (λ u. absurd (u.0 number left p c.at [] (filling ks) (sym c.filled ∙ filling_fills k ks c.begins))) c.made.0.some

no_steps : (steps : List Step) → map (λ (step : Step). step.symbol.0) steps ≡ [] → steps ≡ []
no_steps [] e = refl
no_steps (s ∷ steps) e = absurd (let h : s.symbol.0 ∷ map (λ (step : Step). step.symbol.0) steps ≡ [] = e in cc)

-- ---- the three forms

plain_of : (rep : Bool) (count place : ℕ) → (if rep then repetition_form count place else of_rule) ≡ of_rule → rep ≡ false
plain_of false count place e = refl
plain_of true count place e = absurd (by (nat_lt place count) e)
  where
    by : (b : Bool) → (if b then of_first place else of_next (place - count)) ≡ of_rule → ⊥
    by true h = let k : of_first place ≡ of_rule = h in cc
    by false h = let k : of_next (place - count) ≡ of_rule = h in cc

rep_of : (rep : Bool) (count place : ℕ) (f : Form) → (if rep then repetition_form count place else of_rule) ≡ f → (f ≡ of_rule → ⊥) → rep ≡ true
rep_of true count place f e h = refl
rep_of false count place f e h = absurd (h (sym e))

some_form : (kind : Bool) (es : List Element) → kind ≡ true → has_form kind es ≡ true → 0 < length es
some_form true [] k h = absurd (true≢false (sym h))
some_form false [] k h = absurd (true≢false (sym k))
some_form kind (e ∷ es) k h = omega arith

form_of_some : (kind : Bool) (es : List Element) → kind ≡ true → 0 < length es → has_form kind es ≡ true
form_of_some kind [] k h = absurd (omega (arith, h))
form_of_some true (e ∷ es) k h = refl
form_of_some false (e ∷ es) k h = absurd (true≢false (sym k))

children_count_append : (xs ys : List Element) → children_count (xs ++ ys) ≡ children_count xs + children_count ys
children_count_append [] ys = omega arith
children_count_append (x ∷ xs) ys = omega (arith, children_count_append xs ys)

counted_by : (es : List Element) (ks : List Tree) → children_count es ≡ length ks → AreCounted es ks
counted_by [] ks h = tt
counted_by (e ∷ es) ks h = h

some_counted : (es : List Element) (ks : List Tree) → 0 < length es → AreCounted es ks → children_count es ≡ length ks
some_counted [] ks some h = let f : ⊥ = omega (arith, some) in elim f [ ]
some_counted (e ∷ es) ks some h = h

inner_of_some : (es : List Element) (codes : List (List ℕ)) → 0 < length es → inner_code es codes ≡ length es ∷ element_codes es codes
inner_of_some [] codes some = let f : ⊥ = omega (arith, some) in elim f [ ]
inner_of_some (e ∷ es) codes some = refl

rule_is_high : (g : FlatGrammar) (symbol : ℕ) → is_repetition g symbol ≡ true → start_symbol g ≤ symbol
rule_is_high g symbol rep = by (nat_le (start_symbol g) symbol) refl
  where
    by : (b : Bool) → nat_le (start_symbol g) symbol ≡ b → start_symbol g ≤ symbol
    by true e = grind arith
    by false e =
        let n : symbol_rule g symbol ≡ None = rw e refl in
        absurd (true≢false (sym rep ∙ ap (λ (o : Option FlatRule). unwrap_or (option_map (is_owned symbol) o) false) n))

-- what a repetition is, by its elements
pub record IsFlat (g : FlatGrammar) (symbol : ℕ) (t : Tree) : Type 0 where
  pub symbol_is : symbol_of t ≡ symbol
  pub some : 0 < length (elements_of t)
  pub counted : children_count (elements_of t) ≡ length (children_of t)
  pub whole : IsWhole t
  pub code_is : code_of t ≡ symbol ∷ 0 ∷ pad_of t ∷ size_of t ∷ length (elements_of t) ∷ element_codes (elements_of t) (map code_of (children_of t))
  pub words : Words g true (length (elements_of t)) (element_codes (elements_of t) (map code_of (children_of t)))

pub code_is : (t : Tree) → code_of t ≡ symbol_of t ∷ unwrap_or (production_of t) 0 ∷ pad_of t ∷ size_of t ∷ inner_code (elements_of t) (map code_of (children_of t))
code_is t = fold_out-Tree (List ℕ) code_step t

same_code : (s s' : ℕ) (p p' : Option ℕ) (d z : ℕ) (xs ys : List ℕ) → s ≡ s' → p ≡ p' → xs ≡ ys → s ∷ unwrap_or p 0 ∷ d ∷ z ∷ xs ≡ s' ∷ unwrap_or p' 0 ∷ d ∷ z ∷ ys
same_code s s' p p' d z xs ys a b c = cc

pub flat_is : (g : FlatGrammar) (symbol : ℕ) (t : Tree) → is_repetition g symbol ≡ true → symbol_of t ≡ symbol → IsMade g t → IsFlat g symbol t
flat_is g symbol t rep is m =
    let kind : is_repetition g (symbol_of t) ≡ true = ap (is_repetition g) is ∙ rep in
    let some = some_form (is_repetition g (symbol_of t)) (elements_of t) kind m.form in
    let codes : List (List ℕ) = map code_of (children_of t) in
    let code : code_of t ≡ symbol ∷ 0 ∷ pad_of t ∷ size_of t ∷ length (elements_of t) ∷ element_codes (elements_of t) codes =
    code_is t ∙ same_code (symbol_of t) symbol (production_of t) None (pad_of t) (size_of t) (inner_code (elements_of t) codes) (length (elements_of t) ∷ element_codes (elements_of t) codes) is (m.numberless some) (inner_of_some (elements_of t) codes some) in
    record {
      symbol_is = is;
      some = some;
      counted = some_counted (elements_of t) (children_of t) some m.counted;
      whole = m.whole (rule_is_high g (symbol_of t) kind);
      code_is = code;
      words = subst (λ (b : Bool). Words g b (length (elements_of t)) (element_codes (elements_of t) codes)) rep
          (inside_code g false 1 (code_of t) symbol 0 (pad_of t) (size_of t) (length (elements_of t)) (element_codes (elements_of t) codes) m.spelled refl refl code);
    }

pub all_spans_append : (xs ys : List Tree) → all_spans (xs ++ ys) ≡ all_spans xs + all_spans ys
all_spans_append [] ys = omega arith
all_spans_append (x ∷ xs) ys = omega (arith, all_spans_append xs ys)

pub map_append : (xs ys : List Tree) → map code_of (xs ++ ys) ≡ map code_of xs ++ map code_of ys
map_append [] ys = refl
map_append (x ∷ xs) ys = ap (λ (l : List (List ℕ)). code_of x ∷ l) (map_append xs ys)

-- the codes of a repetition with one more element
pub next_codes : (g : FlatGrammar) (symbol a : ℕ) (value : ℤ) (extent : ℕ) (before : Tree) (more : List Tree) → IsFlat g symbol before
    → inner_code (elements_of before ++ element a (length more) value extent ∷ []) (map code_of (children_of before ++ more))
    ≡ (1 + length (elements_of before)) ∷ (element_codes (elements_of before) (map code_of (children_of before)) ++ a ∷ length more ∷ concat (map code_of more))
next_codes g symbol a value extent before more f =
    let es = elements_of before in
    let cs : List (List ℕ) = map code_of (children_of before) in
    let ds : List (List ℕ) = map code_of more in
    let last : Element = element a (length more) value extent in
    let many : length (es ++ last ∷ []) ≡ 1 + length es = omega (arith, length-append es (last ∷ [])) in
    inner_of_some (es ++ last ∷ []) (map code_of (children_of before ++ more)) (omega (arith, many))
    ∙ ap (λ (n : ℕ). n ∷ element_codes (es ++ last ∷ []) (map code_of (children_of before ++ more))) many
    ∙ ap (λ (l : List ℕ). (1 + length es) ∷ l)
    (ap (λ (l : List (List ℕ)). element_codes (es ++ last ∷ []) l) (map_append (children_of before) more)
    ∙ longer_codes es last cs ds (f.counted ∙ sym (length-map (children_of before) code_of))
    ∙ ap (λ (l : List ℕ). element_codes es cs ++ l) (last_code a (length more) value extent ds (length-map more code_of)))

-- the codes of a repetition of one element
pub first_codes : (a : ℕ) (value : ℤ) (extent : ℕ) (ks : List Tree) → inner_code (element a (length ks) value extent ∷ []) (map code_of ks) ≡ 1 ∷ a ∷ length ks ∷ concat (map code_of ks)
first_codes a value extent ks =
    let es : List Element = element a (length ks) value extent ∷ [] in
    let single : length es ≡ 1 = omega arith in
    inner_of_some es (map code_of ks) (omega arith)
    ∙ ap (λ (n : ℕ). n ∷ element_codes es (map code_of ks)) single
    ∙ ap (λ (l : List ℕ). 1 ∷ l) (last_code a (length ks) value extent (map code_of ks) (length-map ks code_of))

-- ---- the node of a reduction

-- what a fit grammar's production is
pub record IsLawful (g : FlatGrammar) (number left : ℕ) (p : Production) : Type 0 where
  pub unused : p.steps ≡ [] → IsUnused g left
  pub filled : is_repetition g left ≡ true → p.steps ≡ [] → ⊥
  pub repeats : (a : ℕ) → form_of g left number ≡ of_next a → RepeatsItself left p

module _ (g : FlatGrammar) (number left : ℕ) (p : Production) (lawful : IsLawful g number left p) where
  pub children_some : (ks : List Tree) → CanMake g number left p ks → (0 < all_spans ks) ⊎ (IsUnused g left × (ks ≡ []))
  children_some [] c = inr (lawful.unused (no_steps p.steps (sym c.filled)), refl)
  children_some (k ∷ ks) c = inl (omega (arith, first_some g number left p k ks c))

  flat_some : (ks : List Tree) → is_repetition g left ≡ true → CanMake g number left p ks → 0 < all_spans ks
  flat_some [] rep c = absurd (lawful.filled rep (no_steps p.steps (sym c.filled)))
  flat_some (k ∷ ks) rep c = omega (arith, first_some g number left p k ks c)

  -- the first child of a production that lengthens a repetition
  pub before_flat : (a : ℕ) (before : Tree) (more : List Tree) → form_of g left number ≡ of_next a → is_repetition g left ≡ true → CanMake g number left p (before ∷ more) → IsFlat g left before
  before_flat a before more form rep c =
      let r = lawful.repeats a form in
      let all : symbol_of before ∷ filling more ≡ left ∷ r.next ∷ r.others = sym (filling_fills before more c.begins) ∙ c.filled ∙ r.steps_are in
      let first : symbol_of before ≡ left = cc in
      flat_is g left before rep first c.made.0

  pub rule_is_plain : form_of g left number ≡ of_rule → is_repetition g left ≡ false
  rule_is_plain e = plain_of (is_repetition g left) (alternative_count g left) (number - first_production g left) e

  pub first_is_flat : (a : ℕ) → form_of g left number ≡ of_first a → is_repetition g left ≡ true
  first_is_flat a e = rep_of (is_repetition g left) (alternative_count g left) (number - first_production g left) (of_first a) e (λ h. let k : of_first a ≡ of_rule = h in cc)

  pub next_is_flat : (a : ℕ) → form_of g left number ≡ of_next a → is_repetition g left ≡ true
  next_is_flat a e = rep_of (is_repetition g left) (alternative_count g left) (number - first_production g left) (of_next a) e (λ h. let k : of_next a ≡ of_rule = h in cc)

  pub no_children : (a : ℕ) → form_of g left number ≡ of_next a → CanMake g number left p [] → ⊥
  no_children a form c = let r = lawful.repeats a form in let h : [] ≡ left ∷ r.next ∷ r.others = c.filled ∙ r.steps_are in cc

  rule_fit : (ks : List Tree) → is_repetition g left ≡ false → CanMake g number left p ks → OverFit g left (Some number) [] ks
  rule_fit ks plain c = record {
    count = length ks;
    inner = concat (map code_of ks);
    inner_is = ap (λ (n : ℕ). n ∷ concat (map code_of ks)) (length-map ks code_of);
    words = subst (λ (b : Bool). Words g b (length ks) (concat (map code_of ks))) (sym plain) (all_words g ks c.made);
    form = form_of_none (is_repetition g left) plain;
    counted = tt;
    numberless = λ h. absurd (omega (arith, h));
    some = children_some ks c;
  }

  first_fit : (a : ℕ) (ks : List Tree) → is_repetition g left ≡ true → CanMake g number left p ks → OverFit g left None (element a (length ks) (value_of g number) 0 ∷ []) ks
  first_fit a ks rep c = record {
    count = 1;
    inner = a ∷ length ks ∷ concat (map code_of ks);
    inner_is = first_codes a (value_of g number) 0 ks;
    words = subst (λ (b : Bool). Words g b 1 (a ∷ length ks ∷ concat (map code_of ks))) (sym rep)
        (one_element g a (length ks) (concat (map code_of ks)) (all_words g ks c.made));
    form = form_of_some (is_repetition g left) (element a (length ks) (value_of g number) 0 ∷ []) rep (omega arith);
    counted = omega arith;
    numberless = λ h. refl;
    some = inl (flat_some ks rep c);
  }

  next_fit : (a : ℕ) (before : Tree) (more : List Tree) → form_of g left number ≡ of_next a → is_repetition g left ≡ true → CanMake g number left p (before ∷ more)
      → OverFit g left None (elements_of before ++ element a (length more) (value_of g number) (0 - span_of before) ∷ []) (children_of before ++ more)
  next_fit a before more form rep c =
      let f = before_flat a before more form rep c in
      let es = elements_of before in
      let ks = children_of before in
      let last : List Element = element a (length more) (value_of g number) (0 - span_of before) ∷ [] in
      let own : List ℕ = element_codes es (map code_of ks) in
      let added : List ℕ = a ∷ length more ∷ concat (map code_of more) in
      record {
        count = 1 + length es;
        inner = own ++ added;
        inner_is = next_codes g left a (value_of g number) (0 - span_of before) before more f;
        words = subst (λ (b : Bool). Words g b (1 + length es) (own ++ added)) (sym rep)
            (words_counted g true (length es + 1) (1 + length es) (own ++ added) (omega arith)
            (words_append g true (length es) 1 own added f.words (one_element g a (length more) (concat (map code_of more)) (all_words g more c.made.1))));
        form = form_of_some (is_repetition g left) (es ++ last) rep (omega (arith, length-append es last));
        counted = counted_by (es ++ last) (ks ++ more) (omega (arith, f.counted, children_count_append es last, length-append ks more));
        numberless = λ h. refl;
        some = inl (omega (arith, first_some g number left p before more c, f.whole.span, all_spans_append ks more));
      }

  pub made_by_form : (f : Form) (ks : List Tree) → form_of g left number ≡ f → CanMake g number left p ks → IsMade g (made_by f left number (value_of g number) 0 None ks)
  made_by_form of_rule ks e c =
      let total = value_of g number +ℤ all_totals ks in
      made_over g left (Some number) total [] ks (node_over left (Some number) total 0 None [] ks) (over_says left (Some number) total [] ks) (rule_fit ks (rule_is_plain e) c)
  made_by_form (of_first a) ks e c =
      let total = value_of g number +ℤ all_totals ks in
      let es : List Element = element a (length ks) (value_of g number) 0 ∷ [] in
      made_over g left None total es ks (node_over left None total 0 None es ks) (over_says left None total es ks) (first_fit a ks (first_is_flat a e) c)
  made_by_form (of_next a) [] e c = absurd (no_children a e c)
  made_by_form (of_next a) (before ∷ more) e c =
      let total = value_of g number +ℤ (total_of before +ℤ all_totals more) in
      let es : List Element = elements_of before ++ element a (length more) (value_of g number) (0 - span_of before) ∷ [] in
      let ks : List Tree = children_of before ++ more in
      made_over g left None total es ks (node_over left None total 0 None es ks) (over_says left None total es ks) (next_fit a before more e (next_is_flat a e) c)

  pub left_is : production_at g number ≡ Some (left, p) → left_of g number ≡ left
  left_is at = ap (λ (o : Option (ℕ × Production)). unwrap_or (option_map (λ (q : ℕ × Production). q.0) o) 0) at

  pub made_reduced : (ks : List Tree) → CanMake g number left p ks → IsMade g (reduced g number 0 None ks)
  made_reduced ks c =
      subst (λ (s : ℕ). IsMade g (made_by (form_of g s number) s number (value_of g number) 0 None ks)) (sym (left_is c.at))
      (made_by_form (form_of g left number) ks refl c)
