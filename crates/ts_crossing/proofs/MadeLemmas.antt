-- Trees that a parser made, on plain stacks and on links: such as moves make.
use Rattle.std.proofs.Common.{◌≡◌, ◌∙◌, sym, ap, refl, subst, ℕ, zero, suc, ◌<◌, ◌≤◌, inl, true, List, [], ◌∷◌, length, map, slice_get, Some, All, arith}
use Rattle.std.proofs.lemmas.List.{length-map}
use Rattle.std.proofs.lemmas.List.Elements.{All-head, All-tail}
use Rattle.std.proofs.lemmas.Option.{slice_get_within}
use Rattle.ts_core.specs.declared.flat.FlatGrammar.{FlatGrammar}
use Rattle.spec_grammar.specs.Symbols.{start_symbol}
use Rattle.spec_trees.specs.declared.tree.Tree.{Tree}
use Rattle.spec_trees.specs.declared.tree.Element.{Element}
use Rattle.spec_trees.specs.Trees.{symbol_of, elements_of, children_of, is_settled, span_of, all_spans, first_pad, bare_element, bare}
use Rattle.spec_trees.specs.Inside.{IsNodeIn, itself, inside}
use Rattle.spec_trees.specs.Made.{AreCounted}
use Rattle.spec_runs.specs.BareTrees.{KeepsAll}
use Rattle.spec_graph.specs.Grounded.{LiesOver, IsMadeTree, AreMadeTrees}
use Rattle.ts_steps.specs.Good.{EachTree, IsGoodTree, AreGoodTrees}
use Rattle.ts_steps.specs.Heads.{IsOwnWithin, IsMadeNode}
use Rattle.ts_steps.proofs.NodeLemmas.{own_forms}
use Rattle.ts_graph.specs.Under.{HaveBytes}
use Rattle.ts_crossing.specs.Laws.{MadeLaws}
use Rattle.ts_crossing.proofs.BareLemmas.{span_bare, spans_bare}

-- ---- from the stack of a parser

each_settled : (ts : List Tree) (k : ℕ) (v : Tree) → All (λ child. is_settled child ≡ true) ts → slice_get ts k ≡ Some v → is_settled v ≡ true
each_settled [] k v all at = absurd (let f = slice_get_within [] k v at in omega arith)
each_settled (t ∷ ts) zero v all at = let h : Some t ≡ Some v = at in let same : t ≡ v = cc in subst (λ (x : Tree). is_settled x ≡ true) same (All-head (λ child. is_settled child ≡ true) t ts all)
each_settled (t ∷ ts) (suc k) v all at = each_settled ts k v (All-tail (λ child. is_settled child ≡ true) t ts all) at

-- all nodes in such a tree are settled
settled_in : (g : FlatGrammar) (t v : Tree) → IsOwnWithin g t → is_settled t ≡ true → IsNodeIn t v → is_settled v ≡ true
settled_in g t _ own settled itself = settled
settled_in g t _ own settled (inside w v k deep at) =
    let up = settled_in g t w own settled deep in
    each_settled (children_of w) k v (((own w deep up).good.node.settled up).inner) at

counted_in : (g : FlatGrammar) (t : Tree) → IsOwnWithin g t → is_settled t ≡ true → (v : Tree) → IsNodeIn t v → AreCounted (elements_of v) (children_of v)
counted_in g t own settled v deep = (own v deep (settled_in g t v own settled deep)).good.node.counted

tree_made : (laws : MadeLaws) (g : FlatGrammar) (t : Tree) → IsGoodTree g t → IsOwnWithin g t → IsMadeNode g t → 0 < span_of t → IsMadeTree g t
tree_made laws g t good own made some = record {
  spelled = laws.spelled g t good.form (counted_in g t own good.settled);
  form = (own_forms g t good.form).0;
  counted = good.node.counted;
  numberless = made.numberless;
  whole = λ h. record { pad = made.pad h; span = made.span h };
  rule = λ fills start. good.rule start;
  some = inl some;
  extra = λ h. let w = made.extra h in record { production = w.0.production; elements = w.0.elements; children = w.1 };
}

pub trees_made : (laws : MadeLaws) (g : FlatGrammar) (ts : List Tree) → AreGoodTrees g ts → EachTree (IsOwnWithin g) ts → EachTree (IsMadeNode g) ts → HaveBytes ts → AreMadeTrees g (map bare ts)
trees_made laws g [] good own made some = tt
trees_made laws g (t ∷ ts) good own made some =
    (laws.bare_made g t (tree_made laws g t good.0 own.0 made.0 some.0), trees_made laws g ts good.1 own.1 made.1 some.1)

-- ---- from the links of a graph

none_mapped : (es : List Element) → map bare_element es ≡ [] → es ≡ []
none_mapped [] e = refl
none_mapped (x ∷ es) e = absurd (let h : bare_element x ∷ map bare_element es ≡ [] = e in cc)

none_bare : (ts : List Tree) → map bare ts ≡ [] → ts ≡ []
none_bare [] e = refl
none_bare (t ∷ ts) e = absurd (let h : bare t ∷ map bare ts ≡ [] = e in cc)

module _ (keeps : (t : Tree) → KeepsAll t) where
  first_bare : (ts : List Tree) → first_pad (map bare ts) ≡ first_pad ts
  first_bare [] = refl
  first_bare (t ∷ ts) = (keeps t).pad

  -- the tree's own node is such as moves make, if the bare tree is
  pub node_made : (g : FlatGrammar) (t : Tree) → IsMadeTree g (bare t) → IsMadeNode g t
  node_made g t m =
      let k = keeps t in
      let whole : start_symbol g ≤ symbol_of t → LiesOver (bare t) = λ h. m.whole (subst (λ (n : ℕ). start_symbol g ≤ n) (sym k.symbol) h) in
      record {
        numberless = λ h.
            sym k.production
            ∙ m.numberless (subst (λ (l : List Element). 0 < length l) (sym k.elements) (subst (λ (n : ℕ). 0 < n) (sym (length-map (elements_of t) bare_element)) h));
        pad = λ h. sym k.pad ∙ (whole h).pad ∙ ap first_pad k.children ∙ first_bare (children_of t);
        span = λ h. sym (span_bare keeps t) ∙ (whole h).span ∙ ap all_spans k.children ∙ spans_bare keeps (children_of t);
        extra = λ h.
            let p = m.extra (k.extra ∙ h) in (
              record { production = sym k.production ∙ p.production; elements = none_mapped (elements_of t) (sym k.elements ∙ p.elements) },
              none_bare (children_of t) (sym k.children ∙ p.children),
            );
      }
