-- What bare trees and the trees of links are: such as moves make.
use Rattle.std.proofs.Common.{◌≡◌, ◌∙◌, sym, ap, subst, ℕ, ◌+◌, arith, Bool, true, false, List, [], ◌∷◌, IsTrue, is_some, Option}
use Rattle.std.specs.List.{Contains}
use Rattle.ts_core.specs.declared.flat.FlatGrammar.{FlatGrammar}
use Rattle.spec_grammar.specs.Symbols.{is_repetition}
use Rattle.spec_trees.specs.declared.tree.Tree.{Tree}
use Rattle.spec_trees.specs.declared.tree.Tree.TheFolds.{fold_out-Tree}
use Rattle.spec_trees.specs.Trees.{is_extra_node, children_of, tree_depth, depth_step, greatest_depth, bare}
use Rattle.spec_trees.specs.Choice.{code_of}
use Rattle.spec_runs.specs.BareTrees.{KeepsAll}
use Rattle.spec_packing.proofs.CodeLemmas.{Words, nothing, a_node, an_element}
use Rattle.spec_packing.proofs.MadeLemmas.{IsMade, made_bare}
use Rattle.spec_graph.specs.declared.graph.Head.{Head}
use Rattle.spec_graph.specs.declared.graph.Link.{Link}
use Rattle.spec_graph.specs.Laying.{Parsing}
use Rattle.spec_graph.specs.Grounded.{Spells, nothing_more, a_tree, one_part, IsMadeTree}
use Rattle.spec_graph.specs.Links.{IsGraph}
use Rattle.spec_graph.proofs.SightLemmas.{Facts}
use Rattle.spec_graph.proofs.LayLemmas.{IsRuled, IsBase, lays_made, lays_ruled}
use Rattle.spec_crossing.proofs.SpellLemmas.{words_spelled}

spelled_words : (g : FlatGrammar) (b : Bool) (n : ℕ) (xs : List ℕ) → Spells g b n xs → Words g b n xs
spelled_words g _ _ _ (nothing_more b) = nothing b
spelled_words g _ _ _ (a_tree n s p d z k xs ys w v) = a_node n s p d z k xs ys (spelled_words g (is_repetition g s) k xs w) (spelled_words g false n ys v)
spelled_words g _ _ _ (one_part n a k xs ys w v) = an_element n a k xs ys (spelled_words g false k xs w) (spelled_words g true n ys v)

tree_made : (g : FlatGrammar) (t : Tree) → IsMadeTree g t → IsMade g t
tree_made g t m = record {
  spelled = spelled_words g false 1 (code_of t) m.spelled;
  form = m.form;
  counted = m.counted;
  numberless = m.numberless;
  whole = λ h. let w = m.whole h in record { pad = w.pad; span = w.span };
  some = m.some;
  extra = λ h. let p = m.extra h in record { production = p.production; elements = p.elements; children = p.children };
}

made_tree : (g : FlatGrammar) (t : Tree) → IsMade g t → IsRuled g t → IsMadeTree g t
made_tree g t m ruled = record {
  spelled = words_spelled g false 1 (code_of t) m.spelled;
  form = m.form;
  counted = m.counted;
  numberless = m.numberless;
  whole = λ h. let w = m.whole h in record { pad = w.pad; span = w.span };
  rule = ruled;
  some = m.some;
  extra = λ h. let p = m.extra h in record { production = p.production; elements = p.elements; children = p.children };
}

pub bare_made : (keeps : (t : Tree) → KeepsAll t) (g : FlatGrammar) (t : Tree) → IsMadeTree g t → IsMadeTree g (bare t)
bare_made keeps g t m =
    let k = keeps t in
    made_tree g (bare t) (made_bare keeps g t (tree_made g t m))
    (λ fills start. subst (λ (o : Option ℕ). IsTrue (is_some o)) (sym k.production) (m.rule (sym k.extra ∙ fills) (sym k.symbol ∙ start)))

pub link_made : (P : Parsing) (facts : Facts P) → IsBase P → (heads : List Head) (links : List Link) → IsGraph P heads links → (l : Link) → Contains links l → IsMadeTree P.grammar l.tree
link_made P facts base heads links graph l there =
    let k = graph.linked l there in
    made_tree P.grammar l.tree
    (lays_made P facts base k.under k.from (l.tree ∷ []) k.to k.over k.lays).0
    (lays_ruled P facts base k.under k.from (l.tree ∷ []) k.to k.over k.lays).0

-- an extra has nothing below it
plain_flat : (g : FlatGrammar) (t : Tree) → IsMade g t → is_extra_node t ≡ true → tree_depth t ≡ 1
plain_flat g t m extra =
    let d : tree_depth t ≡ 1 + greatest_depth (children_of t) = fold_out-Tree ℕ depth_step t in
    let none : greatest_depth (children_of t) ≡ 0 = ap greatest_depth (m.extra extra).children in
    omega (arith, d, none)

pub extra_flat : (P : Parsing) (facts : Facts P) → IsBase P → (heads : List Head) (links : List Link) → IsGraph P heads links → (l : Link) → Contains links l → is_extra_node l.tree ≡ true → l.depth ≡ tree_depth l.tree
extra_flat P facts base heads links graph l there extra =
    let k = graph.linked l there in
    k.flat extra ∙ sym (plain_flat P.grammar l.tree (lays_made P facts base k.under k.from (l.tree ∷ []) k.to k.over k.lays).0 extra)
